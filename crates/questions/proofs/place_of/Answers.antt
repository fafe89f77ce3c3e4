-- The search over the nodes, turn by turn.
use Rattle.std.proofs.Common.{◌≡◌, sym, ◌∙◌, arith}
use Rattle.questions.specs.Asked.{place_in}
use Rattle.questions.proofs.Standing.{place_turn}
use Rattle.questions.proofs.place_of.Goals as goal

pub returns-then-stands_in : goal.returns-then-stands_in
returns-then-stands_in c =
    sym (c.loop-p.invariant ∙ place_turn _ _ _ _ c.loop-p.p _ (omega arith) c.if-stands_in.ensures)

pub loop-p-preserved : goal.loop-p-preserved
loop-p-preserved c = c.loop-p.invariant ∙ place_turn _ _ _ _ c.loop-p.p _ (omega arith) c.if-stands_in.ensures

pub returns : goal.returns
unfolding place_in
returns c =
    let none : c.loop-p.p ≡ 0 = omega arith in
    sym (rw none at c.loop-p.invariant)
