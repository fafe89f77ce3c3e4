-- What is left of the rounds comes to the same end from every turn of the loop.
use Rattle.std.proofs.Common.{sym, ◌∙◌, arith}
use mathlib.Core.Logic.{inl, inr}
use Rattle.dispatch.proofs.Still.{channels-within, still-is}
use Rattle.dispatch.proofs.Course.{rounds-kept, course-goes-on, course-ends, ran-so}
use Rattle.dispatch.proofs.rounds.Goals as goal

pub is_still-requires : goal.is_still-requires
is_still-requires c = channels-within _ c.loop.invariant.can-go.ok

-- nothing is on the ring
pub returns-then-is_still : goal.returns-then-is_still
returns-then-is_still c =
    let so_far = c.loop.invariant in
    ran-so _ c.requires
    (course-ends so_far (inr (sym (still-is _ so_far.can-go.ok) ∙ sym c.is_still.ensures ∙ c.if-is_still.true)))

pub overflow_add-log : goal.overflow_add-log
overflow_add-log c = omega (arith, c.ranges.given.fits, c.loop.invariant.counted, rounds-kept c.round.ensures)

pub loop-preserved : goal.loop-preserved
loop-preserved c =
    let so_far = c.loop.invariant in
    course-goes-on so_far c.loop-test.true
    (sym (still-is _ so_far.can-go.ok) ∙ sym c.is_still.ensures ∙ c.if-is_still.false)
    c.round.ensures

-- all rounds are made
pub returns : goal.returns
returns c = ran-so _ c.requires (course-ends c.loop.invariant (inl (omega arith)))
