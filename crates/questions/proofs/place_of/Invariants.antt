-- The cell stands at the node where it stands among the first `p`.
use Rattle.std.proofs.Common.{◌≡◌}
use Rattle.questions.specs.Asked.{place_in}
use Rattle.questions.proofs.place_of.Given as goal

abbrev pub invariant-loop-p : goal.invariant-loop-p
invariant-loop-p l =
    place_in l.ring.head l.ring.slots l.cell l.entry l.ring.head.node_count ≡ place_in l.ring.head l.ring.slots l.cell l.entry l.p
