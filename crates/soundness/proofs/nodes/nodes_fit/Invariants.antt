-- The loop counts the nodes that do not fit (proofs/InUse).
use Rattle.std.proofs.Common.{ℕ, Bool, List, get_or}
use Rattle.network.specs.Layout.{node_room}
use Rattle.soundness.specs.Fits.{NodeFits}
use Rattle.soundness.proofs.InUse.{CountingUsed}
use Rattle.soundness.proofs.nodes.nodes_fit.Given as goal

abbrev pub NodeAt : Bool → List ℕ → List ℕ → List ℕ → List ℕ → Bool → ℕ → Type 0
NodeAt started capacity used waiting marks in_use p =
    NodeFits in_use started (get_or capacity p 0) (get_or used p 0) (get_or waiting p 0) (get_or marks p 0)

abbrev pub invariant-loop-p : goal.invariant-loop-p
invariant-loop-p l =
    CountingUsed (NodeAt l.started l.head.capacity l.head.used l.head.waiting l.head.marks) l.head.node_count node_room l.places l.wrong l.p
