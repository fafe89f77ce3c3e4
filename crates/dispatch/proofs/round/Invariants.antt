-- The first nodes were visited.
use Rattle.dispatch.proofs.Going.{InRound}
use Rattle.dispatch.proofs.round.Given as goal

abbrev pub invariant-loop-node : goal.invariant-loop-node
invariant-loop-node l = InRound l.initial.ring l.initial.log l.node l.ring l.log
