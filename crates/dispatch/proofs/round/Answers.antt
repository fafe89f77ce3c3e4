-- One node more was visited.
use Rattle.dispatch.proofs.Going.{round-goes-on}
use Rattle.dispatch.proofs.round.Goals as goal

pub loop-node-preserved : goal.loop-node-preserved
loop-node-preserved c = round-goes-on c.loop-node.invariant c.visit.ensures
