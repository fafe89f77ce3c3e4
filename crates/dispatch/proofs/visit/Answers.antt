-- An entry, and then a move on the ring that it left.
use Rattle.dispatch.proofs.Going.{at-move, place-there, visited}
use Rattle.dispatch.proofs.visit.Goals as goal

pub move_at-requires : goal.move_at-requires
move_at-requires c = at-move c.args.log.now _ c.requires.can_go c.enter_at.ensures.0 c.requires.node_bound

pub keep-requires : goal.keep-requires
keep-requires c = place-there c.args.log.now _ c.requires.can_go c.enter_at.ensures.0 c.move_at.ensures

pub returns : goal.returns
returns c = visited c.args.log.now _ c.requires.can_go c.enter_at.ensures.0 c.move_at.ensures c.keep.ensures
