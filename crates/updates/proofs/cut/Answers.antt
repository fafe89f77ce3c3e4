-- The copy and the last store make the row without the cell.
use Rattle.std.proofs.Common.{arith}
use Rattle.updates.proofs.RowChanges.{cut-made}
use Rattle.updates.proofs.cut.Goals as goal

pub returns : goal.returns
returns c =
    rw c.copy_within.ensures.after (cut-made c.args.cells.now c.args.at c.args.from (omega arith) c.requires.at_lt_node_room.1)
