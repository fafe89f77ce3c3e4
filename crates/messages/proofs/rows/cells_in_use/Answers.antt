use Rattle.std.proofs.Common.{arith}
use Rattle.messages.specs.Messages.{cells_in_use}
use Rattle.messages.proofs.Loops.{summing_start, summing-turn, summing-end}
use Rattle.messages.proofs.rows.cells_in_use.Goals as goal
use Rattle.messages.proofs.rows.cells_in_use.Goals.{then-cell-ne0, else-cell-ne0}

pub returns : goal.returns
unfolding cells_in_use
returns c = summing-end c.loop-cell.invariant (omega arith)

pub loop-cell-init : goal.loop-cell-init
loop-cell-init c = summing_start

pub loop-cell-preserved : goal.loop-cell-preserved
loop-cell-preserved c =
    summing-turn c.loop-cell.invariant (omega arith) (omega arith)
    (elim c.if-cell-ne0.branch [ then-cell-ne0 w ↦ omega arith | else-cell-ne0 w ↦ omega arith ])
