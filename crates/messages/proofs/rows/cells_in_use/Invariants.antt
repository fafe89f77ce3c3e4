-- The loop adds up 1 for each cell that is not zero (proofs/Loops).
use Rattle.network.specs.Layout.{row_length}
use Rattle.messages.proofs.Loops.{Summing}
use Rattle.messages.proofs.RowPass.{used_at}
use Rattle.messages.proofs.rows.cells_in_use.Given as goal

abbrev pub invariant-loop-cell : goal.invariant-loop-cell
invariant-loop-cell l = Summing (used_at l.cells) row_length 1 l.used l.cell-index
