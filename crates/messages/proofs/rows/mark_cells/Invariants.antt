-- What the cells to come do from the table as it is is what all the cells do from the table at first.
use Rattle.messages.proofs.RowPass.{Passing}
use Rattle.messages.proofs.rows.mark_cells.Given as goal

abbrev pub invariant-loop-number : goal.invariant-loop-number
invariant-loop-number l = Passing l.head l.place l.cells l.fn.met l.number-index l.met
