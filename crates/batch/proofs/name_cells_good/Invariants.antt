-- The wrong cells passed are counted, and those to come are the iterator's.
use Rattle.batch.proofs.Name.{Counted}
use Rattle.batch.proofs.name_cells_good.Given as goal

abbrev pub invariant-loop-cell : goal.invariant-loop-cell
invariant-loop-cell l = Counted l.length l.name l.wrong l.cell-iterator.b.start l.cell-iterator.a.rest.now
