-- The cells passed are turned, and those from the index on are as they were.
use Rattle.std.proofs.Common.{◌≡◌, ◌++◌, map, take, drop}
use Rattle.convert.specs.TablePass.{turned_cell}
use Rattle.convert.proofs.tables.turned_row.Given as goal

abbrev pub invariant-loop-cell : goal.invariant-loop-cell
invariant-loop-cell l =
    l.cell-items ≡ map turned_cell (take l.cell-index l.initial.cell-items) ++ drop l.cell-index l.initial.cell-items
