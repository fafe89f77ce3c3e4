-- The rows passed are turned, and those from the index on are as they were.
use Rattle.std.proofs.Common.{◌≡◌, ◌++◌, map, take, drop}
use Rattle.convert.specs.TablePass.{turned_row}
use Rattle.convert.proofs.tables.turn_table.Given as goal

abbrev pub invariant-loop-row : goal.invariant-loop-row
invariant-loop-row l = l.table ≡ map turned_row (take l.row-index l.fn.table) ++ drop l.row-index l.fn.table
