-- All rows hold temperatures in tenths alone exactly when those passed did, as `all` says, and those to come do.
use Rattle.std.proofs.Common.{◌≡◌, ◌&&◌}
use Rattle.std.proofs.Math.ListN.{drop}
use Rattle.batch.specs.Good.{every}
use Rattle.convert.specs.TurnedTable.{row_in_tenths}
use Rattle.convert.proofs.tables.table_in_tenths.Given as goal

abbrev pub invariant-loop-row : goal.invariant-loop-row
invariant-loop-row l = every row_in_tenths l.table ≡ l.all && every row_in_tenths (drop l.row-index l.table)
