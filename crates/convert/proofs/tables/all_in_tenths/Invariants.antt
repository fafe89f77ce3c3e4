-- All cells are temperatures in tenths exactly when those passed were, as `all` says, and those to come are.
use Rattle.std.proofs.Common.{◌≡◌, ◌&&◌}
use Rattle.std.proofs.Math.ListN.{drop}
use Rattle.batch.specs.Good.{every}
use Rattle.batch.specs.Sending.{in_tenths}
use Rattle.convert.proofs.tables.all_in_tenths.Given as goal

abbrev pub invariant-loop-cell : goal.invariant-loop-cell
invariant-loop-cell l = every in_tenths l.cells ≡ l.all && every in_tenths (drop l.cell-index l.cells)
