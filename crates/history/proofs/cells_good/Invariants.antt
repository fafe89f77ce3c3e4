-- The invariant: all cells are good exactly when those passed are and those from `i` on.
use Rattle.std.proofs.Common.{◌≡◌, ◌&&◌, ◌-◌}
use Rattle.std.proofs.Math.ListN.{drop}
use Rattle.batch.specs.Good.{first_then, in_range}
use Rattle.history.specs.Table.{cells_good, is_nought}
use Rattle.history.proofs.cells_good.Given as goal

abbrev pub invariant-loop-i : goal.invariant-loop-i
invariant-loop-i l = cells_good l.count l.cells ≡ l.good && first_then in_range is_nought (l.count - l.i) (drop l.i l.cells)
