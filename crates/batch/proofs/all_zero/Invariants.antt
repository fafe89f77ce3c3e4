-- All cells are zero exactly when those passed were and those to come are.
use Rattle.std.proofs.Common.{◌≡◌, ◌&&◌, drop}
use Rattle.batch.specs.Good.{every, is_zero}
use Rattle.batch.proofs.all_zero.Given as goal

abbrev pub invariant-loop-cell : goal.invariant-loop-cell
invariant-loop-cell l = every is_zero l.cells ≡ l.zero && every is_zero (drop l.cell-index l.cells)
