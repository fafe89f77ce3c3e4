-- The invariant: what the rows passed gave and the rows from `i` on are what the whole table gives.
use Rattle.std.proofs.Common.{◌≡◌}
use Rattle.std.proofs.Math.ListN.{drop}
use Rattle.lent.specs.Slices.{fold_rows}
use Rattle.convert.specs.TablePass.{turned_at, turned_pass}
use Rattle.convert.proofs.tables.turned_pass.Given as goal

abbrev pub invariant-loop-i : goal.invariant-loop-i
invariant-loop-i l = fold_rows turned_at l.i l.turned (drop l.i l.table) ≡ turned_pass l.table
