-- The invariant: what the rows passed gave and the rows from `i` on are what the whole table gives.
use Rattle.std.proofs.Common.{◌≡◌}
use Rattle.std.proofs.Math.ListN.{drop}
use Rattle.lent.specs.Slices.{fold_rows}
use Rattle.history.specs.Search.{seen_at, pass}
use Rattle.history.proofs.passed.Given as goal

abbrev pub invariant-loop-i : goal.invariant-loop-i
invariant-loop-i l = fold_rows seen_at l.i l.search (drop l.i l.table) ≡ pass l.fn.wanted l.table
