-- The invariant: no batch of the rows passed stands again, so the rest decides.
use Rattle.std.proofs.Common.{◌≡◌}
use Rattle.std.proofs.Math.ListN.{drop}
use Rattle.history.specs.Table.{none_twice}
use Rattle.history.proofs.none_twice.Given as goal

abbrev pub invariant-loop-i : goal.invariant-loop-i
invariant-loop-i l = none_twice l.batches ≡ none_twice (drop l.i l.batches)
