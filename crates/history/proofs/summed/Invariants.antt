-- The invariant: the figures of the readings are those of what was found so far and the readings to come; the sum of the first and n more,
-- each of 16 bits, is below n + 1 times 2 ^ 15.
use Rattle.std.proofs.Common.{◌≡◌, ◌+◌, ◌*◌, ◌^◌, ◌<◌, length}
use Rattle.std.proofs.Math.ListN.{drop}
use Rattle.std.specs.Int.Signed.{mag}
use Rattle.history.specs.Table.{reading_limit}
use Rattle.history.specs.History.{figures_of}
use Rattle.history.proofs.Figuring.{told_from}
use Rattle.history.proofs.summed.Given as goal

abbrev pub invariant-loop-reading : goal.invariant-loop-reading
invariant-loop-reading l =
    (length l.rest < reading_limit) × (mag l.sum < (l.reading-index + 1) * 2 ^ 15)
    × (figures_of l.fn.readings ≡ told_from l.lowest l.highest l.sum (drop l.reading-index l.rest))
