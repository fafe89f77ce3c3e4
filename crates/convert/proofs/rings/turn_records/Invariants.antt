-- The invariant: the first `k` records are turned, the others as they were, and `tenths` tells whether the first `k` temperatures were in
-- tenths.
use Rattle.std.proofs.Common.{◌≡◌, ◌-◌, ◌≤◌}
use Rattle.batch.specs.Sending.{in_tenths}
use Rattle.network.specs.Counting.{all_below}
use Rattle.network.specs.Layout.{channel_room, record_at}
use Rattle.convert.proofs.RingBytes.{so_far}
use Rattle.convert.proofs.rings.turn_records.Given as goal

abbrev pub invariant-loop-k : goal.invariant-loop-k
invariant-loop-k l =
    (l.k ≤ channel_room)
    × (l.records ≡ so_far l.fn.records l.k)
    × (l.tenths ≡ all_below l.k (λ j. in_tenths (record_at l.fn.records j).temperature))

abbrev pub decreases-loop-k : goal.decreases-loop-k
decreases-loop-k l = channel_room - l.k
