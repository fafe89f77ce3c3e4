-- The bits of all channels are those of the channels still to come and, above them, the set.
use Rattle.std.proofs.Common.{◌≡◌, ◌+◌, ◌*◌, ◌-◌, ◌^◌, ◌<◌}
use Rattle.questions.specs.Asked.{waits_at, bits}
use Rattle.questions.proofs.set_of.Given as goal

abbrev pub invariant-loop-k : goal.invariant-loop-k
invariant-loop-k l = record {
  fits : l.set < 2 ^ (l.head.channel_count - l.k);
  bits_are : bits (waits_at l.head l.p) l.head.channel_count ≡ bits (waits_at l.head l.p) l.k + 2 ^ l.k * l.set;
}
