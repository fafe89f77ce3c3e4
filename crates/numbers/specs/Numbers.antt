-- A plain number as that of a node or of a channel, and which of these are the same. A plain number is not bounded, so what is defined
-- with them holds for any size of ring.
use Rattle.std.specs.Prelude.{ℕ, Bool, eqb}
use Rattle.numbers.specs.declared.NodeNo.{NodeNo}
use Rattle.numbers.specs.declared.ChannelNo.{ChannelNo}

abbrev pub node_no : ℕ → NodeNo
node_no p = record { 0 = p }

abbrev pub channel_no : ℕ → ChannelNo
channel_no k = record { 0 = k }

abbrev pub same_node : NodeNo → NodeNo → Bool
same_node p q = eqb p.0 q.0

abbrev pub same_channel : ChannelNo → ChannelNo → Bool
same_channel j k = eqb j.0 k.0
