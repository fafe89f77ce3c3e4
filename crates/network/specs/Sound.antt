-- Document 01, "A sound ring", clause by clause, as one test that can be run.
use Rattle.std.specs.Prelude.{ℕ, ◌+◌, min, Bool, true, false, cond, ◌&&◌, ◌||◌, not, leb, ltb, eqb, length}
use Rattle.std.proofs.Math.Option.{Option, none, some}
use Rattle.batch.specs.declared.BatchRecord.{BatchRecord}
use Rattle.batch.specs.Good.{every, good_record}
use Rattle.numbers.specs.declared.NodeNo.{NodeNo}
use Rattle.numbers.specs.declared.ChannelNo.{ChannelNo}
use Rattle.network.specs.Counting.{one, all_below, occupied}
use Rattle.network.specs.Network.{Network, Phase, resting, asking, ready, answering, count_of_nodes, count_of_channels, slot_count, node_no, channel_no, same_node, node, channel, is_node, is_channel, hops_on, moving, entry, target, times_on}

-- what a size of ring allows: so many nodes, so many channels, so many slots a node
pub record Limits : Type 0 where
  pub nodes : ℕ
  pub channels : ℕ
  pub slots : ℕ

-- the count of deliveries stops here
abbrev pub last_count : ℕ
last_count = 4294967295

-- a count after one more: it stops at the largest number of 32 bits
unfoldable pub next_count : ℕ → ℕ
next_count n = min (n + 1) last_count

abbrev pub absent : Option BatchRecord → Bool
absent none = true
absent (some x) = false

abbrev pub is_resting : Phase → Bool
is_resting resting = true
is_resting asking = false
is_resting ready = false
is_resting (answering x) = false

abbrev pub is_asking : Phase → Bool
is_asking resting = false
is_asking asking = true
is_asking ready = false
is_asking (answering x) = false

abbrev pub is_ready : Phase → Bool
is_ready resting = false
is_ready asking = false
is_ready ready = true
is_ready (answering x) = false

-- records good: the one offered, and the one carried
abbrev pub good_offer : Option BatchRecord → Bool
good_offer none = true
good_offer (some x) = good_record x

abbrev pub good_carried : Phase → Bool
good_carried resting = true
good_carried asking = true
good_carried ready = true
good_carried (answering x) = good_record x

-- Channel k may stand in the line of node p: only at its own node.
abbrev pub line_fits : Network → NodeNo → ChannelNo → Bool
line_fits σ p k = is_channel σ k && same_node p (entry σ k)

-- Channel k may stand in the buffer of node p: from its node of entry up to the node before its target in ring order, that is, no
-- further from the target than the entry is (Way has the nodes one by one). For a same-node channel that is any node.
abbrev pub buffer_fits : Network → NodeNo → ChannelNo → Bool
buffer_fits σ p k =
    is_channel σ k && leb (hops_on (count_of_nodes σ) p (target σ k)) (hops_on (count_of_nodes σ) (entry σ k) (target σ k))

-- a node of the ring: 1 to the most slots, no buffer longer than its slots, every message in a fit place, a turn mark only with a
-- line that isn't empty
unfoldable pub sound_node : Limits → Network → NodeNo → Bool
sound_node L σ p =
    leb 1 (node σ p).slots
    && leb (node σ p).slots L.slots
    && leb (length (node σ p).buffer) (node σ p).slots
    && every (buffer_fits σ p) (node σ p).buffer
    && every (line_fits σ p) (node σ p).line
    && (not (node σ p).mark || occupied (node σ p).line)

-- a channel of the ring: its ends are nodes; asking or answering exactly once on the ring, otherwise nowhere; a ready channel has no
-- offer; its records are good
unfoldable pub sound_channel : Network → ChannelNo → Bool
sound_channel σ k =
    is_node σ (channel σ k).sender
    && is_node σ (channel σ k).receiver
    && eqb (times_on σ k) (one (moving (channel σ k).phase))
    && (not (is_ready (channel σ k).phase) || absent (channel σ k).offer)
    && good_offer (channel σ k).offer
    && good_carried (channel σ k).phase

-- not started: all resting, no offers, no marks, count 0
unfoldable pub sound_before : Network → Bool
sound_before σ =
    all_below (count_of_channels σ) (λ k. is_resting (channel σ (channel_no k)).phase && absent (channel σ (channel_no k)).offer)
    && all_below (count_of_nodes σ) (λ p. not (node σ (node_no p)).mark)
    && eqb σ.deliveries 0

-- started: n and c at least 1, b greater than c
unfoldable pub sound_after : Network → Bool
sound_after σ = leb 1 (count_of_nodes σ) && leb 1 (count_of_channels σ) && ltb (count_of_channels σ) (slot_count σ)

unfoldable pub sound : Limits → Network → Bool
sound L σ =
    leb (count_of_nodes σ) L.nodes
    && leb (count_of_channels σ) L.channels
    && leb σ.deliveries last_count
    && all_below (count_of_nodes σ) (λ p. sound_node L σ (node_no p))
    && all_below (count_of_channels σ) (λ k. sound_channel σ (channel_no k))
    && cond σ.started (sound_after σ) (sound_before σ)
