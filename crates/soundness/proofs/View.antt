-- What is read of a ring in memory below its counts; and a ring in whose arrays stands what is read off it (network's `Held`) is laid out
-- as it should be (`hold-is`).
use Prim.Native.Nat.{ℕ, ◌≤◌, ◌<◌}
use mathlib.Core.Path.{◌≡◌, sym, ◌∙◌}
use mathlib.Core.Bool.{Bool}
use lib.Dec.{eqb}
use lib.ListN.{get_or}
use Rattle.wire.specs.Record.{record_length}
use Rattle.network.specs.declared.Ring.{Ring}
use Rattle.network.specs.Counting.{sum}
use Rattle.network.specs.Network.{Network, node_no, channel_no, count_of_nodes, count_of_channels, slot_count, no_node, no_channel, node, channel}
use Rattle.network.specs.Layout.{node_room, channel_room, row_length, view_node, view_channel, view, hold_head, hold}
use Rattle.network.proofs.Memory.Rows.{length-tabulate, get_d_tabulate, tabulate-is, rows_is}
use Rattle.network.proofs.Ground.Counting.{sum_same, sum-beyond}
use Rattle.network.proofs.Memory.Held.{Held, no-node}
use Rattle.soundness.specs.Fits.{NodesFit, ChannelsFit}

-- the counts in the head, and whether the ring has started
abbrev pub nodes : Ring → ℕ
nodes ring = ring.head.node_count

abbrev pub channels : Ring → ℕ
channels ring = ring.head.channel_count

abbrev pub begun : Ring → Bool
begun ring = eqb ring.head.started 1

module _ (ring : Ring) where
  pub node-count-of : count_of_nodes (view ring) ≡ ring.head.node_count
  unfolding view
  node-count-of = length-tabulate ring.head.node_count (view_node ring)

  pub channel-count-of : count_of_channels (view ring) ≡ ring.head.channel_count
  unfolding view
  channel-count-of = length-tabulate ring.head.channel_count (view_channel ring)

  pub node_of : (p : ℕ) → p < ring.head.node_count → node (view ring) (node_no p) ≡ view_node ring p
  unfolding view
  node_of p l = get_d_tabulate ring.head.node_count (view_node ring) p no_node l

  pub channel-of : (k : ℕ) → k < ring.head.channel_count → channel (view ring) (channel_no k) ≡ view_channel ring k
  unfolding view
  channel-of k l = get_d_tabulate ring.head.channel_count (view_channel ring) k no_channel l

module _ (ring : Ring) (nodes-fit : NodesFit ring.head) (channels-fit : ChannelsFit ring.head) (spare : ring.head.spare ≡ 0) (σ : Network)
    (h : Held ring σ) where
  held-head : hold_head σ ≡ ring.head
  unfolding hold_head
  held-head =
      λ i.
      record {
        deliveries = sym h.deliveries i;
        started = sym h.started i;
        node_count = sym h.node-count i;
        channel_count = sym h.channel-count i;
        spare = sym spare i;
        capacity = tabulate-is node_room _ 0 ring.head.capacity nodes-fit.capacity-whole (λ p l. sym (h.nodes p l).capacity) i;
        used = tabulate-is node_room _ 0 ring.head.used nodes-fit.used-whole (λ p l. sym (h.nodes p l).used) i;
        waiting = tabulate-is node_room _ 0 ring.head.waiting nodes-fit.waiting-whole (λ p l. sym (h.nodes p l).waiting) i;
        marks = tabulate-is node_room _ 0 ring.head.marks nodes-fit.marks-whole (λ p l. sym (h.nodes p l).mark) i;
        senders = tabulate-is channel_room _ 0 ring.head.senders channels-fit.senders-whole (λ k l. sym (h.channels k l).sender) i;
        receivers = tabulate-is channel_room _ 0 ring.head.receivers channels-fit.receivers-whole (λ k l. sym (h.channels k l).receiver) i;
        phases = tabulate-is channel_room _ 0 ring.head.phases channels-fit.phases-whole (λ k l. sym (h.channels k l).phase) i;
        offered = tabulate-is channel_room _ 0 ring.head.offered channels-fit.offered-whole (λ k l. sym (h.channels k l).offered) i;
      }

  pub hold-is : hold σ ≡ ring
  unfolding hold
  hold-is =
      λ i.
      record {
        head = held-head i;
        slots = rows_is row_length node_room _ ring.slots h.slots-whole (λ p l. sym (h.nodes p l).buffer-row) i;
        lines = rows_is row_length node_room _ ring.lines h.lines-whole (λ p l. sym (h.nodes p l).line_row) i;
        offers = rows_is record_length channel_room _ ring.offers h.offers-whole (λ k l. sym (h.channels k l).offer-row) i;
        carried = rows_is record_length channel_room _ ring.carried h.carried-whole (λ k l. sym (h.channels k l).carried_row) i;
      }

-- the slots of all nodes: one that there is not has none
pub slots-of : (ring : Ring) (σ : Network) → Held ring σ → count_of_nodes σ ≤ node_room →
    sum node_room (λ p. get_or ring.head.capacity p 0) ≡ slot_count σ
slots-of ring σ h few =
    sum_same node_room (λ p. get_or ring.head.capacity p 0) (λ p. (node σ (node_no p)).slots) (λ p l. (h.nodes p l).capacity)
    ∙ sum-beyond node_room (count_of_nodes σ) (λ p. (node σ (node_no p)).slots) few (λ p l m. rw (no-node σ p l))
