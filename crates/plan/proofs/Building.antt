-- The three calls that build a ring, on a sound ring in memory that has not started: each refusal by the tests that the code makes, and what an accepted
-- call leaves in memory.
use Prim.Native.Nat.{ℕ, ◌+◌, ◌≤◌, ◌<◌}
use mathlib.Core.Path.{◌≡◌, refl, sym, ap, ◌∙◌}
use mathlib.Core.Bool.{true, false, ◌&&◌, not}
use lib.Dec.{leb, ltb}
use lib.ListN.{get_or, set}
use borrow.Author.Tests.{lt-ltb, le-ltb, le-leb, lt-leb}
use Rattle.std.proofs.Common.{arith, Some, Less, Equal, Greater}
use Rattle.std.specs.Ordering.{is_le, nat_cmp}
use Rattle.std.specs.Cmp.{nat_cmp_is}
use Rattle.std.specs.Range.{range_inclusive_start, range_inclusive_end, range_inclusive_exhausted, range_inclusive_contains}
use Rattle.std.specs.declared.ops.RangeInclusive.{RangeInclusive}
use Rattle.refusal.specs.declared.Refusal.TheVariants.{NodesFull, BadSlots, ChannelsFull, NoSuchEnd, NothingToStart, TooFewSlots}
use Rattle.numbers.specs.declared.NodeNo.{NodeNo}
use Rattle.network.specs.declared.Ring.{Ring}
use Rattle.network.specs.Counting.{sum}
use Rattle.network.specs.Network.{node_no, count_of_nodes, count_of_channels, slot_count, node}
use Rattle.network.specs.Calls.{done, refused, accepted}
use Rattle.network.specs.Calls
use Rattle.network.specs.Runs
use Rattle.network.specs.Layout.{ring_limits, node_room, view, call_ring}
use Rattle.network.proofs.Ground.Splits.{by-same, by_less}
use Rattle.network.proofs.Ground.Counting.{sum_same, sum-beyond}
use Rattle.network.proofs.Memory.Held.{SoundRing, sound-ring, no-node}
use Rattle.network.proofs.Memory.Changes.{planned, with_head, hold-with-new-node, hold-with-new-channel, hold-with-started}
use Rattle.updates.specs.Known.{Planned}
use Rattle.updates.proofs.Openings.{sound-called, idle}

-- what a comparison of numbers says of the test, and the test for a number of slots
le-test : (a b : ℕ) → is_le (nat_cmp a b) ≡ leb a b
le-test a b =
    by_less a b
    (λ less. rw (← nat_cmp_is a b Less less, le-leb a b (omega arith)) refl)
    (λ more.
    by-same a b
    (λ same. rw (← nat_cmp_is a b Equal same, le-leb a b (omega arith)) refl)
    (λ other. rw (← nat_cmp_is a b Greater (omega (arith, other)), lt-leb a b (omega (arith, other))) refl))

pub slots-test : (slots : ℕ) (r : RangeInclusive ℕ) → range_inclusive_start r ≡ 1 → range_inclusive_end r ≡ ring_limits.slots →
    range_inclusive_exhausted r ≡ false → (leb 1 slots && leb slots ring_limits.slots) ≡ range_inclusive_contains (λ a b. Some (nat_cmp a b)) r slots
slots-test slots r first last whole = rw (first, last, whole, le-test 1 slots, le-test slots ring_limits.slots) refl

module _ {ring : Ring} (h : Planned ring) where
  known : SoundRing ring
  known = sound-ring ring h.ok

  waits : not (view ring).started ≡ true
  waits = ap not (idle ring h.ok h.still)

  node-count : count_of_nodes (view ring) ≡ ring.head.node_count
  node-count = sym known.holds.node-count

  channel-count : count_of_channels (view ring) ≡ ring.head.channel_count
  channel-count = sym known.holds.channel-count

  -- add node

  module _ (slots : ℕ) where
    pub add-node-full : ring_limits.nodes ≤ ring.head.node_count → call_ring (Runs.add_node slots) ring ≡ refused NodesFull
    unfolding Calls.add_node
    add-node-full full = rw (sound-called (Runs.add_node slots) ring h.ok, waits, node-count, le-ltb _ _ full)

    module _ (room : ring.head.node_count < ring_limits.nodes) where
      pub add-node-bad : (leb 1 slots && leb slots ring_limits.slots) ≡ false → call_ring (Runs.add_node slots) ring ≡ refused BadSlots
      unfolding Calls.add_node
      add-node-bad bad = rw (sound-called (Runs.add_node slots) ring h.ok, waits, node-count, lt-ltb _ _ room, bad)

      pub add-node-done : (leb 1 slots && leb slots ring_limits.slots) ≡ true →
          call_ring (Runs.add_node slots) ring
          ≡ accepted done
          (with_head ring
          (planned ring.head ring.head.started (ring.head.node_count + 1) ring.head.channel_count
          (set ring.head.capacity ring.head.node_count slots)
          ring.head.senders
          ring.head.receivers))
      unfolding Calls.add_node
      add-node-done good =
          let free : count_of_nodes (view ring) < ring_limits.nodes = rw node-count room in
          rw (sound-called (Runs.add_node slots) ring h.ok, waits, lt-ltb _ _ free, good)
          (ap (accepted done)
          (hold-with-new-node (view ring) slots free
          ∙ (λ i.
          with_head (known.laid-out i)
          (planned (known.laid-out i).head (known.laid-out i).head.started (node-count i + 1) (channel-count i)
          (set (known.laid-out i).head.capacity (node-count i) slots)
          (known.laid-out i).head.senders
          (known.laid-out i).head.receivers))))

  -- add channel

  module _ (s r : NodeNo) where
    pub add-channel-full : ring_limits.channels ≤ ring.head.channel_count →
        call_ring (Runs.add_channel s r) ring ≡ refused ChannelsFull
    unfolding Calls.add_channel
    add-channel-full full = rw (sound-called (Runs.add_channel s r) ring h.ok, waits, channel-count, le-ltb _ _ full)

    module _ (room : ring.head.channel_count < ring_limits.channels) where
      no_end : (ltb s.0 ring.head.node_count && ltb r.0 ring.head.node_count) ≡ false →
          call_ring (Runs.add_channel s r) ring ≡ refused NoSuchEnd
      unfolding Calls.add_channel
      no_end bad = rw (sound-called (Runs.add_channel s r) ring h.ok, waits, channel-count, lt-ltb _ _ room, node-count, bad)

      pub add-channel-no-sender : ring.head.node_count ≤ s.0 → call_ring (Runs.add_channel s r) ring ≡ refused NoSuchEnd
      add-channel-no-sender beyond = no_end (rw (le-ltb s.0 ring.head.node_count beyond))

      pub add-channel-no-receiver : s.0 < ring.head.node_count → ring.head.node_count ≤ r.0 →
          call_ring (Runs.add_channel s r) ring ≡ refused NoSuchEnd
      add-channel-no-receiver there beyond =
          no_end (rw (lt-ltb s.0 ring.head.node_count there, le-ltb r.0 ring.head.node_count beyond))

      pub add-channel-done : s.0 < ring.head.node_count → r.0 < ring.head.node_count →
          call_ring (Runs.add_channel s r) ring
          ≡ accepted done
          (with_head ring
          (planned ring.head ring.head.started ring.head.node_count (ring.head.channel_count + 1) ring.head.capacity
          (set ring.head.senders ring.head.channel_count s.0)
          (set ring.head.receivers ring.head.channel_count r.0)))
      unfolding Calls.add_channel
      add-channel-done sends receives =
          let free : count_of_channels (view ring) < ring_limits.channels = rw channel-count room in
          let s-there : s.0 < count_of_nodes (view ring) = rw node-count sends in
          let r-there : r.0 < count_of_nodes (view ring) = rw node-count receives in
          rw (sound-called (Runs.add_channel s r) ring h.ok, waits, lt-ltb _ _ free, lt-ltb _ _ s-there, lt-ltb _ _ r-there)
          (ap (accepted done)
          (hold-with-new-channel (view ring) s r free
          ∙ (λ i.
          with_head (known.laid-out i)
          (planned (known.laid-out i).head (known.laid-out i).head.started (node-count i) (channel-count i + 1)
          (known.laid-out i).head.capacity
          (set (known.laid-out i).head.senders (channel-count i) s.0)
          (set (known.laid-out i).head.receivers (channel-count i) r.0)))))

  -- start

  nothing : (leb 1 ring.head.node_count && leb 1 ring.head.channel_count) ≡ false →
      call_ring Runs.start ring ≡ refused NothingToStart
  unfolding Calls.start
  nothing bad = rw (sound-called Runs.start ring h.ok, waits, node-count, channel-count, bad)

  pub start-no-node : ring.head.node_count < 1 → call_ring Runs.start ring ≡ refused NothingToStart
  start-no-node few = nothing (rw (lt-leb 1 ring.head.node_count few))

  -- the slots of all nodes there is room for are those of the nodes added: the others have none
  slots-are : sum node_room (λ p. get_or ring.head.capacity p 0) ≡ slot_count (view ring)
  slots-are =
      sum_same node_room (λ p. get_or ring.head.capacity p 0) (λ p. (node (view ring) (node_no p)).slots)
      (λ p l. (known.holds.nodes p l).capacity)
      ∙ sum-beyond node_room (count_of_nodes (view ring)) (λ p. (node (view ring) (node_no p)).slots) known.fits.nodes-fit
      (λ p beyond l. ap (λ s. s.slots) (no-node (view ring) p beyond))

  module _ (some-node : 1 ≤ ring.head.node_count) where
    pub start-no-channel : ring.head.channel_count < 1 → call_ring Runs.start ring ≡ refused NothingToStart
    start-no-channel few = nothing (rw (le-leb 1 ring.head.node_count some-node, lt-leb 1 ring.head.channel_count few))

    module _ (some-channel : 1 ≤ ring.head.channel_count) where
      some : (leb 1 (count_of_nodes (view ring)) && leb 1 (count_of_channels (view ring))) ≡ true
      some = rw (node-count, channel-count, le-leb _ _ some-node) (le-leb _ _ some-channel)

      pub start-too-few : sum node_room (λ p. get_or ring.head.capacity p 0) ≤ ring.head.channel_count →
          call_ring Runs.start ring ≡ refused TooFewSlots
      unfolding Calls.start
      start-too-few few =
          rw (sound-called Runs.start ring h.ok, waits, some, channel-count, le-ltb _ _ (rw slots-are at few))

      pub start-done : ring.head.channel_count < sum node_room (λ p. get_or ring.head.capacity p 0) →
          call_ring Runs.start ring
          ≡ accepted done
          (with_head ring
          (planned ring.head 1 ring.head.node_count ring.head.channel_count ring.head.capacity ring.head.senders
          ring.head.receivers))
      unfolding Calls.start
      start-done more =
          let free : count_of_channels (view ring) < slot_count (view ring) = rw (channel-count, ← slots-are) more in
          rw (sound-called Runs.start ring h.ok, waits, some, lt-ltb _ _ free)
          (ap (accepted done)
          (hold-with-started (view ring) true
          ∙ (λ i.
          with_head (known.laid-out i)
          (planned (known.laid-out i).head 1 (node-count i) (channel-count i) (known.laid-out i).head.capacity
          (known.laid-out i).head.senders
          (known.laid-out i).head.receivers))))
