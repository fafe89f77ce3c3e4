-- The head and the records of a sound ring fit (specs/Fits), clause by clause as the test has them.
use Prim.Native.Nat.{ℕ, ◌≤◌, ◌<◌}
use mathlib.Core.Path.{◌≡◌, refl, sym, ap, ◌∙◌}
use mathlib.Core.Bool.{Bool, true, false, cond, not}
use native.Mathlib.Omega.{arith}
use lib.Dec.{ltb}
use lib.ListN.{length, get_or}
use borrow.Author.Tests.{lt-ltb, le-ltb, eq-eqb, ne_eqb, not-true}
use Rattle.wire.specs.Record.{record_length}
use Rattle.network.specs.declared.Ring.{Ring}
use Rattle.network.specs.Counting.{one}
use Rattle.network.specs.Network.{Network, node_no, channel_no, count_of_nodes, count_of_channels, node, channel, no_channel}
use Rattle.network.specs.Sound.{is_resting, absent, sound_after, sound_before}
use Rattle.network.specs.Layout.{node_room, channel_room, row, phase_code, offered_flag, view, hold_head, hold}
use Rattle.network.proofs.Ground.Splits.{by-test, by_less, both_ways}
use Rattle.network.proofs.Ground.Tests.{reads}
use Rattle.network.proofs.Ground.Counting.{one-most}
use Rattle.network.proofs.Memory.Rows.{length-tabulate}
use Rattle.network.proofs.Memory.Held.{HeldChannel, no-node, no-channel, SoundRing}
use Rattle.soundness.specs.Fits.{NodeFits, NodesFit, ChannelFits, ChannelsFit, CountsFit, RecordsFit, StartFits}
use Rattle.messages.proofs.Zeros.{rows-beyond}
use Rattle.soundness.proofs.Codes.{code-most, code-ready, flag-most, flag-below, offer-stands, carried-stands}
use Rattle.soundness.proofs.Queues.{length-occupied}
use Rattle.soundness.proofs.View.{nodes, channels, begun, node-count-of, channel-count-of, slots-of}
use Rattle.network.proofs.Ground.Joined.{resting-is, absent-is}

-- what a test of two cases says in each
on-side : (b on off : Bool) → cond b on off ≡ true → b ≡ true → on ≡ true
on-side true on off e h = e
on-side false on off e h = both_ways h refl

off-side : (b on off : Bool) → cond b on off ≡ true → b ≡ false → off ≡ true
off-side true on off e h = both_ways refl h
off-side false on off e h = e

module _ (ring : Ring) (s : SoundRing ring) where
  abbrev σ : Network
  σ = view ring

  pub counts-fit : CountsFit ring.head
  unfolding hold hold_head
  counts-fit =
      record {
        started-flag = omega (arith, s.holds.started, one-most σ.started);
        nodes-within = omega (arith, s.holds.node-count, s.facts.node-limit);
        channels-within = omega (arith, s.holds.channel-count, s.facts.channel-limit);
        spare-zero = sym (ap (λ r. r.head.spare) s.laid-out);
      }

  sound-before : begun ring ≡ false → sound_before σ ≡ true
  unfolding view
  sound-before off = off-side (begun ring) _ _ s.facts.at-start off

  sound-after : begun ring ≡ true → sound_after σ ≡ true
  unfolding view
  sound-after on = on-side (begun ring) _ _ s.facts.at-start on

  -- what is so before the start
  record Before : Type 0 where
    at_rest : (k : ℕ) → k < count_of_channels σ →
        (is_resting (channel σ (channel_no k)).phase ≡ true) × (absent (channel σ (channel_no k)).offer ≡ true)
    unmarked : (p : ℕ) → p < count_of_nodes σ → not (node σ (node_no p)).mark ≡ true
    none-delivered : σ.deliveries ≡ 0

  before : begun ring ≡ false → Before
  unfolding sound_before
  before off =
      let parts = simp reads at (sound-before off) in
      record { at_rest = parts.0.0; unmarked = parts.0.1; none-delivered = parts.1 }

  pub start_fits : StartFits ring.head
  unfolding sound_after
  start_fits =
      record {
        after-start = λ e.
            let parts = simp reads at (sound-after (eq-eqb _ 1 e)) in
            let slots = slots-of ring σ s.holds s.facts.node-limit in
            omega (arith, parts.0.0, parts.0.1, parts.1, node-count-of ring, channel-count-of ring);
        before-start = λ d. s.holds.deliveries ∙ (before (ne_eqb _ 1 d)).none-delivered;
        delivery-limit = omega (arith, s.holds.deliveries, s.facts.delivery-limit);
      }

  -- nodes and channels of the ring, in memory and as they are read off
  module _ (p : ℕ) (l : p < node_room) where
    pub node-fits :
        NodeFits (ltb p (nodes ring)) (begun ring) (get_or ring.head.capacity p 0) (get_or ring.head.used p 0)
        (get_or ring.head.waiting p 0) (get_or ring.head.marks p 0)
    node-fits =
        let h = s.holds.nodes p l in
        by_less p (nodes ring)
        (λ here.
        let known : p < count_of_nodes σ = rw (node-count-of ring) here in
        let g = s.facts.each-node p known in
        let started : one (node σ (node_no p)).mark ≤ one (begun ring) =
        flag-below (node σ (node_no p)).mark (one (begun ring))
        (λ m.
        by-test (begun ring) (λ on. rw on (omega arith))
        (λ off. both_ways m (not-true _ ((before off).unmarked p known)))) in
        let waits : one (node σ (node_no p)).mark ≤ length (node σ (node_no p)).line =
        flag-below (node σ (node_no p)).mark _ (λ m. length-occupied (node σ (node_no p)).line (g.marked m)) in
        rw (lt-ltb p (nodes ring) here)
        (record {
          some-slot = omega (arith, h.capacity, g.some-slot);
          slot-limit = omega (arith, h.capacity, g.slot-limit);
          buffer-fits = omega (arith, h.capacity, h.used, g.fits);
          marked-started = omega (arith, h.mark);
          marked-line = omega (arith, h.mark, h.waiting);
        }))
        (λ past.
        let e = no-node σ p (rw (node-count-of ring) past) in
        rw (le-ltb p (nodes ring) past) (rw e at h.capacity, rw e at h.used, rw e at h.waiting, rw e at h.mark))

  module _ (k : ℕ) (l : k < channel_room) where
    pub channel-fits :
        ChannelFits (ltb k (channels ring)) (begun ring) (nodes ring) (get_or ring.head.senders k 0) (get_or ring.head.receivers k 0)
        (get_or ring.head.phases k 0) (get_or ring.head.offered k 0)
    channel-fits =
        let h = s.holds.channels k l in
        let g = (channel σ (channel_no k)).phase in
        let o = (channel σ (channel_no k)).offer in
        by_less k (channels ring)
        (λ here.
        let known : k < count_of_channels σ = rw (channel-count-of ring) here in
        let facts = s.facts.each-channel k known in
        rw (lt-ltb k (channels ring) here)
        (record {
          sender-below = omega (arith, h.sender, facts.sender-below, node-count-of ring);
          receiver-below = omega (arith, h.receiver, facts.receiver-below, node-count-of ring);
          state = record {
            phase-known = omega (arith, h.phase, code-most g);
            offer-flag = omega (arith, h.offered, flag-most o);
            ready-bare = λ e. h.offered ∙ ap offered_flag (facts.ready-bare (code-ready g (sym h.phase ∙ e)));
            before-start = λ off.
                let still = (before off).at_rest k known in
                (h.phase ∙ ap phase_code (resting-is g still.0), h.offered ∙ ap offered_flag (absent-is o still.1));
          };
        }))
        (λ past.
        let e = no-channel σ k (rw (channel-count-of ring) past) in
        rw (le-ltb k (channels ring) past) (rw e at h.sender, rw e at h.receiver, rw e at h.phase, rw e at h.offered))

  pub nodes-fit : NodesFit ring.head
  unfolding hold hold_head
  nodes-fit =
      record {
        capacity-whole = ap (λ r. length r.head.capacity) (sym s.laid-out) ∙ length-tabulate node_room _;
        used-whole = ap (λ r. length r.head.used) (sym s.laid-out) ∙ length-tabulate node_room _;
        waiting-whole = ap (λ r. length r.head.waiting) (sym s.laid-out) ∙ length-tabulate node_room _;
        marks-whole = ap (λ r. length r.head.marks) (sym s.laid-out) ∙ length-tabulate node_room _;
        each = node-fits;
      }

  pub channels-fit : ChannelsFit ring.head
  unfolding hold hold_head
  channels-fit =
      record {
        senders-whole = ap (λ r. length r.head.senders) (sym s.laid-out) ∙ length-tabulate channel_room _;
        receivers-whole = ap (λ r. length r.head.receivers) (sym s.laid-out) ∙ length-tabulate channel_room _;
        phases-whole = ap (λ r. length r.head.phases) (sym s.laid-out) ∙ length-tabulate channel_room _;
        offered-whole = ap (λ r. length r.head.offered) (sym s.laid-out) ∙ length-tabulate channel_room _;
        each = channel-fits;
      }

  pub records-fit : RecordsFit ring
  records-fit =
      let held_at : (k : ℕ) → k < channels ring → HeldChannel ring σ k =
      λ k l. s.holds.channels k (omega (arith, counts-fit.channels-within)) in
      let known : (k : ℕ) → k < channels ring → k < count_of_channels σ = λ k l. rw (channel-count-of ring) l in
      let past_all : (k : ℕ) → channels ring ≤ k → channel σ (channel_no k) ≡ no_channel = λ k l. no-channel σ k (rw (channel-count-of ring) l) in
      record {
        offers-whole = s.holds.offers-whole;
        carried-whole = s.holds.carried-whole;
        offer-fits = λ k l.
            rw (held_at k l).offered
            (offer-stands (row record_length ring.offers k) (channel σ (channel_no k)).offer (held_at k l).offer-row
            (s.fits.offer-fits k (known k l)) (s.facts.each-channel k (known k l)).good-offer);
        carried-fits = λ k l.
            rw (held_at k l).phase
            (carried-stands (row record_length ring.carried k) (channel σ (channel_no k)).phase (held_at k l).carried_row
            (s.fits.carried-fits k (known k l)) (s.facts.each-channel k (known k l)).good-carried);
        offers-beyond =
            rows-beyond record_length channel_room (channels ring) (omega arith) ring.offers s.holds.offers-whole
            (λ k l m. rw (past_all k l) at (s.holds.channels k m).offer-row);
        carried-beyond =
            rows-beyond record_length channel_room (channels ring) (omega arith) ring.carried s.holds.carried-whole
            (λ k l m. rw (past_all k l) at (s.holds.channels k m).carried_row);
      }
