-- A ring that fits (specs/Fits) is sound: the ring that is read off its arrays passes every clause of soundness.
use Prim.Native.Nat.{ℕ, ◌+◌, ◌≤◌, ◌<◌}
use mathlib.Core.Path.{◌≡◌, refl, sym, ap, ◌∙◌}
use mathlib.Core.Bool.{Bool, true, false, cond}
use native.Mathlib.Omega.{arith}
use lib.ListN.{get_or}
use borrow.Author.Tests.{lt-ltb, le-leb, eq-eqb, eqb-true, eqb-false}
use Rattle.network.specs.declared.Ring.{Ring}
use Rattle.network.specs.Counting.{one}
use Rattle.network.specs.Network.{Network, node_no, channel_no, times_in, count_of_nodes, count_of_channels, node, channel, entry_of, target_of, times_on, moving}
use Rattle.network.specs.Sound.{absent, sound_after, sound_before}
use Rattle.network.specs.Layout.{ring_limits, phase_code, record_at, view, sound_ring}
use Rattle.network.proofs.Ground.Splits.{and_both}
use Rattle.network.proofs.Ground.Tests.{below_all}
use Rattle.network.proofs.Ground.Counting.{sum_same, sum-term}
use Rattle.network.proofs.Lists.Clauses.{NodeFacts, ChannelFacts, Facts, facts-sound, BufferFits, LineFits, entry-in, target-in}
use Rattle.network.proofs.Memory.Held.{is-sound-ring}
use Rattle.soundness.specs.Fits.{Fits}
use Rattle.messages.specs.declared.rows.Place.{Place}
use Rattle.messages.specs.declared.rows.Place.TheVariants.{Buffer, Line}
use Rattle.messages.proofs.RowsMet.{met_at}
use Rattle.messages.proofs.UsedCells.{queue-below}
use Rattle.messages.specs.Messages.{has_message, may_stand, may_stand_between}
use Rattle.messages.proofs.OnTheWay.{decides-way, ends-below, by-code, message-by-code}
use Rattle.soundness.proofs.Codes.{good-if-offered, good-if-carried, code-rests, not-raised, raised, none-offered}
use Rattle.soundness.proofs.Queues.{queue-occupied}
use Rattle.soundness.proofs.FitsHeld.{used-node, used-channel, table, node-held, channel-held, held}
use Rattle.soundness.proofs.View.{nodes, channels, begun, node-count-of, channel-count-of, node_of, channel-of, hold-is, slots-of}

either_way : (b : Bool) {on off : Bool} → (b ≡ true → on ≡ true) → (b ≡ false → off ≡ true) → cond b on off ≡ true
either_way true yes-so not_so = yes-so refl
either_way false yes-so not_so = not_so refl

module _ (ring : Ring) (f : Fits ring) where
  abbrev σ : Network
  σ = view ring

  times-of : (k : ℕ) → times_on σ (channel_no k) ≡ met_at f.messages.met k
  times-of k =
      rw (node-count-of ring)
      (sum_same (nodes ring) _ _ (λ p l. rw (node_of ring p l)))
      ∙ sym ((table ring f).once k)

  once : (k : ℕ) → k < channels ring → times_on σ (channel_no k) ≡ one (moving (channel σ (channel_no k)).phase)
  once k l =
      let h = channel-held ring f k (omega (arith, f.counts.channels-within)) in
      times-of k ∙ ap one (f.messages.right k l ∙ ap has_message h.phase ∙ message-by-code (channel σ (channel_no k)).phase)

  -- a channel that stands in some row has a message under way between nodes
  module _ (k : ℕ) (l : k < channels ring) (stands : 1 ≤ times_on σ (channel_no k)) where
    moves : moving (channel σ (channel_no k)).phase ≡ true
    moves = raised _ (omega (arith, once k l))

    enters : ℕ
    enters = (entry_of (channel σ (channel_no k)) (channel σ (channel_no k)).phase).0

    goes_to : ℕ
    goes_to = (target_of (channel σ (channel_no k)) (channel σ (channel_no k)).phase).0

    may-stand : (place : Place) → may_stand ring.head k place ≡ true → may_stand_between (nodes ring) enters goes_to place ≡ true
    unfolding may_stand enters goes_to
    may-stand place e =
        let h = channel-held ring f k (omega (arith, f.counts.channels-within)) in
        let way = by-code (channel σ (channel_no k)) (channel σ (channel_no k)).phase moves in
        rw (h.phase, h.sender, h.receiver, way.0, way.1) at e

    ends : (enters < nodes ring) × (goes_to < nodes ring)
    unfolding enters goes_to
    ends =
        let u = used-channel ring f k l in
        let e = channel-of ring k l in
        ends-below (channel σ (channel_no k)) (nodes ring) (rw e u.sender-below) (rw e u.receiver-below) (channel σ (channel_no k)).phase

  stands-on : (p k : ℕ) → p < nodes ring →
      times_in (node σ (node_no p)).buffer (channel_no k) + times_in (node σ (node_no p)).line (channel_no k) ≤ times_on σ (channel_no k)
  stands-on p k l =
      sum-term (count_of_nodes σ) p (λ q. times_in (node σ (node_no q)).buffer (channel_no k) + times_in (node σ (node_no q)).line (channel_no k))
      (rw (node-count-of ring) l)

  buffer-fits : (p k : ℕ) → p < nodes ring → 0 < times_in (node σ (node_no p)).buffer (channel_no k) → BufferFits σ p k
  unfolding enters goes_to
  buffer-fits p k l in-it =
      let stands-there = rw (node_of ring p l) at in-it in
      let known : k < channels ring = queue-below ((table ring f).rows.buffers-used p l) k stands-there in
      let stands : 1 ≤ times_on σ (channel_no k) = omega (arith, stands-on p k l) in
      let way = may-stand k known stands (Buffer p) ((table ring f).rows.in-buffer p k l stands-there) in
      let to = ends k known stands in
      let g = (channel σ (channel_no k)).phase in
      rw (channel-count-of ring, node-count-of ring, ← entry-in σ g k, ← target-in σ g k)
      (known, (decides-way (nodes ring) p _ _ l to.0 to.1).holds way)

  line-fits : (p k : ℕ) → p < nodes ring → 0 < times_in (node σ (node_no p)).line (channel_no k) → LineFits σ p k
  unfolding enters
  line-fits p k l in-it =
      let stands-there = rw (node_of ring p l) at in-it in
      let known : k < channels ring = queue-below ((table ring f).rows.lines-used p l) k stands-there in
      let stands : 1 ≤ times_on σ (channel_no k) = omega (arith, stands-on p k l) in
      rw (channel-count-of ring, ← entry-in σ (channel σ (channel_no k)).phase k)
      (known, eqb-true p _ (may-stand k known stands (Line p) ((table ring f).rows.in-line p k l stands-there)))

  node-facts : (p : ℕ) → p < nodes ring → NodeFacts ring_limits σ p
  node-facts p l =
      let h = node-held ring f p (omega (arith, f.counts.nodes-within)) in
      let u = used-node ring f p l in
      record {
        some-slot = omega (arith, h.capacity, u.some-slot);
        slot-limit = omega (arith, h.capacity, u.slot-limit);
        fits = omega (arith, h.capacity, h.used, u.buffer-fits);
        in-buffer = λ k. buffer-fits p k l;
        in-line = λ k. line-fits p k l;
        marked = λ m.
            let raised : one (node σ (node_no p)).mark ≡ 1 = ap one m in
            queue-occupied (node σ (node_no p)).line (omega (arith, h.mark, h.waiting, u.marked-line));
      }

  channel-facts : (k : ℕ) → k < channels ring → ChannelFacts σ k
  channel-facts k l =
      let h = channel-held ring f k (omega (arith, f.counts.channels-within)) in
      let u = used-channel ring f k l in
      let e = channel-of ring k l in
      record {
        sender-below = rw (node-count-of ring, e) u.sender-below;
        receiver-below = rw (node-count-of ring, e) u.receiver-below;
        once = once k l;
        ready-bare = λ r. none-offered (channel σ (channel_no k)).offer (sym h.offered ∙ u.state.ready-bare (h.phase ∙ ap phase_code r));
        good-offer = rw e (good-if-offered (record_at ring.offers k) (get_or ring.head.offered k 0) (f.records.offer-fits k l).good);
        good-carried =
            rw e
            (good-if-carried (record_at ring.carried k) (get_or ring.head.phases k 0) u.state.phase-known
            (f.records.carried-fits k l).good);
      }

  sound-after : begun ring ≡ true → sound_after σ ≡ true
  unfolding sound_after
  sound-after on =
      let s = f.start.after-start (eqb-true _ 1 on) in
      rw (← slots-of ring σ (held ring f) (rw (node-count-of ring) f.counts.nodes-within), node-count-of ring, channel-count-of ring)
      (and_both _ _ (and_both _ _ (le-leb 1 (nodes ring) s.0) (le-leb 1 (channels ring) s.1)) (lt-ltb (channels ring) _ s.2))

  sound-before : begun ring ≡ false → sound_before σ ≡ true
  unfolding sound_before view
  sound-before off =
      and_both _ _
      (and_both _ _
      (below_all (count_of_channels σ) _
      (λ k l.
      let known : k < channels ring = rw (channel-count-of ring) at l in
      let h = channel-held ring f k (omega (arith, f.counts.channels-within)) in
      let still = (used-channel ring f k known).state.before-start off in
      and_both _ _ (code-rests (channel σ (channel_no k)).phase (sym h.phase ∙ still.0))
      (ap absent (none-offered (channel σ (channel_no k)).offer (sym h.offered ∙ still.1)))))
      (below_all (count_of_nodes σ) _
      (λ p l.
      let known : p < nodes ring = rw (node-count-of ring) at l in
      let h = node-held ring f p (omega (arith, f.counts.nodes-within)) in
      let none-raised : one (begun ring) ≡ 0 = ap one off in
      not-raised (node σ (node_no p)).mark (omega (arith, h.mark, (used-node ring f p known).marked-started)))))
      (eq-eqb ring.head.deliveries 0 (f.start.before-start (eqb-false _ 1 off)))

  at-start : cond σ.started (sound_after σ) (sound_before σ) ≡ true
  unfolding view
  at-start = either_way (begun ring) sound-after sound-before

  facts : Facts ring_limits σ
  unfolding view
  facts =
      record {
        node-limit = rw (node-count-of ring) f.counts.nodes-within;
        channel-limit = rw (channel-count-of ring) f.counts.channels-within;
        delivery-limit = f.start.delivery-limit;
        each-node = λ p l. node-facts p (rw (node-count-of ring) at l);
        each-channel = λ k l. channel-facts k (rw (channel-count-of ring) at l);
        at-start = at-start;
      }

  pub fits-sound : sound_ring ring ≡ true
  fits-sound =
      is-sound-ring ring (hold-is ring f.nodes f.channels f.counts.spare-zero σ (held ring f)) (facts-sound ring_limits σ facts)
