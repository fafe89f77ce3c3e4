-- A sound ring fits (specs/Fits): its head and its records, and here its messages, of which each stands once and where it may, so that
-- the pass over the rows meets it there.
use Prim.Native.Nat.{ℕ, ◌+◌, ◌≤◌, ◌<◌}
use mathlib.Core.Path.{◌≡◌, sym, ap, ◌∙◌}
use mathlib.Core.Bool.{true, false}
use native.Mathlib.Omega.{arith}
use borrow.Author.Tests.{eq-eqb}
use lib.ListN.{get_or}
use Rattle.network.specs.declared.Ring.{Ring}
use Rattle.network.specs.Counting.{one}
use Rattle.network.specs.Network.{Network, node_no, channel_no, times_in, count_of_nodes, count_of_channels, node, channel, entry_of, target_of, times_on, no_node, moving}
use Rattle.network.specs.Layout.{node_room, channel_room, row_length, row, view}
use Rattle.network.proofs.Ground.Splits.{by_less}
use Rattle.network.proofs.Ground.Counting.{sum_same, sum-term, one-most, sum-some}
use Rattle.network.proofs.Lists.Clauses.{entry-in, target-in}
use Rattle.network.proofs.Memory.Held.{no-node, no-channel, SoundRing}
use Rattle.messages.specs.Messages.{Table, has_message, may_stand, may_stand_between, MessagesFit}
use Rattle.soundness.specs.Fits.{Fits}
use Rattle.messages.specs.declared.rows.Place.{Place}
use Rattle.messages.specs.declared.rows.Place.TheVariants.{Buffer, Line}
use Rattle.messages.proofs.Zeros.{rows-beyond}
use Rattle.messages.proofs.UsedCells.{RowUsed}
use Rattle.messages.proofs.RowsMet.{AllMet, RowsRight, buffer_at, line_at, times_at, times_in_rows, all-met, all_pass}
use Rattle.messages.proofs.OnTheWay.{decides-way, ends-below, by-code, message-by-code}
use Rattle.soundness.proofs.Codes.{raised, same-one}
use Rattle.soundness.proofs.Queues.{queue-stands}
use Rattle.soundness.proofs.SoundHead.{counts-fit, start_fits, nodes-fit, channels-fit, records-fit}
use Rattle.soundness.proofs.View.{nodes, channels, node-count-of, channel-count-of, node_of}
use Rattle.hops.specs.Hops.{hops}

module _ (ring : Ring) (s : SoundRing ring) where
  abbrev σ : Network
  σ = view ring

  known-channel : (k : ℕ) → k < count_of_channels σ → k < channels ring
  known-channel k l = rw (channel-count-of ring) at l

  module _ (p : ℕ) (l : p < nodes ring) where
    known-node : p < count_of_nodes σ
    known-node = rw (node-count-of ring) l

    in-room : p < node_room
    in-room = omega (arith, (counts-fit ring s).nodes-within)

    buffer-used : RowUsed (channels ring) (get_or ring.head.used p 0) (row row_length ring.slots p)
    buffer-used =
        queue-stands (channels ring) (get_or ring.head.used p 0) (row row_length ring.slots p) (node σ (node_no p)).buffer
        (s.holds.nodes p in-room).used (s.fits.buffer-fits p known-node)
        (λ k m. known-channel k ((s.facts.each-node p known-node).in-buffer k m).0) (s.holds.nodes p in-room).buffer-row

    line-used : RowUsed (channels ring) (get_or ring.head.waiting p 0) (row row_length ring.lines p)
    line-used =
        queue-stands (channels ring) (get_or ring.head.waiting p 0) (row row_length ring.lines p) (node σ (node_no p)).line
        (s.holds.nodes p in-room).waiting (s.fits.line-fits p known-node)
        (λ k m. known-channel k ((s.facts.each-node p known-node).in-line k m).0) (s.holds.nodes p in-room).line_row

  -- a channel that stands on the ring stands at some node, in its buffer or in its line
  module _ {ℓ} {X : Type ℓ} (k : ℕ) (met : 1 ≤ times_on σ (channel_no k))
      (in-buffer : (p : ℕ) → p < nodes ring → 0 < times_in (node σ (node_no p)).buffer (channel_no k) → X)
      (in-line : (p : ℕ) → p < nodes ring → 0 < times_in (node σ (node_no p)).line (channel_no k) → X) where
    by_place : X
    by_place =
        let found =
        sum-some (count_of_nodes σ) (λ p. times_in (node σ (node_no p)).buffer (channel_no k) + times_in (node σ (node_no p)).line (channel_no k)) met in
        let here : found.0 < nodes ring = omega (arith, found.1, node-count-of ring) in
        by_less 0 (times_in (node σ (node_no found.0)).buffer (channel_no k)) (in-buffer found.0 here)
        (λ none-there. in-line found.0 here (omega (arith, found.2)))

  -- once where its message is on the ring, and otherwise nowhere, also where there is no such channel
  times : (k : ℕ) → times_on σ (channel_no k) ≡ one (moving (channel σ (channel_no k)).phase)
  times k =
      by_less k (count_of_channels σ) (λ l. (s.facts.each-channel k l).once)
      (λ past.
      by_less 0 (times_on σ (channel_no k))
      (λ met.
      absurd
      (by_place k met (λ p l m. omega (arith, ((s.facts.each-node p (known-node p l)).in-buffer k m).0))
      (λ p l m. omega (arith, ((s.facts.each-node p (known-node p l)).in-line k m).0))))
      (λ none-met. rw (no-channel σ k past) (omega arith)))

  abbrev within : channels ring ≤ channel_room
  within = (counts-fit ring s).channels-within

  times-in : (k : ℕ) →
      times_in_rows ring k ≡ times_on σ (channel_no k)
  times-in k = sym (rw (node-count-of ring) (sum_same (nodes ring) _ _ (λ p l. rw (node_of ring p l))))

  stands-on : (p k : ℕ) → p < nodes ring →
      times_in (buffer_at ring p) (channel_no k) + times_in (line_at ring p) (channel_no k) ≤ times_on σ (channel_no k)
  stands-on p k l = rw (← times-in k) (sum-term (nodes ring) p (times_at ring k) l)

  -- a message that stands in a row may stand there
  module _ (k : ℕ) (l : k < channels ring) (stands : 1 ≤ times_on σ (channel_no k)) where
    moves : moving (channel σ (channel_no k)).phase ≡ true
    moves = raised _ (omega (arith, times k))

    enters : ℕ
    enters = (entry_of (channel σ (channel_no k)) (channel σ (channel_no k)).phase).0

    goes_to : ℕ
    goes_to = (target_of (channel σ (channel_no k)) (channel σ (channel_no k)).phase).0

    ends : (enters < nodes ring) × (goes_to < nodes ring)
    unfolding enters goes_to
    ends =
        let facts = s.facts.each-channel k (rw (channel-count-of ring) l) in
        ends-below (channel σ (channel_no k)) (nodes ring) (rw (node-count-of ring) at facts.sender-below)
        (rw (node-count-of ring) at facts.receiver-below)
        (channel σ (channel_no k)).phase

    may-stand : (place : Place) → may_stand_between (nodes ring) enters goes_to place ≡ true → may_stand ring.head k place ≡ true
    unfolding may_stand enters goes_to
    may-stand place e =
        let h = s.holds.channels k (omega (arith, within)) in
        let way = by-code (channel σ (channel_no k)) (channel σ (channel_no k)).phase moves in
        rw (h.phase, h.sender, h.receiver, way.0, way.1) e

  in-buffer : (p k : ℕ) → p < nodes ring → 0 < times_in (buffer_at ring p) (channel_no k) → may_stand ring.head k (Buffer p) ≡ true
  unfolding enters goes_to
  in-buffer p k here m =
      let at : 0 < times_in (node σ (node_no p)).buffer (channel_no k) = rw (node_of ring p here) m in
      let fit = (s.facts.each-node p (known-node p here)).in-buffer k at in
      let known = known-channel k fit.0 in
      let stands : 1 ≤ times_on σ (channel_no k) = omega (arith, stands-on p k here) in
      let to = ends k known stands in
      let near : hops (nodes ring) p (goes_to k known stands) ≤ hops (nodes ring) (enters k known stands) (goes_to k known stands) =
      let g = (channel σ (channel_no k)).phase in
      rw (← entry-in σ g k, ← target-in σ g k, node-count-of ring) at fit.1 in
      may-stand k known stands (Buffer p) ((decides-way (nodes ring) p _ _ here to.0 to.1).passes near)

  in-line : (p k : ℕ) → p < nodes ring → 0 < times_in (line_at ring p) (channel_no k) → may_stand ring.head k (Line p) ≡ true
  unfolding enters
  in-line p k here m =
      let at : 0 < times_in (node σ (node_no p)).line (channel_no k) = rw (node_of ring p here) m in
      let fit = (s.facts.each-node p (known-node p here)).in-line k at in
      let known = known-channel k fit.0 in
      let stands : 1 ≤ times_on σ (channel_no k) = omega (arith, stands-on p k here) in
      let entered : p ≡ enters k known stands = rw (← entry-in σ (channel σ (channel_no k)).phase k) at fit.1 in
      may-stand k known stands (Line p) (eq-eqb p _ entered)

  rows-right : RowsRight ring (nodes ring)
  rows-right =
      record { buffers-used = buffer-used; lines-used = line-used; in-buffer = in-buffer; in-line = in-line }

  met-right : (met : Table) → AllMet ring met → (k : ℕ) → k < channels ring →
      get_or met k false ≡ has_message (get_or ring.head.phases k 0)
  met-right met t k l =
      let h = s.holds.channels k (omega (arith, within)) in
      same-one _ _ (t.once k ∙ times-in k ∙ times k)
      ∙ sym (ap has_message h.phase ∙ message-by-code (channel σ (channel_no k)).phase)

  messages-fit :
      MessagesFit ring
  messages-fit =
      let passed =
      all_pass ring within rows-right
      (λ k. omega (arith, times-in k, times k, one-most (moving (channel σ (channel_no k)).phase))) in
      let past_all : (p : ℕ) → nodes ring ≤ p → node σ (node_no p) ≡ no_node = λ p l. no-node σ p (rw (node-count-of ring) l) in
      record {
        slots-whole = s.holds.slots-whole;
        lines-whole = s.holds.lines-whole;
        slots-beyond =
            rows-beyond row_length node_room (nodes ring) (omega arith) ring.slots s.holds.slots-whole
            (λ p l m. rw (past_all p l) at (s.holds.nodes p m).buffer-row);
        lines-beyond =
            rows-beyond row_length node_room (nodes ring) (omega arith) ring.lines s.holds.lines-whole
            (λ p l m. rw (past_all p l) at (s.holds.nodes p m).line_row);
        met = passed.0;
        marked = passed.1;
        right = met-right passed.0 (all-met ring within passed.0 passed.1);
      }

  pub sound-fits : Fits ring
  sound-fits =
      record {
        counts = counts-fit ring s;
        nodes = nodes-fit ring s;
        channels = channels-fit ring s;
        records = records-fit ring s;
        messages = messages-fit;
        start = start_fits ring s;
      }
