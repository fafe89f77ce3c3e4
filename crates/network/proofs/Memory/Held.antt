-- Memory. The laws between a ring in memory and the ring that it holds (specs/Layout): a ring for which there is room is read off as it
-- was laid out; a ring in memory that is laid out as it should be is what is laid out for the ring that it holds; and a sound ring has
-- room, since its records are good and no line holds a channel twice.
use Prim.Native.Nat.{ℕ, ◌+◌, ◌≤◌, ◌<◌}
use mathlib.Core.Path.{◌≡◌, refl, sym, ap, subst, ◌∙◌}
use mathlib.Core.Logic.{◌↔◌}
use mathlib.Core.Bool.{Bool, true, false, false≢true}
use mathlib.Core.List.{List, [], ◌∷◌, append-nil}
use mathlib.Core.Option.{Option, none, some}
use native.Mathlib.Omega.{arith}
use lib.Dec.{eqb}
use lib.ListN.{length, get_or, get_or-eq_default}
use borrow.Author.Tests.{eq-eqb}
use Rattle.batch.specs.declared.BatchRecord.{BatchRecord}
use Rattle.wire.specs.Record.{record_length, record_bytes, record_in, RecordFits}
use Rattle.wire.proofs.Record.{record-reads-back, length-record}
use Rattle.wire.proofs.Good.{good-fits}
use Rattle.network.specs.declared.Ring.{Ring}
use Rattle.network.specs.declared.Head.{Head}
use Rattle.network.specs.Counting.{one, sum, tabulate}
use Rattle.network.specs.Network.{Network, NodeState, ChannelState, Phase, resting, asking, ready, answering, ring_of, fresh, node_no, channel_no, numbers_of, times_in, count_of_nodes, count_of_channels, no_node, no_channel, node, channel, moving, times_on}
use Rattle.network.specs.Sound.{good_offer, good_carried}
use Rattle.network.specs.Sound
use Rattle.network.specs.Layout.{ring_limits, node_room, channel_room, row_length, cell_room, record_room, row, padded, rows, cells_of, phase_code, phase_of, offered_flag, offer_of, view_node, view_channel, view, offer_bytes, carried_bytes, by_node, by_channel, head_of, ring_in, hold_head, hold, fresh_ring, same, same_head, same_ring, laid_out, sound_ring}
use Rattle.network.proofs.Ground.Counting.{sum-le, sum-term, sum_ones, length-counts, one-most}
use Rattle.network.proofs.Ground.Splits.{and_both, both_so}
use Rattle.network.proofs.Ground.Numbers.{length-numbers}
use Rattle.network.proofs.Ground.Tests.{reads, and-reads}
use Rattle.network.proofs.Lists.Clauses.{Facts, facts}
use Rattle.network.proofs.Memory.Rows.{padded-whole, get_d_tabulate, tabulate-is, queue-cells, rows-length, row-rows}

-- a ring for which there is room: in the arrays, in the rows, and in the bytes of a record

abbrev pub OfferFits : Option BatchRecord → Type 0
OfferFits none = Unit {0}
OfferFits (some x) = RecordFits x

abbrev pub CarriedFits : Phase → Type 0
CarriedFits resting = Unit {0}
CarriedFits asking = Unit {0}
CarriedFits ready = Unit {0}
CarriedFits (answering x) = RecordFits x

pub record Fits (σ : Network) : Type 0 where
  pub nodes-fit : count_of_nodes σ ≤ node_room
  pub channels-fit : count_of_channels σ ≤ channel_room
  pub buffer-fits : (p : ℕ) → p < count_of_nodes σ → length (node σ (node_no p)).buffer ≤ row_length
  pub line-fits : (p : ℕ) → p < count_of_nodes σ → length (node σ (node_no p)).line ≤ row_length
  pub offer-fits : (k : ℕ) → k < count_of_channels σ → OfferFits (channel σ (channel_no k)).offer
  pub carried-fits : (k : ℕ) → k < count_of_channels σ → CarriedFits (channel σ (channel_no k)).phase

-- what stands in the arrays of a ring in memory that holds σ

pub record HeldNode (ring : Ring) (σ : Network) (p : ℕ) : Type 0 where
  pub capacity : get_or ring.head.capacity p 0 ≡ (node σ (node_no p)).slots
  pub used : get_or ring.head.used p 0 ≡ length (node σ (node_no p)).buffer
  pub waiting : get_or ring.head.waiting p 0 ≡ length (node σ (node_no p)).line
  pub mark : get_or ring.head.marks p 0 ≡ one (node σ (node_no p)).mark
  pub buffer-row : row row_length ring.slots p ≡ padded row_length (cells_of (node σ (node_no p)).buffer)
  pub line_row : row row_length ring.lines p ≡ padded row_length (cells_of (node σ (node_no p)).line)

pub record HeldChannel (ring : Ring) (σ : Network) (k : ℕ) : Type 0 where
  pub sender : get_or ring.head.senders k 0 ≡ (channel σ (channel_no k)).sender.0
  pub receiver : get_or ring.head.receivers k 0 ≡ (channel σ (channel_no k)).receiver.0
  pub phase : get_or ring.head.phases k 0 ≡ phase_code (channel σ (channel_no k)).phase
  pub offered : get_or ring.head.offered k 0 ≡ offered_flag (channel σ (channel_no k)).offer
  pub offer-row : row record_length ring.offers k ≡ padded record_length (offer_bytes (channel σ (channel_no k)).offer)
  pub carried_row : row record_length ring.carried k ≡ padded record_length (carried_bytes (channel σ (channel_no k)).phase)

pub record Held (ring : Ring) (σ : Network) : Type 0 where
  pub started : ring.head.started ≡ one σ.started
  pub node-count : ring.head.node_count ≡ count_of_nodes σ
  pub channel-count : ring.head.channel_count ≡ count_of_channels σ
  pub deliveries : ring.head.deliveries ≡ σ.deliveries
  pub nodes : (p : ℕ) → p < node_room → HeldNode ring σ p
  pub channels : (k : ℕ) → k < channel_room → HeldChannel ring σ k
  pub slots-whole : length ring.slots ≡ cell_room
  pub lines-whole : length ring.lines ≡ cell_room
  pub offers-whole : length ring.offers ≡ record_room
  pub carried-whole : length ring.carried ≡ record_room

module _ (σ : Network) where
  by-node : (f : NodeState → ℕ) (p : ℕ) → p < node_room → get_or (by_node σ f) p 0 ≡ f (node σ (node_no p))
  by-node f p l = get_d_tabulate node_room (λ q. f (node σ (node_no q))) p 0 l

  by-channel : (f : ChannelState → ℕ) (k : ℕ) → k < channel_room → get_or (by_channel σ f) k 0 ≡ f (channel σ (channel_no k))
  by-channel f k l = get_d_tabulate channel_room (λ j. f (channel σ (channel_no j))) k 0 l

  pub held-node : (p : ℕ) → p < node_room → HeldNode (hold σ) σ p
  unfolding hold hold_head
  held-node p l =
      record {
        capacity = by-node (λ s. s.slots) p l;
        used = by-node (λ s. length s.buffer) p l;
        waiting = by-node (λ s. length s.line) p l;
        mark = by-node (λ s. one s.mark) p l;
        buffer-row = row-rows row_length node_room (λ q. cells_of (node σ (node_no q)).buffer) p l;
        line_row = row-rows row_length node_room (λ q. cells_of (node σ (node_no q)).line) p l;
      }

  pub held-channel : (k : ℕ) → k < channel_room → HeldChannel (hold σ) σ k
  unfolding hold hold_head
  held-channel k l =
      record {
        sender = by-channel (λ s. s.sender.0) k l;
        receiver = by-channel (λ s. s.receiver.0) k l;
        phase = by-channel (λ s. phase_code s.phase) k l;
        offered = by-channel (λ s. offered_flag s.offer) k l;
        offer-row = row-rows record_length channel_room (λ j. offer_bytes (channel σ (channel_no j)).offer) k l;
        carried_row = row-rows record_length channel_room (λ j. carried_bytes (channel σ (channel_no j)).phase) k l;
      }

  pub held : Held (hold σ) σ
  unfolding hold hold_head
  held =
      record {
        started = refl;
        node-count = refl;
        channel-count = refl;
        deliveries = refl;
        nodes = held-node;
        channels = held-channel;
        slots-whole = rows-length row_length node_room (λ p. cells_of (node σ (node_no p)).buffer);
        lines-whole = rows-length row_length node_room (λ p. cells_of (node σ (node_no p)).line);
        offers-whole = rows-length record_length channel_room (λ k. offer_bytes (channel σ (channel_no k)).offer);
        carried-whole = rows-length record_length channel_room (λ k. carried_bytes (channel σ (channel_no k)).phase);
      }

  pub no-node : (p : ℕ) → count_of_nodes σ ≤ p → node σ (node_no p) ≡ no_node
  no-node p l = get_or-eq_default σ.nodes no_node l

  pub no-channel : (k : ℕ) → count_of_channels σ ≤ k → channel σ (channel_no k) ≡ no_channel
  no-channel k l = get_or-eq_default σ.channels no_channel l

-- a ring that fits is read off as it was laid out

flag-read : (b : Bool) → eqb (one b) 1 ≡ b
flag-read true = refl
flag-read false = refl

pub record-kept : (x : BatchRecord) → RecordFits x → record_in (padded record_length (record_bytes x)) ≡ x
record-kept x f =
    ap record_in (padded-whole record_length (record_bytes x) (length-record f) ∙ sym (append-nil (record_bytes x))) ∙ record-reads-back x [] f

pub phase-read : (f : Phase) → CarriedFits f → phase_of (phase_code f) (record_in (padded record_length (carried_bytes f))) ≡ f
phase-read resting fit = refl
phase-read asking fit = refl
phase-read ready fit = refl
phase-read (answering x) fit = ap answering (record-kept x fit)

pub offer-read : (o : Option BatchRecord) → OfferFits o → offer_of (offered_flag o) (record_in (padded record_length (offer_bytes o))) ≡ o
offer-read none fit = refl
offer-read (some x) fit = ap some (record-kept x fit)

module _ (σ : Network) (fits : Fits σ) where
  node-read : (p : ℕ) → p < count_of_nodes σ → view_node (hold σ) p ≡ node σ (node_no p)
  node-read p l =
      let h = held-node σ p (omega (arith, fits.nodes-fit)) in
      let buffer = queue-cells row_length (node σ (node_no p)).buffer (fits.buffer-fits p l) in
      let line = queue-cells row_length (node σ (node_no p)).line (fits.line-fits p l) in
      rw (h.capacity, h.used, h.waiting, h.mark, h.buffer-row, h.line_row, buffer, line, flag-read (node σ (node_no p)).mark)

  channel-read : (k : ℕ) → k < count_of_channels σ → view_channel (hold σ) k ≡ channel σ (channel_no k)
  channel-read k l =
      let h = held-channel σ k (omega (arith, fits.channels-fit)) in
      let phase = phase-read (channel σ (channel_no k)).phase (fits.carried-fits k l) in
      let offer = offer-read (channel σ (channel_no k)).offer (fits.offer-fits k l) in
      rw (h.sender, h.receiver, h.phase, h.offered, h.offer-row, h.carried_row, phase, offer)

  pub view-hold : view (hold σ) ≡ σ
  unfolding view hold hold_head
  view-hold =
      let nodes : tabulate (count_of_nodes σ) (view_node (hold σ)) ≡ σ.nodes =
      tabulate-is (count_of_nodes σ) (view_node (hold σ)) no_node σ.nodes refl node-read in
      let channels : tabulate (count_of_channels σ) (view_channel (hold σ)) ≡ σ.channels =
      tabulate-is (count_of_channels σ) (view_channel (hold σ)) no_channel σ.channels refl channel-read in
      λ i. ring_of (flag-read σ.started i) (nodes i) (channels i) σ.deliveries

-- the test of the layout says that two rings are the same, and a ring passes it against itself

same-is : (xs ys : List ℕ) → same xs ys ≡ true → xs ≡ ys
unfolding same
same-is [] [] e = refl
same-is [] (y ∷ ys) e = absurd (false≢true e)
same-is (x ∷ xs) [] e = absurd (false≢true e)
same-is (x ∷ xs) (y ∷ ys) e = let parts = simp reads at e in rw (parts.0, same-is xs ys parts.1)

number-self : (x : ℕ) → eqb x x ≡ true
number-self x = eq-eqb x x refl

same_self : (xs : List ℕ) → same xs xs ≡ true
unfolding same
same_self [] = refl
same_self (x ∷ xs) = rw (number-self x, same_self xs)

same_reads : (xs ys : List ℕ) → (same xs ys ≡ true) ↔ (xs ≡ ys)
same_reads xs ys = (same-is xs ys, λ e. rw e (same_self ys))

ruleset sames = (reads, same_reads)

-- the parts of a head, from the last to the first
same-head-is : (a b : Head) → same_head a b ≡ true → a ≡ b
unfolding same_head
same-head-is a b e =
    let all = simp sames at e in
    both_so all λ all offered. both_so all λ all phases. both_so all λ all receivers. both_so all λ all senders.
    both_so all λ all marks. both_so all λ all waiting. both_so all λ all used. both_so all λ all capacity.
    both_so all λ all spare. both_so all λ all channels. both_so all λ all nodes. both_so all λ deliveries started.
    λ i.
    head_of (deliveries i) (started i) (nodes i) (channels i) (spare i) (capacity i) (used i) (waiting i) (marks i)
    (senders i) (receivers i) (phases i) (offered i)

same-head-self : (a : Head) → same_head a a ≡ true
unfolding same_head
same-head-self a = simp (number-self, same_self)

same-ring-is : (a b : Ring) → same_ring a b ≡ true → a ≡ b
unfolding same_ring
same-ring-is a b e =
    let all = simp sames at e in
    both_so all λ all carried. both_so all λ all offers. both_so all λ all lines. both_so all λ head slots.
    λ i. ring_in (same-head-is a.head b.head head i) (slots i) (lines i) (offers i) (carried i)

same-ring-self : (a : Ring) → same_ring a a ≡ true
unfolding same_ring
same-ring-self a = simp (same-head-self, same_self)

-- so a ring that is laid out is the one that is laid out for what it holds, and what is laid out for a ring that fits passes

pub hold-view : (ring : Ring) → laid_out ring ≡ true → hold (view ring) ≡ ring
unfolding laid_out
hold-view ring e = same-ring-is (hold (view ring)) ring e

pub held-laid-out : (ring : Ring) → hold (view ring) ≡ ring → laid_out ring ≡ true
unfolding laid_out
held-laid-out ring e = rw e (same-ring-self ring)

-- the fresh ring

pub hold-fresh : hold fresh ≡ fresh_ring
unfolding hold hold_head rows padded tabulate
hold-fresh = refl

pub view-fresh : view fresh_ring ≡ fresh
unfolding view tabulate
view-fresh = refl

-- a sound ring fits: its buffers are within their slots, a line holds no channel twice, and good records fit their types

offer-good : (o : Option BatchRecord) → good_offer o ≡ true → OfferFits o
offer-good none e = tt
offer-good (some x) e = good-fits x e

carried-good : (f : Phase) → good_carried f ≡ true → CarriedFits f
carried-good resting e = tt
carried-good asking e = tt
carried-good ready e = tt
carried-good (answering x) e = good-fits x e

module _ (σ : Network) (h : Facts ring_limits σ) where
  once : (p k : ℕ) → p < count_of_nodes σ → k < count_of_channels σ → times_in (node σ (node_no p)).line (channel_no k) ≤ 1
  once p k l m =
      let here : times_in (node σ (node_no p)).buffer (channel_no k) + times_in (node σ (node_no p)).line (channel_no k) ≤ times_on σ (channel_no k) =
      sum-term (count_of_nodes σ) p (λ q. times_in (node σ (node_no q)).buffer (channel_no k) + times_in (node σ (node_no q)).line (channel_no k)) l in
      omega (arith, (h.each-channel k m).once, one-most (moving (channel σ (channel_no k)).phase))

  sound-line : (p : ℕ) → p < count_of_nodes σ → length (node σ (node_no p)).line ≤ row_length
  sound-line p l =
      let counts : length (node σ (node_no p)).line ≡ sum (count_of_channels σ) (λ k. times_in (node σ (node_no p)).line (channel_no k)) =
      rw (← length-numbers (node σ (node_no p)).line)
      (length-counts (count_of_channels σ) (numbers_of (node σ (node_no p)).line) (λ k m. ((h.each-node p l).in-line k m).0)) in
      let most : sum (count_of_channels σ) (λ k. times_in (node σ (node_no p)).line (channel_no k)) ≤ sum (count_of_channels σ) (λ k. 1) =
      sum-le (count_of_channels σ) (λ k. times_in (node σ (node_no p)).line (channel_no k)) (λ k. 1) (λ k m. once p k l m) in
      omega (arith, sum_ones (count_of_channels σ), h.channel-limit)

  pub sound-fits : Fits σ
  sound-fits =
      record {
        nodes-fit = h.node-limit;
        channels-fit = h.channel-limit;
        buffer-fits = λ p l. omega (arith, (h.each-node p l).fits, (h.each-node p l).slot-limit);
        line-fits = sound-line;
        offer-fits = λ k l. offer-good (channel σ (channel_no k)).offer (h.each-channel k l).good-offer;
        carried-fits = λ k l. carried-good (channel σ (channel_no k)).phase (h.each-channel k l).good-carried;
      }

-- a sound ring in memory: what is known of it, and what shows that a ring is one

pub record SoundRing (ring : Ring) : Type 0 where
  pub laid-out : hold (view ring) ≡ ring
  pub sound : Sound.sound ring_limits (view ring) ≡ true
  pub facts : Facts ring_limits (view ring)
  pub fits : Fits (view ring)
  pub holds : Held ring (view ring)

pub sound-ring : (ring : Ring) → sound_ring ring ≡ true → SoundRing ring
unfolding sound_ring
sound-ring ring e =
    both_so (simp and-reads at e) λ laid sound.
    let known = facts ring_limits (view ring) sound in
    let laid-out : hold (view ring) ≡ ring = hold-view ring laid in
    record {
      laid-out = laid-out;
      sound = sound;
      facts = known;
      fits = sound-fits (view ring) known;
      holds = subst (λ r. Held r (view ring)) laid-out (held (view ring));
    }

pub is-sound-ring : (ring : Ring) → hold (view ring) ≡ ring → Sound.sound ring_limits (view ring) ≡ true → sound_ring ring ≡ true
unfolding sound_ring
is-sound-ring ring laid-out sound = and_both _ _ (held-laid-out ring laid-out) sound

-- a sound ring is laid out as a sound ring in memory, which holds it
pub sound-view : (σ : Network) → Sound.sound ring_limits σ ≡ true → view (hold σ) ≡ σ
sound-view σ e = view-hold σ (sound-fits σ (facts ring_limits σ e))

pub sound-hold : (σ : Network) → Sound.sound ring_limits σ ≡ true → sound_ring (hold σ) ≡ true
sound-hold σ e =
    let back = sound-view σ e in
    is-sound-ring (hold σ) (ap hold back) (rw back e)
