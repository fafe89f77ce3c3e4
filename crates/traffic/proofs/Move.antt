-- The call "move" at a node of a sound started ring. The first cell of the buffer is a message under way on a channel of the ring; each
-- refusal and each of the three ways it goes (taken, delivered, passed on) by the tests that the code makes.
use Prim.Native.Nat.{ℕ, suc, ◌-◌, ◌*◌, ◌≤◌, ◌<◌}
use mathlib.Core.Path.{◌≡◌, refl, sym, ap, subst, ◌∙◌}
use mathlib.Core.Logic.{◌≢◌}
use mathlib.Core.Bool.{true, false}
use mathlib.Core.List.{List, ◌∷◌}
use mathlib.Core.Option.{Option, none, some}
use native.Mathlib.Omega.{arith}
use lib.ListN.{length, get_or, length-set}
use lib.Seq.{get_or-set_same, get_or-set_other, set-set}
use borrow.Author.Tests.{lt-ltb, le-ltb, eq-eqb, ne_eqb}
use Rattle.std.specs.Prelude.{Ok}
use Rattle.refusal.specs.declared.Refusal.TheVariants.{BufferEmpty, NextBufferFull, TurnMarkSet}
use Rattle.batch.specs.declared.BatchRecord.{BatchRecord}
use Rattle.numbers.specs.declared.ChannelNo.{ChannelNo}
use Rattle.wire.specs.Record.{record_length, record_in}
use Rattle.hops.specs.Hops.{next}
use Rattle.hops.proofs.Laws.{next-below}
use Rattle.network.specs.declared.Ring.{Ring}
use Rattle.network.specs.declared.Answer.TheVariants.{Delivered}
use Rattle.network.specs.Network.{Network, NodeState, ChannelState, Phase, resting, asking, ready, answering, node_no, channel_no, numbers_of, times_in, count_of_nodes, count_of_channels, no_node, no_channel, node, channel, next_node, moving, target_of, target, with_channel}
use Rattle.network.specs.Calls.{Outcome, done, delivered, refused, accepted, Arrival, taken, passing, arrived, arrival_of, arrival, respond, take_request, deliver, leave, pass, hand_over, move_first}
use Rattle.network.specs.Calls
use Rattle.network.specs.Runs
use Rattle.network.specs.Layout.{ring_limits, node_room, channel_room, row_length, row, padded, cells_of, phase_code, offered_flag, offer_bytes, carried_bytes, record_at, view, hold, held_outcome, call_ring}
use Rattle.network.proofs.Ground.Splits.{by-list, by-phase, by-same, both_ways}
use Rattle.network.proofs.Ground.Counting.{count_same, weigh-cons}
use Rattle.network.proofs.Lists.Tables.{net_of}
use Rattle.network.proofs.Lists.Clauses.{sound-started}
use Rattle.network.proofs.Theory.Kept.{first-moving}
use Rattle.network.proofs.Memory.Held.{Fits, OfferFits, CarriedFits, HeldNode, HeldChannel, SoundRing, record-kept, held-node}
use Rattle.network.proofs.Memory.Changes.{fits-with-node, fits-with-channel}
use Rattle.updates.specs.Flat.{capacity_at, used_at, mark_at, phase_at, offered_at, sender_at, receiver_at, target_by, left, passed, phased, unoffered, responded, handed_out}
use Rattle.updates.specs.Known.{CanRespond, AtNode, Leaves, Takes, Delivers, Passes}
use Rattle.updates.proofs.Openings.{Answered, sound-called, accepted-fits, marked, unmarked}
use Rattle.updates.proofs.FlatLaws.{first_cell, left-held, passed-held, phased-held, unoffered-held, handed-out-held}
use Rattle.updates.proofs.Messages.{Answerable, can-respond, responded-held}
use Rattle.updates.proofs.Reading.{node-known, node-there, node-within, node-numbers, node-running, empty-length, asking-code, none-flag}

module _ {ring : Ring} {p : ℕ} (h : AtNode ring p) where
  called : Calls.move (node_no p) (view ring) ≡ move_first (node_no p) (node (view ring) (node_no p)).buffer (view ring)
  unfolding Calls.move
  called = rw (node-running h, lt-ltb _ _ (node-there h))

  in_memory : call_ring (Runs.move (node_no p)) ring ≡ held_outcome (Calls.move (node_no p) (view ring))
  in_memory = sound-called (Runs.move (node_no p)) ring h.ok

  pub move-empty : used_at ring.head p ≡ 0 → call_ring (Runs.move (node_no p)) ring ≡ refused BufferEmpty
  move-empty e =
      in_memory ∙ ap held_outcome called ∙ rw (empty-length (node (view ring) (node_no p)).buffer (sym (node-numbers h).used ∙ e))

-- the tests that find a first of the buffer
pub leaves-first : {ring : Ring} {p : ℕ} → AtNode ring p → used_at ring.head p ≢ 0 → Leaves ring p (get_or ring.slots (row_length * p) 0)
leaves-first h used = record { at-node = h; some = used; first = refl }

-- the first of the buffer of p: its channel k, and those behind it
record FirstOf (σ : Network) (p cell k : ℕ) : Type 0 where
  ks : List ChannelNo
  buffer-is : (node σ (node_no p)).buffer ≡ channel_no k ∷ ks
  cell-is : cell ≡ suc k
  known : k < count_of_channels σ
  moves : moving (channel σ (channel_no k)).phase ≡ true

-- the node that takes a message under way is its target
target-here : (s : ChannelState) → moving s.phase ≡ true →
    target_by (phase_code s.phase) s.sender.0 s.receiver.0 ≡ (target_of s s.phase).0
target-here s m =
    by-phase s.phase (λ f. both_ways m (ap moving f)) (λ f. rw f) (λ f. both_ways m (ap moving f)) (λ x f. rw f)

passing-by : (f : Phase) → arrival_of f false ≡ passing
passing-by resting = refl
passing-by asking = refl
passing-by ready = refl
passing-by (answering x) = refl

module _ {ring : Ring} {p cell : ℕ} (h : Leaves ring p cell) where
  abbrev σ : Network
  σ = view ring

  abbrev at : AtNode ring p
  at = h.at-node

  abbrev known : SoundRing ring
  known = node-known at

  first : FirstOf σ p cell (cell - 1)
  first =
      let t = (sound-started ring_limits σ known.sound (node-running at)).tables in
      by-list (node σ (node_no p)).buffer (λ e. absurd (h.some ((node-numbers at).used ∙ ap length e))) λ k ks e.
      let front : row row_length ring.slots p ≡ padded row_length (cells_of (k ∷ ks)) =
      (node-numbers at).buffer-row ∙ ap (λ xs. padded row_length (cells_of xs)) e in
      let standing : 0 < times_in (node σ (node_no p)).buffer k = rw (e, weigh-cons) (omega (arith, count_same k.0)) in
      let cell-is : cell ≡ suc k.0 = h.first ∙ first_cell ring.slots p k ks front in
      subst (FirstOf σ p cell) (omega arith)
      (record {
        ks = ks;
        buffer-is = e;
        cell-is = cell-is;
        known = ((known.facts.each-node p (node-there at)).in-buffer k.0 standing).0;
        moves = first-moving (net_of σ) t p k.0 (numbers_of ks) (node-there at) (ap numbers_of e);
      })

  abbrev k : ℕ
  k = cell - 1

  abbrev ks : List ChannelNo
  ks = first.ks

  -- what the code asks: it reads channel k
  pub cell-used : 0 < cell
  cell-used = omega (arith, first.cell-is)

  pub cell-within : k < channel_room
  cell-within = omega (arith, first.known, known.fits.channels-fit)

  pub can-leave : (p < node_room) × (0 < used_at ring.head p)
  can-leave = (node-within at, omega (arith, h.some))

  -- the channel's numbers
  channel-is : HeldChannel ring σ k
  channel-is = known.holds.channels k cell-within

  target_is : target_by (phase_at ring.head k) (sender_at ring.head k) (receiver_at ring.head k) ≡ (target σ (channel_no k)).0
  target_is =
      (λ i. target_by (channel-is.phase i) (channel-is.sender i) (channel-is.receiver i))
      ∙ target-here (channel σ (channel_no k)) first.moves

  next-is : (next_node σ (node_no p)).0 ≡ next ring.head.node_count p
  next-is = ap (λ n. next n p) (sym known.holds.node-count)

  -- the ring without the message
  abbrev behind : Network
  behind = leave (node_no p) ks σ

  behind-held : left ring p ≡ hold behind
  behind-held =
      ap (λ r. left r p) (sym known.laid-out) ∙ left-held σ known.fits p (node-there at) (channel_no k) ks first.buffer-is

  behind-fits : Fits behind
  behind-fits =
      fits-with-node σ known.fits p ks _ _ (node-there at)
      (omega (arith, known.fits.buffer-fits p (node-there at), ap length first.buffer-is))
      (known.fits.line-fits p (node-there at))

  -- the call, once it is known how the message arrives
  handed : {w : Arrival} → arrival σ (next_node σ (node_no p)) (channel_no k) ≡ w →
      Calls.move (node_no p) σ ≡ hand_over (node_no p) (next_node σ (node_no p)) (channel_no k) ks w σ
  handed e = called at ∙ rw (first.buffer-is, e)

  sender-there : (channel σ (channel_no k)).sender.0 < count_of_nodes behind
  sender-there = rw length-set (known.facts.each-channel k first.known).sender-below

-- a record that is offered or carried is the one that the code reads

offer-is : (o : Option BatchRecord) (bytes : List ℕ) → OfferFits o → bytes ≡ padded record_length (offer_bytes o) → offered_flag o ≢ 0 →
    o ≡ some (record_in bytes)
offer-is none bytes fit e has = absurd (has refl)
offer-is (some x) bytes fit e has = ap some (sym (ap record_in e ∙ record-kept x fit))

carried-is : (f : Phase) (bytes : List ℕ) → CarriedFits f → bytes ≡ padded record_length (carried_bytes f) → moving f ≡ true →
    phase_code f ≢ 1 → f ≡ answering (record_in bytes)
carried-is resting bytes fit e m other = both_ways m refl
carried-is asking bytes fit e m other = absurd (other refl)
carried-is ready bytes fit e m other = both_ways m refl
carried-is (answering x) bytes fit e m other = ap answering (sym (ap record_in e ∙ record-kept x fit))

-- a response does not see the offer that it takes out
respond-after : (σ : Network) (k : ℕ) (f : Phase) (x : BatchRecord) → k < count_of_channels σ →
    respond (channel_no k) x (with_channel (channel_no k) f none σ) ≡ respond (channel_no k) x σ
respond-after σ k f x l =
    let s : ChannelState =
    record { sender = (channel σ (channel_no k)).sender; receiver = (channel σ (channel_no k)).receiver; phase = f; offer = none } in
    rw (get_or-set_same σ.channels k s no_channel l, set-set σ.channels k s)

-- a request is taken

module _ {ring : Ring} {p cell : ℕ} (t : Takes ring p cell) where
  abbrev from : Leaves ring p cell
  from = t.leaves

  abbrev asker : ℕ
  asker = k from

  is-asking : (channel (view ring) (channel_no asker)).phase ≡ asking
  is-asking = asking-code _ (sym (channel-is from).phase ∙ t.asks)

  arrives-taken : arrival (view ring) (next_node (view ring) (node_no p)) (channel_no asker) ≡ taken
  unfolding arrival
  arrives-taken =
      let same : (next_node (view ring) (node_no p)).0 ≡ (target (view ring) (channel_no asker)).0 =
      next-is from ∙ sym t.arrives ∙ (channel-is from).sender
      ∙ ap (λ f. (target_of (channel (view ring) (channel_no asker)) f).0) (sym is-asking) in
      rw (eq-eqb _ _ same, is-asking)

  takes : Calls.move (node_no p) (view ring)
      ≡ accepted done (take_request (channel_no asker) (channel (view ring) (channel_no asker)).offer (behind from))
  takes = handed from arrives-taken

  -- no record is offered: the channel becomes ready
  pub take-ready : offered_at ring.head asker ≡ 0 → call_ring (Runs.move (node_no p)) ring ≡ accepted done (phased (left ring p) asker 2)
  take-ready bare =
      let no-offer : (channel (view ring) (channel_no asker)).offer ≡ none = none-flag _ (sym (channel-is from).offered ∙ bare) in
      let memory : phased (left ring p) asker 2 ≡ hold (with_channel (channel_no asker) ready none (behind from)) =
      ap (λ r. phased r asker 2) (behind-held from)
      ∙ phased-held (behind from) (behind-fits from) asker (first from).known ready (rw is-asking)
      ∙ ap (λ o. hold (with_channel (channel_no asker) ready o (behind from))) no-offer in
      in_memory (at from)
      ∙ ap held_outcome (takes ∙ ap (λ o. accepted done (take_request (channel_no asker) o (behind from))) no-offer)
      ∙ ap (accepted done) (sym memory)

  -- a record is offered: it goes out as the response
  module _ (has : offered_at ring.head asker ≢ 0) where
    abbrev x : BatchRecord
    x = record_at ring.offers asker

    is-offered : (channel (view ring) (channel_no asker)).offer ≡ some x
    is-offered =
        offer-is _ _ ((known from).fits.offer-fits asker (first from).known) (channel-is from).offer-row
        (λ e. has ((channel-is from).offered ∙ e))

    responds : Calls.move (node_no p) (view ring) ≡ accepted done (respond (channel_no asker) x (behind from))
    responds = takes ∙ ap (λ o. accepted done (take_request (channel_no asker) o (behind from))) is-offered

    -- the ring without the offer
    abbrev bare : Network
    bare = with_channel (channel_no asker) (channel (behind from) (channel_no asker)).phase none (behind from)

    bare-held : unoffered (left ring p) asker ≡ hold bare
    bare-held =
        ap (λ r. unoffered r asker) (behind-held from)
        ∙ unoffered-held (behind from) (behind-fits from) asker (first from).known

    bare-channel : channel bare (channel_no asker)
        ≡ record {
          sender = (channel (view ring) (channel_no asker)).sender;
          receiver = (channel (view ring) (channel_no asker)).receiver;
          phase = (channel (view ring) (channel_no asker)).phase;
          offer = none;
        }
    bare-channel = get_or-set_same (behind from).channels asker _ no_channel (first from).known

    response-is : respond (channel_no asker) x bare ≡ respond (channel_no asker) x (behind from)
    response-is = respond-after (behind from) asker _ x (first from).known

    answerable : Answerable bare asker x
    answerable =
        record {
          fits =
              fits-with-channel (behind from) (behind-fits from) asker _ none (first from).known tt
              ((behind-fits from).carried-fits asker (first from).known);
          known = rw length-set (first from).known;
          record-fits = subst OfferFits is-offered ((known from).fits.offer-fits asker (first from).known);
          bare = ap (λ s. s.offer) bare-channel;
          sender-there = rw bare-channel (sender-there from);
          next_fits = subst Fits (sym response-is) (accepted-fits ring (at from).ok (Runs.move (node_no p)) responds);
        }

    pub take-responds : call_ring (Runs.move (node_no p)) ring ≡ accepted done (responded (unoffered (left ring p) asker) asker x)
    take-responds =
        in_memory (at from)
        ∙ ap held_outcome responds
        ∙ ap (accepted done) (sym (responded-held answerable (sym bare-held) ∙ ap hold response-is))

    -- its sender node's line has room for the response
    pub take-room : CanRespond (unoffered (left ring p) asker).head asker
    take-room = can-respond answerable (sym bare-held)

-- a response is delivered

-- the ring and the reply after an accepted call that delivers
pub hands-out : (ring : Ring) {next : Ring} {o : Outcome Ring} {k : ChannelNo} {x : BatchRecord} → o ≡ accepted (delivered k x) next →
    Answered ring o next (Ok (Delivered k x))
hands-out ring law = rw law (refl, refl)

module _ {ring : Ring} {p cell : ℕ} (t : Delivers ring p cell) where
  abbrev leaving : Leaves ring p cell
  leaving = t.leaves

  abbrev record-carried : BatchRecord
  record-carried = record_at ring.carried (cell - 1)

  is-answering : (channel (view ring) (channel_no (k leaving))).phase ≡ answering record-carried
  is-answering =
      carried-is _ _ ((known leaving).fits.carried-fits (k leaving) (first leaving).known) (channel-is leaving).carried_row
      (first leaving).moves
      (λ e. t.answers ((channel-is leaving).phase ∙ e))

  arrives-delivered : arrival (view ring) (next_node (view ring) (node_no p)) (channel_no (k leaving)) ≡ arrived record-carried
  unfolding arrival
  arrives-delivered =
      let same : (next_node (view ring) (node_no p)).0 ≡ (target (view ring) (channel_no (k leaving))).0 =
      next-is leaving
      ∙ sym t.arrives
      ∙ (channel-is leaving).receiver
      ∙ ap (λ f. (target_of (channel (view ring) (channel_no (k leaving))) f).0) (sym is-answering) in
      rw (eq-eqb _ _ same, is-answering)

  pub deliver-done : call_ring (Runs.move (node_no p)) ring
      ≡ accepted (delivered (channel_no (k leaving)) record-carried) (handed_out (left ring p) (k leaving))
  deliver-done =
      let memory : handed_out (left ring p) (k leaving) ≡ hold (deliver (channel_no (k leaving)) (behind leaving)) =
      ap (λ r. handed_out r (k leaving)) (behind-held leaving)
      ∙ handed-out-held (behind leaving) (behind-fits leaving) (k leaving) (first leaving).known in
      in_memory (at leaving)
      ∙ ap held_outcome (handed leaving arrives-delivered)
      ∙ ap (accepted (delivered (channel_no (k leaving)) record-carried)) (sym memory)

-- anything else passes on

-- what stands in a buffer once a message has left its own
left-shorter : (σ : Network) (p q : ℕ) (k : ChannelNo) (ks : List ChannelNo) → p < count_of_nodes σ → (node σ (node_no p)).buffer ≡ k ∷ ks →
    length (node (leave (node_no p) ks σ) (node_no q)).buffer ≤ length (node σ (node_no q)).buffer
left-shorter σ p q k ks l e =
    let s : NodeState =
    record { slots = (node σ (node_no p)).slots; buffer = ks; line = (node σ (node_no p)).line; mark = (node σ (node_no p)).mark } in
    by-same q p
    (λ same. rw (same, get_or-set_same σ.nodes p s no_node l, e) (omega arith))
    (λ other. rw (get_or-set_other σ.nodes p q s no_node other) (omega arith))

module _ {ring : Ring} {p q cell : ℕ} (t : Passes ring p q cell) where
  abbrev goes : Leaves ring p cell
  goes = t.leaves

  q-is : q ≡ (next_node (view ring) (node_no p)).0
  q-is = t.next-is ∙ sym (next-is goes)

  q-there : q < count_of_nodes (view ring)
  q-there = rw q-is (next-below (count_of_nodes (view ring)) p (node-there (at goes)))

  -- both nodes of the move are there
  pub nodes_within : (p < node_room) × (q < node_room)
  nodes_within = (node-within (at goes), omega (arith, q-there, (known goes).fits.nodes-fit))

  arrives-passing : arrival (view ring) (next_node (view ring) (node_no p)) (channel_no (k goes)) ≡ passing
  unfolding arrival
  arrives-passing =
      let other : (next_node (view ring) (node_no p)).0 ≢ (target (view ring) (channel_no (k goes))).0 =
      λ e. t.elsewhere (target_is goes ∙ sym e ∙ sym q-is) in
      rw (ne_eqb _ _ other) (passing-by (channel (view ring) (channel_no (k goes))).phase)

  passes : Calls.move (node_no p) (view ring) ≡ hand_over (node_no p) (node_no q) (channel_no (k goes)) (ks goes) passing (view ring)
  passes = handed goes arrives-passing ∙ ap (λ r. hand_over (node_no p) (node_no r) (channel_no (k goes)) (ks goes) passing (view ring)) (sym q-is)

  next-numbers : HeldNode ring (view ring) q
  next-numbers = (known goes).holds.nodes q nodes_within.1

  pub pass-full : capacity_at ring.head q ≤ used_at ring.head q → call_ring (Runs.move (node_no p)) ring ≡ refused NextBufferFull
  pass-full full =
      in_memory (at goes)
      ∙ ap held_outcome passes
      ∙ rw (le-ltb _ _ (rw (next-numbers.capacity, next-numbers.used) at full))

  module _ (free : used_at ring.head q < capacity_at ring.head q) where
    slot : length (node (view ring) (node_no q)).buffer < (node (view ring) (node_no q)).slots
    slot = rw (next-numbers.capacity, next-numbers.used) at free

    pub pass-marked : mark_at ring.head q ≢ 0 → call_ring (Runs.move (node_no p)) ring ≡ refused TurnMarkSet
    pass-marked set =
        in_memory (at goes)
        ∙ ap held_outcome passes
        ∙ rw (lt-ltb _ _ slot, marked (node (view ring) (node_no q)).mark (λ e. set (next-numbers.mark ∙ e)))

    still : q < count_of_nodes (behind goes)
    still = rw length-set q-there

    room : length (node (behind goes) (node_no q)).buffer < row_length
    room =
        omega (
          arith,
          slot,
          left-shorter (view ring) p q (channel_no (k goes)) (ks goes) (node-there (at goes)) (first goes).buffer-is,
          ((known goes).facts.each-node q q-there).slot-limit,
        )

    pub pass-room : used_at (left ring p).head q < row_length
    pass-room =
        subst (λ r. used_at r.head q < row_length) (sym (behind-held goes))
        (rw (held-node (behind goes) q nodes_within.1).used room)

    pub pass-done : mark_at ring.head q ≡ 0 → call_ring (Runs.move (node_no p)) ring ≡ accepted done (passed (left ring p) q cell)
    pass-done clear =
        let memory : passed (left ring p) q cell ≡ hold (pass (node_no q) (channel_no (k goes)) (behind goes)) =
        ap (λ r. passed r q cell) (behind-held goes)
        ∙ ap (passed (hold (behind goes)) q) (first goes).cell-is
        ∙ passed-held (behind goes) (behind-fits goes) q still (channel_no (k goes)) room in
        in_memory (at goes)
        ∙ ap held_outcome passes
        ∙ rw (lt-ltb _ _ slot, unmarked (node (view ring) (node_no q)).mark (sym next-numbers.mark ∙ clear))
        (ap (accepted done) (sym memory))
