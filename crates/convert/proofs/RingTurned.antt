-- What the code makes of a ring, bytes and all, is what the definition says of the ring that they hold: the two tests agree, and where they
-- pass the ring in memory is the turned one.
use Prim.Native.Nat.{ℕ, zero, suc, ◌*◌, ◌<◌, ◌≤◌, ◌^◌}
use mathlib.Core.Path.{◌≡◌, refl, sym, ap, subst, ◌∙◌}
use mathlib.Core.Bool.{Bool, true, false, ◌&&◌}
use mathlib.Core.List.{List, [], ◌∷◌, ◌++◌, map}
use mathlib.Core.Option.{Option, none, some}
use mathlib.Core.Logic.{◌⊎◌, inl, inr}
use native.Mathlib.Omega.{arith}
use lib.Dec.{leb, eqb, ltb}
use lib.IntN.{ℤ, pos, negsuc}
use lib.Signed.{mag}
use lib.ListN.{length, get_or, take, length-map, drop_of_length-le}
use borrow.Author.Tests.{leb-true, ltb-true, ltb-false}
use Rattle.refusal.specs.declared.Refusal.TheVariants.{UnsoundRing}
use Rattle.batch.specs.declared.BatchRecord.{BatchRecord}
use Rattle.batch.specs.Good.{every}
use Rattle.numbers.proofs.Splits.{by-test}
use Rattle.batch.specs.Sending.{in_tenths}
use Rattle.wire.specs.Bytes.{number, signed, Bytes}
use Rattle.wire.specs.Record.{record_length, record_bytes, record_in}
use Rattle.network.specs.declared.Ring.{Ring}
use Rattle.network.specs.Counting.{tabulate}
use Rattle.network.specs.Network.{Network, ChannelState, Phase, resting, asking, ready, answering, ring_of, no_channel, channel_no, channel, count_of_channels}
use Rattle.network.specs.Sound.{sound}
use Rattle.network.specs.Calls.{done, refused, accepted}
use Rattle.network.specs.Layout.{ring_limits, channel_room, record_room, row, rows, record_at, phase_code, phase_of, offered_flag, offer_of, offer_bytes, carried_bytes, view_node, view_channel, view, hold, hold_head, laid_out, sound_ring, ring_in}
use Rattle.network.proofs.Ground.Tests.{all-below}
use Rattle.network.proofs.Ground.Splits.{both_ways, and_left, and_right, and_both}
use Rattle.network.proofs.Lists.Clauses.{facts}
use Rattle.network.proofs.Memory.Rows.{length-tabulate, get_d_tabulate, tabulate-same, rows-length, rows_same}
use Rattle.network.proofs.Memory.Held.{OfferFits, CarriedFits, Fits, no-channel, hold-view, held-laid-out, sound-fits, sound-ring, sound-hold}
use Rattle.convert.specs.TurnedRing.{tenfold_record, tenfold_offer, tenfold_phase, tenfold_channel, tenfold_ring, offer_in_tenths, phase_in_tenths, channel_in_tenths, sound_in_tenths, turn_ring}
use Rattle.convert.specs.RingPass.{turned_record, turned_records, records_in_tenths}
use Rattle.convert.proofs.RingBytes.{with-temperature, tenfold-is, read-turned, rows_back, held-in-tenths, held-turned}

-- ---- channels
get_d_map : {A : Type 0} (f : A → A) (xs : List A) (k : ℕ) (d : A) → get_or (map f xs) k (f d) ≡ f (get_or xs k d)
get_d_map f [] k d = refl
get_d_map f (x ∷ xs) zero d = refl
get_d_map f (x ∷ xs) (suc k) d = get_d_map f xs k d

pub channel-tenfold : (σ : Network) (k : ℕ) → channel (tenfold_ring σ) (channel_no k) ≡ tenfold_channel (channel σ (channel_no k))
channel-tenfold σ k = get_d_map tenfold_channel σ.channels k no_channel

-- what is carried, as an offer
abbrev carried_in : Phase → Option BatchRecord
carried_in resting = none
carried_in asking = none
carried_in ready = none
carried_in (answering x) = some x

carried-bytes : (f : Phase) → carried_bytes f ≡ offer_bytes (carried_in f)
carried-bytes resting = refl
carried-bytes asking = refl
carried-bytes ready = refl
carried-bytes (answering x) = refl

carried-tenfold : (f : Phase) → carried_bytes (tenfold_phase f) ≡ offer_bytes (tenfold_offer (carried_in f))
carried-tenfold resting = refl
carried-tenfold asking = refl
carried-tenfold ready = refl
carried-tenfold (answering x) = refl

code-tenfold : (f : Phase) → phase_code (tenfold_phase f) ≡ phase_code f
code-tenfold resting = refl
code-tenfold asking = refl
code-tenfold ready = refl
code-tenfold (answering x) = refl

flag-tenfold : (o : Option BatchRecord) → offered_flag (tenfold_offer o) ≡ offered_flag o
flag-tenfold none = refl
flag-tenfold (some x) = refl

-- the head of a ring says nothing of temperatures
head-tenfold : (σ : Network) → hold_head (tenfold_ring σ) ≡ hold_head σ
unfolding hold_head
head-tenfold σ =
    let each : (f : ChannelState → ℕ) → ((s : ChannelState) → f (tenfold_channel s) ≡ f s) →
    tabulate channel_room (λ k. f (channel (tenfold_ring σ) (channel_no k))) ≡ tabulate channel_room (λ k. f (channel σ (channel_no k))) =
    λ f same. tabulate-same channel_room _ _ (λ k l. ap f (channel-tenfold σ k) ∙ same (channel σ (channel_no k))) in
    rw (
      each (λ s. s.sender.0) (λ s. refl),
      each (λ s. s.receiver.0) (λ s. refl),
      each (λ s. phase_code s.phase) (λ s. code-tenfold s.phase),
      each (λ s. offered_flag s.offer) (λ s. flag-tenfold s.offer),
      length-map σ.channels tenfold_channel,
    )

-- ---- a ring and its bytes, read where every temperature is one in tenths

-- past the records nothing is read
row-past : (b : List ℕ) (k : ℕ) → length b ≡ record_room → channel_room ≤ k → row record_length b k ≡ []
unfolding row
row-past b k whole l =
    let past : length b ≤ record_length * k = omega arith in
    ap (take record_length) (drop_of_length-le b past)

nothing-tenfold : tenfold_record (record_in []) ≡ record_in []
unfolding record_in number signed
nothing-tenfold = refl

nothing-in-tenths : in_tenths (record_in []).temperature ≡ true
unfolding record_in number signed
nothing-in-tenths = refl

module _ (b : List ℕ) (s : Bytes b) (whole : length b ≡ record_room) (tenths : records_in_tenths b ≡ true) where
  within : (k : ℕ) → k < channel_room → in_tenths (record_at b k).temperature ≡ true
  unfolding records_in_tenths
  within k l = all-below channel_room (λ j. in_tenths (record_at b j).temperature) tenths k l

  any-in-tenths : (k : ℕ) → in_tenths (record_at b k).temperature ≡ true
  any-in-tenths k =
      by-test (ltb k channel_room)
      (λ e. within k (ltb-true k channel_room e))
      (λ e. ap (λ r. in_tenths (record_in r).temperature) (row-past b k whole (ltb-false k channel_room e)) ∙ nothing-in-tenths)

  turned-whole : length (turned_records b) ≡ record_room
  unfolding turned_records
  turned-whole = rows-length record_length channel_room (λ k. record_bytes (turned_record (record_at b k)))

  any-tenfold : (k : ℕ) → record_at (turned_records b) k ≡ tenfold_record (record_at b k)
  any-tenfold k =
      by-test (ltb k channel_room)
      (λ e. let l = ltb-true k channel_room e in read-turned b s whole k l ∙ tenfold-is (record_at b k) (within k l))
      (λ e.
      let l = ltb-false k channel_room e in
      ap record_in (row-past (turned_records b) k turned-whole l)
      ∙ sym nothing-tenfold
      ∙ ap (λ r. tenfold_record (record_in r)) (sym (row-past b k whole l)))

phase-of-tenfold : (code : ℕ) (x : BatchRecord) → phase_of code (tenfold_record x) ≡ tenfold_phase (phase_of code x)
phase-of-tenfold code x =
    by-test (eqb code 0) (λ e. rw e) (λ e.
    by-test (eqb code 1) (λ f. rw (e, f)) (λ f.
    by-test (eqb code 2) (λ g. rw (e, f, g)) (λ g. rw (e, f, g))))

offer-of-tenfold : (flag : ℕ) (x : BatchRecord) → offer_of flag (tenfold_record x) ≡ tenfold_offer (offer_of flag x)
offer-of-tenfold flag x = by-test (eqb flag 1) (λ e. rw e) (λ e. rw e)

phase-of-in-tenths : (code : ℕ) (x : BatchRecord) → in_tenths x.temperature ≡ true → phase_in_tenths (phase_of code x) ≡ true
phase-of-in-tenths code x t =
    by-test (eqb code 0) (λ e. rw e refl) (λ e.
    by-test (eqb code 1) (λ f. rw (e, f) refl) (λ f.
    by-test (eqb code 2) (λ g. rw (e, f, g) refl) (λ g. rw (e, f, g) t)))

offer-of-in-tenths : (flag : ℕ) (x : BatchRecord) → in_tenths x.temperature ≡ true → offer_in_tenths (offer_of flag x) ≡ true
offer-of-in-tenths flag x t = by-test (eqb flag 1) (λ e. rw e t) (λ e. rw e refl)

-- ---- lists
map-tabulate : {A : Type 0} (f : A → A) (g : ℕ → A) (n : ℕ) → map f (tabulate n g) ≡ tabulate n (λ k. f (g k))
unfolding tabulate
map-tabulate f g zero = refl
map-tabulate f g (suc n) = map_snoc (tabulate n g) (g n) ∙ ap (λ xs. xs ++ (f (g n) ∷ [])) (map-tabulate f g n)
  where
    map_snoc : (xs : List _) (y : _) → map f (xs ++ (y ∷ [])) ≡ map f xs ++ (f y ∷ [])
    map_snoc [] y = refl
    map_snoc (x ∷ xs) y = ap (λ zs. f x ∷ zs) (map_snoc xs y)

every-tabulate : {A : Type 0} (p : A → Bool) (g : ℕ → A) → ((k : ℕ) → p (g k) ≡ true) → (n : ℕ) → every p (tabulate n g) ≡ true
unfolding tabulate
every-tabulate p g h zero = refl
every-tabulate p g h (suc n) = every-snoc (tabulate n g) (g n) (every-tabulate p g h n) (h n)
  where
    every-snoc : (xs : List _) (y : _) → every p xs ≡ true → p y ≡ true → every p (xs ++ (y ∷ [])) ≡ true
    every-snoc [] y e f = rw f refl
    every-snoc (x ∷ xs) y e f = and_both (p x) _ (and_left (p x) _ e) (every-snoc xs y (and_right (p x) _ e) f)

pub every-at : {A : Type 0} (p : A → Bool) (xs : List A) (k : ℕ) (d : A) → p d ≡ true → every p xs ≡ true → p (get_or xs k d) ≡ true
every-at p [] k d h e = h
every-at p (x ∷ xs) zero d h e = and_left (p x) _ e
every-at p (x ∷ xs) (suc k) d h e = every-at p xs k d h (and_right (p x) _ e)

-- ---- records fit where they fit ten times as many
pub tenths-fit : (z : ℤ) → in_tenths z ≡ true → mag z < 2 ^ 15
tenths-fit (pos n) e = omega (arith, leb-true n 1200 e)
tenths-fit (negsuc n) e = omega (arith, leb-true n 399 (and_left (leb n 399) true e))

pub offer-back : (o : Option BatchRecord) → offer_in_tenths o ≡ true → OfferFits (tenfold_offer o) → OfferFits o
offer-back none e f = tt
offer-back (some x) e f = with-temperature (tenfold_record x) x.temperature f (tenths-fit x.temperature e)

carried-back : (f : Phase) → phase_in_tenths f ≡ true → CarriedFits (tenfold_phase f) → OfferFits (carried_in f)
carried-back resting e h = tt
carried-back asking e h = tt
carried-back ready e h = tt
carried-back (answering x) e h = with-temperature (tenfold_record x) x.temperature h (tenths-fit x.temperature e)

carried-in-tenths : (f : Phase) → phase_in_tenths f ≡ true → offer_in_tenths (carried_in f) ≡ true
carried-in-tenths resting e = refl
carried-in-tenths asking e = refl
carried-in-tenths ready e = refl
carried-in-tenths (answering x) e = e

-- ---- the ring
module _ (ring : Ring) (offers-whole : length ring.offers ≡ record_room) (offer-bytes : Bytes ring.offers)
    (carried-whole : length ring.carried ≡ record_room) (carried-bytes-are : Bytes ring.carried) where
  abbrev σ : Network
  σ = view ring

  abbrev offer_at : ℕ → Option BatchRecord
  offer_at k = (channel σ (channel_no k)).offer

  abbrev carried_at : ℕ → Option BatchRecord
  carried_at k = carried_in (channel σ (channel_no k)).phase

  -- the ring that the code makes
  abbrev pub after : Ring
  after = ring_in ring.head ring.slots ring.lines (turned_records ring.offers) (turned_records ring.carried)

  -- the rows of the turned ring in memory
  abbrev offer_rows : List ℕ
  offer_rows = rows record_length channel_room (λ k. offer_bytes (tenfold_offer (offer_at k)))

  abbrev carried_rows : List ℕ
  carried_rows = rows record_length channel_room (λ k. offer_bytes (tenfold_offer (carried_at k)))

  offers-held : (hold (tenfold_ring σ)).offers ≡ offer_rows
  unfolding hold
  offers-held = rows_same record_length channel_room _ _ (λ k l. ap (λ (s : ChannelState). offer_bytes s.offer) (channel-tenfold σ k))

  carried-held : (hold (tenfold_ring σ)).carried ≡ carried_rows
  unfolding hold
  carried-held =
      rows_same record_length channel_room _ _
      (λ k l. ap (λ (s : ChannelState). carried_bytes s.phase) (channel-tenfold σ k) ∙ carried-tenfold (channel σ (channel_no k)).phase)

  -- a channel as it is seen in memory
  seen : (k : ℕ) → k < count_of_channels σ → channel σ (channel_no k) ≡ view_channel ring k
  unfolding view
  seen k l =
      get_d_tabulate ring.head.channel_count (view_channel ring) k no_channel
      (omega (arith, length-tabulate ring.head.channel_count (view_channel ring)))

  offer-is : (k : ℕ) → k < channel_room → (offer_at k ≡ none) ⊎ (offer_at k ≡ some (record_at ring.offers k))
  offer-is k m =
      by-test (ltb k (count_of_channels σ))
      (λ e.
      let here = ap (λ (s : ChannelState). s.offer) (seen k (ltb-true k _ e)) in
      by-test (eqb (get_or ring.head.offered k 0) 1) (λ f. inr (here ∙ rw f)) (λ f. inl (here ∙ rw f)))
      (λ e. inl (ap (λ (s : ChannelState). s.offer) (no-channel σ k (ltb-false k _ e))))

  carried-is : (k : ℕ) → k < channel_room → (carried_at k ≡ none) ⊎ (carried_at k ≡ some (record_at ring.carried k))
  carried-is k m =
      let code = get_or ring.head.phases k 0 in
      by-test (ltb k (count_of_channels σ))
      (λ e.
      let here = ap (λ (s : ChannelState). carried_in s.phase) (seen k (ltb-true k _ e)) in
      by-test (eqb code 0) (λ a. inl (here ∙ rw a)) (λ a.
      by-test (eqb code 1) (λ b. inl (here ∙ rw (a, b))) (λ b.
      by-test (eqb code 2) (λ c. inl (here ∙ rw (a, b, c))) (λ c. inr (here ∙ rw (a, b, c))))))
      (λ e. inl (ap (λ (s : ChannelState). carried_in s.phase) (no-channel σ k (ltb-false k _ e))))

  -- where the code's tests pass
  module _ (offers-in : records_in_tenths ring.offers ≡ true) (carried-in : records_in_tenths ring.carried ≡ true) where
    channel-after : (k : ℕ) → view_channel after k ≡ tenfold_channel (view_channel ring k)
    channel-after k =
        let phase =
        ap (phase_of (get_or ring.head.phases k 0)) (any-tenfold ring.carried carried-bytes-are carried-whole carried-in k)
        ∙ phase-of-tenfold (get_or ring.head.phases k 0) (record_at ring.carried k) in
        let offer =
        ap (offer_of (get_or ring.head.offered k 0)) (any-tenfold ring.offers offer-bytes offers-whole offers-in k)
        ∙ offer-of-tenfold (get_or ring.head.offered k 0) (record_at ring.offers k) in
        λ i. record { sender = (view_channel ring k).sender; receiver = (view_channel ring k).receiver; phase = phase i; offer = offer i }

    view-after : view after ≡ tenfold_ring σ
    unfolding view
    view-after =
        ap (λ cs. ring_of (eqb ring.head.started 1) (tabulate ring.head.node_count (view_node ring)) cs ring.head.deliveries)
        (tabulate-same ring.head.channel_count (view_channel after) (λ k. tenfold_channel (view_channel ring k)) (λ k l. channel-after k)
        ∙ sym (map-tabulate tenfold_channel (view_channel ring) ring.head.channel_count))

    channels-in : every channel_in_tenths σ.channels ≡ true
    unfolding view
    channels-in =
        every-tabulate channel_in_tenths (view_channel ring) (λ k. and_both _ _
        (offer-of-in-tenths (get_or ring.head.offered k 0) _ (any-in-tenths ring.offers offer-bytes offers-whole offers-in k))
        (phase-of-in-tenths (get_or ring.head.phases k 0) _ (any-in-tenths ring.carried carried-bytes-are carried-whole carried-in k)))
        ring.head.channel_count

    module _ (ok : sound_ring after ≡ true) where
      held_after : hold (tenfold_ring σ) ≡ after
      held_after = ap hold (sym view-after) ∙ (sound-ring after ok).laid-out

      laid-out : hold σ ≡ ring
      unfolding hold
      laid-out =
          let head = sym (head-tenfold σ) ∙ ap (λ (r : Ring). r.head) held_after in
          let slots = ap (λ (r : Ring). r.slots) held_after in
          let lines = ap (λ (r : Ring). r.lines) held_after in
          let offers =
          rows_back ring.offers offer-bytes offers-whole offer_at offer-is offers-in
          (sym offers-held ∙ ap (λ (r : Ring). r.offers) held_after) in
          let carried =
          rows_same record_length channel_room _ _ (λ k l. carried-bytes (channel σ (channel_no k)).phase)
          ∙ rows_back ring.carried carried-bytes-are carried-whole carried_at carried-is carried-in
          (sym carried-held ∙ ap (λ (r : Ring). r.carried) held_after) in
          λ i. ring_in (head i) (slots i) (lines i) (offers i) (carried i)

      passes : sound_in_tenths ring ≡ true
      unfolding sound_in_tenths
      passes =
          and_both _ _ (and_both _ _ (held-laid-out ring laid-out) channels-in)
          (ap (sound ring_limits) (sym view-after) ∙ (sound-ring after ok).sound)

      pub ring-turned : turn_ring ring ≡ accepted done after
      unfolding turn_ring
      ring-turned = rw passes (ap (accepted done) held_after)

  -- and they pass where the ring is sound in tenths
  module _ (ok : sound_in_tenths ring ≡ true) where
    laid-and-in : (laid_out ring && every channel_in_tenths σ.channels) ≡ true
    unfolding sound_in_tenths
    laid-and-in = and_left _ _ ok

    tenfold-sound : sound ring_limits (tenfold_ring σ) ≡ true
    unfolding sound_in_tenths
    tenfold-sound = and_right (laid_out ring && every channel_in_tenths σ.channels) (sound ring_limits (tenfold_ring σ)) ok

    is_held : hold σ ≡ ring
    is_held = hold-view ring (and_left _ _ laid-and-in)

    channel-in : (k : ℕ) → channel_in_tenths (channel σ (channel_no k)) ≡ true
    channel-in k = every-at channel_in_tenths σ.channels k no_channel refl (and_right (laid_out ring) _ laid-and-in)

    phase-in : (k : ℕ) → phase_in_tenths (channel σ (channel_no k)).phase ≡ true
    phase-in k = and_right (offer_in_tenths (offer_at k)) _ (channel-in k)

    offer-in : (k : ℕ) → k < channel_room → offer_in_tenths (offer_at k) ≡ true
    offer-in k l = and_left (offer_in_tenths (offer_at k)) _ (channel-in k)

    carries-in : (k : ℕ) → k < channel_room → offer_in_tenths (carried_at k) ≡ true
    carries-in k l = carried-in-tenths (channel σ (channel_no k)).phase (phase-in k)

    fits : Fits (tenfold_ring σ)
    fits = sound-fits (tenfold_ring σ) (facts ring_limits (tenfold_ring σ) tenfold-sound)

    as_many : count_of_channels (tenfold_ring σ) ≡ count_of_channels σ
    as_many = length-map σ.channels tenfold_channel

    offer-fits : (k : ℕ) → k < channel_room → OfferFits (offer_at k)
    offer-fits k l =
        by-test (ltb k (count_of_channels σ))
        (λ e.
        offer-back (offer_at k) (offer-in k l)
        (subst OfferFits (ap (λ (s : ChannelState). s.offer) (channel-tenfold σ k))
        (fits.offer-fits k (omega (arith, as_many, ltb-true k _ e)))))
        (λ e. subst OfferFits (sym (ap (λ (s : ChannelState). s.offer) (no-channel σ k (ltb-false k _ e)))) tt)

    carried-fits : (k : ℕ) → k < channel_room → OfferFits (carried_at k)
    carried-fits k l =
        by-test (ltb k (count_of_channels σ))
        (λ e.
        carried-back (channel σ (channel_no k)).phase (phase-in k)
        (subst CarriedFits (ap (λ (s : ChannelState). s.phase) (channel-tenfold σ k))
        (fits.carried-fits k (omega (arith, as_many, ltb-true k _ e)))))
        (λ e. subst OfferFits (sym (ap (λ (s : ChannelState). carried_in s.phase) (no-channel σ k (ltb-false k _ e)))) tt)

    offers-are : ring.offers ≡ rows record_length channel_room (λ k. offer_bytes (offer_at k))
    unfolding hold
    offers-are = sym (ap (λ (r : Ring). r.offers) is_held)

    carried-are : ring.carried ≡ rows record_length channel_room (λ k. offer_bytes (carried_at k))
    unfolding hold
    carried-are =
        sym (ap (λ (r : Ring). r.carried) is_held)
        ∙ rows_same record_length channel_room _ _ (λ k l. carried-bytes (channel σ (channel_no k)).phase)

    pub offers-pass : records_in_tenths ring.offers ≡ true
    offers-pass = ap records_in_tenths offers-are ∙ held-in-tenths offer_at offer-fits offer-in

    pub carried-passes : records_in_tenths ring.carried ≡ true
    carried-passes = ap records_in_tenths carried-are ∙ held-in-tenths carried_at carried-fits carries-in

    after_is : hold (tenfold_ring σ) ≡ after
    unfolding hold
    after_is =
        let head = head-tenfold σ ∙ ap (λ (r : Ring). r.head) is_held in
        let slots = ap (λ (r : Ring). r.slots) is_held in
        let lines = ap (λ (r : Ring). r.lines) is_held in
        let offers = offers-held ∙ sym (ap turned_records offers-are ∙ held-turned offer_at offer-fits offer-in) in
        let carried = carried-held ∙ sym (ap turned_records carried-are ∙ held-turned carried_at carried-fits carries-in) in
        λ i. ring_in (head i) (slots i) (lines i) (offers i) (carried i)

    pub after-sound : sound_ring after ≡ true
    after-sound = ap sound_ring (sym after_is) ∙ sound-hold (tenfold_ring σ) tenfold-sound

  -- so where one of them fails it is refused
  module _ {b : Bool} (fails : b ≡ false) (would : sound_in_tenths ring ≡ true → b ≡ true) where
    pub ring-refused : turn_ring ring ≡ refused UnsoundRing
    unfolding turn_ring
    ring-refused = by-test (sound_in_tenths ring) (λ t. both_ways (would t) fails) (λ f. rw f)
