-- Where a message stands, as the code finds it in the cells, and what hops left comes to from there. A buffer's cells hold the channel
-- numbers of the buffer, each one higher.
use Prim.Native.Nat.{ℕ, zero, suc, ◌+◌, ◌*◌, ◌≤◌, ◌<◌}
use mathlib.Core.Path.{◌≡◌, refl, sym, ap, ◌∙◌}
use mathlib.Core.Bool.{Bool, true, false, cond, ◌||◌}
use mathlib.Core.List.{List, [], ◌∷◌}
use mathlib.Core.Option.{Option, none, some}
use native.Mathlib.Nat.{add-zero}
use native.Mathlib.Numerals.{add-one}
use native.Mathlib.Omega.{arith}
use lib.Dec.{eqb, ltb}
use lib.ListN.{length, get_or, take, drop}
use lib.Seq.{take-suc, take_all}
use borrow.Author.Tests.{lt-ltb, eq-eqb, ne_eqb}
use Rattle.std.specs.List.{list_any}
use Rattle.std.proofs.lemmas.List.{get_or-drop, length-drop}
use Rattle.std.proofs.lemmas.List.Folds.{list_any-append}
use Rattle.batch.specs.declared.BatchRecord.{BatchRecord}
use Rattle.numbers.specs.declared.NodeNo.{NodeNo}
use Rattle.numbers.specs.declared.ChannelNo.{ChannelNo}
use Rattle.hops.specs.Hops.{hops, hops_between}
use Rattle.hops.proofs.Laws.{hops-between}
use Rattle.network.specs.declared.Head.{Head}
use Rattle.network.specs.declared.Ring.{Ring}
use Rattle.network.specs.Counting.{one, weigh, count}
use Rattle.network.specs.Network.{Network, ChannelState, asking, answering, node_no, channel_no, numbers_of, times_in, count_of_nodes, node, channel}
use Rattle.network.specs.Calls.{hops_are, accepted, holder, hops_left_of, hops_of}
use Rattle.network.specs.Calls
use Rattle.network.specs.Runs
use Rattle.network.specs.Layout.{row_length, cells_of, view, hold, sound_ring, call_ring}
use Rattle.network.proofs.Ground.Splits.{by-test, by-same, by-phase}
use Rattle.network.proofs.Ground.Numbers.{length-numbers}
use Rattle.network.proofs.Ground.Counting.{weigh-snoc}
use Rattle.network.proofs.Memory.Rows.{get_d-padded, get_d-row}
use Rattle.network.proofs.Memory.Held.{SoundRing, sound-ring, HeldNode}
use Rattle.updates.specs.Flat.{used_at}
use Rattle.updates.specs.Known.{AtChannel}
use Rattle.updates.proofs.Openings.{sound-called}
use Rattle.updates.proofs.Reading.{channel-known, channel-there, channel-numbers, channel-running}
use Rattle.questions.specs.Asked.{Within, stands_in, place_in, way_in, hops_in}

-- what the parts of a question ask, a sound ring has
pub sound-within : (ring : Ring) → sound_ring ring ≡ true → Within ring.head
sound-within ring ok =
    let s = sound-ring ring ok in
    record {
      nodes = omega (arith, s.holds.node-count, s.fits.nodes-fit);
      channels = omega (arith, s.holds.channel-count, s.fits.channels-fit);
      rows = λ p l.
          let there : p < count_of_nodes (view ring) = omega (arith, s.holds.node-count) in
          omega (arith, (s.holds.nodes p (omega (arith, s.fits.nodes-fit))).used, s.fits.buffer-fits p there);
    }

-- the first cells of a row, one more of them in a turn

swapped : (a b : Bool) → (a || (b || false)) ≡ (b || a)
swapped true true = refl
swapped true false = refl
swapped false true = refl
swapped false false = refl

pub stands-listed : (cells : List ℕ) (base cell n : ℕ) → base + n ≤ length cells →
    list_any (λ y. eqb y cell) (take n (drop base cells)) ≡ stands_in cells base cell n
unfolding stands_in
stands-listed cells base cell zero l = refl
stands-listed cells base cell (suc n) l =
    rw (
      take-suc (drop base cells) n 0 (rw length-drop (omega arith)),
      get_or-drop base cells n 0,
      list_any-append (λ y. eqb y cell) (take n (drop base cells)) (get_or cells (base + n) 0 ∷ []),
      stands-listed cells base cell n (omega arith),
    )
    (swapped (stands_in cells base cell n) (eqb (get_or cells (base + n) 0) cell))

-- a turn of the search over the nodes

pub place_turn : (h : Head) (slots : List ℕ) (cell entry q p : ℕ) → q ≡ suc p → {here : Bool} →
    here ≡ stands_in slots (row_length * p) cell (used_at h p) →
    place_in h slots cell entry q ≡ cond here p (place_in h slots cell entry p)
unfolding place_in
place_turn h slots cell entry q p e f = rw (e, f)

-- cells that hold the numbers of xs, each one higher, hold k + 1 where xs holds k

some_more : (b : Bool) (n : ℕ) → ltb 0 (n + one b) ≡ (b || ltb 0 n)
some_more true n = lt-ltb 0 (n + 1) (omega arith)
some_more false n = rw add-zero

same-higher : (a b : ℕ) → eqb (suc a) (suc b) ≡ eqb a b
same-higher a b =
    by-same a b (λ e. eq-eqb _ _ (ap suc e) ∙ sym (eq-eqb a b e))
    (λ d. ne_eqb (suc a) (suc b) (λ e. d (omega arith)) ∙ sym (ne_eqb a b d))

higher-at : (xs : List ChannelNo) (i : ℕ) → i < length (numbers_of xs) → get_or (cells_of xs) i 0 ≡ suc (get_or (numbers_of xs) i 0)
higher-at [] i l = absurd (omega arith)
higher-at (x ∷ xs) zero l = refl
higher-at (x ∷ xs) (suc i) l = higher-at xs i (omega arith)

module _ (cells : List ℕ) (base k : ℕ) (xs : List ℕ)
    (higher : (i : ℕ) → i < length xs → get_or cells (base + i) 0 ≡ suc (get_or xs i 0)) where
  stands-counted : (j : ℕ) → j ≤ length xs → stands_in cells base (suc k) j ≡ ltb 0 (count k (take j xs))
  unfolding stands_in weigh
  stands-counted zero l = refl
  stands-counted (suc j) l =
      rw (
        take-suc xs j 0 (omega arith),
        weigh-snoc (λ x. one (eqb x k)) (take j xs) (get_or xs j 0),
        some_more (eqb (get_or xs j 0) k) (count k (take j xs)),
        higher j (omega arith),
        same-higher (get_or xs j 0) k,
        stands-counted j (omega arith),
      )

  stands-where : stands_in cells base (suc k) (length xs) ≡ ltb 0 (count k xs)
  stands-where = stands-counted (length xs) (omega arith) ∙ ap (λ ys. ltb 0 (count k ys)) (take_all (length xs) xs (omega arith))

-- the node where a message is: the one that holds it in its buffer, or else the node of entry
abbrev stands_at : Option NodeNo → ℕ → ℕ
stands_at none entry = entry
stands_at (some p) entry = p.0

stands-below : (σ : Network) (k : ChannelNo) (entry n m : ℕ) → entry < n → m ≤ n → stands_at (holder σ k m) entry < n
unfolding holder
stands-below σ k entry n zero l h = l
stands-below σ k entry n (suc m) l h =
    by-test (ltb 0 (times_in (node σ (node_no m)).buffer k)) (λ t. rw t (omega arith)) (λ t. rw t (stands-below σ k entry n m l (omega arith)))

asking-hops : (n : ℕ) (s : ChannelState) (at : Option NodeNo) →
    hops_left_of n s asking at ≡ hops n (stands_at at s.receiver.0) s.sender.0 + hops n s.sender.0 s.receiver.0
asking-hops n s none = refl
asking-hops n s (some p) = refl

answering-hops : (n : ℕ) (s : ChannelState) (x : BatchRecord) (at : Option NodeNo) →
    hops_left_of n s (answering x) at ≡ hops n (stands_at at s.sender.0) s.receiver.0
answering-hops n s x none = refl
answering-hops n s x (some p) = refl

-- what the code finds of a channel of a sound started ring is what the definitions say of the ring that is held
module _ {ring : Ring} {k : ℕ} (h : AtChannel ring k) where
  abbrev σ : Network
  σ = view ring

  abbrev n : ℕ
  n = count_of_nodes σ

  known : SoundRing ring
  known = channel-known h

  module _ (p : ℕ) (there : p < n) where
    abbrev buffer : List ℕ
    buffer = numbers_of (node σ (node_no p)).buffer

    short-buffer : length buffer ≤ row_length
    short-buffer = rw length-numbers (known.fits.buffer-fits p there)

    numbers : HeldNode ring σ p
    numbers = known.holds.nodes p (omega (arith, known.fits.nodes-fit))

    higher-cell : (i : ℕ) → i < length buffer → get_or ring.slots (row_length * p + i) 0 ≡ suc (get_or buffer i 0)
    higher-cell i l =
        sym (get_d-row row_length ring.slots p i (omega (arith, short-buffer)))
        ∙ ap (λ r. get_or r i 0) numbers.buffer-row
        ∙ get_d-padded row_length (cells_of (node σ (node_no p)).buffer) i (omega (arith, short-buffer))
        ∙ higher-at (node σ (node_no p)).buffer i l

    stands-in-buffer : stands_in ring.slots (row_length * p) (k + 1) (used_at ring.head p) ≡ ltb 0 (count k buffer)
    stands-in-buffer =
        rw (add-one k, numbers.used, ← length-numbers (node σ (node_no p)).buffer)
        (stands-where ring.slots (row_length * p) k buffer higher-cell)

  place-held : (entry m : ℕ) → m ≤ n → place_in ring.head ring.slots (k + 1) entry m ≡ stands_at (holder σ (channel_no k) m) entry
  unfolding place_in holder
  place-held entry zero l = refl
  place-held entry (suc p) l =
      rw (stands-in-buffer p (omega arith))
      (by-test (ltb 0 (times_in (node σ (node_no p)).buffer (channel_no k))) (λ t. rw t) (λ t. rw t (place-held entry p (omega arith))))

  -- the ends are nodes of the ring, and so is the node where the message stands
  abbrev sender : ℕ
  sender = (channel σ (channel_no k)).sender.0

  abbrev receiver : ℕ
  receiver = (channel σ (channel_no k)).receiver.0

  sender-below : sender < n
  sender-below = (known.facts.each-channel k (channel-there h)).sender-below

  receiver-below : receiver < n
  receiver-below = (known.facts.each-channel k (channel-there h)).receiver-below

  abbrev from : ℕ → ℕ
  from entry = stands_at (holder σ (channel_no k) n) entry

  on-the-ring : (p q : ℕ) → p < n → q < n → hops_between ring.head.node_count p q ≡ hops n p q
  on-the-ring p q lp lq =
      ap (λ m. hops_between m p q) known.holds.node-count ∙ hops-between n p q lp lq

  way-is : (entry q : ℕ) → entry < n → q < n → way_in ring.head ring.slots k entry q ≡ hops n (from entry) q
  way-is entry q le lq =
      let count = known.holds.node-count in
      ap (λ p. hops_between ring.head.node_count p q)
      (ap (place_in ring.head ring.slots (k + 1) entry) count ∙ place-held entry n (omega arith))
      ∙ on-the-ring (from entry) q (stands-below σ (channel_no k) entry n n le (omega arith)) lq

  hops-found : hops_in ring.head ring.slots k ≡ hops_of σ (channel_no k)
  unfolding hops_of
  hops-found =
      let c = channel-numbers h in
      let at = holder σ (channel_no k) n in
      let back = on-the-ring sender receiver sender-below receiver-below in
      let there = way-is receiver sender receiver-below sender-below in
      rw (c.sender, c.receiver, c.phase)
      (by-phase (channel σ (channel_no k)).phase (λ e. rw e)
      (λ e. rw (e, there, back) (sym (asking-hops n (channel σ (channel_no k)) at)))
      (λ e. rw e back)
      (λ x e. rw (e, way-is sender receiver sender-below receiver-below) (sym (answering-hops n (channel σ (channel_no k)) x at))))

  called : call_ring (Runs.hops_left (channel_no k)) ring ≡ accepted (hops_are (hops_of σ (channel_no k))) (hold σ)
  unfolding Calls.hops_left
  called = rw (sound-called (Runs.hops_left (channel_no k)) ring h.ok, channel-running h, lt-ltb _ _ (channel-there h))

  pub hops-answered : call_ring (Runs.hops_left (channel_no k)) ring ≡ accepted (hops_are (hops_in ring.head ring.slots k)) ring
  hops-answered = called ∙ λ i. accepted (hops_are (sym hops-found i)) (known.laid-out i)
