-- Theory. What a ring weighs, for any weight of its nodes: each message as its node, one more while it stands in a line; an idle channel
-- as the node where its next message enters, and two more; a channel with no offer one more. Each change that steps are made of alters
-- this at one node or one channel.
use Prim.Native.Nat.{ℕ, suc, ◌+◌, ◌*◌, ◌≤◌, ◌<◌}
use mathlib.Core.Path.{◌≡◌, refl, ap}
use mathlib.Core.Bool.{Bool, true, false, not}
use mathlib.Core.List.{List, [], ◌∷◌, ◌++◌}
use mathlib.Core.Option.{Option}
use native.Mathlib.Omega.{arith}
use lib.ListN.{length}
use Rattle.batch.specs.declared.BatchRecord.{BatchRecord}
use Rattle.network.specs.Counting.{one, sum, count}
use Rattle.network.specs.Network.{Phase, moving}
use Rattle.network.specs.Sound.{absent}
use Rattle.network.proofs.Ground.Counting.{sum_same, sum-but, sum-le, sum-add, sum-swap, sum-times, sum_ones, length-counts, length-snoc}
use Rattle.network.proofs.Ground.Without.{length_without}
use Rattle.network.proofs.Theory.Load.{nodes-buffer, nodes-line, nodes-both}
use Rattle.network.proofs.Theory.State.{upd_same, upd_other, Net, State, turn, join, pop, push, pass, without, pull, entry_in, target_in, Sound, ends-below, here}

module _ (N : Net) where
  open N use {n, c, slots, sender, receiver}

  -- what a channel with nothing on the ring weighs: as the node where its next message enters, and 2 more
  abbrev pub idle : (ℕ → ℕ) → ℕ → Phase → ℕ
  idle w k f = one (not (moving f)) * (w (entry_in N f k) + 2)

  -- what the messages at a node weigh: as the node, and 1 more in the line
  abbrev at_node : (ℕ → ℕ) → ℕ → List ℕ → List ℕ → ℕ
  at_node w p xs ys = w p * (length xs + length ys) + length ys

  abbrev pub node_weight : (ℕ → ℕ) → State → ℕ → ℕ
  node_weight w σ p = at_node w p (σ.buffer p) (σ.line p)

  -- what a channel weighs in a phase and with an offer: 1 more with none
  abbrev pub weighs : (ℕ → ℕ) → ℕ → Phase → Option BatchRecord → ℕ
  weighs w k f o = idle w k f + one (absent o)

  abbrev pub channel_weight : (ℕ → ℕ) → State → ℕ → ℕ
  channel_weight w σ k = weighs w k (σ.phase k) (σ.offer k)

  abbrev pub weight : (ℕ → ℕ) → State → ℕ
  weight w σ = sum n (node_weight w σ) + sum c (channel_weight w σ)

  -- each change that steps are made of: a channel turns, a message joins a line, leaves a line or a buffer, enters, passes
  module _ (w : ℕ → ℕ) (σ : State) where
    pub weight-turn : (k : ℕ) (f : Phase) (o : Option BatchRecord) → k < c →
        weight w (turn k f o σ) + channel_weight w σ k ≡ weight w σ + weighs w k f o
    weight-turn k f o l =
        let new : channel_weight w (turn k f o σ) k ≡ weighs w k f o = rw (upd_same k f σ.phase, upd_same k o σ.offer) refl in
        omega (
          arith,
          new,
          sum-but c k (channel_weight w (turn k f o σ)) (channel_weight w σ) l
              (λ j m d. rw (upd_other k f σ.phase j d, upd_other k o σ.offer j d) refl),
        )

    pub weight-join : (p k : ℕ) → p < n → weight w (join p k σ) ≡ weight w σ + suc (w p)
    weight-join p k l =
        let longer : length (σ.line p ++ (k ∷ [])) ≡ suc (length (σ.line p)) = length-snoc (σ.line p) k in
        omega (arith, nodes-line N (at_node w) σ p l (σ.line p ++ (k ∷ [])), ap (λ z. w p * z) longer)

    pub weight-pull : (p k : ℕ) → p < n → 0 < count k (σ.line p) → weight w (pull p k σ) + suc (w p) ≡ weight w σ
    weight-pull p k l there =
        let shorter : suc (length (without k (σ.line p))) ≡ length (σ.line p) = length_without k (σ.line p) there in
        omega (arith, nodes-line N (at_node w) σ p l (without k (σ.line p)), shorter, ap (λ z. w p * z) shorter)

    pub weight-pop : (p k : ℕ) (ks : List ℕ) → p < n → σ.buffer p ≡ k ∷ ks → weight w (pop p ks σ) + w p ≡ weight w σ
    weight-pop p k ks l e = omega (arith, nodes-buffer N (at_node w) σ p l ks, ap (λ xs. w p * length xs) e)

    pub weight-push : (p k : ℕ) (ks : List ℕ) → p < n → σ.line p ≡ k ∷ ks → suc (weight w (push p k ks σ)) ≡ weight w σ
    weight-push p k ks l e =
        let longer : length (σ.buffer p ++ (k ∷ [])) ≡ suc (length (σ.buffer p)) = length-snoc (σ.buffer p) k in
        let shorter : length (σ.line p) ≡ suc (length ks) = ap length e in
        omega (
          arith,
          nodes-both N (at_node w) σ p l (σ.buffer p ++ (k ∷ [])) ks,
          ap (λ z. w p * z) longer,
          ap (λ z. w p * z) shorter,
        )

    pub weight-pass : (p k : ℕ) → p < n → weight w (pass p k σ) ≡ weight w σ + w p
    weight-pass p k l =
        let longer : length (σ.buffer p ++ (k ∷ [])) ≡ suc (length (σ.buffer p)) = length-snoc (σ.buffer p) k in
        omega (arith, nodes-buffer N (at_node w) σ p l (σ.buffer p ++ (k ∷ [])), ap (λ z. w p * z) longer)

  -- how many messages are at a node, and whether a channel has none on the ring

  abbrev pub messages : State → ℕ → ℕ
  messages σ p = length (σ.buffer p) + length (σ.line p)

  abbrev pub quiet : State → ℕ → ℕ
  quiet σ k = one (not (moving (σ.phase k)))

  -- every channel has its message at one node or is quiet
  pub all-channels : {σ : State} → Sound N σ → sum n (messages σ) + sum c (quiet σ) ≡ c
  all-channels {σ} s =
      let times : ℕ → ℕ → ℕ = λ p k. count k (σ.buffer p) + count k (σ.line p) in
      let each : sum n (messages σ) ≡ sum n (λ p. sum c (times p)) =
      sum_same n (messages σ) (λ p. sum c (times p)) λ p l. omega (
        arith,
        length-counts c (σ.buffer p) (λ k i. (s.in-buffer p l k i).0),
        length-counts c (σ.line p) (λ k i. (s.in-line p l k i).0),
        sum-add c (λ k. count k (σ.buffer p)) (λ k. count k (σ.line p)),
      ) in
      let swapped : sum n (λ p. sum c (times p)) ≡ sum c (here N σ) = sum-swap n c times in
      let once : sum c (here N σ) ≡ sum c (λ k. one (moving (σ.phase k))) =
      sum_same c (here N σ) (λ k. one (moving (σ.phase k))) s.once in
      let all : sum c (λ k. one (moving (σ.phase k)) + quiet σ k) ≡ sum c (λ k. 1) =
      sum_same c (λ k. one (moving (σ.phase k)) + quiet σ k) (λ k. 1) (λ k l. either (moving (σ.phase k))) in
      omega (arith, each, swapped, once, all, sum_ones c, sum-add c (λ k. one (moving (σ.phase k))) (quiet σ))
    where
      either : (b : Bool) → one b + one (not b) ≡ 1
      either true = refl
      either false = refl

  -- sums over nodes and channels that differ term by term by at most a for each message and each quiet channel differ by at most a * c
  pub compare-all : {σ : State} (a : ℕ) (f g h j : ℕ → ℕ) → Sound N σ →
      ((p : ℕ) → p < n → f p ≤ g p + a * messages σ p) → ((k : ℕ) → k < c → h k ≤ j k + a * quiet σ k) →
      sum n f + sum c h ≤ sum n g + sum c j + a * c
  compare-all {σ} a f g h j s nodes channels =
      let all : a * (sum n (messages σ) + sum c (quiet σ)) ≡ a * c = ap (λ z. a * z) (all-channels s) in
      omega (
        arith,
        all,
        sum-le n f (λ p. g p + a * messages σ p) nodes,
        sum-add n g (λ p. a * messages σ p),
        sum-times n a (messages σ),
        sum-le c h (λ k. j k + a * quiet σ k) channels,
        sum-add c j (λ k. a * quiet σ k),
        sum-times c a (quiet σ),
      )

  -- the ends of a message's way, in the phase that its channel has
  pub entry-below : {σ : State} (k : ℕ) → Sound N σ → k < c → entry_in N (σ.phase k) k < n
  entry-below {σ} k s l = (ends-below N s k l (σ.phase k)).0

  pub target_below : {σ : State} (k : ℕ) → Sound N σ → k < c → target_in N (σ.phase k) k < n
  target_below {σ} k s l = (ends-below N s k l (σ.phase k)).1
