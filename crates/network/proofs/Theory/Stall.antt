-- Theory. The ring cannot stall: while a message is on it, an entry or a move would be accepted at some node. If none were, a node with a
-- line would be full, and so would the node after one with a message in its buffer; then, node by node round the ring, all would be full,
-- against more slots than channels.
use Prim.Native.Nat.{ℕ, zero, suc, ◌+◌, ◌≤◌, ◌<◌}
use mathlib.Core.Path.{◌≡◌, refl}
use mathlib.Core.Logic.{◌≢◌, ◌⊎◌, inl, inr, ⊎_elim}
use mathlib.Core.Bool.{true, false≢true}
use mathlib.Core.List.{List, [], ◌∷◌}
use native.Mathlib.Nat.{not-suc-le-zero}
use native.Mathlib.Omega.{arith}
use lib.ListN.{length}
use borrow.Author.Tests.{eq-eqb, ne_eqb}
use Rattle.hops.specs.Hops.{next}
use Rattle.network.specs.Counting.{sum, weigh, count, occupied}
use Rattle.network.specs.Network.{moving}
use Rattle.network.proofs.Ground.Splits.{by-test, by-same, by_less, by-list}
use Rattle.network.proofs.Ground.Counting.{sum-le, sum-some}
use Rattle.hops.proofs.Laws.{next-below}
use Rattle.network.proofs.Theory.Weight.{messages, all-channels}
use Rattle.network.proofs.Theory.State.{Net, State, Sound, CanEnter, CanMove, can-enter, can-pass, here}

-- a search through the numbers below n finds one, or shows that there is none
pub find : (n : ℕ) {A B : ℕ → Type 0} → ((p : ℕ) → A p ⊎ B p) → ((p : ℕ) × (p < n) × A p) ⊎ ((p : ℕ) → p < n → B p)
find zero t = inr (λ p l. absurd (not-suc-le-zero l))
find (suc n) t =
    ⊎_elim (λ a. inl (n, omega arith, a))
    (λ b.
    ⊎_elim (λ r. inl (r.0, omega (arith, r.1), r.2))
    (λ h. inr (λ p l. by-same p n (λ e. rw e b) (λ d. h p (omega arith))))
    (find n t))
    (t n)

-- what holds at one node and goes on to the next holds at every node
module _ (n : ℕ) (P : ℕ → Type 0) (on : (p : ℕ) → p < n → P p → P (next n p)) where
  up : (p : ℕ) → suc p < n → P p → P (suc p)
  unfolding next
  up p l h = rw (ne_eqb (suc p) n (omega arith)) at (on p (omega arith) h)

  around : (p : ℕ) → suc p ≡ n → P p → P 0
  unfolding next
  around p e h = rw (eq-eqb (suc p) n e) at (on p (omega arith) h)

  from_first : P 0 → (q : ℕ) → q < n → P q
  from_first h zero l = h
  from_first h (suc q) l = up q l (from_first h q (omega arith))

  to-first : (d p : ℕ) → suc (p + d) ≡ n → P p → P 0
  to-first zero p e h = around p (omega arith) h
  to-first (suc d) p e h = to-first d (suc p) (omega arith) (up p (omega arith) h)

  pub all-round : (p : ℕ) → p < n → P p → (q : ℕ) → q < n → P q
  all-round p l h = from_first (reach (rest n p l))
    where
      rest : (m p : ℕ) → p < m → (d : ℕ) × (suc (p + d) ≡ m)
      rest zero p l = absurd (not-suc-le-zero l)
      rest (suc m) p l =
          by-same p m (λ e. (0, omega arith)) (λ d. let r = rest m p (omega arith) in (suc r.0, omega (arith, r.1)))

      reach : (d : ℕ) × (suc (p + d) ≡ n) → P 0
      reach r = to-first r.0 p r.1 h

count-some : (k : ℕ) (xs : List ℕ) → 0 < count k xs → occupied xs ≡ true
unfolding weigh
count-some k [] h = absurd (not-suc-le-zero h)
count-some k (x ∷ xs) h = refl

length_some : (xs : List ℕ) → 0 < length xs → occupied xs ≡ true
length_some [] h = absurd (not-suc-le-zero h)
length_some (x ∷ xs) h = refl

module _ (N : Net) where
  open N use {n, c, slots}

  -- nothing would be accepted at p: a line waits only where the buffer is full, and a message only before a full or marked node
  record Stuck (σ : State) (p : ℕ) : Type 0 where
    line-full : occupied (σ.line p) ≡ true → slots p ≤ length (σ.buffer p)
    next-shut : occupied (σ.buffer p) ≡ true → (slots (next n p) ≤ length (σ.buffer (next n p))) ⊎ (σ.mark (next n p) ≡ true)

  abbrev Able : State → ℕ → Type 0
  Able σ p = CanEnter N σ p ⊎ CanMove N σ p

  able-line : (σ : State) (p : ℕ) → CanEnter N σ p ⊎ (occupied (σ.line p) ≡ true → slots p ≤ length (σ.buffer p))
  able-line σ p =
      by-list (σ.line p) (λ e. inr (rw e (λ h. absurd (false≢true h)))) λ k ks e.
      by_less (length (σ.buffer p)) (slots p) (λ l. inl (can-enter k ks e l)) (λ g. inr (λ h. g))

  able-buffer : (σ : State) (p : ℕ) →
      CanMove N σ p ⊎
      (occupied (σ.buffer p) ≡ true → (slots (next n p) ≤ length (σ.buffer (next n p))) ⊎ (σ.mark (next n p) ≡ true))
  able-buffer σ p =
      by-list (σ.buffer p) (λ e. inr (rw e (λ h. absurd (false≢true h)))) λ k ks e.
      by_less (length (σ.buffer (next n p))) (slots (next n p))
      (λ l. by-test (σ.mark (next n p)) (λ m. inr (λ h. inr m)) (λ m. inl (can-pass k ks e l m)))
      (λ g. inr (λ h. inl g))

  able : (σ : State) (p : ℕ) → Able σ p ⊎ Stuck σ p
  able σ p =
      ⊎_elim (λ a. inl (inl a))
      (λ l. ⊎_elim (λ b. inl (inr b)) (λ b. inr (record { line-full = l; next-shut = b })) (able-buffer σ p))
      (able-line σ p)

  -- the messages in all buffers are at most as many as the channels
  buffers-few : (σ : State) → Sound N σ → sum n (λ p. length (σ.buffer p)) ≤ c
  buffers-few σ s =
      let part : sum n (λ p. length (σ.buffer p)) ≤ sum n (messages N σ) = sum-le n _ _ (λ p l. omega arith) in
      omega (arith, all-channels N s)

  module _ (σ : State) (s : Sound N σ) (stuck : (p : ℕ) → p < n → Stuck σ p) where
    abbrev Full : ℕ → Type 0
    Full p = slots p ≤ length (σ.buffer p)

    -- the node after one with a message in its buffer is full: if it is marked, a line waits there
    full-after : (p : ℕ) → p < n → occupied (σ.buffer p) ≡ true → Full (next n p)
    full-after p l h =
        let q : next n p < n = next-below n p l in
        ⊎_elim (λ f. f) (λ m. (stuck (next n p) q).line-full (s.marked (next n p) q m)) ((stuck p l).next-shut h)

    full-on : (p : ℕ) → p < n → Full p → Full (next n p)
    full-on p l f = full-after p l (length_some (σ.buffer p) (omega (arith, s.some-slot p l)))

    none-full : (p : ℕ) → p < n → Full p → ⊥
    none-full p l f =
        let all : sum n slots ≤ sum n (λ q. length (σ.buffer q)) = sum-le n _ _ (all-round n Full full-on p l f) in
        omega (arith, buffers-few σ s, s.more-slots)

    none-stands : (p k : ℕ) → p < n → 0 < count k (σ.buffer p) + count k (σ.line p) → ⊥
    none-stands p k l h =
        by_less 0 (count k (σ.buffer p))
        (λ b. none-full (next n p) (next-below n p l) (full-after p l (count-some k (σ.buffer p) b)))
        (λ z. none-full p l ((stuck p l).line-full (count-some k (σ.line p) (omega arith))))

  -- while channel k has a message on the ring, an entry or a move would be accepted at some node
  pub no-stall : (σ : State) (k : ℕ) → Sound N σ → k < c → moving (σ.phase k) ≡ true → (p : ℕ) × (p < n) × (CanEnter N σ p ⊎ CanMove N σ p)
  no-stall σ k s l m =
      ⊎_elim (λ r. r)
      (λ stuck.
      let on : here N σ k ≡ 1 = rw m at (s.once k l) in
      let at = sum-some n (λ p. count k (σ.buffer p) + count k (σ.line p)) (omega arith) in
      absurd (none-stands σ s stuck at.0 k at.1 at.2))
      (find n (able σ))
