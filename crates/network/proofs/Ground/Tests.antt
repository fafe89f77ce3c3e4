-- Ground. What a test over the numbers below a bound, or over a list, says of each of them, and back. A number stands in a list where its
-- count is above 0.
use Prim.Native.Nat.{ℕ, zero, suc, ◌≤◌, ◌<◌}
use mathlib.Core.Path.{◌≡◌, refl, subst}
use mathlib.Core.Logic.{◌↔◌}
use mathlib.Core.Bool.{Bool, true, ◌&&◌}
use mathlib.Core.List.{List, [], ◌∷◌}
use native.Mathlib.Nat.{not-suc-le-zero}
use native.Mathlib.Omega.{arith}
use lib.Dec.{eqb, leb, ltb}
use borrow.Author.Tests.{eqb-true, leb-true, ltb-true, eq-eqb, le-leb, lt-ltb}
use Rattle.batch.specs.Good.{every}
use Rattle.numbers.specs.declared.ChannelNo.{ChannelNo}
use Rattle.network.specs.Counting.{all_below, weigh}
use Rattle.network.specs.Network.{channel_no, times_in}
use Rattle.network.proofs.Ground.Splits.{by-same, and_left, and_right, and_both}
use Rattle.network.proofs.Ground.Counting.{count_same, count-other}

pub all-below : (n : ℕ) (f : ℕ → Bool) → all_below n f ≡ true → (p : ℕ) → p < n → f p ≡ true
unfolding all_below
all-below zero f e p l = absurd (not-suc-le-zero l)
all-below (suc n) f e p l =
    by-same p n (λ same. rw same (and_right (all_below n f) (f n) e))
    (λ d. all-below n f (and_left (all_below n f) (f n) e) p (omega arith))

pub below_all : (n : ℕ) (f : ℕ → Bool) → ((p : ℕ) → p < n → f p ≡ true) → all_below n f ≡ true
unfolding all_below
below_all zero f h = refl
below_all (suc n) f h =
    and_both (all_below n f) (f n) (below_all n f (λ p l. h p (omega arith))) (h n (omega arith))

-- the tests that `sound` is made of, as statements: at each number below a bound, and at each that stands in a list

pub each_below : (n : ℕ) {f : ℕ → Bool} {P : ℕ → Type 0} → ((p : ℕ) → (f p ≡ true) ↔ P p) →
    (all_below n f ≡ true) ↔ ((p : ℕ) → p < n → P p)
each_below n {f} reads = (λ e p l. (reads p).0 (all-below n f e p l), λ h. below_all n f (λ p l. (reads p).1 (h p l)))

pub each_of : (ks : List ChannelNo) {f : ChannelNo → Bool} {P : ℕ → Type 0} → ((k : ChannelNo) → (f k ≡ true) ↔ P k.0) →
    (every f ks ≡ true) ↔ ((k : ℕ) → 0 < times_in ks (channel_no k) → P k)
unfolding weigh
each_of ks {f} {P} reads = (of ks, all ks)
  where
    of : (js : List ChannelNo) → every f js ≡ true → (k : ℕ) → 0 < times_in js (channel_no k) → P k
    of [] e k l = absurd (not-suc-le-zero l)
    of (j ∷ js) e k l =
        by-same j.0 k (λ same. subst P same ((reads j).0 (and_left (f j) (every f js) e)))
        (λ d. of js (and_right (f j) (every f js) e) k (omega (arith, count-other j.0 k d)))

    all : (js : List ChannelNo) → ((k : ℕ) → 0 < times_in js (channel_no k) → P k) → every f js ≡ true
    all [] h = refl
    all (j ∷ js) h =
        and_both (f j) (every f js) ((reads j).1 (h j.0 (omega (arith, count_same j.0)))) (all js (λ k l. h k (omega arith)))

-- A test made of tests, read as a statement made of statements: `simp reads at e` and `simp reads` go from one to the other.

pub and-reads : (a b : Bool) → ((a && b) ≡ true) ↔ ((a ≡ true) × (b ≡ true))
and-reads a b = (λ e. (and_left a b e, and_right a b e), λ e. and_both a b e.0 e.1)

pub leb_reads : (a b : ℕ) → (leb a b ≡ true) ↔ (a ≤ b)
leb_reads a b = (leb-true a b, le-leb a b)

pub ltb-reads : (a b : ℕ) → (ltb a b ≡ true) ↔ (a < b)
ltb-reads a b = (ltb-true a b, lt-ltb a b)

pub eqb-reads : (a b : ℕ) → (eqb a b ≡ true) ↔ (a ≡ b)
eqb-reads a b = (eqb-true a b, eq-eqb a b)

pub below-reads : (n : ℕ) (f : ℕ → Bool) → (all_below n f ≡ true) ↔ ((p : ℕ) → p < n → f p ≡ true)
below-reads n f = (all-below n f, below_all n f)

pub ruleset reads = (and-reads, leb_reads, eqb-reads, below-reads)
