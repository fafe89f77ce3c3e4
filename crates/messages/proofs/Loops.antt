-- The loops of the test. Each goes over all its places and keeps one number: what it has found wrong, which is 0 exactly when the
-- statement holds of every place passed (`Judging`), or what the places passed add up to (`Summing`). For each: the invariant, that it
-- holds at the start and that a turn keeps it; and what a sum is at the end.
use Prim.Native.Nat.{ℕ, ◌+◌, ◌*◌, ◌≤◌, ◌<◌}
use mathlib.Core.Path.{◌≡◌, refl, sym}
use mathlib.Core.Bool.{Bool, true, false, false≢true}
use native.Mathlib.Nat.{not-suc-le-zero}
use native.Mathlib.Numerals.{add-one}
use native.Mathlib.Omega.{arith}
use Rattle.network.specs.Counting.{sum}
use Rattle.network.proofs.Ground.Splits.{by-same}
use Rattle.messages.specs.Decides.{Decides}

-- P judged at each place below n

pub record Judging (P : ℕ → Type 0) (n found i : ℕ) : Type 0 where
  pub within : i ≤ n
  pub right : found ≡ 0 → (j : ℕ) → j < i → P j
  pub none : ((j : ℕ) → j < i → P j) → found ≡ 0

module _ {P : ℕ → Type 0} {n : ℕ} where
  pub judging-start : Judging P n 0 0
  judging-start = record { within = omega arith; right = λ e j l. absurd (not-suc-le-zero l); none = λ all. refl }

  -- after the turn nothing is found exactly when nothing was and the place is right
  pub judging-turn : {found after i : ℕ} → Judging P n found i → i < n → (after ≡ 0 → (found ≡ 0) × P i) →
      (found ≡ 0 → P i → after ≡ 0) → Judging P n after (i + 1)
  judging-turn {i = i} before inside is_right is_none =
      record {
        within = omega arith;
        right = λ e j l.
            by-same j i (λ same. rw same (is_right e).1) (λ other. before.right (is_right e).0 j (omega arith));
        none = λ all. is_none (before.none (λ j l. all j (omega arith))) (all i (omega arith));
      }

-- the wrong places are counted, each judged by a call

pub record Counting (P : ℕ → Type 0) (n wrong i : ℕ) : Type 0 where
  pub judged : Judging P n wrong i
  pub few : wrong ≤ i

module _ {P : ℕ → Type 0} {n : ℕ} where
  pub counting-start : Counting P n 0 0
  counting-start = record { judged = judging-start; few = omega arith }

  -- the call answered no, and one more is wrong
  pub counting-wrong : {wrong after i : ℕ} {r : Bool} → Counting P n wrong i → i < n → Decides r (P i) → r ≡ false →
      after ≡ wrong + 1 → Counting P n after (i + 1)
  counting-wrong before inside call wrong e =
      rw e
      (record {
        judged = judging-turn before.judged inside (λ z. absurd (omega arith)) (λ z p. absurd (false≢true (rw (call.passes p) at (sym wrong))));
        few = omega (arith, before.few);
      })

  -- or yes
  pub counting-right : {wrong after i : ℕ} {r : Bool} → Counting P n wrong i → i < n → Decides r (P i) → r ≡ true →
      after ≡ wrong → Counting P n after (i + 1)
  counting-right before inside call good e =
      rw e
      (record {
        judged = judging-turn before.judged inside (λ z. (z, call.holds good)) (λ z p. z);
        few = omega (arith, before.few);
      })

-- f added up over the places below n, each at most `most`

pub record Summing (f : ℕ → ℕ) (n most total i : ℕ) : Type 0 where
  pub within : i ≤ n
  pub few : total ≤ most * i
  pub same : total ≡ sum i f

module _ {f : ℕ → ℕ} {n most : ℕ} where
  pub summing_start : Summing f n most 0 0
  unfolding sum
  summing_start = record { within = omega arith; few = omega arith; same = refl }

  pub summing-turn : {total after i : ℕ} → Summing f n most total i → i < n → f i ≤ most → after ≡ total + f i →
      Summing f n most after (i + 1)
  unfolding sum
  summing-turn {total} {after} {i} before inside small e =
      record {
        within = omega arith;
        few = let more : most * (i + 1) ≡ most * i + most = omega arith in omega (arith, before.few);
        same = rw (add-one i, e, before.same);
      }

  pub summing-end : {total i : ℕ} → Summing f n most total i → n ≤ i → total ≡ sum n f
  summing-end {i = i} whole past = let end : i ≡ n = omega (arith, whole.within) in rw end at whole.same
