-- Tests of what is in use or else holds nothing (specs/Fits, `Either` and `Nothing`): of one thing, by a flag, and of all, in a loop over
-- places of which the first are in use.
use Prim.Native.Nat.{ℕ, ◌+◌, ◌<◌}
use mathlib.Core.Path.{◌≡◌}
use mathlib.Core.Bool.{Bool, true, false, not, ◌&&◌, ◌||◌, or-false}
use mathlib.Core.List.{List}
use lib.Bits.{bit_or}
use lib.Dec.{eqb, ltb}
use lib.ListN.{length, get_or}
use Rattle.batch.proofs.Places.{CountsUp}
use Rattle.messages.specs.Decides.{Decides}
use Rattle.messages.proofs.Decides.{restated, or-zero, decides-none}
use Rattle.messages.proofs.Loops.{Counting, counting-start, counting-wrong, counting-right}
use Rattle.soundness.specs.Fits.{Either, Nothing}

-- one test or the other, by a flag
pub decides-either : (flag : Bool) {a b : Bool} {A B : Type 0} → Decides a A → Decides b B →
    Decides ((flag && a) || (not flag && b)) (Either flag A B)
decides-either true {a} first second = rw (or-false a) first
decides-either false first second = second

pub decides-nothing : (a b c d : ℕ) → Decides (eqb (bit_or (bit_or (bit_or a b) c) d) 0) (Nothing a b c d)
decides-nothing a b c d =
    restated
    (λ e. let abc = (or-zero (bit_or a b) c).0 e.0 in let ab = (or-zero a b).0 abc.0 in (ab.0, ab.1, abc.1, e.1))
    (λ e. ((or-zero (bit_or a b) c).1 ((or-zero a b).1 (e.0, e.1), e.2), e.3))
    (decides-none (bit_or (bit_or a b) c) d)

-- The wrong places are counted (`Counting` in messages), and what is asked of a place goes by whether it is in use, one of the first
-- `count`; its number is read off the table of places.

pub record CountingUsed (P : Bool → ℕ → Type 0) (count n : ℕ) (places : List ℕ) (wrong i : ℕ) : Type 0 where
  pub table : CountsUp places
  pub counted : Counting (λ k. P (ltb k count) k) n wrong i

module _ {P : Bool → ℕ → Type 0} {count n : ℕ} {places : List ℕ} where
  pub used_start : CountsUp places → CountingUsed P count n places 0 0
  used_start up = record { table = up; counted = counting-start }

  pub used-wrong : {wrong after i : ℕ} {r : Bool} → CountingUsed P count n places wrong i → i < n → i < length places →
      Decides r (P (ltb (get_or places i 0) count) i) → r ≡ false → after ≡ wrong + 1 → CountingUsed P count n places after (i + 1)
  used-wrong {i = i} before inside listed call wrong e =
      record {
        table = before.table;
        counted = counting-wrong before.counted inside (rw (before.table.at i listed) at call) wrong e;
      }

  pub used-right : {wrong after i : ℕ} {r : Bool} → CountingUsed P count n places wrong i → i < n → i < length places →
      Decides r (P (ltb (get_or places i 0) count) i) → r ≡ true → after ≡ wrong → CountingUsed P count n places after (i + 1)
  used-right {i = i} before inside listed call good e =
      record {
        table = before.table;
        counted = counting-right before.counted inside (rw (before.table.at i listed) at call) good e;
      }
