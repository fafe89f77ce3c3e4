-- The table of places (`batch::PLACES`): at each place stands the place, by a test that is computed over the whole table.
use mathlib.Core.Path.{◌≡◌}
use mathlib.Core.Bool.{Bool, true, ◌&&◌, and-eq-true_iff}
use mathlib.Core.List.{List, [], ◌∷◌}
use Prim.Native.Nat.{ℕ, zero, suc, ◌+◌, ◌<◌}
use native.Mathlib.Nat.{add-zero, not-suc-le-zero}
use native.Mathlib.Omega.{arith}
use lib.Dec.{eqb}
use lib.ListN.{length, get_or}
use borrow.Author.Tests.{eqb-true}

-- a table that has at each place the place, by a test that is computed over the whole of it
pub record CountsUp (xs : List ℕ) : Type 0 where
  pub at : (k : ℕ) → k < length xs → get_or xs k 0 ≡ k

abbrev pub counts_from : ℕ → List ℕ → Bool
counts_from i [] = true
counts_from i (x ∷ xs) = eqb x i && counts_from (suc i) xs

counted-from : (i : ℕ) (xs : List ℕ) → counts_from i xs ≡ true → (k : ℕ) → k < length xs → get_or xs k 0 ≡ i + k
counted-from i [] t k h = absurd (not-suc-le-zero h)
counted-from i (x ∷ xs) t zero h = rw add-zero (eqb-true x i ((and-eq-true_iff (eqb x i) (counts_from (suc i) xs)).0 t).0)
counted-from i (x ∷ xs) t (suc k) h =
    let later = counted-from (suc i) xs ((and-eq-true_iff (eqb x i) (counts_from (suc i) xs)).0 t).1 k (omega arith) in
    omega (arith, later)

pub counted : (xs : List ℕ) → counts_from 0 xs ≡ true → CountsUp xs
counted xs t = record { at = λ k h. omega (arith, counted-from 0 xs t k h) }
