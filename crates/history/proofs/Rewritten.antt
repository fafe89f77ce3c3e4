-- The batch numbers of a table when one of them is rewritten: where a number then stands, and that none but 0 stands twice.
use mathlib.Core.Path.{◌≡◌, refl, sym, ap, ◌∙◌}
use mathlib.Core.Logic.{◌≢◌}
use mathlib.Core.Bool.{Bool, true, false, cond, not, ◌||◌, false≢true, true≢false, and-eq-true_iff}
use mathlib.Core.List.{List, [], ◌∷◌}
use Prim.Native.Nat.{ℕ, zero, suc, ◌<◌, ◌≤◌}
use native.Mathlib.Omega.{arith}
use native.Mathlib.Nat.{le_of_suc-le-suc}
use lib.Dec.{eqb}
use lib.ListN.{length, get_or, set}
use borrow.Author.Tests.{eq-eqb, ne_eqb, lt-ltb, le-ltb, ltb-true, ltb-false, eqb-true, eqb-false}
use Rattle.batch.specs.Good.{is_zero}
use Rattle.numbers.proofs.Splits.{by-test}
use Rattle.history.specs.Table.{place_of, holds, none_twice}

-- ---- whether a number is held
pub holds-cons : (b x : ℕ) (xs : List ℕ) → holds b (x ∷ xs) ≡ eqb x b || holds b xs
holds-cons b x xs =
    by-test (eqb x b)
    (λ e. rw e (lt-ltb 0 (suc (length xs)) (omega arith)))
    (λ e. rw e
    (by-test (holds b xs)
    (λ h. rw h (lt-ltb (suc (place_of b xs)) (suc (length xs)) (omega (arith, ltb-true (place_of b xs) (length xs) h))))
    (λ h. rw h (le-ltb (suc (place_of b xs)) (suc (length xs)) (omega (arith, ltb-false (place_of b xs) (length xs) h))))))

-- a number that is not held by a list is not its first, nor held by the rest
module _ (b x : ℕ) (xs : List ℕ) (none : holds b (x ∷ xs) ≡ false) where
  pub absent-first : eqb x b ≡ false
  absent-first = by-test (eqb x b) (λ e. absurd (true≢false (sym (holds-cons b x xs ∙ ap (λ t. t || holds b xs) e) ∙ none))) (λ e. e)

  pub absent-rest : holds b xs ≡ false
  absent-rest = sym (holds-cons b x xs ∙ ap (λ t. t || holds b xs) absent-first) ∙ none

absent-cons : (b x : ℕ) (xs : List ℕ) → eqb x b ≡ false → holds b xs ≡ false → holds b (x ∷ xs) ≡ false
absent-cons b x xs e h = holds-cons b x xs ∙ rw (e, h)

pub absent-set : (b : ℕ) (xs : List ℕ) (i v : ℕ) → eqb v b ≡ false → holds b xs ≡ false → holds b (set xs i v) ≡ false
absent-set b [] i v ne none = none
absent-set b (x ∷ xs) zero v ne none = absent-cons b v xs ne (absent-rest b x xs none)
absent-set b (x ∷ xs) (suc i) v ne none =
    absent-cons b x (set xs i v) (absent-first b x xs none) (absent-set b xs i v ne (absent-rest b x xs none))

-- ---- where a number stands
-- there, where it is held
pub place_at : (b : ℕ) (xs : List ℕ) → holds b xs ≡ true → get_or xs (place_of b xs) 0 ≡ b
place_at b [] h = absurd (omega (arith, ltb-true 0 0 h))
place_at b (x ∷ xs) h =
    by-test (eqb x b)
    (λ e. rw e (eqb-true x b e))
    (λ e. rw e (place_at b xs (sym (holds-cons b x xs ∙ ap (λ t. t || holds b xs) e) ∙ h)))

-- written before the place where it stood, it stands where it is written
pub place_set : (b : ℕ) (xs : List ℕ) (i : ℕ) → i < length xs → i ≤ place_of b xs → place_of b (set xs i b) ≡ i
place_set b [] i inside first = absurd (omega arith)
place_set b (x ∷ xs) zero inside first = rw (eq-eqb b b refl)
place_set b (x ∷ xs) (suc i) inside first =
    by-test (eqb x b)
    (λ e. absurd (omega (arith, rw e at first)))
    (λ e. rw e (ap suc (place_set b xs i (le_of_suc-le-suc inside) (omega (arith, rw e at first)))))

-- another number, written over another, moves no number
pub place_other : (b : ℕ) (xs : List ℕ) (i v : ℕ) → get_or xs i 0 ≢ b → v ≢ b → place_of b (set xs i v) ≡ place_of b xs
place_other b [] i v was is = refl
place_other b (x ∷ xs) zero v was is = rw (ne_eqb x b was, ne_eqb v b is)
place_other b (x ∷ xs) (suc i) v was is = ap (λ k. cond (eqb x b) 0 (suc k)) (place_other b xs i v was is)

-- ---- none but 0 twice
-- a number that may come first: it is 0 or is not held
abbrev once : ℕ → List ℕ → Bool
once v xs = is_zero v || not (holds v xs)

pub once-absent : (v : ℕ) (xs : List ℕ) → v ≢ 0 → once v xs ≡ true → holds v xs ≡ false
once-absent v xs ne e = by-test (holds v xs) (λ h. absurd (false≢true (sym (rw (ne_eqb v 0 ne, h)) ∙ e))) (λ h. h)

module _ (x : ℕ) (xs : List ℕ) (e : none_twice (x ∷ xs) ≡ true) where
  pub first-once : once x xs ≡ true
  first-once = ((and-eq-true_iff (once x xs) (none_twice xs)).0 e).0

  pub rest-once : none_twice xs ≡ true
  rest-once = ((and-eq-true_iff (once x xs) (none_twice xs)).0 e).1

twice-cons : (x : ℕ) (xs : List ℕ) → once x xs ≡ true → none_twice xs ≡ true → none_twice (x ∷ xs) ≡ true
twice-cons x xs a b = rw (a, b)

zero-once : (x : ℕ) (xs : List ℕ) → is_zero x ≡ true → once x xs ≡ true
zero-once x xs z = rw z

absent-once : (x : ℕ) (xs : List ℕ) → holds x xs ≡ false → once x xs ≡ true
absent-once x xs h = by-test (is_zero x) (λ z. rw z) (λ z. rw (z, h))

-- written where it was not held, or 0 anywhere
pub twice-set : (xs : List ℕ) (i v : ℕ) → (v ≢ 0 → holds v xs ≡ false) → none_twice xs ≡ true → none_twice (set xs i v) ≡ true
twice-set [] i v free e = e
twice-set (x ∷ xs) zero v free e =
    twice-cons v xs
    (by-test (is_zero v) (λ z. zero-once v xs z) (λ z. absent-once v xs (absent-rest v x xs (free (eqb-false v 0 z)))))
    (rest-once x xs e)
twice-set (x ∷ xs) (suc i) v free e =
    twice-cons x (set xs i v)
    (by-test (is_zero x) (λ z. zero-once x (set xs i v) z)
    (λ z. absent-once x (set xs i v) (absent-set x xs i v
    (by-test (eqb v x)
    (λ same.
    let v-is = eqb-true v x same in
    let not-zero : v ≢ 0 = λ n. eqb-false x 0 z (sym v-is ∙ n) in
    absurd (true≢false (sym (eq-eqb x v (sym v-is)) ∙ absent-first v x xs (free not-zero))))
    (λ other. other))
    (once-absent x xs (eqb-false x 0 z) (first-once x xs e)))))
    (twice-set xs i v (λ n. absent-rest v x xs (free n)) (rest-once x xs e))

-- a number whose one place is given to 0 is held no more
pub gone : (b : ℕ) (xs : List ℕ) → b ≢ 0 → none_twice xs ≡ true → holds b (set xs (place_of b xs) 0) ≡ false
gone b [] ne e = refl
gone b (x ∷ xs) ne e =
    by-test (eqb x b)
    (λ same.
    let x-is = eqb-true x b same in
    rw same (absent-cons b 0 xs (ne_eqb 0 b (λ z. ne (sym z)))
    (ap (λ y. holds y xs) (sym x-is) ∙ once-absent x xs (λ z. ne (sym x-is ∙ z)) (first-once x xs e))))
    (λ other. rw other (absent-cons b x (set xs (place_of b xs) 0) other (gone b xs ne (rest-once x xs e))))
