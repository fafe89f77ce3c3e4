-- A name's cells judged one at a time, as a loop meets them: what is said of the cells from i on is said of cell i and of those after it.
-- The loop goes to its end and counts the wrong cells.
use mathlib.Core.Path.{◌≡◌, refl, sym, ap, ◌∙◌}
use mathlib.Core.Bool.{Bool, true, false, cond, not, ◌&&◌, and_assoc}
use mir.Val.{bool_byte}
use native.Mathlib.Nat.{add-zero}
use mathlib.Core.List.{List, [], ◌∷◌}
use mathlib.Core.Logic.{◌⊎◌, inl, inr}
use Prim.Native.Nat.{ℕ, zero, suc, ◌+◌, ◌-◌, ◌<◌, ◌≤◌}
use native.Mathlib.Numerals.{add-one}
use native.Mathlib.Omega.{arith}
use lib.ListN.{length, get_or, take, drop}
use native.Mathlib.Nat.{sub-zero}
use borrow.Author.Tests.{ne_eqb, ltb-true, ltb-false}
use lib.Dec.{ltb}
use lib.Seq.{drop-cons}
use Rattle.batch.specs.Good.{every, first_then, is_zero, is_character, name_limit, name_cells_good}
use Rattle.numbers.proofs.Splits.{by-test}

-- ---- cells of any type, the first n of which pass one test and the rest another
module _ {A : Type 0} (f g : A → Bool) where
  first_more : (n : ℕ) (x : A) (xs : List A) → first_then f g (suc n) (x ∷ xs) ≡ f x && first_then f g n xs
  first_more n x xs = and_assoc (f x) (every f (take n xs)) (every g (drop n xs))

  -- cell i and those after it
  first_from : (n i : ℕ) (x : A) (xs : List A) →
      first_then f g (n - i) (x ∷ xs) ≡ cond (ltb i n) (f x) (g x) && first_then f g (n - (i + 1)) xs
  first_from n i x xs =
      by-test (ltb i n)
      (λ t.
      let l = ltb-true i n t in
      let e : n - i ≡ suc (n - (i + 1)) = omega arith in
      rw (t, e) (first_more (n - (i + 1)) x xs))
      (λ t.
      let l = ltb-false i n t in
      let e : n - i ≡ 0 = omega arith in
      let e' : n - (i + 1) ≡ 0 = omega arith in
      rw (t, e, e'))

  -- those from i on
  pub then-more : (n : ℕ) (xs : List A) (i : ℕ) (d : A) → i < length xs →
      first_then f g (n - i) (drop i xs) ≡ cond (ltb i n) (f (get_or xs i d)) (g (get_or xs i d)) && first_then f g (n - (i + 1)) (drop (i + 1) xs)
  then-more n xs i d inside = rw (add-one i, drop-cons xs i d) (rw add-one at (first_from n i (get_or xs i d) (drop (suc i) xs)))

  none_left : (n : ℕ) → first_then f g n [] ≡ true
  none_left zero = refl
  none_left (suc n) = refl

-- a turn: the whole is what was found so far, this cell and the cells to come
module _ {whole : Bool} (before here later : Bool) where
  pub turn-wrong : whole ≡ before && (here && later) → here ≡ false → whole ≡ false
  turn-wrong e wrong = by-test before (λ b. e ∙ rw (b, wrong)) (λ b. e ∙ rw b)

  pub turn-right : whole ≡ before && (here && later) → here ≡ true → whole ≡ before && later
  turn-right e right = e ∙ rw right

-- the end: no cell is to come
pub turn_end : {whole : Bool} (before rest : Bool) → whole ≡ before && rest → rest ≡ true → whole ≡ before
turn_end before rest e none = by-test before (λ b. e ∙ rw (b, none)) (λ b. e ∙ rw b)

-- ---- the cells of a name
named-none : (n : ℕ) (cells : List ℕ) → length cells ≡ 0 → name_cells_good n cells ≡ true
unfolding name_cells_good
named-none n [] e = none_left is_character is_zero n
named-none n (x ∷ cells) e = absurd (omega arith)

-- a loop over the cells that counts the wrong ones, at a place with these cells to come
pub record Counted (n : ℕ) (name : List ℕ) (wrong place : ℕ) (rest : List ℕ) : Type 0 where
  pub within : place + length rest ≡ name_limit
  pub few : wrong ≤ place
  pub so_far : name_cells_good n name ≡ is_zero wrong && name_cells_good (n - place) rest

count_turn : {whole : Bool} (w : ℕ) (here later : Bool) → whole ≡ is_zero w && (here && later) →
    whole ≡ is_zero (w + bool_byte (not here)) && later
count_turn w true later e = rw add-zero e
count_turn w false later e = rw (ne_eqb (w + 1) 0 (λ z. omega arith)) (by-test (is_zero w) (λ z. e ∙ rw z) (λ z. e ∙ rw z))

module _ (n : ℕ) (name : List ℕ) where
  pub counted-none : length name ≡ name_limit → Counted n name 0 0 name
  counted-none h = record { within = omega arith; few = omega arith; so_far = rw sub-zero refl }

  module _ {wrong place : ℕ} {rest : List ℕ} (c : Counted n name wrong place rest) where
    pub counted-more : {x next : ℕ} {later : List ℕ} → rest ≡ x ∷ later → next ≡ place + 1 →
        Counted n name (wrong + bool_byte (not (cond (ltb place n) (is_character x) (is_zero x)))) next later
    unfolding name_cells_good
    counted-more {x} {next} {later} e f =
        let here : Bool = cond (ltb place n) (is_character x) (is_zero x) in
        record {
          within = omega (arith, c.within, ap length e);
          few = by-test here (λ t. rw t (omega (arith, c.few))) (λ t. rw t (omega (arith, c.few)));
          so_far = rw f (count_turn wrong here _ (rw (e, first_from is_character is_zero n place x later) at c.so_far));
        }

    pub counted-all : (length rest ≡ 0) ⊎ (255 - place ≡ 0) → is_zero wrong ≡ name_cells_good n name
    counted-all (inl e) = sym (turn_end (is_zero wrong) _ c.so_far (named-none (n - place) rest e))
    counted-all (inr e) = absurd (omega (arith, c.within))
