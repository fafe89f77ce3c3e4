-- Batch numbers in a list, as the library's searches find them: where one stands first, and whether one stands again further on.
use Rattle.std.proofs.Common.{◌≡◌, ◌≢◌, ◌+◌, ◌-◌, ◌<◌, ℕ, true, false, cond, not, ◌||◌, ◌&&◌, List, [], ◌∷◌, length, get_or, take, drop, refl, sym, ap, ◌∙◌, eqb, Some, None, arith, add-one, one-add, drop-cons, length-drop}
use Rattle.std.specs.List.{list_any}
use Rattle.std.proofs.Math.Bool.{or-true}
use Rattle.std.proofs.Math.Seq.{take_all}
use Rattle.std.proofs.lemmas.List.Recursion.{is_position_or_len}
use borrow.Author.Tests.{ne_eqb}
use Rattle.batch.specs.Good.{is_zero}
use Rattle.history.specs.Table.{place_of, holds, none_twice}
use Rattle.history.specs.Search.{place_in}
use Rattle.history.proofs.Rewritten.{holds-cons}

-- it stands first where the table's own definition has it
pub place-is : (b : ℕ) (bs : List ℕ) → place_in b bs ≡ cond (holds b bs) (Some (place_of b bs)) None
place-is b bs = rw (is_position_or_len (place_of b) (λ x. eqb x b) refl (λ x xs. ap (cond (eqb x b) 0) (sym (one-add (place_of b xs)))) bs) refl

pub any-holds : (b : ℕ) (bs : List ℕ) → list_any (λ x. eqb x b) bs ≡ holds b bs
any-holds b [] = refl
any-holds b (x ∷ xs) = ap (λ h. eqb x b || h) (any-holds b xs) ∙ sym (holds-cons b x xs)

-- ---- the number at a place, and those after it
module _ (bs : List ℕ) (i : ℕ) (inside : i < length bs) where
  abbrev b : ℕ
  b = get_or bs i 0

  abbrev rest : List ℕ
  rest = drop (i + 1) bs

  -- of n numbers in all
  pub again : {n : ℕ} → length bs ≡ n → list_any (λ x. eqb x b) (take (n - (i + 1)) rest) ≡ holds b rest
  again {n} all = ap (list_any (λ x. eqb x b)) (take_all (n - (i + 1)) rest (omega (arith, length-drop (i + 1) bs, all))) ∙ any-holds b rest

  one-by-one : none_twice (drop i bs) ≡ ((is_zero b || not (holds b rest)) && none_twice rest)
  one-by-one = rw (add-one i, drop-cons bs i 0 inside) refl

  -- where none stood twice so far, the one at i decides
  module _ (so_far : none_twice bs ≡ none_twice (drop i bs)) where
    pub there-again : b ≢ 0 → holds b rest ≡ true → false ≡ none_twice bs
    there-again ne held = rw (so_far, one-by-one, ne_eqb b 0 ne, held) refl

    pub once-there : holds b rest ≡ false → none_twice bs ≡ none_twice rest
    once-there none = rw (so_far, one-by-one, none) (ap (λ h. h && none_twice rest) (or-true (is_zero b)))

    pub none-there : is_zero b ≡ true → none_twice bs ≡ none_twice rest
    none-there zero = rw (so_far, one-by-one, zero) refl
