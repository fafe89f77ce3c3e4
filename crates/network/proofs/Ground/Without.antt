-- Ground. A list of channels without one that stands in it: it weighs less by that one, is shorter by one, and leaves the others in their
-- order.
use Prim.Native.Nat.{ℕ, suc, ◌+◌, ◌≤◌, ◌<◌}
use mathlib.Core.Path.{◌≡◌, refl, ap, ◌∙◌}
use mathlib.Core.Logic.{◌≢◌}
use mathlib.Core.List.{List, [], ◌∷◌, ◌++◌}
use native.Mathlib.Omega.{arith}
use lib.Dec.{eqb}
use lib.ListN.{length}
use borrow.Author.Tests.{eq-eqb, ne_eqb}
use Rattle.network.specs.Counting.{weigh, count, without_first}
use Rattle.network.proofs.Ground.Splits.{by-same}
use Rattle.network.proofs.Ground.Counting.{weigh-cons, count-other}

module _ (k : ℕ) where
  -- the list without k
  abbrev pub without : List ℕ → List ℕ
  without xs = without_first (λ x. eqb x k) xs

  first_out : (xs : List ℕ) → without (k ∷ xs) ≡ xs
  first_out xs = rw (eq-eqb k k refl)

  later-out : (x : ℕ) (xs : List ℕ) → x ≢ k → without (x ∷ xs) ≡ x ∷ without xs
  later-out x xs d = rw (ne_eqb x k d)

  -- k stands further on, if it is not the first
  in_rest : (x : ℕ) (xs : List ℕ) → x ≢ k → 0 < count k (x ∷ xs) → 0 < count k xs
  unfolding weigh
  in_rest x xs d l = omega (arith, count-other x k d)

  pub weigh-without : (f : ℕ → ℕ) (xs : List ℕ) → 0 < count k xs → weigh f (without xs) + f k ≡ weigh f xs
  unfolding weigh
  weigh-without f [] l = absurd (omega arith)
  weigh-without f (x ∷ xs) l =
      by-same x k
      (λ e. rw (e, first_out xs) (omega arith))
      (λ d.
      let rest : weigh f (without xs) + f k ≡ weigh f xs = weigh-without f xs (in_rest x xs d l) in
      rw (later-out x xs d) (omega (arith, rest, weigh-cons f x (without xs))))

  pub length_without : (xs : List ℕ) → 0 < count k xs → suc (length (without xs)) ≡ length xs
  unfolding weigh
  length_without [] l = absurd (omega arith)
  length_without (x ∷ xs) l =
      by-same x k
      (λ e. rw (e, first_out xs) refl)
      (λ d. rw (later-out x xs d) (ap suc (length_without xs (in_rest x xs d l))))

  -- another that stands in the list stands there still, with no more before it
  pub split-without : (m : ℕ) (xs ys : List ℕ) → m ≢ k →
      (zs : List ℕ) × (us : List ℕ) × (without (xs ++ (m ∷ ys)) ≡ zs ++ (m ∷ us)) × (length zs ≤ length xs)
  split-without m [] ys d = ([], without ys, later-out m ys d, omega arith)
  split-without m (x ∷ xs) ys d =
      by-same x k
      (λ e. (xs, ys, rw (e, first_out (xs ++ (m ∷ ys))) refl, omega arith))
      (λ f.
      let r = split-without m xs ys d in
      (x ∷ r.0, r.1, later-out x (xs ++ (m ∷ ys)) f ∙ ap (λ l. x ∷ l) r.2, omega (arith, r.3)))
