-- Case splits that keep the equation: on a test, on two numbers that are the same or not, on one that is less or not.
use Prim.Native.Nat.{ℕ, ◌≤◌, ◌<◌}
use mathlib.Core.Path.{◌≡◌, refl}
use mathlib.Core.Logic.{◌≢◌}
use mathlib.Core.Bool.{Bool, true, false}
use lib.Dec.{eqb, ltb}
use borrow.Author.Tests.{eqb-true, eqb-false, ltb-true, ltb-false}

module _ {ℓ} {X : Type ℓ} where
  pub by-test : (b : Bool) → (b ≡ true → X) → (b ≡ false → X) → X
  by-test true yes-so not_so = yes-so refl
  by-test false yes-so not_so = not_so refl

  pub by-same : (a b : ℕ) → (a ≡ b → X) → (a ≢ b → X) → X
  by-same a b same other = by-test (eqb a b) (λ e. same (eqb-true a b e)) (λ e. other (eqb-false a b e))

  pub by_less : (a b : ℕ) → (a < b → X) → (b ≤ a → X) → X
  by_less a b less not-less = by-test (ltb a b) (λ e. less (ltb-true a b e)) (λ e. not-less (ltb-false a b e))
