-- Ground. Case splits that keep the equation: on a test and on two numbers (numbers), on a list, on an offer, on a phase.
use Prim.Native.Nat.{ℕ, ◌≤◌, ◌<◌}
use mathlib.Core.Path.{◌≡◌, refl}
use mathlib.Core.Logic.{◌≢◌}
use mathlib.Core.Bool.{Bool, true, false, false≢true, ◌&&◌}
use mathlib.Core.List.{List, [], ◌∷◌}
use mathlib.Core.Option.{Option, none, some}
use lib.Dec.{eqb, ltb}
use borrow.Author.Tests.{eqb-true, eqb-false, ltb-true, ltb-false}
use Rattle.batch.specs.declared.BatchRecord.{BatchRecord}
pub use Rattle.numbers.proofs.Splits.{by-test, by-same, by_less}
use Rattle.network.specs.Network.{Phase, resting, asking, ready, answering}

module _ {ℓ} {X : Type ℓ} where
  pub by-list {κ} : {A : Type κ} (xs : List A) → (xs ≡ [] → X) → ((y : A) (ys : List A) → xs ≡ y ∷ ys → X) → X
  by-list [] empty more = empty refl
  by-list (y ∷ ys) empty more = more y ys refl

  pub by-option {κ} : {A : Type κ} (o : Option A) → (o ≡ none → X) → ((a : A) → o ≡ some a → X) → X
  by-option none absent present = absent refl
  by-option (some a) absent present = present a refl

  pub by-phase : (f : Phase) → (f ≡ resting → X) → (f ≡ asking → X) → (f ≡ ready → X) → ((x : BatchRecord) → f ≡ answering x → X) → X
  by-phase resting a b c d = a refl
  by-phase asking a b c d = b refl
  by-phase ready a b c d = c refl
  by-phase (answering x) a b c d = d x refl

  -- a test cannot be both
  pub both_ways : {b : Bool} → b ≡ true → b ≡ false → X
  both_ways {b} t f = absurd (false≢true (rw f at t))

-- what a test made of tests says

pub and_left : (a b : Bool) → (a && b) ≡ true → a ≡ true
and_left true b e = refl
and_left false b e = e

pub and_right : (a b : Bool) → (a && b) ≡ true → b ≡ true
and_right true b e = e
and_right false b e = absurd (false≢true e)

pub and_both : (a b : Bool) → a ≡ true → b ≡ true → (a && b) ≡ true
and_both a b ha hb = rw (ha, hb)

-- both parts of a pair under names
pub both_so {ℓ} : {A B : Type 0} {X : Type ℓ} → A × B → (A → B → X) → X
both_so parts so = so parts.0 parts.1
