-- Laws of a test and its statement (specs/Decides): of an answer of no, of comparisons, and of tests joined by "and".
use Prim.Native.Nat.{ℕ, ◌≤◌, ◌<◌}
use mathlib.Core.Path.{◌≡◌, refl, sym, ◌∙◌}
use mathlib.Core.Logic.{◌↔◌}
use mathlib.Core.Bool.{Bool, true, false, not, ◌&&◌, false≢true}
use native.Mathlib.Omega.{arith}
use lib.Bits.{bit_or, or_add_and, and_le_l, and_le_r}
use lib.Dec.{eqb, leb, ltb}
use borrow.Author.Tests.{eqb-true, eq-eqb, leb-true, le-leb, ltb-true, lt-ltb}
use Rattle.network.proofs.Ground.Splits.{by-test, both_ways, and_left, and_right, and_both}
use Rattle.messages.specs.Decides.{Decides}

module _ {P : Type 0} where
  pub says-no : (P → ⊥) → Decides false P
  says-no none = record { holds = λ e. absurd (false≢true e); passes = λ p. absurd (none p) }

  -- another word for the same statement
  pub restated : {r : Bool} {Q : Type 0} → (P → Q) → (Q → P) → Decides r P → Decides r Q
  restated there back d = record { holds = λ e. there (d.holds e); passes = λ q. d.passes (back q) }

-- two tests of one statement are the same
pub same_test : {a b : Bool} → (a ≡ true → b ≡ true) → (b ≡ true → a ≡ true) → a ≡ b
same_test {a} {b} there back =
    by-test a (λ e. e ∙ sym (there e)) (λ e. by-test b (λ h. both_ways (back h) e) (λ h. e ∙ sym h))

-- comparisons

pub decides-less : (a b : ℕ) → Decides (ltb a b) (a < b)
decides-less a b = record { holds = ltb-true a b; passes = lt-ltb a b }

pub decides-most : (a b : ℕ) → Decides (leb a b) (a ≤ b)
decides-most a b = record { holds = leb-true a b; passes = le-leb a b }

pub decides-same : (a b : ℕ) → Decides (eqb a b) (a ≡ b)
decides-same a b = record { holds = eqb-true a b; passes = eq-eqb a b }

-- a test itself, and its contrary

pub decides-on : (b : Bool) → Decides b (b ≡ true)
decides-on b = record { holds = λ e. e; passes = λ e. e }

pub decides-off : (b : Bool) → Decides (not b) (b ≡ false)
decides-off true = record { holds = λ e. absurd (false≢true e); passes = λ e. absurd (false≢true (sym e)) }
decides-off false = record { holds = λ e. refl; passes = λ e. refl }

-- tests joined

module _ {a b : Bool} {A B : Type 0} (first : Decides a A) (second : Decides b B) where
  pub decides_and : Decides (a && b) (A × B)
  decides_and =
      record {
        holds = λ e. (first.holds (and_left a b e), second.holds (and_right a b e));
        passes = λ p. and_both a b (first.passes p.0) (second.passes p.1);
      }

-- two tests, of which the second is made where the first passes: what both say
module _ {a v : Bool} {A B : Type 0} (first : Decides a A) where
  pub both-pass : {b : Bool} → Decides b B → a ≡ true → v ≡ b → Decides v (A × B)
  both-pass second e same =
      record { holds = λ h. (first.holds e, second.holds (sym same ∙ h)); passes = λ p. same ∙ second.passes p.1 }

  pub first-fails : a ≡ false → v ≡ a → Decides v (A × B)
  first-fails e same = rw (same ∙ e) (says-no (λ p. both_ways (first.passes p.0) e))

-- numbers joined by "or" are zero where all are

pub or-zero : (a b : ℕ) → (bit_or a b ≡ 0) ↔ ((a ≡ 0) × (b ≡ 0))
or-zero a b =
    (λ e. omega (arith, or_add_and a b, and_le_l a b, and_le_r a b), λ e. omega (arith, e.0, e.1, or_add_and a b))

pub decides-none : (a b : ℕ) → Decides (eqb (bit_or a b) 0) ((a ≡ 0) × (b ≡ 0))
decides-none a b = restated (or-zero a b).0 (or-zero a b).1 (decides-same (bit_or a b) 0)
