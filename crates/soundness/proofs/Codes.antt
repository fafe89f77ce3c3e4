-- The codes of a phase and the flags of an offer and a mark, which in range are read back as they were, and the bytes of a record that is
-- offered or carried.
use Prim.Native.Nat.{ℕ, ◌≤◌}
use mathlib.Core.Path.{◌≡◌, refl, ap, ◌∙◌}
use mathlib.Core.Bool.{Bool, true, false, cond, not}
use mathlib.Core.List.{List, []}
use mathlib.Core.Option.{Option, none, some}
use native.Mathlib.Omega.{arith}
use lib.Dec.{eqb}
use Rattle.batch.specs.declared.BatchRecord.{BatchRecord}
use Rattle.batch.specs.Good.{good_record}
use Rattle.wire.specs.Record.{record_length, record_bytes, record_in, RecordFits}
use Rattle.network.specs.Counting.{one}
use Rattle.network.specs.Network.{Phase, resting, asking, ready, answering}
use Rattle.network.specs.Sound.{good_offer, good_carried, is_resting}
use Rattle.network.specs.Layout.{padded, phase_code, phase_of, offered_flag, offer_of, offer_bytes, carried_bytes}
use Rattle.network.proofs.Ground.Splits.{by-test, by-same, both_ways}
use Rattle.network.proofs.Memory.Held.{OfferFits, CarriedFits, record-kept}
use Rattle.soundness.specs.Fits.{BytesFit}

-- a number in range is read back as it was

flag-cases {ℓ} : (P : ℕ → Type ℓ) → P 0 → P 1 → (flag : ℕ) → flag ≤ 1 → P flag
flag-cases P off on flag l = by-same flag 1 (λ e. rw e on) (λ d. let e : flag ≡ 0 = omega arith in rw e off)

pub flag-kept : (flag : ℕ) → flag ≤ 1 → flag ≡ one (eqb flag 1)
flag-kept = flag-cases (λ flag. flag ≡ one (eqb flag 1)) refl refl

code-cases {ℓ} : (P : ℕ → Type ℓ) → P 0 → P 1 → P 2 → P 3 → (code : ℕ) → code ≤ 3 → P code
code-cases P rests asks waits answers code l =
    by-same code 0 (λ e. rw e rests) λ d0. by-same code 1 (λ e. rw e asks) λ d1. by-same code 2 (λ e. rw e waits) λ d2.
    let e : code ≡ 3 = omega arith in
    rw e answers

module _ (x : BatchRecord) where
  pub code-kept : (code : ℕ) → code ≤ 3 → code ≡ phase_code (phase_of code x)
  code-kept = code-cases (λ code. code ≡ phase_code (phase_of code x)) refl refl refl refl

  pub carried-is : (code : ℕ) → code ≤ 3 → carried_bytes (phase_of code x) ≡ cond (eqb code 3) (record_bytes x) []
  carried-is = code-cases (λ code. carried_bytes (phase_of code x) ≡ cond (eqb code 3) (record_bytes x) []) refl refl refl refl

  pub offered-kept : (flag : ℕ) → flag ≤ 1 → flag ≡ offered_flag (offer_of flag x)
  offered-kept = flag-cases (λ flag. flag ≡ offered_flag (offer_of flag x)) refl refl

  pub offer-is : (flag : ℕ) → offer_bytes (offer_of flag x) ≡ cond (eqb flag 1) (record_bytes x) []
  offer-is flag = by-test (eqb flag 1) (λ e. rw e) (λ e. rw e)

  pub good-if-offered : (flag : ℕ) → (eqb flag 1 ≡ true → good_record x ≡ true) → good_offer (offer_of flag x) ≡ true
  good-if-offered flag good = by-test (eqb flag 1) (λ e. rw e (good e)) (λ e. rw e)

  pub good-if-carried : (code : ℕ) → code ≤ 3 → (eqb code 3 ≡ true → good_record x ≡ true) → good_carried (phase_of code x) ≡ true
  good-if-carried =
      code-cases (λ code. (eqb code 3 ≡ true → good_record x ≡ true) → good_carried (phase_of code x) ≡ true) (λ good. refl) (λ good. refl)
      (λ good. refl) (λ good. good refl)

-- what a code or a flag says of the phase, the mark or the offer

pub code-rests : (g : Phase) → phase_code g ≡ 0 → is_resting g ≡ true
code-rests resting e = refl
code-rests asking e = absurd (omega arith)
code-rests ready e = absurd (omega arith)
code-rests (answering x) e = absurd (omega arith)

pub code-ready : (g : Phase) → phase_code g ≡ 2 → g ≡ ready
code-ready resting e = absurd (omega arith)
code-ready asking e = absurd (omega arith)
code-ready ready e = refl
code-ready (answering x) e = absurd (omega arith)

pub not-raised : (b : Bool) → one b ≡ 0 → not b ≡ true
not-raised true e = absurd (omega arith)
not-raised false e = refl

pub raised : (b : Bool) → 1 ≤ one b → b ≡ true
raised true l = refl
raised false l = absurd (omega arith)

pub same-one : (a b : Bool) → one a ≡ one b → a ≡ b
same-one true true e = refl
same-one true false e = absurd (omega arith)
same-one false true e = absurd (omega arith)
same-one false false e = refl

pub none-offered : (o : Option BatchRecord) → offered_flag o ≡ 0 → o ≡ none
none-offered none e = refl
none-offered (some x) e = absurd (omega arith)

-- the code of a phase and the flag of an offer are in range

pub code-most : (g : Phase) → phase_code g ≤ 3
code-most resting = omega arith
code-most asking = omega arith
code-most ready = omega arith
code-most (answering x) = omega arith

pub flag-most : (o : Option BatchRecord) → offered_flag o ≤ 1
flag-most none = omega arith
flag-most (some x) = omega arith

-- a flag that is off where it may not be on
pub flag-below : (b : Bool) (m : ℕ) → (b ≡ true → 1 ≤ m) → one b ≤ m
flag-below true m on = on refl
flag-below false m on = omega arith

-- the bytes of a record that is offered or carried

record-there : (bytes : List ℕ) (x : BatchRecord) → bytes ≡ padded record_length (record_bytes x) → RecordFits x → good_record x ≡ true →
    BytesFit true bytes
record-there bytes x laid fits good =
    let back : record_in bytes ≡ x = ap record_in laid ∙ record-kept x fits in
    record { good = λ h. ap good_record back ∙ good; laid = rw back laid }

none-there : (bytes : List ℕ) → bytes ≡ padded record_length [] → BytesFit false bytes
none-there bytes laid = record { good = λ h. both_ways h refl; laid = laid }

pub offer-stands : (bytes : List ℕ) (o : Option BatchRecord) → bytes ≡ padded record_length (offer_bytes o) → OfferFits o →
    good_offer o ≡ true → BytesFit (eqb (offered_flag o) 1) bytes
offer-stands bytes none laid fits good = none-there bytes laid
offer-stands bytes (some x) laid fits good = record-there bytes x laid fits good

pub carried-stands : (bytes : List ℕ) (g : Phase) → bytes ≡ padded record_length (carried_bytes g) → CarriedFits g →
    good_carried g ≡ true → BytesFit (eqb (phase_code g) 3) bytes
carried-stands bytes resting laid fits good = none-there bytes laid
carried-stands bytes asking laid fits good = none-there bytes laid
carried-stands bytes ready laid fits good = none-there bytes laid
carried-stands bytes (answering x) laid fits good = record-there bytes x laid fits good
