-- A command's temperature in its unit is taken exactly where a record may have it, and tenths that are taken fit 16 bits ten times; the
-- worked temperatures; what send makes of a command's fields, by the tests of the code.
use mathlib.Core.Path.{◌≡◌, refl, sym, ap, ◌∙◌}
use mathlib.Core.Logic.{◌≢◌}
use mathlib.Core.Bool.{true, false, ◌&&◌, and-eq-true_iff}
use Prim.Native.Nat.{ℕ, suc, ◌+◌, ◌*◌, ◌<◌, ◌^◌}
use native.Mathlib.Omega.{arith}
use lib.Dec.{leb}
use lib.IntN.{ℤ, pos, negsuc, neg_ℤ}
use lib.Signed.{mag}
use borrow.Author.Tests.{le-leb, lt-leb, leb-true, leb-false}
use Rattle.std.specs.Prelude.{Result, Ok, Err}
use Rattle.refusal.specs.declared.Refusal.{Refusal}
use Rattle.refusal.specs.declared.Refusal.TheVariants.{BatchNumberZero, TemperatureOutOfRange}
use Rattle.refusal.specs.Number.{Verdict, verdict_number}
use Rattle.batch.specs.declared.BatchRecord.{BatchRecord}
use Rattle.batch.specs.declared.sending.Fields.{Fields}
use Rattle.batch.specs.declared.sending.Scale.{Scale}
use Rattle.batch.specs.declared.sending.Scale.TheVariants.{Tenths, Hundredths}
use Rattle.batch.specs.Good.{in_range, batch_good, temp_good, name_length_good, name_good, widths_good, blank_ends, verdict_of, send_verdict}
use Rattle.batch.specs.Sending.{in_tenths, tenfold, in_scale, as_hundredths, made, OneRange, Means12, MadeOfTenths, MadeOfHundredths}
use Rattle.batch.specs.Sending.{record_with, record_from, sent_as, sent_from}
use Rattle.batch.proofs.Good.{batch-zero, batch-not-zero, temp-tested, verdict-batch, verdict-temp, sent-bad}
use Rattle.numbers.proofs.Splits.{by-test}

pub made-of-tenths : MadeOfTenths
unfolding made
made-of-tenths = refl

pub made-of-hundredths : MadeOfHundredths
unfolding made
made-of-hundredths = refl

-- ten times -(n + 1)
pub below-zero : (n : ℕ) → tenfold (negsuc n) ≡ negsuc (n * 10 + 9)
below-zero n =
    let ten : suc n * 10 ≡ suc (n * 10 + 9) = omega arith in
    ap (λ k. neg_ℤ (pos k)) ten

-- the tests of the two ranges agree
most : (n : ℕ) → leb n 1200 ≡ leb (n * 10) 12000
most n =
    by-test (leb n 1200)
    (λ e. e ∙ sym (le-leb (n * 10) 12000 (omega (arith, leb-true n 1200 e))))
    (λ e. e ∙ sym (lt-leb (n * 10) 12000 (omega (arith, leb-false n 1200 e))))

least : (n : ℕ) → leb n 399 ≡ leb (n * 10 + 9) 3999
least n =
    by-test (leb n 399)
    (λ e. e ∙ sym (le-leb (n * 10 + 9) 3999 (omega (arith, leb-true n 399 e))))
    (λ e. e ∙ sym (lt-leb (n * 10 + 9) 3999 (omega (arith, leb-false n 399 e))))

one-range-tenths : (x : ℤ) → in_tenths x ≡ in_range (tenfold x)
one-range-tenths (pos n) = most n
one-range-tenths (negsuc n) = ap (λ b. b && true) (least n) ∙ ap in_range (sym (below-zero n))

pub one-range : OneRange
one-range Tenths x = one-range-tenths x
one-range Hundredths x = refl

-- so what is made of tenths fits 16 bits
small : (x : ℤ) → in_range x ≡ true → mag x < 2 ^ 15
small (pos n) e = omega (arith, leb-true n 12000 e)
small (negsuc n) e = omega (arith, leb-true n 3999 ((and-eq-true_iff (leb n 3999) true).0 e).0)

pub tenfold-fits : (x : ℤ) → in_tenths x ≡ true → mag (tenfold x) < 2 ^ 15
tenfold-fits x e = small (tenfold x) (sym (one-range-tenths x) ∙ e)

-- ---- what send makes
verdict_in : Result ℤ Refusal → Verdict
verdict_in (Ok t) = Ok tt
verdict_in (Err r) = Err r

degrees_or : ℤ → Result ℤ Refusal → ℤ
degrees_or other (Ok t) = t
degrees_or other (Err r) = other

module _ (s : Scale) (f : Fields) where
  abbrev x : BatchRecord
  x = record_from s f

  by-verdict : {v : Verdict} → send_verdict x ≡ v → sent_from s f ≡ sent_as x v
  unfolding sent_from
  by-verdict e = ap (sent_as x) e

  zero-is-11 : f.batch.0 ≡ 0 → send_verdict x ≡ Err BatchNumberZero
  zero-is-11 e = sent-bad x BatchNumberZero (verdict-batch x (batch-zero x e))

  -- 12, and nothing else, where the number is there and the temperature is not in its range
  far-is-12 : (f.batch.0 ≡ 0 → ⊥) → in_scale s f.temperature ≡ false → send_verdict x ≡ Err TemperatureOutOfRange
  far-is-12 numbered far =
      sent-bad x TemperatureOutOfRange
      (verdict-temp x (batch-not-zero x numbered) (temp-tested x ∙ sym (one-range s f.temperature) ∙ far))

  pub sent-zero : f.batch.0 ≡ 0 → Err BatchNumberZero ≡ sent_from s f
  sent-zero e = sym (by-verdict (zero-is-11 e))

  -- a temperature that is out of the range of its unit is refused with 12
  pub sent-far : {r : Refusal} → (f.batch.0 ≡ 0 → ⊥) → made s f.temperature ≡ Err r → Err r ≡ sent_from s f
  unfolding made verdict_in
  sent-far {r} numbered e =
      by-test (in_scale s f.temperature)
      (λ t. let both : Ok (as_hundredths s f.temperature) ≡ Err r = rw t at e in cc)
      (λ far.
      let is : Err TemperatureOutOfRange ≡ Err r = rw far at e in
      sym (by-verdict (far-is-12 numbered far) ∙ ap (λ (y : Result ℤ Refusal). sent_as x (verdict_in y)) is))

  pub sent-made : {t : ℤ} {v : Verdict} → made s f.temperature ≡ Ok t → send_verdict (record_with f t) ≡ v
      → sent_as (record_with f t) v ≡ sent_from s f
  unfolding made degrees_or
  sent-made {t} {v} e w =
      by-test (in_scale s f.temperature)
      (λ y.
      let is : as_hundredths s f.temperature ≡ t = ap (degrees_or t) (rw y at e) in
      ap (sent_as (record_with f t)) (sym w) ∙ ap (λ z. sent_as (record_with f z) (send_verdict (record_with f z))) (sym is) ∙ sym (by-verdict refl))
      (λ far. let both : Err TemperatureOutOfRange ≡ Ok t = rw far at e in cc)

-- ---- the meaning of 12
-- a record that has a number and a temperature in range is not refused with 12
not-12 : (r : BatchRecord) → batch_good r ≡ true → temp_good r ≡ true → verdict_number (send_verdict r) ≡ 12 → ⊥
unfolding send_verdict verdict_of
not-12 r b t e =
    by-test (name_length_good r) (λ l.
    by-test (name_good r && widths_good r) (λ n.
    by-test (blank_ends r) (λ k. omega (arith, rw (b, t, l, n, k) at e)) (λ k. omega (arith, rw (b, t, l, n, k) at e)))
    (λ n. omega (arith, rw (b, t, l, n) at e)))
    (λ l. omega (arith, rw (b, t, l) at e))

pub means-12 : Means12
means-12 s f = (
  λ e.
      let said = ap verdict_number e in
      let numbered : f.batch.0 ≢ 0 = λ z. omega (arith, sym (ap verdict_number (zero-is-11 s f z)) ∙ said) in (
        numbered,
        by-test (in_scale s f.temperature)
            (λ t. absurd (not-12 _ (batch-not-zero _ numbered) (temp-tested _ ∙ sym (one-range s f.temperature) ∙ t) said))
            (λ far. far),
      ),
  λ h. far-is-12 s f h.0 h.1,
)
