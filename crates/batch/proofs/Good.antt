-- Laws of a good record and of the first refusal that applies. Callers cite these and not the text of the definitions, so that
-- a limit or a clause can change behind its name.
use mathlib.Core.Path.{◌≡◌, refl, sym, ap, ◌∙◌}
use mathlib.Core.Bool.{true, false, ◌&&◌, false≢true, and-eq-true_iff}
use Prim.Native.Nat.{◌≤◌, ◌<◌, ◌^◌}
use native.Mathlib.Omega.{arith}
use lib.Dec.{lit≤}
use lib.ListN.{length}
use borrow.Author.Tests.{eq-eqb, ne_eqb, le-leb, lt-leb, lt-ltb, leb-true}
use Rattle.std.specs.Prelude.{Ok, Err, is_ok}
use Rattle.refusal.specs.declared.Refusal.{Refusal}
use Rattle.refusal.specs.declared.Refusal.TheVariants.{BatchNumberZero, TemperatureOutOfRange, NameTooLong, BadName, BlankEnd}
use Rattle.numbers.proofs.Splits.{by-test}
use Rattle.refusal.specs.Number.{Verdict, verdict_number}
use Rattle.refusal.proofs.Verdicts.{has-passed, zero-passed}
use Rattle.batch.specs.declared.BatchRecord.{BatchRecord}
use Rattle.batch.specs.Good.{in_range, name_limit, batch_good, temp_good, name_length_good, name_good, widths_good}
use Rattle.batch.specs.Good.{good_record, verdict_of, blank_ends, send_verdict, GoodExactly, GoodIsZero, GoodNumber, SentExactly, Means30}

-- the clauses that a good record passes
pub record Passes (r : BatchRecord) : Type 0 where
  pub number : batch_good r ≡ true
  pub degrees : temp_good r ≡ true
  pub size : name_length_good r ≡ true
  pub name : name_good r ≡ true
  pub widths : widths_good r ≡ true

module _ (r : BatchRecord) where
  -- each clause by its tests
  pub batch-zero : r.batch.0 ≡ 0 → batch_good r ≡ false
  unfolding batch_good
  batch-zero e = rw (eq-eqb r.batch.0 0 e)

  pub batch-not-zero : (r.batch.0 ≡ 0 → ⊥) → batch_good r ≡ true
  unfolding batch_good
  batch-not-zero ne = rw (ne_eqb r.batch.0 0 ne)

  pub temp-tested : temp_good r ≡ in_range r.temperature
  unfolding temp_good
  temp-tested = refl

  pub name-short : r.name_length ≤ name_limit → name_length_good r ≡ true
  unfolding name_length_good
  name-short h = le-leb r.name_length name_limit h

  pub name-long : name_limit < r.name_length → name_length_good r ≡ false
  unfolding name_length_good
  name-long h = lt-leb r.name_length name_limit h

  pub widths-held : r.batch.0 < 2 ^ 32 → r.vessel < 256 → length r.name ≡ name_limit → widths_good r ≡ true
  unfolding widths_good
  widths-held number vessel cells =
      λ i.
      lt-ltb r.batch.0 (2 ^ 32) number i && lt-ltb r.vessel 256 vessel i && eq-eqb (length r.name) name_limit cells i

  -- the first refusal that applies, given the clauses before it
  pub verdict-batch : batch_good r ≡ false → verdict_of r ≡ Err BatchNumberZero
  unfolding verdict_of
  verdict-batch b = rw b

  pub verdict-temp : batch_good r ≡ true → temp_good r ≡ false → verdict_of r ≡ Err TemperatureOutOfRange
  unfolding verdict_of
  verdict-temp b t = rw (b, t)

  pub verdict-length : batch_good r ≡ true → temp_good r ≡ true → name_length_good r ≡ false → verdict_of r ≡ Err NameTooLong
  unfolding verdict_of
  verdict-length b t l = rw (b, t, l)

  pub verdict-name : batch_good r ≡ true → temp_good r ≡ true → name_length_good r ≡ true → name_good r ≡ false
      → verdict_of r ≡ Err BadName
  unfolding verdict_of
  verdict-name b t l n = rw (b, t, l, n)

  pub verdict-good : batch_good r ≡ true → temp_good r ≡ true → name_length_good r ≡ true → name_good r ≡ true
      → widths_good r ≡ true → verdict_of r ≡ Ok tt
  unfolding verdict_of
  verdict-good b t l n w = rw (b, t, l, n, w)

  -- a good record passes each clause
  pub good-clauses : good_record r ≡ true → Passes r
  unfolding good_record
  good-clauses e =
      let w = (and-eq-true_iff _ (widths_good r)).0 e in
      let n = (and-eq-true_iff _ (name_good r)).0 w.0 in
      let l = (and-eq-true_iff _ (name_length_good r)).0 n.0 in
      let t = (and-eq-true_iff (batch_good r) (temp_good r)).0 l.0 in
      record { number = t.0; degrees = t.1; size = l.1; name = n.1; widths = w.1 }

  pub good_passes : good_record r ≡ is_ok (verdict_of r)
  unfolding good_record verdict_of
  good_passes =
      by-test (batch_good r) (λ b.
      by-test (temp_good r) (λ t.
      by-test (name_length_good r) (λ l.
      by-test (name_good r) (λ n.
      by-test (widths_good r) (λ w. rw (b, t, l, n, w)) (λ w. rw (b, t, l, n, w)))
      (λ n. rw (b, t, l, n)))
      (λ l. rw (b, t, l))) (λ t. rw (b, t))) (λ b. rw b)

pub good-exactly : GoodExactly
good-exactly r =
    (λ e. has-passed (verdict_of r) (sym (good_passes r) ∙ e), λ e. good_passes r ∙ ap is_ok e)

pub good-is-zero : GoodIsZero
good-is-zero r = (λ e. ap verdict_number ((good-exactly r).0 e), λ e. (good-exactly r).1 (zero-passed (verdict_of r) e))

-- the name of a record that has passed has no more characters than cells
pub name_within : (r : BatchRecord) → verdict_of r ≡ Ok tt → r.name_length ≤ name_limit
unfolding name_length_good
name_within r passed = leb-true r.name_length name_limit (good-clauses r ((good-exactly r).1 passed)).size

pub good-number : GoodNumber
good-number r e z = false≢true (sym (batch-zero r z) ∙ (good-clauses r e).number)

-- ---- what send asks
module _ (r : BatchRecord) where
  pub sent-bad : (x : Refusal) → verdict_of r ≡ Err x → send_verdict r ≡ Err x
  unfolding send_verdict
  sent-bad x bad = rw bad

  pub sent-blank : verdict_of r ≡ Ok tt → blank_ends r ≡ true → send_verdict r ≡ Err BlankEnd
  unfolding send_verdict
  sent-blank good ends = rw (good, ends)

  pub sent-taken : verdict_of r ≡ Ok tt → blank_ends r ≡ false → send_verdict r ≡ Ok tt
  unfolding send_verdict
  sent-taken good ends = rw (good, ends)

  -- by what is asked of every record, and then by the ends of the name
  module _ (P : Verdict → Type 0) (bad : (x : Refusal) → verdict_of r ≡ Err x → P (Err x))
      (ends : good_record r ≡ true → blank_ends r ≡ true → P (Err BlankEnd)) (fine : good_record r ≡ true → blank_ends r ≡ false → P (Ok tt)) where
    by-verdict : (v : Verdict) → verdict_of r ≡ v → P (send_verdict r)
    by-verdict (Ok u) e =
        let good = (good-exactly r).1 e in
        by-test (blank_ends r) (λ b. rw (sent-blank e b) (ends good b)) (λ b. rw (sent-taken e b) (fine good b))
    by-verdict (Err x) e = rw (sent-bad x e) (bad x e)

    by-ends : P (send_verdict r)
    by-ends = by-verdict (verdict_of r) refl

  -- no record is refused with 30 but by send
  verdict-most : verdict_number (verdict_of r) ≤ 14
  unfolding verdict_of
  verdict-most =
      by-test (batch_good r) (λ b.
      by-test (temp_good r) (λ t.
      by-test (name_length_good r) (λ l.
      by-test (name_good r && widths_good r) (λ n. rw (b, t, l, n) (lit≤ tt)) (λ n. rw (b, t, l, n) (lit≤ tt)))
      (λ l. rw (b, t, l) (lit≤ tt))) (λ t. rw (b, t) (lit≤ tt))) (λ b. rw b (lit≤ tt))

pub sent-exactly : SentExactly
sent-exactly r = (
  by-ends r (λ v. v ≡ Ok tt → (good_record r ≡ true) × (blank_ends r ≡ false))
      (λ x _ e. absurd (false≢true (ap is_ok e)))
      (λ _ _ e. absurd (false≢true (ap is_ok e)))
      (λ g b _. (g, b)),
  λ h. sent-taken r ((good-exactly r).0 h.0) h.1,
)

pub means-30 : Means30
means-30 r = (
  by-ends r (λ v. v ≡ Err BlankEnd → (good_record r ≡ true) × (blank_ends r ≡ true))
      (λ x bad e. absurd (omega (arith, verdict-most r, ap verdict_number (bad ∙ e))))
      (λ g b _. (g, b))
      (λ _ _ e. absurd (false≢true (sym (ap is_ok e)))),
  λ h. sent-blank r ((good-exactly r).0 h.0) h.1,
)
