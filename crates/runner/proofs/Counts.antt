-- The counts of a session are exact: those that stop at the largest number are the same as those that rise by one, as long as they stay
-- below it, which the counts of a tape that is run do. So what is to come at the beginning is the listing.
use Prim.Native.Nat.{ℕ, zero, suc, ◌+◌, ◌≤◌, ◌<◌}
use mathlib.Core.Path.{◌≡◌, refl, sym, ◌∙◌}
use mathlib.Core.List.{List}
use native.Mathlib.Omega.{arith}
use lib.ListN.{length}
use Rattle.network.specs.declared.Step.{Step}
use Rattle.network.specs.Answers.{call_of, step_of}
use Rattle.network.specs.Calls.{refused}
use Rattle.network.proofs.Ground.Splits.{by-test, by_less}
use Rattle.std.specs.Prelude.{Option, Some, None, Result, Ok, Err}
use Rattle.refusal.specs.declared.Refusal.{Refusal}
use Rattle.tape.specs.declared.Reading.{Reading}
use Rattle.tape.specs.Tape.{read_at}
use Rattle.runner.specs.declared.Session.{Session}
use Rattle.network.specs.Answers.{is_refusal}
use Rattle.network.specs.Layout.{step_ring}
use Rattle.runner.specs.Session.{longest, beginning, ended, passed, answered, next_in, next, lines}
use Rattle.network.specs.Sound.{next_count}
use Rattle.runner.specs.Listing.{by_one, listing_of, to_come, FromTheBeginning}
use Rattle.runner.proofs.Lines.{next-too-long, next-after, long-alone}

below : (n : ℕ) → n < 4294967295 → next_count n ≡ n + 1
unfolding next_count
below n h = omega arith

-- n more commands can be counted
record Countable (n : ℕ) (s : Session) : Type 0 where
  numbered : s.number + n ≤ 4294967295
  accepted : s.accepted + n ≤ 4294967295
  refused : s.refused + n ≤ 4294967295

module _ (tape : List ℕ) where
  answered-same : (n : ℕ) (s : Session) (step : Step) (after : ℕ) → Countable (suc n) s
      → answered by_one tape s step after ≡ answered next_count tape s step after
  answered-same n s step after k =
      let a : s.number < 4294967295 = omega (arith, k.numbered) in
      let b : s.accepted < 4294967295 = omega (arith, k.accepted) in
      let c : s.refused < 4294967295 = omega (arith, k.refused) in
      rw (below s.number a, below s.accepted b, below s.refused c)

  same_in : (n : ℕ) (s : Session) (a : Result (Option Reading) Refusal) → Countable (suc n) s
      → next_in by_one tape s a ≡ next_in next_count tape s a
  same_in n s (Ok (Some r)) k = answered-same n s (step_ring (call_of r.command) s.ring) r.next k
  same_in n s (Ok None) k = refl
  same_in n s (Err r) k = answered-same n s (step_of s.ring (refused r)) (length tape) k

  next-same : (n : ℕ) (s : Session) → Countable (suc n) s → next by_one tape s ≡ next next_count tape s
  next-same n s k =
      by_less longest (length tape) (λ h. next-too-long by_one tape s h ∙ sym (next-too-long next_count tape s h)) λ h.
      next-after by_one tape s h ∙ same_in n s (read_at tape s.place) k ∙ sym (next-after next_count tape s h)

  answered-countable : (n : ℕ) (s : Session) (step : Step) (after : ℕ) → Countable (suc n) s → Countable n (passed by_one s step after)
  answered-countable n s step after k =
      let a : s.number + 1 + n ≤ 4294967295 = omega (arith, k.numbered) in
      let b : s.accepted + 1 + n ≤ 4294967295 = omega (arith, k.accepted) in
      let c : s.refused + 1 + n ≤ 4294967295 = omega (arith, k.refused) in
      by-test (is_refusal step.reply)
      (λ e. rw e (record { numbered = a; accepted = omega arith; refused = c }))
      λ e. rw e (record { numbered = a; accepted = b; refused = omega arith })

  ended-countable : (n : ℕ) (s : Session) → Countable (suc n) s → Countable n (ended s)
  ended-countable n s k =
      record { numbered = omega (arith, k.numbered); accepted = omega (arith, k.accepted); refused = omega (arith, k.refused) }

  countable-in : (n : ℕ) (s : Session) (a : Result (Option Reading) Refusal) → Countable (suc n) s
      → Countable n (next_in by_one tape s a).session
  countable-in n s (Ok (Some r)) k = answered-countable n s (step_ring (call_of r.command) s.ring) r.next k
  countable-in n s (Ok None) k = ended-countable n s k
  countable-in n s (Err r) k = answered-countable n s (step_of s.ring (refused r)) (length tape) k

  next-countable : (n : ℕ) (s : Session) → Countable (suc n) s → Countable n (next by_one tape s).session
  next-countable n s k =
      by_less longest (length tape) (λ h. rw (next-too-long by_one tape s h) (ended-countable n s k)) λ h.
      rw (next-after by_one tape s h) (countable-in n s (read_at tape s.place) k)

  lines_same : (n : ℕ) (s : Session) → Countable n s → lines by_one n tape s ≡ lines next_count n tape s
  unfolding lines
  lines_same zero s k = refl
  lines_same (suc n) s k =
      rw (← (next-same n s k), lines_same n (next by_one tape s).session (next-countable n s k))

pub from-the-beginning : FromTheBeginning
unfolding to_come listing_of
from-the-beginning tape =
    by_less longest (length tape) (λ h. long-alone next_count tape h ∙ sym (long-alone by_one tape h)) λ h.
    sym (lines_same tape (length tape + 2) beginning (record { numbered = omega arith; accepted = omega arith; refused = omega arith }))
