-- A tape is the run of its calls: line by line, by what was read.
use Prim.Native.Nat.{ℕ, zero, suc, ◌≤◌}
use mathlib.Core.Path.{◌≡◌, refl, ap, ◌∙◌}
use mathlib.Core.Bool.{false}
use mathlib.Core.List.{List, []}
use native.Mathlib.Omega.{arith}
use lib.ListN.{length}
use borrow.Author.Tests.{le-ltb, eq-eqb}
use Rattle.network.specs.Layout.{call_ring}
use Rattle.network.specs.Runs.{Call, run}
use Rattle.network.specs.Sound.{next_count}
use Rattle.network.proofs.Promises.Demand.{ring-demand3}
use Rattle.std.specs.Prelude.{Option, Some, None, Result, Ok, Err}
use Rattle.refusal.specs.declared.Refusal.{Refusal}
use Rattle.tape.specs.declared.Reading.{Reading}
use Rattle.tape.specs.Tape.{read_at}
use Rattle.runner.specs.declared.Session.{Session}
use Rattle.runner.specs.Session.{longest, beginning, next_in, after_lines}
use Rattle.runner.specs.TapeRun.{call_then, calls_from, RunsItsCalls, TooLongCallsNothing, TapeInOrder}
use Rattle.runner.proofs.Lines.{next-after, next-too-long, after-over, after_on}

module _ (up : ℕ → ℕ) (tape : List ℕ) where
  -- at the end of the tape there is no call
  none-at-end : (n : ℕ) → calls_from n tape (length tape) ≡ []
  unfolding calls_from read_at
  none-at-end zero = refl
  none-at-end (suc n) = rw (le-ltb (length tape) (length tape) (omega arith), eq-eqb (length tape) (length tape) refl)

  -- the ring after so many lines is the run of their calls
  abbrev Runs : ℕ → Type 0
  Runs n = (s : Session) → s.over ≡ false → (after_lines up n tape s).ring ≡ run call_ring (calls_from n tape s.place) s.ring

  -- after one line, by what was read
  runs_on : (n : ℕ) → Runs n → (s : Session) (a : Result (Option Reading) Refusal) → s.over ≡ false →
      (after_lines up n tape (next_in up tape s a).session).ring ≡ run call_ring (call_then a (calls_from n tape)) s.ring
  runs_on n rest s (Ok (Some r)) e = rest (next_in up tape s (Ok (Some r))).session e
  runs_on n rest s (Ok None) e = ap (λ (t : Session). t.ring) (after-over up tape n (next_in up tape s (Ok None)).session refl)
  runs_on n rest s (Err r) e =
      rest (next_in up tape s (Err r)).session e ∙ ap (λ (calls : List Call). run call_ring calls s.ring) (none-at-end n)

  runs : length tape ≤ longest → (n : ℕ) → Runs n
  unfolding calls_from after_lines
  runs short zero s e = refl
  runs short (suc n) s e =
      ap (λ (t : Session). t.ring) (after_on up tape n s e)
      ∙ rw (next-after up tape s short) (runs_on n (runs short n) s (read_at tape s.place) e)

pub runs-its-calls : RunsItsCalls
runs-its-calls tape n short = runs next_count tape short n beginning refl

pub too-long-calls-nothing : TooLongCallsNothing
unfolding after_lines
too-long-calls-nothing tape zero long = refl
too-long-calls-nothing tape (suc n) long =
    ap (λ (t : Session). t.ring) (after_on next_count tape n beginning refl)
    ∙ rw (next-too-long next_count tape beginning long) (ap (λ (t : Session). t.ring) (after-over next_count tape n _ refl))

pub tape-in-order : TapeInOrder
tape-in-order tape n k = ring-demand3.in_order k (calls_from n tape 0)
