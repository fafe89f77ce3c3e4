-- A run into a lent buffer, line by line: what was written so far and what is then to come are together what was to come.
use Prim.Native.Nat.{ℕ, suc, ◌+◌, ◌≤◌, ◌<◌}
use mathlib.Core.Path.{◌≡◌, refl, sym, ap, ◌∙◌}
use mathlib.Core.Bool.{false}
use mathlib.Core.List.{List, ◌++◌, append_assoc}
use native.Mathlib.Omega.{arith}
use lib.ListN.{length, take, drop, length-append}
use lib.Seq.{take_at, drop_at, drop-drop, length-take-le}
use Rattle.wire.specs.Bytes.{overwritten}
use Rattle.wire.proofs.Buffer.{length-overwritten}
use Rattle.report.specs.Line.{line_room}
use Rattle.runner.specs.declared.Session.{Session}
use Rattle.runner.specs.Session.{next, lines, after_lines}
use Rattle.network.specs.Sound.{next_count}
use Rattle.runner.specs.Listing.{to_come}
use Rattle.runner.specs.Run.{TapeRan, Placed, PrintedPut, Printing, finished, PrintsTheListing}
use Rattle.runner.specs.Run
use Rattle.runner.proofs.Lines.{nothing-after, line-by-line, some-line, last-session, last-line}
use Rattle.runner.proofs.Counts.{from-the-beginning}

-- the loop's invariant: the buffer and the session where the run began, and as they are now
pub record SoFar (tape before : List ℕ) (first : Session) (out : List ℕ) (current : Session) (written : ℕ) : Type 0 where
  pub count : ℕ
  pub reached : current ≡ after_lines next_count count tape first
  pub printed : take written out ≡ lines next_count count tape first
  pub same : length out ≡ length before
  pub within : written ≤ length before
  pub text : take written out ++ to_come tape current ≡ to_come tape first
  pub rest : drop written out ≡ drop written before
  pub start : written ≡ 0 → current.over ≡ first.over

pub begun : (tape before : List ℕ) (first : Session) → SoFar tape before first before first 0
unfolding after_lines lines
begun tape before first =
    record {
      count = 0;
      reached = refl;
      printed = refl;
      same = refl;
      within = omega arith;
      text = refl;
      rest = refl;
      start = λ e. refl;
    }

-- a line put at a place is what stands before its end, and after that nothing has changed
module _ {line : List ℕ} {at : ℕ} {before after : List ℕ} {end : ℕ} (p : Placed line at before after end) where
  front-size : length (take at before ++ line) ≡ end
  front-size =
      length-append (take at before) line
      ∙ ap (λ (n : ℕ). n + length line) (length-take-le at before (omega (arith, p.ends, p.within)))
      ∙ sym p.ends

  front : take end after ≡ take at before ++ line
  unfolding overwritten
  front = rw p.buffer (take_at (take at before ++ line) (drop (at + length line) before) end front-size)

  back : drop end after ≡ drop (at + length line) before
  unfolding overwritten
  back = rw p.buffer (drop_at (take at before ++ line) (drop (at + length line) before) end front-size)

  as_long : length after ≡ length before
  as_long = rw p.buffer (length-overwritten before line at (omega (arith, p.ends, p.within)))

module _ {tape before : List ℕ} {first : Session} {out : List ℕ} {s : Session} {at : ℕ} (h : SoFar tape before first out s at)
    (e : s.over ≡ false) {after : List ℕ} {s' : Session} {end : ℕ} (t : PrintedPut (next next_count tape s) at out after s' end) where
  abbrev size : ℕ
  size = length (next next_count tape s).line

  on : (after_lines next_count h.count tape first).over ≡ false
  on = sym (ap (λ (x : Session). x.over) h.reached) ∙ e

  -- one line more
  pub went_on : SoFar tape before first after s' end
  went_on = record {
    count = suc h.count;
    reached =
        t.session
        ∙ ap (λ (x : Session). (next next_count tape x).session) h.reached
        ∙ sym (last-session next_count tape h.count first on);
    printed =
        front t.line
        ∙ ap (λ (l : List ℕ). l ++ (next next_count tape s).line) h.printed
        ∙ ap (λ (x : Session). lines next_count h.count tape first ++ (next next_count tape x).line) h.reached
        ∙ sym (last-line next_count tape h.count first on);
    same = as_long t.line ∙ h.same;
    within = omega (arith, t.line.within, h.same);
    text = rw (front t.line, append_assoc, t.session, ← (line-by-line tape s e)) h.text;
    rest =
        back t.line
        ∙ sym (drop-drop size at out)
        ∙ ap (drop size) h.rest
        ∙ drop-drop size at before
        ∙ ap (λ (n : ℕ). drop n before) (sym t.line.ends);
    start = λ z. let no : ⊥ = omega (arith, t.line.ends, some-line next_count tape s) in absurd no;
  }

  -- and fewer bytes to come
  pub shorter : length (to_come tape s') < length (to_come tape s)
  shorter = rw (t.session, line-by-line tape s e, length-append) (omega (arith, some-line next_count tape s))

-- For a caller that runs a tape until it is over: each run into a buffer with room for a line leaves fewer bytes to come.
pub fewer-to-come : {tape before after : List ℕ} {s s' : Session} {written : ℕ} → TapeRan tape s before after s' written
    → length after ≡ length before → s.over ≡ false → line_room ≤ length before
    → length (to_come tape s') < length (to_come tape s)
fewer-to-come {tape} {before} {after} {s} {s'} {written} r same e room =
    let size = length-take-le written after (omega (arith, r.within)) in
    rw (← r.text, length-append, size) (omega (arith, r.forward e room))

all-printed : {tape bytes : List ℕ} {s : Session} → Printing tape s bytes → bytes ≡ to_come tape s
all-printed {tape} {bytes} {s} (finished e) = sym (nothing-after tape s e)
all-printed {tape} {bytes} {s} (Run.ran {after = after} {written = written} r rest) =
    ap (λ (l : List ℕ). take written after ++ l) (all-printed rest) ∙ r.text

pub prints-the-listing : PrintsTheListing
prints-the-listing tape bytes p = all-printed p ∙ from-the-beginning tape
