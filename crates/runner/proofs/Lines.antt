-- Laws of the lines to come. The reader either goes on within the tape or stops, so each line leaves fewer to come than before: the
-- count `left` bounds them, and the lines that are allowed are always enough.
use Prim.Native.Nat.{ℕ, zero, suc, ◌+◌, ◌-◌, ◌≤◌, ◌<◌, min}
use mathlib.Core.Path.{◌≡◌, refl, sym, ap, ◌∙◌}
use mathlib.Core.Logic.{◌≢◌}
use mathlib.Core.Bool.{true, false, cond}
use mathlib.Core.List.{List, [], ◌++◌, append-nil, append_assoc}
use native.Mathlib.Nat.{add-zero, add-suc}
use native.Mathlib.Omega.{arith}
use lib.ListN.{length, get_or, drop, length-append, length-drop}
use borrow.Author.Tests.{lt-ltb, le-ltb, eq-eqb, ne_eqb}
use Rattle.std.specs.Prelude.{Option, Some, None, Result, Ok, Err}
use Rattle.refusal.specs.declared.Refusal.{Refusal}
use Rattle.network.proofs.Ground.Splits.{by-test, by-same, by_less, both_ways}
use Rattle.tape.specs.declared.Reading.{Reading}
use Rattle.tape.specs.Shape.{width_of}
use Rattle.tape.specs.Table.{Row, row_of}
use Rattle.tape.specs.Tape.{read_at, read_row}
use Rattle.tape.proofs.Shapes.{some_bytes}
use Rattle.report.specs.Line.{line_of, end_of, too_long}
use Rattle.runner.specs.declared.Session.{Session}
use Rattle.runner.specs.Session.{longest, beginning, ended, last_line, next_in, next, lines, after_lines, all_lines}
use Rattle.network.specs.Sound.{next_count}
use Rattle.runner.specs.Listing.{by_one, listing_of, to_come, TooLongAlone, NothingAfter, LineByLine, NotCut}

-- what a reading says of the place after it

abbrev Ahead : List ℕ → ℕ → Result (Option Reading) Refusal → Type 0
Ahead tape place (Ok (Some r)) = (place < r.next) × (r.next ≤ length tape)
Ahead tape place (Ok None) = Unit {0}
Ahead tape place (Err r) = place ≢ length tape

ahead-row : (tape : List ℕ) (place : ℕ) (o : Option Row) → place < length tape → Ahead tape place (read_row o place (drop place tape))
unfolding read_row
ahead-row tape place None h = λ q. omega arith
ahead-row tape place (Some r) h =
    let size = length-drop place tape in
    by_less (length (drop place tape)) (width_of r.shape)
    (λ l. rw (lt-ltb (length (drop place tape)) (width_of r.shape) l) (λ q. omega arith)) λ l.
    rw (le-ltb (length (drop place tape)) (width_of r.shape) l) (omega (arith, some_bytes r.shape), omega arith)

ahead : (tape : List ℕ) (place : ℕ) → Ahead tape place (read_at tape place)
unfolding read_at
ahead tape place =
    by_less (length tape) place (λ h. rw (lt-ltb (length tape) place h) (λ q. omega arith)) λ h.
    by-same place (length tape) (λ e. rw (le-ltb (length tape) place h, eq-eqb place (length tape) e) tt) λ e.
    rw (le-ltb (length tape) place h, ne_eqb place (length tape) e) (ahead-row tape place (row_of (get_or tape place 0)) (omega arith))

-- at most so many lines are to come: one for each byte that is left, one for a place beyond the tape, and the last
abbrev left : List ℕ → Session → ℕ
left tape s = cond s.over 0 (length tape - s.place + min 1 (s.place - length tape) + 1)

module _ (up : ℕ → ℕ) (tape : List ℕ) where
  -- `next` by the length of the tape and by what was read
  pub next-too-long : (s : Session) → longest < length tape → next up tape s ≡ last_line too_long s
  unfolding next
  next-too-long s h = rw (lt-ltb longest (length tape) h)

  pub next-after : (s : Session) → length tape ≤ longest → next up tape s ≡ next_in up tape s (read_at tape s.place)
  unfolding next
  next-after s h = rw (le-ltb longest (length tape) h)

  fewer-in : (s : Session) (a : Result (Option Reading) Refusal) → s.over ≡ false → Ahead tape s.place a
      → left tape (next_in up tape s a).session < left tape s
  fewer-in s (Ok (Some r)) e h = rw e (omega arith)
  fewer-in s (Ok None) e h = rw e (omega arith)
  fewer-in s (Err r) e h = rw e (omega arith)

  -- a line leaves fewer to come
  fewer : (s : Session) → s.over ≡ false → left tape (next up tape s).session < left tape s
  fewer s e =
      by_less longest (length tape) (λ h. rw (next-too-long s h, e) (omega arith)) λ h.
      rw (next-after s h) (fewer-in s (read_at tape s.place) e (ahead tape s.place))

  none_over : (s : Session) (n : ℕ) → s.over ≡ true → lines up n tape s ≡ []
  unfolding lines
  none_over s zero e = refl
  none_over s (suc n) e = rw e

  one_more : (s : Session) (n : ℕ) → s.over ≡ false
      → lines up (suc n) tape s ≡ (next up tape s).line ++ lines up n tape (next up tape s).session
  unfolding lines
  one_more s n e = rw e

  some_left : (s : Session) → s.over ≡ false → 0 < left tape s
  some_left s e = rw e (omega arith)

  most-left : (s : Session) → left tape s ≤ length tape + 2
  most-left s = by-test s.over (λ e. rw e (omega arith)) λ e. rw e (omega arith)

  -- enough lines are enough
  settled : (n : ℕ) (s : Session) → left tape s ≤ n → lines up (suc n) tape s ≡ lines up n tape s
  settled zero s h =
      by-test s.over (λ e. none_over s 1 e ∙ sym (none_over s 0 e))
      λ e. let no : ⊥ = omega (arith, some_left s e) in absurd no
  settled (suc n) s h =
      by-test s.over (λ e. none_over s (suc (suc n)) e ∙ sym (none_over s (suc n) e)) λ e.
      one_more s (suc n) e
      ∙ ap (λ (rest : List ℕ). (next up tape s).line ++ rest) (settled n (next up tape s).session (omega (arith, fewer s e)))
      ∙ sym (one_more s n e)

  -- a session that is not over has a line to come, and then what is to come after it
  pub by-line : (s : Session) → s.over ≡ false
      → all_lines up tape s ≡ (next up tape s).line ++ all_lines up tape (next up tape s).session
  by-line s e =
      let k : length tape + 2 ≡ suc (length tape + 1) = omega arith in
      let few : left tape (next up tape s).session ≤ length tape + 1 = omega (arith, fewer s e, most-left s) in
      rw (k, one_more s (length tape + 1) e, settled (length tape + 1) (next up tape s).session few)

  pub after-over : (n : ℕ) (s : Session) → s.over ≡ true → after_lines up n tape s ≡ s
  unfolding after_lines
  after-over zero s e = refl
  after-over (suc n) s e = rw e

  pub after_on : (n : ℕ) (s : Session) → s.over ≡ false → after_lines up (suc n) tape s ≡ after_lines up n tape (next up tape s).session
  unfolding after_lines
  after_on n s e = rw e

  -- the session after one line more, and the lines with it
  abbrev On : ℕ → Session → Type 0
  On n s = (after_lines up n tape s).over ≡ false

  on-next : (n : ℕ) (s : Session) → On (suc n) s → s.over ≡ false → On n (next up tape s).session
  on-next n s e o = sym (ap (λ (x : Session). x.over) (after_on n s o)) ∙ e

  ended-off : {X : Type 0} (n : ℕ) (s : Session) → On n s → s.over ≡ true → X
  ended-off n s e o = both_ways (ap (λ (x : Session). x.over) (after-over n s o) ∙ o) e

  pub last-session : (n : ℕ) (s : Session) → On n s → after_lines up (suc n) tape s ≡ (next up tape (after_lines up n tape s)).session
  unfolding after_lines
  last-session zero s e = rw e
  last-session (suc n) s e =
      by-test s.over (ended-off (suc n) s e) λ o.
      after_on (suc n) s o
      ∙ last-session n (next up tape s).session (on-next n s e o)
      ∙ ap (λ (x : Session). (next up tape x).session) (sym (after_on n s o))

  pub last-line : (n : ℕ) (s : Session) → On n s
      → lines up (suc n) tape s ≡ lines up n tape s ++ (next up tape (after_lines up n tape s)).line
  unfolding after_lines lines
  last-line zero s e = one_more s 0 e ∙ append-nil (next up tape s).line
  last-line (suc n) s e =
      by-test s.over (ended-off (suc n) s e) λ o.
      let t : Session = (next up tape s).session in
      one_more s (suc n) o
      ∙ ap (λ (rest : List ℕ). (next up tape s).line ++ rest) (last-line n t (on-next n s e o))
      ∙ sym (append_assoc (next up tape s).line (lines up n tape t) (next up tape (after_lines up n tape t)).line)
      ∙ ap (λ (l : List ℕ). l ++ (next up tape (after_lines up n tape t)).line) (sym (one_more s n o))
      ∙ ap (λ (x : Session). lines up (suc n) tape s ++ (next up tape x).line) (sym (after_on n s o))

  -- no line is empty
  some-line-in : (s : Session) (a : Result (Option Reading) Refusal) → 0 < length (next_in up tape s a).line
  unfolding line_of end_of
  some-line-in s (Ok (Some r)) = simp length-append (omega arith)
  some-line-in s (Ok None) = simp length-append (omega arith)
  some-line-in s (Err r) = simp length-append (omega arith)

  pub some-line : (s : Session) → 0 < length (next up tape s).line
  unfolding too_long
  some-line s =
      by_less longest (length tape) (λ h. rw (next-too-long s h) (omega arith)) λ h.
      rw (next-after s h) (some-line-in s (read_at tape s.place))

pub not-cut : NotCut
not-cut up tape s zero = rw add-zero
not-cut up tape s (suc n) =
    rw add-suc (settled up tape (length tape + 2 + n) s (omega (arith, most-left up tape s)) ∙ not-cut up tape s n)

pub nothing-after : NothingAfter
unfolding to_come
nothing-after tape s e = none_over next_count tape s (length tape + 2) e

pub line-by-line : LineByLine
unfolding to_come
line-by-line tape s e = by-line next_count tape s e

pub long-alone : (up : ℕ → ℕ) (tape : List ℕ) → longest < length tape → all_lines up tape beginning ≡ too_long
long-alone up tape h =
    by-line up tape beginning refl
    ∙ rw (next-too-long up tape beginning h, none_over up tape (ended beginning) (length tape + 2) refl, append-nil)

pub too-long-alone : TooLongAlone
unfolding listing_of
too-long-alone tape h = long-alone by_one tape h
