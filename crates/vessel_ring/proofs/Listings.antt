-- What one run writes and what is then to come are the listing, and a run stops short only where there is no room for one more line.
use Rattle.std.proofs.Common.{◌≡◌, ℕ, ◌+◌, ◌<◌, ◌≤◌, false, List, [], ◌++◌, length, take, sym, ap, ◌∙◌, arith, length-append, length-take}
use Rattle.std.proofs.lemmas.List.{append-nil}
use Rattle.report.specs.Line.{line_room}
use Rattle.network.proofs.Ground.Splits.{by-test}
use Rattle.runner.specs.declared.Session.{Session}
use Rattle.runner.specs.Session.{beginning}
use Rattle.runner.specs.Listing.{to_come, listing_of}
use Rattle.runner.specs.Run.{TapeRan}
use Rattle.runner.proofs.Counts.{from-the-beginning}
use Rattle.runner.proofs.Lines.{nothing-after}
use Rattle.vessel_ring.specs.Listed.{Listed}

-- a run that is not over stopped for want of room
none_left :
    (tape : List ℕ) (s : Session) (room written : ℕ) → (s.over ≡ false → room < written + line_room) →
    written + line_room ≤ room → to_come tape s ≡ []
none_left tape s room written stopped fits = by-test s.over (nothing-after tape s) (λ e. absurd (omega (arith, stopped e)))

-- what was written is no longer than the listing: with room for that and a line, nothing is left
all-written :
    (before after left listing : List ℕ) (written : ℕ) → written ≤ length before → take written after ++ left ≡ listing →
    (written + line_room ≤ length before → left ≡ []) → length after ≡ length before → length listing + line_room ≤ length before → take written after ≡ listing
all-written before after left listing written within text full same room =
    let fits : written + line_room ≤ length before = omega (arith, simp (length-append, length-take) at (ap length text)) in
    sym (append-nil _) ∙ (rw (full fits) at text)

-- so a run from the beginning lists the tape
pub listed :
    {tape before after : List ℕ} {s s' : Session} {written : ℕ} → TapeRan tape s before after s' written → s ≡ beginning →
    length after ≡ length before → Listed tape before after written
listed {tape} {before} {after} {s} {s'} {written} ran begins same =
    let text : take written after ++ to_come tape s' ≡ listing_of tape =
    ran.text ∙ ap (to_come tape) begins ∙ from-the-beginning tape in
    let full = none_left tape s' (length before) written ran.full in
    record {
      within = ran.within;
      left = to_come tape s';
      text = text;
      rest = ran.rest;
      full = full;
      whole = all-written before after (to_come tape s') (listing_of tape) written ran.within text full same;
    }
