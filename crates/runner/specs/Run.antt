-- What a run into a lent buffer does: it writes whole lines, the first of those to come, from the buffer's beginning. Document 01 leaves
-- free how many are written at a time.
use Rattle.std.specs.Prelude.{ℕ, ◌+◌, ◌<◌, ◌≤◌, ◌≡◌, true, false, List, [], ◌++◌, length, take, drop}
use Rattle.wire.specs.Bytes.{overwritten}
use Rattle.report.specs.Line.{line_room}
use Rattle.runner.specs.declared.Session.{Session}
use Rattle.runner.specs.Session.{Printed, beginning, lines, after_lines}
use Rattle.network.specs.Sound.{next_count}
use Rattle.runner.specs.Listing.{listing_of, to_come}

-- A run of a tape from session s: the next `count` lines, at the front of the buffer, and the session after them; the rest of the buffer
-- is as it was. The run ends only where the session is over or there is less room than for the longest line, so something is written
-- where there is room and a line to come. What was written and what is then to come are together what was to come.
pub record TapeRan (tape : List ℕ) (s : Session) (before after : List ℕ) (s' : Session) (written : ℕ) : Type 0 where
  pub count : ℕ
  pub session : s' ≡ after_lines next_count count tape s
  pub printed : take written after ≡ lines next_count count tape s
  pub rest : drop written after ≡ drop written before
  pub within : written ≤ length before
  pub full : s'.over ≡ false → length before < written + line_room
  pub forward : s.over ≡ false → line_room ≤ length before → 0 < written
  pub text : take written after ++ to_come tape s' ≡ to_come tape s

-- Runs of a tape one after the other, each from the session that the one before left, until it is over; the bytes are all that they
-- wrote.
pub data Printing (tape : List ℕ) : Session → List ℕ → Type 0 where
  finished : {s : Session} → s.over ≡ true → Printing tape s []
  ran : {s s' : Session} {before after : List ℕ} {written : ℕ} {bytes : List ℕ} → TapeRan tape s before after s' written
      → Printing tape s' bytes → Printing tape s (take written after ++ bytes)

-- a caller that runs a tape from the beginning until it is over prints the tape's listing
abbrev pub PrintsTheListing : Type 0
PrintsTheListing = (tape bytes : List ℕ) → Printing tape beginning bytes → bytes ≡ listing_of tape

-- a line put at a place of the buffer, all else as it was, and the place after it
pub record Placed (line : List ℕ) (at : ℕ) (before after : List ℕ) (end : ℕ) : Type 0 where
  pub ends : end ≡ at + length line
  pub within : end ≤ length before
  pub buffer : after ≡ overwritten before at line

-- what was printed: the session after it, and its line put at a place of the buffer
pub record PrintedPut (printed : Printed) (at : ℕ) (before after : List ℕ) (s : Session) (end : ℕ) : Type 0 where
  pub session : s ≡ printed.session
  pub line : Placed printed.line at before after end
