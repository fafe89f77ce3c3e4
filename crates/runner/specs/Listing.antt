-- The listing of a tape as bytes, and what is claimed of it: the listing that is still to come of a session, at the beginning, is all
-- of it, and once the session is over there is none. So a caller that runs a tape until it is over prints the tape's listing.
use Rattle.std.specs.Prelude.{ℕ, ◌+◌, ◌<◌, ◌≡◌, true, false, List, [], ◌++◌, length}
use Rattle.network.specs.Sound.{next_count}
use Rattle.report.specs.Line.{too_long}
use Rattle.runner.specs.declared.Session.{Session}
use Rattle.runner.specs.Session.{longest, beginning, next, lines, all_lines}

-- a count rises by one; in the program, in 32 bits, by `next_count`, which stops at a number that no tape that is run comes near
abbrev pub by_one : ℕ → ℕ
by_one n = n + 1

-- the listing of a tape
unfoldable pub listing_of : List ℕ → List ℕ
listing_of tape = all_lines by_one tape beginning

-- the listing that is still to come of a session
unfoldable pub to_come : List ℕ → Session → List ℕ
to_come tape s = all_lines next_count tape s

-- from the beginning, what is to come is the whole listing
abbrev pub FromTheBeginning : Type 0
FromTheBeginning = (tape : List ℕ) → to_come tape beginning ≡ listing_of tape

-- a tape that is too long prints that and nothing else
abbrev pub TooLongAlone : Type 0
TooLongAlone = (tape : List ℕ) → longest < length tape → listing_of tape ≡ too_long

-- a session that is over has nothing to come
abbrev pub NothingAfter : Type 0
NothingAfter = (tape : List ℕ) (s : Session) → s.over ≡ true → to_come tape s ≡ []

-- any other has a line to come, and then what is to come of the session after it
abbrev pub LineByLine : Type 0
LineByLine =
    (tape : List ℕ) (s : Session) → s.over ≡ false
    → to_come tape s ≡ (next next_count tape s).line ++ to_come tape (next next_count tape s).session

-- the listing isn't cut: with more lines allowed it is the same
abbrev pub NotCut : Type 0
NotCut = (up : ℕ → ℕ) (tape : List ℕ) (s : Session) (n : ℕ) → lines up (length tape + 2 + n) tape s ≡ all_lines up tape s
