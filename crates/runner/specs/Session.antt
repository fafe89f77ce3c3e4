-- A run of a tape, line by line: a session says where the run stands, and `next` what it prints next, in the words of document 01,
-- "Command tape". How a count rises is a parameter: by one in the listing, and up to the largest number of 32 bits in the program.
use Rattle.std.specs.Prelude.{ℕ, zero, suc, ◌+◌, true, false, cond, List, [], ◌++◌, ltb, length, get_or, Option, Some, None, Result, Ok, Err}
use Rattle.network.specs.declared.Step.{Step}
use Rattle.network.specs.Answers.{call_of, step_of, is_refusal}
use Rattle.network.specs.Calls.{refused}
use Rattle.network.specs.Layout.{fresh_ring, step_ring}
use Rattle.refusal.specs.declared.Refusal.{Refusal}
use Rattle.tape.specs.declared.Reading.{Reading}
use Rattle.tape.specs.Tape.{read_at}
use Rattle.report.specs.Line.{line_of, end_of, too_long}
use Rattle.runner.specs.declared.Session.{Session}

-- the longest tape that is run
abbrev pub longest : ℕ
longest = 60000

-- a run begins with a fresh ring, at the first byte; the first command is number 1
abbrev pub beginning : Session
beginning = record { ring = fresh_ring; place = 0; number = 1; accepted = 0; refused = 0; over = false }

-- a line, and the session after it
pub record Printed : Type 0 where
  pub line : List ℕ
  pub session : Session

-- the session after the last line, and the last line, whatever it says
abbrev pub ended : Session → Session
ended s =
    record { ring = s.ring; place = s.place; number = s.number; accepted = s.accepted; refused = s.refused; over = true }

abbrev pub last_line : List ℕ → Session → Printed
last_line line s = record { line = line; session = ended s }

module _ (up : ℕ → ℕ) where
  -- the session after a command with this answer: the ring as the command left it, the command counted, the next place
  abbrev pub passed : Session → Step → ℕ → Session
  passed s step next = record {
    ring = step.ring;
    place = next;
    number = up s.number;
    accepted = cond (is_refusal step.reply) s.accepted (up s.accepted);
    refused = cond (is_refusal step.reply) (up s.refused) s.refused;
    over = s.over;
  }

  -- a command's line: its number, the command byte, the refusal or 0, a delivery
  abbrev pub answered : List ℕ → Session → Step → ℕ → Printed
  answered tape s step next = record {
    line = line_of s.number (get_or tape s.place 0) step.reply;
    session = passed s step next;
  }

  -- What is printed after a reading. A command that was read is called on the ring. One that the reader refuses has its line and
  -- counts as refused, and nothing further is read: the next place is the end of the tape. At the end comes the last line.
  abbrev pub next_in : List ℕ → Session → Result (Option Reading) Refusal → Printed
  next_in tape s (Ok (Some r)) = answered tape s (step_ring (call_of r.command) s.ring) r.next
  next_in tape s (Ok None) = last_line (end_of s.accepted s.refused) s
  next_in tape s (Err r) = answered tape s (step_of s.ring (refused r)) (length tape)

  -- a tape that is too long prints that and nothing else
  unfoldable pub next : List ℕ → Session → Printed
  next tape s =
      cond (ltb longest (length tape)) (last_line too_long s)
      (next_in tape s (read_at tape s.place))

  -- the next lines, at most n of them
  unfoldable pub lines : ℕ → List ℕ → Session → List ℕ
  lines zero tape s = []
  lines (suc n) tape s = cond s.over [] ((next tape s).line ++ lines n tape (next tape s).session)

  -- the session after the next n lines
  unfoldable pub after_lines : ℕ → List ℕ → Session → Session
  after_lines zero tape s = s
  after_lines (suc n) tape s = cond s.over s (after_lines n tape (next tape s).session)

  -- all lines from here on: there are no more than a line for each byte, one for a place beyond the tape, and the last
  abbrev pub all_lines : List ℕ → Session → List ℕ
  all_lines tape s = lines (length tape + 2) tape s
