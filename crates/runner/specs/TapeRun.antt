-- The ring calls of a tape, and what is claimed of a run of it: the ring of the session after so many lines is the run of their calls from
-- a fresh ring. So what is promised of every list of calls, demand 3 first, is promised of every tape.
use Rattle.std.specs.Prelude.{ℕ, zero, suc, ◌≤◌, ◌<◌, ◌≡◌, List, [], ◌∷◌, ◌++◌, length, Option, Some, None, Result, Ok, Err}
use Rattle.batch.specs.declared.BatchRecord.{BatchRecord}
use Rattle.numbers.specs.declared.ChannelNo.{ChannelNo}
use Rattle.network.specs.Layout.{fresh_ring, call_ring}
use Rattle.network.specs.Runs.{Call, run, offered_on, delivered_on}
use Rattle.network.specs.Sound.{next_count}
use Rattle.refusal.specs.declared.Refusal.{Refusal}
use Rattle.tape.specs.declared.Reading.{Reading}
use Rattle.tape.specs.Tape.{read_at}
use Rattle.network.specs.Answers.{call_of}
use Rattle.runner.specs.Session.{longest, beginning, after_lines}

-- the ring calls of the next n lines of a tape from a place on: a command that was read is a call, and what follows it; the end and a
-- command that the reader refuses are none, and nothing further is read
abbrev pub call_then : Result (Option Reading) Refusal → (ℕ → List Call) → List Call
call_then (Ok (Some r)) rest = call_of r.command ∷ rest r.next
call_then (Ok None) rest = []
call_then (Err r) rest = []

unfoldable pub calls_from : ℕ → List ℕ → ℕ → List Call
calls_from zero tape place = []
calls_from (suc n) tape place = call_then (read_at tape place) (calls_from n tape)

-- a tape that is not too long is the run of its calls
abbrev pub RunsItsCalls : Type 0
RunsItsCalls =
    (tape : List ℕ) (n : ℕ) → length tape ≤ longest
    → (after_lines next_count n tape beginning).ring ≡ run call_ring (calls_from n tape 0) fresh_ring

-- a tape that is too long calls nothing
abbrev pub TooLongCallsNothing : Type 0
TooLongCallsNothing = (tape : List ℕ) (n : ℕ) → longest < length tape → (after_lines next_count n tape beginning).ring ≡ fresh_ring

-- so on every channel the records that a tape delivers are the first of those that it offers, in order, each once
abbrev pub TapeInOrder : Type 0
TapeInOrder =
    (tape : List ℕ) (n : ℕ) (k : ChannelNo) → (left : List BatchRecord)
    × (offered_on call_ring k (calls_from n tape 0) fresh_ring ≡ delivered_on call_ring k (calls_from n tape 0) fresh_ring ++ left)
