-- The number of each refusal and of a verdict, as document 01 has it, and what the list promises: no two refusals share a number, and the
-- numbers are 1 to 30, so that 0 says that there was no refusal.
use Rattle.std.specs.Prelude.{◌≡◌, ℕ, ◌≤◌, Result, Ok, Err}
use Rattle.refusal.specs.declared.Refusal.{Refusal}
use Rattle.refusal.specs.declared.Refusal.TheVariants.{AlreadyStarted, NodesFull, BadSlots, ChannelsFull, NoSuchEnd}
use Rattle.refusal.specs.declared.Refusal.TheVariants.{NothingToStart, TooFewSlots, NotStarted, NoSuchChannel, NotResting}
use Rattle.refusal.specs.declared.Refusal.TheVariants.{BatchNumberZero, TemperatureOutOfRange, NameTooLong, BadName}
use Rattle.refusal.specs.declared.Refusal.TheVariants.{AlreadyOffered, NoSuchNode, LineEmpty, NoFreeSlot, BufferEmpty, NextBufferFull}
use Rattle.refusal.specs.declared.Refusal.TheVariants.{TurnMarkSet, UnknownCommand, CommandCut, PlaceBeyondEnd, UnsoundRing, NoRoomToWrite}
use Rattle.refusal.specs.declared.Refusal.TheVariants.{NotAsking, RequestInBuffer, NoEmptyRow, BlankEnd}

abbrev pub number_of : Refusal → ℕ
number_of AlreadyStarted = 1
number_of NodesFull = 2
number_of BadSlots = 3
number_of ChannelsFull = 4
number_of NoSuchEnd = 5
number_of NothingToStart = 6
number_of TooFewSlots = 7
number_of NotStarted = 8
number_of NoSuchChannel = 9
number_of NotResting = 10
number_of BatchNumberZero = 11
number_of TemperatureOutOfRange = 12
number_of NameTooLong = 13
number_of BadName = 14
number_of AlreadyOffered = 15
number_of NoSuchNode = 16
number_of LineEmpty = 17
number_of NoFreeSlot = 18
number_of BufferEmpty = 19
number_of NextBufferFull = 20
number_of TurnMarkSet = 21
number_of UnknownCommand = 22
number_of CommandCut = 23
number_of PlaceBeyondEnd = 24
number_of UnsoundRing = 25
number_of NoRoomToWrite = 26
number_of NotAsking = 27
number_of RequestInBuffer = 28
number_of NoEmptyRow = 29
number_of BlankEnd = 30

-- the number of a verdict: that of the refusal, or 0
abbrev pub Verdict : Type 0
Verdict = Result Unit Refusal

abbrev pub number_in : {T : Type 0} → Result T Refusal → ℕ
number_in (Ok x) = 0
number_in (Err r) = number_of r

abbrev pub verdict_number : Verdict → ℕ
verdict_number v = number_in v

-- two refusals never share a number
abbrev pub OneMeaning : Type 0
OneMeaning = (a b : Refusal) → number_of a ≡ number_of b → a ≡ b

-- every number is from 1 to 30
abbrev pub InRange : Type 0
InRange = (r : Refusal) → (1 ≤ number_of r) × (number_of r ≤ 30)
