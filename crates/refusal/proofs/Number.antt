-- The laws of the refusals' numbers. The list of all refusals, in the order of their numbers, leads from a number back to its
-- refusal (`case_of`); so two refusals of one number are one.
use mathlib.Core.Path.{◌≡◌, refl, sym, ap, ◌∙◌}
use mathlib.Core.List.{List, [], ◌∷◌}
use Prim.Native.Nat.{ℕ, ◌-◌, ◌≤◌}
use lib.Dec.{lit≤}
use lib.ListN.{get_or}
use Rattle.refusal.specs.declared.Refusal.{Refusal}
use Rattle.refusal.specs.declared.Refusal.TheVariants.{AlreadyStarted, NodesFull, BadSlots, ChannelsFull, NoSuchEnd}
use Rattle.refusal.specs.declared.Refusal.TheVariants.{NothingToStart, TooFewSlots, NotStarted, NoSuchChannel, NotResting}
use Rattle.refusal.specs.declared.Refusal.TheVariants.{BatchNumberZero, TemperatureOutOfRange, NameTooLong, BadName}
use Rattle.refusal.specs.declared.Refusal.TheVariants.{AlreadyOffered, NoSuchNode, LineEmpty, NoFreeSlot, BufferEmpty, NextBufferFull}
use Rattle.refusal.specs.declared.Refusal.TheVariants.{TurnMarkSet, UnknownCommand, CommandCut, PlaceBeyondEnd, UnsoundRing, NoRoomToWrite}
use Rattle.refusal.specs.declared.Refusal.TheVariants.{NotAsking, RequestInBuffer, NoEmptyRow, BlankEnd}
use Rattle.refusal.specs.Number.{number_of, OneMeaning, InRange}

abbrev refusals : List Refusal
refusals =
    AlreadyStarted ∷ NodesFull ∷ BadSlots ∷ ChannelsFull ∷ NoSuchEnd ∷ NothingToStart ∷
    TooFewSlots ∷ NotStarted ∷ NoSuchChannel ∷ NotResting ∷ BatchNumberZero ∷
    TemperatureOutOfRange ∷ NameTooLong ∷ BadName ∷ AlreadyOffered ∷ NoSuchNode ∷
    LineEmpty ∷ NoFreeSlot ∷ BufferEmpty ∷ NextBufferFull ∷ TurnMarkSet ∷ UnknownCommand ∷
    CommandCut ∷ PlaceBeyondEnd ∷ UnsoundRing ∷ NoRoomToWrite ∷ NotAsking ∷ RequestInBuffer ∷
    NoEmptyRow ∷ BlankEnd ∷ []

-- the refusal of a number
abbrev case_of : ℕ → Refusal
case_of n = get_or refusals (n - 1) AlreadyStarted

record Known (r : Refusal) : Type 0 where
  back : case_of (number_of r) ≡ r
  least : 1 ≤ number_of r
  most : number_of r ≤ 30

known : (r : Refusal) → Known r
known AlreadyStarted = record { back = refl; least = lit≤ tt; most = lit≤ tt }
known NodesFull = record { back = refl; least = lit≤ tt; most = lit≤ tt }
known BadSlots = record { back = refl; least = lit≤ tt; most = lit≤ tt }
known ChannelsFull = record { back = refl; least = lit≤ tt; most = lit≤ tt }
known NoSuchEnd = record { back = refl; least = lit≤ tt; most = lit≤ tt }
known NothingToStart = record { back = refl; least = lit≤ tt; most = lit≤ tt }
known TooFewSlots = record { back = refl; least = lit≤ tt; most = lit≤ tt }
known NotStarted = record { back = refl; least = lit≤ tt; most = lit≤ tt }
known NoSuchChannel = record { back = refl; least = lit≤ tt; most = lit≤ tt }
known NotResting = record { back = refl; least = lit≤ tt; most = lit≤ tt }
known BatchNumberZero = record { back = refl; least = lit≤ tt; most = lit≤ tt }
known TemperatureOutOfRange = record { back = refl; least = lit≤ tt; most = lit≤ tt }
known NameTooLong = record { back = refl; least = lit≤ tt; most = lit≤ tt }
known BadName = record { back = refl; least = lit≤ tt; most = lit≤ tt }
known AlreadyOffered = record { back = refl; least = lit≤ tt; most = lit≤ tt }
known NoSuchNode = record { back = refl; least = lit≤ tt; most = lit≤ tt }
known LineEmpty = record { back = refl; least = lit≤ tt; most = lit≤ tt }
known NoFreeSlot = record { back = refl; least = lit≤ tt; most = lit≤ tt }
known BufferEmpty = record { back = refl; least = lit≤ tt; most = lit≤ tt }
known NextBufferFull = record { back = refl; least = lit≤ tt; most = lit≤ tt }
known TurnMarkSet = record { back = refl; least = lit≤ tt; most = lit≤ tt }
known UnknownCommand = record { back = refl; least = lit≤ tt; most = lit≤ tt }
known CommandCut = record { back = refl; least = lit≤ tt; most = lit≤ tt }
known PlaceBeyondEnd = record { back = refl; least = lit≤ tt; most = lit≤ tt }
known UnsoundRing = record { back = refl; least = lit≤ tt; most = lit≤ tt }
known NoRoomToWrite = record { back = refl; least = lit≤ tt; most = lit≤ tt }
known NotAsking = record { back = refl; least = lit≤ tt; most = lit≤ tt }
known RequestInBuffer = record { back = refl; least = lit≤ tt; most = lit≤ tt }
known NoEmptyRow = record { back = refl; least = lit≤ tt; most = lit≤ tt }
known BlankEnd = record { back = refl; least = lit≤ tt; most = lit≤ tt }

pub one-meaning : OneMeaning
one-meaning a b e = sym (known a).back ∙ ap case_of e ∙ (known b).back

pub in-range : InRange
in-range r = ((known r).least, (known r).most)
