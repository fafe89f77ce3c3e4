-- Document 01, "Runs of calls", with the withdrawals of document 02: lists of calls on anything that answers ring calls, what was offered
-- and delivered on a channel, and what is counted. S is what is called: the ring apart from its layout, or the ring in memory.
use Rattle.std.specs.Prelude.{ℕ, suc, ◌+◌, ◌*◌, Bool, true, false, cond, not, List, [], ◌∷◌, ◌++◌}
use Rattle.std.proofs.Math.Option.{Option, none, some}
use Rattle.batch.specs.declared.BatchRecord.{BatchRecord}
use Rattle.numbers.specs.declared.NodeNo.{NodeNo}
use Rattle.numbers.specs.declared.ChannelNo.{ChannelNo}
use Rattle.network.specs.Counting.{one}
use Rattle.network.specs.Network.{Network, Phase, resting, asking, ready, answering, count_of_nodes, count_of_channels, slot_count, same_channel, channel}
use Rattle.network.specs.Sound.{Limits}
use Rattle.network.specs.Calls.{Event, Delivery, delivery_in, Outcome, refused, accepted}
use Rattle.network.specs.Calls

-- the ring calls, with any arguments
pub data Call : Type 0 where
  add_node : ℕ → Call
  add_channel : NodeNo → NodeNo → Call
  start : Call
  receive : ChannelNo → Call
  send : ChannelNo → BatchRecord → Call
  enter : NodeNo → Call
  move : NodeNo → Call
  withdraw : ChannelNo → Call
  hops_left : ChannelNo → Call
  waiting_set : NodeNo → Call

abbrev pub call : Limits → Call → Network → Outcome Network
call L (add_node slots) σ = Calls.add_node L slots σ
call L (add_channel s r) σ = Calls.add_channel L s r σ
call L start σ = Calls.start σ
call L (receive k) σ = Calls.receive k σ
call L (send k x) σ = Calls.send k x σ
call L (enter p) σ = Calls.enter p σ
call L (move p) σ = Calls.move p σ
call L (withdraw k) σ = Calls.withdraw k σ
call L (hops_left k) σ = Calls.hops_left k σ
call L (waiting_set p) σ = Calls.waiting_set p σ

-- What an accepted call is to the count. A send, an entry and a move are steps; what plans the ring or asks a question is silent.
pub data Deed : Type 0 where
  received withdrew : ChannelNo → Deed
  stepped silent : Deed

abbrev pub deed_of : Call → Deed
deed_of (add_node slots) = silent
deed_of (add_channel s r) = silent
deed_of start = silent
deed_of (receive k) = received k
deed_of (send k x) = stepped
deed_of (enter p) = stepped
deed_of (move p) = stepped
deed_of (withdraw k) = withdrew k
deed_of (hops_left k) = silent
deed_of (waiting_set p) = silent

-- The request that stands on channel k is withdrawn in what follows: of the receives and withdrawals on k the first is a withdrawal.
abbrev pub withdrawn : ChannelNo → List Deed → Bool
withdrawn k [] = false
withdrawn k (received j ∷ ds) = cond (same_channel j k) false (withdrawn k ds)
withdrawn k (withdrew j ∷ ds) = cond (same_channel j k) true (withdrawn k ds)
withdrawn k (stepped ∷ ds) = withdrawn k ds
withdrawn k (silent ∷ ds) = withdrawn k ds

-- Sends, entries and moves are counted, and receives; a withdrawal is left out, and so is the receive that it undoes.
abbrev pub count_of : List Deed → ℕ
count_of [] = 0
count_of (received k ∷ ds) = one (not (withdrawn k ds)) + count_of ds
count_of (withdrew k ∷ ds) = count_of ds
count_of (stepped ∷ ds) = suc (count_of ds)
count_of (silent ∷ ds) = count_of ds

-- record x of channel j, as channel k sees it
abbrev pub on_channel : ChannelNo → ChannelNo → BatchRecord → List BatchRecord
on_channel k j x = cond (same_channel j k) (x ∷ []) []

-- a call's record, if it is a send on channel k
abbrev pub sent_on : ChannelNo → Call → List BatchRecord
sent_on k (add_node slots) = []
sent_on k (add_channel s r) = []
sent_on k start = []
sent_on k (receive j) = []
sent_on k (send j x) = on_channel k j x
sent_on k (enter p) = []
sent_on k (move p) = []
sent_on k (withdraw j) = []
sent_on k (hops_left j) = []
sent_on k (waiting_set p) = []

-- the record in an answer that holds channel k
abbrev pub record_on : ChannelNo → Option Delivery → List BatchRecord
record_on k none = []
record_on k (some d) = on_channel k d.channel d.«record»

abbrev pub handed_on : ChannelNo → Event → List BatchRecord
handed_on k e = record_on k (delivery_in e)

module _ {S : Type 0} where
  -- a refusal changes nothing
  abbrev pub after : S → Outcome S → S
  after s (refused r) = s
  after s (accepted e t) = t

  abbrev pub is_accepted : Outcome S → Bool
  is_accepted (refused r) = false
  is_accepted (accepted e t) = true

  abbrev pub deed_by : Call → Outcome S → Deed
  deed_by a (refused r) = silent
  deed_by a (accepted e t) = deed_of a

  abbrev pub offered_by : ChannelNo → Call → Outcome S → List BatchRecord
  offered_by k a (refused r) = []
  offered_by k a (accepted e t) = sent_on k a

  abbrev pub delivered_by : ChannelNo → Outcome S → List BatchRecord
  delivered_by k (refused r) = []
  delivered_by k (accepted e t) = handed_on k e

module _ {S : Type 0} (step : Call → S → Outcome S) where
  -- each call gets the ring as the one before left it
  abbrev pub run : List Call → S → S
  run [] s = s
  run (a ∷ calls) s = run calls (after s (step a s))

  -- what a run does, call by call
  abbrev pub deeds : List Call → S → List Deed
  deeds [] s = []
  deeds (a ∷ calls) s = deed_by a (step a s) ∷ deeds calls (after s (step a s))

  -- how many accepted receives, sends, entries and moves a run has, but for the receives that it undoes
  abbrev pub counted : List Call → S → ℕ
  counted calls s = count_of (deeds calls s)

  -- offered on channel k: the records of the run's accepted sends on it, in the order of the calls
  abbrev pub offered_on : ChannelNo → List Call → S → List BatchRecord
  offered_on k [] s = []
  offered_on k (a ∷ calls) s = offered_by k a (step a s) ++ offered_on k calls (after s (step a s))

  -- delivered on channel k: the records in the answers that hold this channel, in that order
  abbrev pub delivered_on : ChannelNo → List Call → S → List BatchRecord
  delivered_on k [] s = []
  delivered_on k (a ∷ calls) s = delivered_by k (step a s) ++ delivered_on k calls (after s (step a s))

-- Matched on channel m: asking with a record offered, that record; answering, the record carried.
abbrev pub matched_in : Phase → Option BatchRecord → Option BatchRecord
matched_in resting o = none
matched_in asking o = o
matched_in ready o = none
matched_in (answering x) o = some x

abbrev pub matched : Network → ChannelNo → Option BatchRecord
matched σ m = matched_in (channel σ m).phase (channel σ m).offer

-- (n + 4) × (2b + 2cn + 6c)
abbrev pub bound : Network → ℕ
bound σ =
    (count_of_nodes σ + 4) * (2 * slot_count σ + 2 * (count_of_channels σ * count_of_nodes σ) + 6 * count_of_channels σ)
