-- The edges P1 to P11 of document 01 as one table, and its two worked runs, the one of the tape and the turn case, as lists of calls with
-- what they answer. All are asked of what the contracts cite: the calls on the ring in memory, `hops` and `send_verdict`.
use Rattle.std.specs.Prelude.{ℕ, ◌<◌, ◌≡◌, List, [], ◌∷◌, ◌++◌, map, ℤ, pos, neg_ℤ, length, get_or, replicate}
use Rattle.refusal.specs.Number.{verdict_number}
use Rattle.batch.specs.declared.BatchRecord.{BatchRecord}
use Rattle.batch.specs.declared.sending.Scale.{Scale}
use Rattle.batch.specs.declared.sending.Scale.TheVariants.{Tenths, Hundredths}
use Rattle.batch.specs.Good.{send_verdict}
use Rattle.batch.specs.Sending.{as_hundredths}
use Rattle.numbers.specs.declared.NodeNo.{NodeNo}
use Rattle.numbers.specs.declared.ChannelNo.{ChannelNo}
use Rattle.hops.specs.Hops.{hops}
use Rattle.network.specs.Network.{Network, node_no, channel_no}
use Rattle.network.specs.Calls.{Outcome}
use Rattle.network.specs.Runs.{Call, add_node, add_channel, start, receive, send, enter, move, run, bound}
use Rattle.network.specs.Layout.{view, fresh_ring, call_ring}
use Rattle.network.specs.Answers.{outcome_number, says, delivers, answers}

-- the calls that plan nodes of so many slots each and channels from sender to receiver
pub record Ends : Type 0 where
  pub from : NodeNo
  pub to : NodeNo

abbrev pub plan : List ℕ → List Ends → List Call
plan slots ends = map add_node slots ++ map (λ (e : Ends). add_channel e.from e.to) ends

-- a record with this temperature, and a name of so many letters in 32 cells
abbrev pub sample : ℤ → ℕ → List ℕ → BatchRecord
sample degrees size cells =
    record { batch = record { 0 = 7 }; vessel = 3; temperature = degrees; name_length = size; name = cells }

-- what a row of the table asks
pub data Question : Type 0 where
  starting : List ℕ → List Ends → Question
  hops_from : ℕ → ℕ → ℕ → Question
  naming : ℕ → Question
  heating : Scale → ℤ → Question
  slotting : ℕ → Question
  counting : List ℕ → List Ends → Question

-- asked of whatever answers ring calls (as in Demand): a fresh one, the ring that it holds, and a call
module _ {S : Type 0} (fresh : S) (seen : S → Network) (step : Call → S → Outcome S) where
  abbrev pub planned : List ℕ → List Ends → S
  planned slots ends = run step (plan slots ends) fresh

  abbrev pub ask : Question → ℕ
  ask (starting slots ends) = outcome_number (step start (planned slots ends))
  ask (hops_from n p q) = hops n p q
  ask (naming size) = verdict_number (send_verdict (sample (pos 6120) size (replicate 32 0x41)))
  ask (heating scale degrees) = verdict_number (send_verdict (sample (as_hundredths scale degrees) 0 (replicate 32 0)))
  ask (slotting slots) = outcome_number (step (add_node slots) fresh)
  ask (counting slots ends) = bound (seen (planned slots ends))

pub record Edge : Type 0 where
  pub question : Question
  pub answer : ℕ

abbrev pub edge : Question → ℕ → Edge
edge q a = record { question = q; answer = a }

abbrev pub ends : ℕ → ℕ → Ends
ends s r = record { from = node_no s; to = node_no r }

unfoldable pub edges : List Edge
edges =
    -- P1, P2: two same-node channels want three slots
    edge (starting (1 ∷ 1 ∷ []) (ends 0 0 ∷ ends 1 1 ∷ [])) 7
    ∷ edge (starting (1 ∷ 2 ∷ []) (ends 0 0 ∷ ends 1 1 ∷ [])) 0
    -- P3 to P5
    ∷ edge (hops_from 3 2 1) 2
    ∷ edge (hops_from 3 1 1) 3
    ∷ edge (hops_from 1 0 0) 1
    -- P6, P7
    ∷ edge (naming 32) 0
    ∷ edge (naming 33) 13
    -- P8, P9, of command 21; and beside them the edges of command 25
    ∷ edge (heating Tenths (pos 1200)) 0
    ∷ edge (heating Tenths (neg_ℤ (pos 400))) 0
    ∷ edge (heating Tenths (pos 1201)) 12
    ∷ edge (heating Tenths (neg_ℤ (pos 401))) 12
    ∷ edge (heating Hundredths (pos 12000)) 0
    ∷ edge (heating Hundredths (neg_ℤ (pos 4000))) 0
    ∷ edge (heating Hundredths (pos 12001)) 12
    ∷ edge (heating Hundredths (neg_ℤ (pos 4001))) 12
    -- P10
    ∷ edge (slotting 64) 0
    ∷ edge (slotting 65) 3
    -- P11
    ∷ edge (counting (1 ∷ 2 ∷ []) (ends 0 0 ∷ ends 1 1 ∷ [])) 156
    ∷ []

-- every row of the table is right, of the ring in memory
abbrev pub EdgesHold : Type 0
EdgesHold =
    (i : ℕ) → i < length edges →
    ask fresh_ring view call_ring (get_or edges i (edge (slotting 0) 0)).question ≡ (get_or edges i (edge (slotting 0) 0)).answer

-- the nodes and channels that the runs name
abbrev pub n0 : NodeNo
n0 = node_no 0

abbrev pub n1 : NodeNo
n1 = node_no 1

abbrev pub n2 : NodeNo
n2 = node_no 2

abbrev pub c0 : ChannelNo
c0 = channel_no 0

abbrev pub c1 : ChannelNo
c1 = channel_no 1

abbrev pub c2 : ChannelNo
c2 = channel_no 2

-- the run of document 01's tape, and the record that it delivers: the tape has 612 tenths, the record 6120 hundredths
abbrev pub worked_record : BatchRecord
worked_record = sample (as_hundredths Tenths (pos 612)) 2 (0x41 ∷ 0x31 ∷ replicate 30 0)

abbrev pub worked_calls : List Call
worked_calls =
    add_node 1 ∷ add_node 2 ∷ add_channel n1 n0 ∷ start ∷ receive c0 ∷ receive c0 ∷ enter n0 ∷ move n0 ∷ send c0 worked_record ∷ enter n1
    ∷ move n1 ∷ move n1 ∷ []

abbrev pub WorkedRunHolds : Type 0
WorkedRunHolds =
    answers call_ring worked_calls fresh_ring
    ≡ says 0 ∷ says 0 ∷ says 0 ∷ says 0 ∷ says 0 ∷ says 10 ∷ says 0 ∷ says 0 ∷ says 0 ∷ says 0 ∷ delivers c0 worked_record ∷ says 19 ∷ []

-- the turn case: the plan, then the calls of document 01 in their order
abbrev pub turn_calls : List Call
turn_calls =
    add_node 1 ∷ add_node 2 ∷ add_node 1 ∷ add_channel n2 n0 ∷ add_channel n2 n1 ∷ add_channel n2 n0 ∷ start
    ∷ receive c0 ∷ receive c1 ∷ receive c2 ∷ enter n0 ∷ move n0 ∷ enter n0 ∷ move n0 ∷ enter n1 ∷ move n0 ∷ move n1 ∷ move n0 ∷ []

abbrev pub TurnHolds : Type 0
TurnHolds =
    answers call_ring turn_calls fresh_ring
    ≡ map says (0 ∷ 0 ∷ 0 ∷ 0 ∷ 0 ∷ 0 ∷ 0 ∷ 0 ∷ 0 ∷ 0 ∷ 0 ∷ 0 ∷ 0 ∷ 21 ∷ 0 ∷ 20 ∷ 0 ∷ 0 ∷ [])
