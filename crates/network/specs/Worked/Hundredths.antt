-- Tenths and hundredths of a degree (document 02): what send answers to the temperatures of commands 21 and 25, worked row by row, and what
-- is delivered of them.
use Rattle.std.specs.Prelude.{ℕ, ◌≡◌, List, [], ◌∷◌, map, ℤ, pos, neg_ℤ, replicate}
use Rattle.batch.specs.declared.sending.Fields.{Fields}
use Rattle.batch.specs.declared.sending.Scale.{Scale}
use Rattle.batch.specs.declared.sending.Scale.TheVariants.{Tenths, Hundredths}
use Rattle.batch.specs.Good.{record_of}
use Rattle.batch.specs.Sending.{record_from, fields_of}
use Rattle.command.specs.declared.Action.TheVariants.{Send}
use Rattle.network.specs.Calls.{Outcome}
use Rattle.network.specs.Runs.{Call, receive, enter, move, run}
use Rattle.network.specs.Layout.{fresh_ring, call_ring}
use Rattle.network.specs.Answers.{action_call, says, delivers, answers}
use Rattle.network.specs.Worked.Edges.{ends, plan, n0, n1, c0, c1, sample}
use Rattle.network.specs.Worked.Withdrawals.{begin, one_way}
use Rattle.network.specs.Worked.BlankEnds.{SendRow, row, requested, answered}

-- what a command gives: a batch number, a temperature in its unit, a name's length, and its first byte
abbrev pub given : ℕ → ℤ → ℕ → ℕ → Fields
given number degrees size first = fields_of (record_of number 3 degrees size (first ∷ 0x31 ∷ replicate 30 0))

-- the name `A1`
abbrev pub reading : ℤ → Fields
reading degrees = given 7 degrees 2 0x41

-- this temperature on a started ring where nothing is offered
abbrev pub warm : Scale → ℤ → ℕ → SendRow
warm scale degrees number = row one_way c0 (record_from scale (reading degrees)) number

unfoldable pub temperatures : List SendRow
temperatures =
    -- command 21: tenths, -400 to 1200; ten times 3277 and ten times 6554 do not fit 16 bits
    warm Tenths (pos 1200) 0
    ∷ warm Tenths (neg_ℤ (pos 400)) 0
    ∷ warm Tenths (pos 1201) 12
    ∷ warm Tenths (neg_ℤ (pos 401)) 12
    ∷ warm Tenths (pos 3277) 12
    ∷ warm Tenths (pos 6554) 12
    ∷ warm Tenths (pos 32767) 12
    ∷ warm Tenths (neg_ℤ (pos 32768)) 12
    -- command 25: hundredths, -4000 to 12000
    ∷ warm Hundredths (pos 12000) 0
    ∷ warm Hundredths (neg_ℤ (pos 4000)) 0
    ∷ warm Hundredths (pos 1201) 0
    ∷ warm Hundredths (neg_ℤ (pos 401)) 0
    ∷ warm Hundredths (pos 12001) 12
    ∷ warm Hundredths (neg_ℤ (pos 4001)) 12
    -- 12 of command 21 at its place: after 8, 9 and 11, before 13, 14, 30 and 15
    ∷ row (plan (1 ∷ 2 ∷ []) (ends 1 0 ∷ [])) c0 (record_from Tenths (reading (pos 1201))) 8
    ∷ row one_way c1 (record_from Tenths (reading (pos 1201))) 9
    ∷ row one_way c0 (record_from Tenths (given 0 (pos 1201) 2 0x41)) 11
    ∷ row one_way c0 (record_from Tenths (given 7 (pos 1201) 33 0x41)) 12
    ∷ row one_way c0 (record_from Tenths (given 7 (pos 1201) 2 0x7F)) 12
    ∷ row one_way c0 (record_from Tenths (given 7 (pos 1201) 2 0x20)) 12
    ∷ row requested c0 (record_from Tenths (reading (pos 1201))) 12
    ∷ []

-- two channels from node 1 to node 0; a request goes there on channel 0 and is answered by 612 tenths, then one on channel 1 by 612 hundredths
abbrev pub two_ways : List Call
two_ways = begin (1 ∷ 2 ∷ []) (ends 1 0 ∷ ends 1 0 ∷ [])

abbrev pub both_units : List Call
both_units =
    receive c0 ∷ enter n0 ∷ move n0 ∷ action_call (Send c0 Tenths) (reading (pos 612)) ∷ enter n1 ∷ move n1
    ∷ receive c1 ∷ enter n0 ∷ move n0 ∷ action_call (Send c1 Hundredths) (reading (pos 612)) ∷ enter n1 ∷ move n1 ∷ []

-- asked of whatever answers ring calls, as in BlankEnds
module _ {S : Type 0} (after : List Call → S) (step : Call → S → Outcome S) where
  abbrev pub TemperaturesAnswer : Type 0
  TemperaturesAnswer = map (answered after step) temperatures ≡ map (λ (r : SendRow). r.number) temperatures

  abbrev pub BothDelivered : Type 0
  BothDelivered =
      answers step both_units (after two_ways)
      ≡ says 0 ∷ says 0 ∷ says 0 ∷ says 0 ∷ says 0 ∷ delivers c0 (sample (pos 6120) 2 (0x41 ∷ 0x31 ∷ replicate 30 0))
      ∷ says 0 ∷ says 0 ∷ says 0 ∷ says 0 ∷ says 0 ∷ delivers c1 (sample (pos 612) 2 (0x41 ∷ 0x31 ∷ replicate 30 0)) ∷ []

-- the same of the ring in memory
pub record RingUnits : Type 0 where
  pub temperatures-answer : TemperaturesAnswer (λ before. run call_ring before fresh_ring) call_ring
  pub both-delivered : BothDelivered (λ before. run call_ring before fresh_ring) call_ring
