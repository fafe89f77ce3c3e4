-- Blanks at the ends of a name (document 02): what send answers, worked row by row, and what is promised of a ring that holds such a record
-- from before, offered or carried: it is sound, and the record is delivered as it is. From a fresh ring none is delivered.
use Rattle.std.specs.Prelude.{ℕ, ◌-◌, ◌≡◌, ◌⊎◌, Bool, true, false, not, List, [], ◌∷◌, ◌++◌, map, pos, length, replicate}
use Rattle.std.proofs.Math.Option.{none, some}
use Rattle.refusal.specs.declared.Refusal.TheVariants.{BlankEnd}
use Rattle.std.specs.Prelude.{Err}
use Rattle.batch.specs.declared.BatchRecord.{BatchRecord}
use Rattle.batch.specs.Good.{every, blank_ends, send_verdict}
use Rattle.numbers.specs.declared.ChannelNo.{ChannelNo}
use Rattle.network.specs.declared.Ring.{Ring}
use Rattle.network.specs.Network.{Network, asking, answering, fresh, channel, is_channel, with_channel}
use Rattle.network.specs.Sound.{absent}
use Rattle.network.specs.Calls.{Outcome}
use Rattle.network.specs.Runs.{Call, receive, send, enter, move, withdrawn, call, run, deeds, delivered_on, matched}
use Rattle.network.specs.Layout.{ring_limits, view, hold, fresh_ring, sound_ring, call_ring}
use Rattle.network.specs.Answers.{says, delivers, outcome_number, answers}
use Rattle.network.specs.Demand.{InTime, UnderWay}
use Rattle.network.specs.Worked.Edges.{ends, plan, n0, n1, c0, c1, sample}
use Rattle.network.specs.Worked.Withdrawals.{one_way}

-- a record with a name of so many bytes: these stand in its first cells, zeros in the rest
abbrev pub named : ℕ → List ℕ → BatchRecord
named size bytes = sample (pos 6120) size (bytes ++ replicate (32 - length bytes) 0)

-- the names `AB`, and `A` with a blank behind it
abbrev pub plain : BatchRecord
plain = named 2 (0x41 ∷ 0x42 ∷ [])

abbrev pub blank_last : BatchRecord
blank_last = named 2 (0x41 ∷ 0x20 ∷ [])

-- A channel from node 1 to node 0, a record offered on it, and the request for it; then the request has arrived and the response is in line.
abbrev pub requested : List Call
requested = one_way ++ (send c0 plain ∷ receive c0 ∷ [])

abbrev pub responded : List Call
responded = requested ++ (enter n0 ∷ move n0 ∷ [])

-- The same rings as they may stand from before: the record that is offered, or carried, has a blank at its end. No call makes them any
-- more, so they are made by hand.
unfoldable pub old_offer : Network
old_offer = with_channel c0 asking (some blank_last) (run (call ring_limits) requested fresh)

unfoldable pub old_carried : Network
old_carried = with_channel c0 (answering blank_last) none (run (call ring_limits) responded fresh)

-- the way of the response; and of the request before it
abbrev pub way_back : List Call
way_back = enter n1 ∷ move n1 ∷ []

abbrev pub whole_way : List Call
whole_way = enter n0 ∷ move n0 ∷ way_back

-- a row of the table: after these calls record x is sent on channel k, and this is the number answered
pub record SendRow : Type 0 where
  pub before : List Call
  pub at : ChannelNo
  pub sent : BatchRecord
  pub number : ℕ

abbrev pub row : List Call → ChannelNo → BatchRecord → ℕ → SendRow
row before k x number = record { before = before; at = k; sent = x; number = number }

-- a name on a started ring where nothing is offered
abbrev pub name : ℕ → List ℕ → ℕ → SendRow
name size bytes number = row one_way c0 (named size bytes) number

unfoldable pub sends : List SendRow
sends =
    -- an empty name has no ends; a name of one blank has two
    name 0 [] 0
    ∷ name 1 (0x20 ∷ []) 30
    ∷ name 2 (0x41 ∷ 0x20 ∷ []) 30
    ∷ name 2 (0x20 ∷ 0x41 ∷ []) 30
    ∷ name 3 (0x41 ∷ 0x20 ∷ 0x42 ∷ []) 0
    -- the last byte of 32, and none
    ∷ name 32 (replicate 31 0x41 ++ (0x20 ∷ [])) 30
    ∷ name 32 (replicate 32 0x41) 0
    -- 13 and 14 before 30; a blank in the fill
    ∷ name 33 (0x20 ∷ replicate 31 0x41) 13
    ∷ name 2 (0x20 ∷ 0x7F ∷ []) 14
    ∷ name 1 (0x41 ∷ 0x20 ∷ []) 14
    -- a record is offered: 30 before 15
    ∷ row requested c0 blank_last 30
    ∷ row requested c0 plain 15
    -- 8 and 9 before all of these
    ∷ row (plan (1 ∷ 2 ∷ []) (ends 1 0 ∷ [])) c0 blank_last 8
    ∷ row one_way c1 blank_last 9
    ∷ []

-- Asked of whatever answers ring calls: `after` is what lists of calls make of a fresh one, `made` what holds a ring, `sound` the test for 25.
module _ {S : Type 0} (after : List Call → S) (step : Call → S → Outcome S) where
  abbrev pub answered : SendRow → ℕ
  answered r = outcome_number (step (send r.at r.sent) (after r.before))

  abbrev pub SendsAnswer : Type 0
  SendsAnswer = map answered sends ≡ map (λ (r : SendRow). r.number) sends

module _ {S : Type 0} (made : Network → S) (sound : S → Bool) (step : Call → S → Outcome S) where
  pub record OldRings : Type 0 where
    pub offer-sound : sound (made old_offer) ≡ true
    pub carried-sound : sound (made old_carried) ≡ true
    pub offer-delivered : answers step whole_way (made old_offer) ≡ says 0 ∷ says 0 ∷ says 0 ∷ delivers c0 blank_last ∷ []
    pub carried-delivered : answers step way_back (made old_carried) ≡ says 0 ∷ delivers c0 blank_last ∷ []

-- The same of the ring in memory.
pub record RingBlanks : Type 0 where
  pub sends-answer : SendsAnswer (λ before. run call_ring before fresh_ring) call_ring
  pub old-rings : OldRings hold sound_ring call_ring

-- Of every sound started ring: in the place of a record offered or carried on channel k stands one that send refuses with 30, and the ring
-- is sound.
pub record HoldsAsWell (ring : Ring) (k : ChannelNo) (x : BatchRecord) : Type 0 where
  pub offered : absent (channel (view ring) k).offer ≡ false →
      sound_ring (hold (with_channel k (channel (view ring) k).phase (some x) (view ring))) ≡ true
  pub carried : (y : BatchRecord) → (channel (view ring) k).phase ≡ answering y →
      sound_ring (hold (with_channel k (answering x) (channel (view ring) k).offer (view ring))) ≡ true

abbrev pub StillSound : Type 0
StillSound =
    (ring : Ring) (k : ChannelNo) (x : BatchRecord) →
    sound_ring ring ≡ true → (view ring).started ≡ true → is_channel (view ring) k ≡ true → send_verdict x ≡ Err BlankEnd →
    HoldsAsWell ring k x

-- It is delivered as it is: demand 3's `Served` of a matched record that send refuses with 30.
abbrev pub StillServed : Type 0
StillServed =
    (ring : Ring) (m : ChannelNo) (x : BatchRecord) (calls : List Call) →
    sound_ring ring ≡ true → (view ring).started ≡ true → matched (view ring) m ≡ some x → send_verdict x ≡ Err BlankEnd →
    withdrawn m (deeds call_ring calls ring) ≡ false →
    InTime fresh_ring sound_ring view call_ring ring m x calls ⊎ UnderWay fresh_ring sound_ring view call_ring ring m calls

-- From a fresh ring, no record is delivered whose name begins or ends with a blank.
abbrev pub NoneDelivered : Type 0
NoneDelivered = (k : ChannelNo) (calls : List Call) → every (λ x. not (blank_ends x)) (delivered_on call_ring k calls fresh_ring) ≡ true
