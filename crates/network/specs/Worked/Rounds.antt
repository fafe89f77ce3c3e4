-- The dispatcher (document 02), pinned down by worked rounds: how many are made, what is delivered and in which order, and what is left,
-- where each gives a wrong dispatcher away; what a dispatcher call stands for, call by call, and what of it is counted; and that no round is
-- made too many. Said of whatever answers ring calls, and asked of the ring in memory.
use Rattle.std.specs.Prelude.{ℕ, suc, ◌<◌, ◌≡◌, Bool, true, false, List, [], ◌∷◌, ◌++◌, map, pos, take, replicate}
use Rattle.batch.specs.declared.BatchRecord.{BatchRecord}
use Rattle.network.specs.Counting.{times}
use Rattle.network.specs.Network.{Network, resting, ready, node_no, channel_no, channel}
use Rattle.network.specs.Calls.{Delivery, Outcome}
use Rattle.network.specs.Runs.{Call, receive, send, enter, run, counted}
use Rattle.network.specs.Layout.{view, fresh_ring, sound_ring, call_ring}
use Rattle.network.specs.Answers.{says, delivers, answers}
use Rattle.network.specs.Dispatch.{DispatchSaid, told_in, round, on_ring, still, after_dispatch, Act, single, dispatch, rounds_made, spelled, dispatched, run_acts, act_deliveries, spelled_out}
use Rattle.network.specs.Worked.Edges.{ends, plan, sample, c0, worked_record}
use Rattle.network.specs.Worked.Withdrawals.{begin, one_way, one_waits, two_same, matched_pair}

-- in the worked rounds each channel k has a record of its own
abbrev pub record_of : ℕ → BatchRecord
record_of k = sample (pos k) 0 (replicate 32 0)

abbrev pub ask : ℕ → Call
ask k = receive (channel_no k)

abbrev pub offer : ℕ → Call
offer k = send (channel_no k) (record_of k)

abbrev pub delivery : ℕ → BatchRecord → Delivery
delivery k x = record { channel = channel_no k; «record» = x }

-- so many rounds made, with deliveries on these channels; or a refusal
abbrev pub tells : ℕ → List ℕ → DispatchSaid
tells rounds ks = record { number = 0; rounds = rounds; handed = map (λ k. delivery k (record_of k)) ks }

abbrev pub turns_down : ℕ → DispatchSaid
turns_down n = record { number = n; rounds = 0; handed = [] }

-- The rings, on the plans of Withdrawals and on others: a channel from node 1 to node 0 that has asked, with a record and without; one from
-- node 0 to node 1; one node with a channel to itself; and nodes of two slots with same-node channels, one at node 0 and two at each other,
-- so that all slots but one are taken when all have asked and entered.
abbrev pub backward : List Call
backward = one_way ++ (ask 0 ∷ offer 0 ∷ [])

abbrev pub bare : List Call
bare = one_way ++ (ask 0 ∷ [])

abbrev pub forward : List Call
forward = begin (1 ∷ 2 ∷ []) (ends 0 1 ∷ []) ++ (ask 0 ∷ offer 0 ∷ [])

abbrev pub alone : List Call
alone = begin (2 ∷ []) (ends 0 0 ∷ []) ++ (ask 0 ∷ offer 0 ∷ [])

-- channel k and those after it, at these nodes: each has a record offered, has asked and has entered
abbrev pub entered : ℕ → List ℕ → List Call
entered k [] = []
entered k (p ∷ ps) = offer k ∷ ask k ∷ enter (node_no p) ∷ entered (suc k) ps

abbrev pub crowd : ℕ → List ℕ → List Call
crowd n at = begin (replicate n 2) (map (λ p. ends p p) at) ++ entered 0 at

abbrev pub crowd_of4 : List Call
crowd_of4 = crowd 4 (0 ∷ 1 ∷ 1 ∷ 2 ∷ 2 ∷ 3 ∷ 3 ∷ [])

-- asked of whatever answers ring calls (as in Demand)
module _ {S : Type 0} (fresh : S) (sound : S → Bool) (seen : S → Network) (step : Call → S → Outcome S) where
  -- the ring after these calls, and the ring that the dispatcher leaves there, given so many rounds
  abbrev pub begun : List Call → S
  begun before = run step before fresh

  abbrev pub leaves : List Call → ℕ → S
  leaves before given = after_dispatch (begun before) (dispatched sound seen step given (begun before))

  -- after these calls, given so many rounds, the dispatcher tells this, and leaves so many messages on the ring
  pub record WorkedRounds (before : List Call) (given : ℕ) (told : DispatchSaid) (left : ℕ) : Type 0 where
    pub is-told : told_in (dispatched sound seen step given (begun before)) ≡ told
    pub is-left : on_ring (seen (leaves before given)) ≡ left

  pub record RoundsTold : Type 0 where
    pub not-started : WorkedRounds (plan (1 ∷ 2 ∷ []) (ends 1 0 ∷ [])) 5 (turns_down 8) 0
    -- not 1, as where a round is made before it is found that nothing is on the ring
    pub nothing-asked : WorkedRounds one_way 5 (tells 0 []) 0
    -- not 2, as where one more is made to find it
    pub one-round : WorkedRounds backward 12 (tells 1 (0 ∷ [])) 0
    pub then-rests : (channel (seen (leaves backward 12)) c0).phase ≡ resting
    -- not 12, as where a channel that is ready has a message on the ring
    pub no-record : WorkedRounds bare 12 (tells 1 []) 0
    pub then_ready : (channel (seen (leaves bare 12)) c0).phase ≡ ready
    -- not 1, as where a round that delivers nothing is the last
    pub two-rounds : WorkedRounds forward 12 (tells 2 (0 ∷ [])) 0
    -- no more than are given
    pub none-given : WorkedRounds forward 0 (tells 0 []) 1
    pub as_before : leaves forward 0 ≡ begun forward
    pub one-given : WorkedRounds forward 1 (tells 1 []) 1
    -- not 3, as where a node moves before it enters
    pub entry_first : WorkedRounds alone 4 (tells 2 (0 ∷ [])) 0
    pub two-same : WorkedRounds (two_same ++ (offer 0 ∷ offer 1 ∷ ask 0 ∷ ask 1 ∷ [])) 12 (tells 5 (0 ∷ 1 ∷ [])) 0
    pub turn-case :
        WorkedRounds (one_waits ++ (ask 0 ∷ ask 1 ∷ ask 2 ∷ offer 0 ∷ offer 1 ∷ offer 2 ∷ [])) 24 (tells 3 (0 ∷ 1 ∷ 2 ∷ [])) 0
    -- in the order of the deliveries, not of the channels; one round fewer leaves something. (With 16 nodes, which takes seconds to
    -- compute, 845 rounds are made of 1,054: c × (2n + 2) is nearly needed. That one is run by the tests.)
    pub crowded : WorkedRounds crowd_of4 70 (tells 29 (3 ∷ 4 ∷ 5 ∷ 1 ∷ 6 ∷ 0 ∷ 2 ∷ [])) 0
    pub one_fewer : WorkedRounds crowd_of4 28 (tells 28 (3 ∷ 4 ∷ 5 ∷ 1 ∷ 6 ∷ 0 ∷ [])) 1

  -- so of every ring: the dispatcher makes no round too many
  abbrev pub NoneTooMany : Type 0
  NoneTooMany =
      (given fewer : ℕ) (s : S) → sound s ≡ true → (seen s).started ≡ true → fewer < rounds_made sound seen step given s →
      (rounds_made sound seen step fewer s ≡ fewer) × (still (seen (run step (spelled sound seen step fewer s) s)) ≡ false)

  -- after these calls, these acts stand for these single calls, with these deliveries
  pub record WorkedActs (before : List Call) (acts : List Act) (calls : List Call) (handed : List Delivery) : Type 0 where
    pub is_spelled : spelled_out sound seen step acts (begun before) ≡ calls
    pub is-handed : act_deliveries sound seen step acts (begun before) ≡ handed

  pub record ActsSpelled : Type 0 where
    -- The matched pair of Withdrawals: two rounds of four tries each. The two that are refused are among them, and are not counted: six
    -- up to the delivery, as where they are called singly; not 8, and not 1, as where the dispatcher call is one.
    pub pair : WorkedActs matched_pair (dispatch 12 ∷ []) (times 2 (round 2)) (delivery 0 worked_record ∷ [])
    pub pair-answers :
        answers step (times 2 (round 2)) (begun matched_pair)
        ≡ map says (0 ∷ 0 ∷ 17 ∷ 0 ∷ 0 ∷ 0 ∷ 17 ∷ []) ++ (delivers c0 worked_record ∷ [])
    pub pair-counted : counted step (times 2 (round 2)) (begun matched_pair) ≡ 6
    -- the record is delivered in the middle of a round, whose tries go on: four are counted up to the move that delivers, the sixth
    pub mid-round : WorkedActs forward (dispatch 12 ∷ []) (times 2 (round 2)) (delivery 0 (record_of 0) ∷ [])
    pub mid-round-answers :
        answers step (times 2 (round 2)) (begun forward)
        ≡ map says (17 ∷ 19 ∷ 0 ∷ 0 ∷ 0 ∷ []) ++ (delivers c0 (record_of 0) ∷ says 17 ∷ says 19 ∷ [])
    pub mid-round-counted : counted step (take 6 (times 2 (round 2))) (begun forward) ≡ 4
    -- dispatcher calls among single calls; one that finds nothing on the ring stands for none
    pub among-others :
        WorkedActs one_way (dispatch 7 ∷ single (ask 0) ∷ dispatch 7 ∷ dispatch 7 ∷ single (offer 0) ∷ dispatch 7 ∷ [])
        (ask 0 ∷ round 2 ++ (offer 0 ∷ round 2)) (delivery 0 (record_of 0) ∷ [])

  -- a dispatcher call that is refused tells its number alone, leaves the ring and stands for no call
  pub record RoundsRefused (number given : ℕ) (s : S) : Type 0 where
    pub is-told : told_in (dispatched sound seen step given s) ≡ turns_down number
    pub ring-stays : run_acts sound seen step (dispatch given ∷ []) s ≡ s
    pub stands-for-none : spelled_out sound seen step (dispatch given ∷ []) s ≡ []

  -- 25, then 8
  pub record RefusesRounds : Type 0 where
    pub unsound : (given : ℕ) (s : S) → sound s ≡ false → RoundsRefused 25 given s
    pub not-started : (given : ℕ) (s : S) → sound s ≡ true → (seen s).started ≡ false → RoundsRefused 8 given s

-- of the ring in memory, where `dispatched` is `dispatch_ring`
pub record RingRounds : Type 0 where
  pub rounds-told : RoundsTold fresh_ring sound_ring view call_ring
  pub none-too-many : NoneTooMany fresh_ring sound_ring view call_ring
  pub acts-spelled : ActsSpelled fresh_ring sound_ring view call_ring
  pub refuses-rounds : RefusesRounds fresh_ring sound_ring view call_ring
