-- The dispatcher of document 02: one call that runs the ring for a number of rounds, defined by the same entries and moves called singly,
-- on anything that answers ring calls. Then lists of calls with dispatcher calls among them, and what is promised of both.
use Rattle.std.specs.Prelude.{ℕ, zero, suc, ◌+◌, ◌*◌, ◌≤◌, ◌<◌, ◌≡◌, ◌⊎◌, Bool, true, false, cond, ◌&&◌, List, [], ◌∷◌, ◌++◌, map, eqb, length}
use Rattle.std.proofs.Math.Option.{Option, none, some}
use Rattle.refusal.specs.declared.Refusal.{Refusal}
use Rattle.refusal.specs.declared.Refusal.TheVariants.{UnsoundRing, NotStarted}
use Rattle.refusal.specs.Number.{number_of}
use Rattle.batch.specs.declared.BatchRecord.{BatchRecord}
use Rattle.numbers.specs.declared.ChannelNo.{ChannelNo}
use Rattle.network.specs.Counting.{one, sum, times}
use Rattle.network.specs.Network.{Network, node_no, channel_no, count_of_nodes, count_of_channels, channel, moving}
use Rattle.network.specs.Sound.{Limits}
use Rattle.network.specs.Sound
use Rattle.network.specs.Calls.{Delivery, delivery_in, Outcome, refused, accepted, unless}
use Rattle.network.specs.Runs.{Call, enter, move, withdrawn, record_on, call, after, run, deeds, offered_on, delivered_on, matched}
use Rattle.network.specs.Answers.{Said, said_in, says}
use Rattle.network.specs.Demand.{InTime, UnderWay}

-- A round of n nodes: at each, from node 0 on, an entry is tried and then a move.
abbrev pub round : ℕ → List Call
round zero = []
round (suc n) = round n ++ (enter (node_no n) ∷ move (node_no n) ∷ [])

-- how many channels have their message on the ring: those that are asking or answering
abbrev pub on_ring : Network → ℕ
on_ring σ = sum (count_of_channels σ) (λ k. one (moving (channel σ (channel_no k)).phase))

-- nothing is on the ring
abbrev pub still : Network → Bool
still σ = eqb (on_ring σ) 0

-- so many rounds leave nothing on the ring: c × (2n + 2)
abbrev pub enough_rounds : Network → ℕ
enough_rounds σ = count_of_channels σ * (2 * count_of_nodes σ + 2)

-- the deliveries in an outcome, none or one
abbrev pub listed : Option Delivery → List Delivery
listed none = []
listed (some d) = d ∷ []

abbrev pub handed_by : {S : Type 0} → Outcome S → List Delivery
handed_by (refused r) = []
handed_by (accepted e t) = listed (delivery_in e)

-- the records among deliveries that are on channel k
abbrev pub records_on : ChannelNo → List Delivery → List BatchRecord
records_on k [] = []
records_on k (d ∷ ds) = record_on k (some d) ++ records_on k ds

-- the deliveries of a run, in order
abbrev pub deliveries : {S : Type 0} → (Call → S → Outcome S) → List Call → S → List Delivery
deliveries step [] s = []
deliveries step (a ∷ calls) s = handed_by (step a s) ++ deliveries step calls (after s (step a s))

-- What the dispatcher answers: a refusal; or the rounds that it made, the deliveries in order, and the next ring.
pub data Dispatch (S : Type 0) : Type 0 where
  not_run : Refusal → Dispatch S
  ran : ℕ → List Delivery → S → Dispatch S

abbrev pub after_dispatch : {S : Type 0} → S → Dispatch S → S
after_dispatch s (not_run r) = s
after_dispatch s (ran rounds ds t) = t

abbrev pub handed_out : {S : Type 0} → Dispatch S → List Delivery
handed_out (not_run r) = []
handed_out (ran rounds ds t) = ds

-- what it says: its number, 0 where it is accepted, and the rounds and the deliveries
pub record DispatchSaid : Type 0 where
  pub number : ℕ
  pub rounds : ℕ
  pub handed : List Delivery

abbrev pub told_in : {S : Type 0} → Dispatch S → DispatchSaid
told_in (not_run r) = record { number = number_of r; rounds = 0; handed = [] }
told_in (ran rounds ds s) = record { number = 0; rounds = rounds; handed = ds }

-- A ring call of a site: a single one, or the dispatcher with the number of rounds that it is given.
pub data Act : Type 0 where
  single : Call → Act
  dispatch : ℕ → Act

-- what an act says, and a refusal of it by its number alone
pub data ActSaid : Type 0 where
  singly : Said → ActSaid
  in_rounds : DispatchSaid → ActSaid

abbrev pub turned_down : ℕ → Act → ActSaid
turned_down n (single a) = singly (says n)
turned_down n (dispatch given) = in_rounds (record { number = n; rounds = 0; handed = [] })

-- S, sound, seen, step: as in Demand
module _ {S : Type 0} (sound : S → Bool) (seen : S → Network) (step : Call → S → Outcome S) where
  -- The rounds made of so many that are given. Before each round: none is made where nothing is on the ring.
  abbrev pub rounds_made : ℕ → S → ℕ
  rounds_made zero s = 0
  rounds_made (suc given) s = cond (still (seen s)) 0 (suc (rounds_made given (run step (round (count_of_nodes (seen s))) s)))

  -- the entries and moves that this is, refused tries among them
  abbrev pub spelled : ℕ → S → List Call
  spelled given s = times (rounds_made given s) (round (count_of_nodes (seen s)))

  -- The dispatcher. Refused as a move is: 25, then 8.
  abbrev pub dispatched : ℕ → S → Dispatch S
  dispatched given s =
      unless (sound s) (not_run UnsoundRing)
      (unless (seen s).started (not_run NotStarted)
      (ran (rounds_made given s) (deliveries step (spelled given s) s) (run step (spelled given s) s)))

  -- lists of acts: each gets the ring as the one before left it
  abbrev pub after_act : Act → S → S
  after_act (single a) s = after s (step a s)
  after_act (dispatch given) s = after_dispatch s (dispatched given s)

  abbrev pub run_acts : List Act → S → S
  run_acts [] s = s
  run_acts (a ∷ acts) s = run_acts acts (after_act a s)

  -- what acts answer, one by one
  abbrev pub act_said : Act → S → ActSaid
  act_said (single a) s = singly (said_in (step a s))
  act_said (dispatch given) s = in_rounds (told_in (dispatched given s))

  abbrev pub act_answers : List Act → S → List ActSaid
  act_answers [] s = []
  act_answers (a ∷ acts) s = act_said a s ∷ act_answers acts (after_act a s)

  -- the deliveries in the answers of acts, in order
  abbrev pub act_hands : Act → S → List Delivery
  act_hands (single a) s = handed_by (step a s)
  act_hands (dispatch given) s = handed_out (dispatched given s)

  abbrev pub act_deliveries : List Act → S → List Delivery
  act_deliveries [] s = []
  act_deliveries (a ∷ acts) s = act_hands a s ++ act_deliveries acts (after_act a s)

  -- The single calls that acts stand for: a dispatcher call stands for its entries and moves, and for none where it is refused.
  abbrev pub stands_for : Act → S → List Call
  stands_for (single a) s = a ∷ []
  stands_for (dispatch given) s = cond (sound s && (seen s).started) (spelled given s) []

  abbrev pub spelled_out : List Act → S → List Call
  spelled_out [] s = []
  spelled_out (a ∷ acts) s = stands_for a s ++ spelled_out acts (after_act a s)

  -- What is promised of the dispatcher, from any sound started ring.
  pub record Dispatches (given : ℕ) (s : S) : Type 0 where
    -- c × (2n + 2) rounds leave nothing on the ring
    pub empties : enough_rounds (seen s) ≤ given → still (seen (run step (spelled given s) s)) ≡ true
    -- it ends early only when nothing is on the ring, and makes no more rounds than are given
    pub ends-early : rounds_made given s < given → still (seen (run step (spelled given s) s)) ≡ true
    pub made-most : rounds_made given s ≤ given
    -- at most one delivery for each channel, so at most as many as there are channels
    pub once-each : (k : ChannelNo) → length (records_on k (deliveries step (spelled given s) s)) ≤ 1
    pub few : length (deliveries step (spelled given s) s) ≤ count_of_channels (seen s)

  abbrev pub DispatcherKeeps : Type 0
  DispatcherKeeps = (given : ℕ) (s : S) → sound s ≡ true → (seen s).started ≡ true → Dispatches given s

  -- Acts are the single calls that they stand for: the same ring, and the same deliveries in the same order, on each channel too.
  pub record Spelled (acts : List Act) (s : S) : Type 0 where
    pub same-ring : run_acts acts s ≡ run step (spelled_out acts s) s
    pub same-deliveries : act_deliveries acts s ≡ deliveries step (spelled_out acts s) s
    pub on-channel : (k : ChannelNo) → records_on k (act_deliveries acts s) ≡ delivered_on step k (spelled_out acts s) s

-- Demand 3 of lists of acts, clause by clause as Demand has it. fresh: a fresh one. L: how many nodes, channels and slots are allowed.
module _ {S : Type 0} (fresh : S) (sound : S → Bool) (seen : S → Network) (step : Call → S → Outcome S) (L : Limits) where
  -- from a sound ring each act has the answer and the next ring of the definitions
  pub record ActsAsDefined (s : S) (acts : List Act) : Type 0 where
    pub same-answers : act_answers sound seen step acts s ≡ act_answers (Sound.sound L) (λ σ. σ) (call L) acts (seen s)
    pub same-ring : seen (run_acts sound seen step acts s) ≡ run_acts (Sound.sound L) (λ σ. σ) (call L) acts (seen s)
    pub still-sound : sound (run_acts sound seen step acts s) ≡ true

  -- from an unsound ring each act answers 25, and the ring stays
  pub record ActsTurnedDown (s : S) (acts : List Act) : Type 0 where
    pub all-25 : act_answers sound seen step acts s ≡ map (turned_down 25) acts
    pub ring-stays : run_acts sound seen step acts s ≡ s

  -- Delivery in time, and order, are those of the single calls that the acts stand for. So a refused try counts nothing, and `up_to` of
  -- InTime may end within a dispatcher call, at the move that delivers.
  pub record ActsDemand3 : Type 0 where
    pub acts-each : (s : S) (acts : List Act) → sound s ≡ true → ActsAsDefined s acts
    pub acts-unsound : (s : S) (acts : List Act) → sound s ≡ false → ActsTurnedDown s acts
    pub acts-spelled : (acts : List Act) (s : S) → Spelled sound seen step acts s
    pub acts-served :
        (s : S) (m : ChannelNo) (x : BatchRecord) (acts : List Act) →
        sound s ≡ true → (seen s).started ≡ true → matched (seen s) m ≡ some x →
        withdrawn m (deeds step (spelled_out sound seen step acts s) s) ≡ false →
        InTime fresh sound seen step s m x (spelled_out sound seen step acts s)
        ⊎ UnderWay fresh sound seen step s m (spelled_out sound seen step acts s)
    pub acts-in-order :
        (k : ChannelNo) (acts : List Act) →
        (left : List BatchRecord)
        × (offered_on step k (spelled_out sound seen step acts fresh) fresh ≡ records_on k (act_deliveries sound seen step acts fresh) ++ left)
