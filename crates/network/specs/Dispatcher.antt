-- The dispatcher of the ring in memory, which its contracts cite, and its answer in code; and what is promised of code that meets the
-- contracts, in lists of calls with dispatcher calls among them.
use Rattle.std.specs.Prelude.{ℕ, ◌≤◌, ◌≡◌, List, [], map, length, get_or, Result, Ok, Err}
use Rattle.batch.specs.declared.BatchRecord.{BatchRecord}
use Rattle.batch.specs.Blank.{no_record}
use Rattle.network.specs.declared.Ring.{Ring}
use Rattle.network.specs.declared.Step.{Step}
use Rattle.refusal.specs.declared.Refusal.{Refusal}
use Rattle.network.specs.declared.Dispatched.{Dispatched}
use Rattle.network.specs.declared.DispatchStep.{DispatchStep}
use Rattle.network.specs.Counting.{tabulate}
use Rattle.network.specs.Network.{channel_no}
use Rattle.network.specs.Calls.{Delivery}
use Rattle.network.specs.Runs.{Call, run}
use Rattle.network.specs.Layout.{ring_limits, channel_room, view, fresh_ring, sound_ring, call_ring}
use Rattle.network.specs.Dispatch.{Dispatch, not_run, ran, after_dispatch, deliveries, rounds_made, spelled, dispatched, DispatcherKeeps, ActsDemand3}
use Rattle.network.specs.Promise.{MeetsContracts, returned}

unfoldable pub dispatch_ring : ℕ → Ring → Dispatch Ring
dispatch_ring given ring = dispatched sound_ring view call_ring given ring

-- a place for each channel: the first have these, and what follows is as given
abbrev pub filled {ℓ} : {A : Type ℓ} → A → List A → List A
filled blank xs = tabulate channel_room (λ i. get_or xs i blank)

abbrev pub channels_of : List Delivery → List ℕ
channels_of ds = map (λ (d : Delivery). d.channel.0) ds

abbrev pub records_of : List Delivery → List BatchRecord
records_of ds = map (λ (d : Delivery). d.«record») ds

abbrev pub answered : ℕ → List Delivery → Dispatched
answered rounds ds =
    record { rounds = rounds; count = length ds; channels = filled 0 (channels_of ds); records = filled no_record (records_of ds) }

-- the answer in code, and the ring beside it
abbrev pub answer_of : Dispatch Ring → Result Dispatched Refusal
answer_of (not_run r) = Err r
answer_of (ran rounds ds ring) = Ok (answered rounds ds)

-- what an answer tells: its rounds and deliveries; a refusal none of either
abbrev pub answered_in : Result Dispatched Refusal → Dispatched
answered_in (Ok d) = d
answered_in (Err r) = answered 0 []

abbrev pub dispatch_step_of : Ring → Dispatch Ring → DispatchStep
dispatch_step_of ring d = record { ring = after_dispatch ring d; dispatched = answer_of d }

abbrev pub dispatch_step : ℕ → Ring → DispatchStep
dispatch_step given ring = dispatch_step_of ring (dispatch_ring given ring)

-- the deliveries that an answer in code tells; it tells all, if there are no more than the places
abbrev pub deliveries_in : Dispatched → List Delivery
deliveries_in d =
    tabulate d.count (λ i. record { channel = channel_no (get_or d.channels i 0); «record» = get_or d.records i no_record })

abbrev pub TellsAll : Type 0
TellsAll = (rounds : ℕ) (ds : List Delivery) → length ds ≤ channel_room → deliveries_in (answered rounds ds) ≡ ds

-- code: single calls as in Promise, and the dispatcher with the number of rounds that it is given
module _ (code : Call → Ring → Step) (dispatcher : ℕ → Ring → DispatchStep) where
  -- the contract of the dispatcher
  abbrev pub MeetsDispatch : Type 0
  MeetsDispatch = (given : ℕ) (ring : Ring) → dispatcher given ring ≡ dispatch_step_of ring (dispatch_ring given ring)

  -- Accepted, it returns what the code returns for the same entries and moves called singly: the ring, and the deliveries in order.
  pub record AsSingly (given : ℕ) (ring : Ring) (d : Dispatched) : Type 0 where
    pub rounds-made : d.rounds ≡ rounds_made sound_ring view (returned code) given ring
    pub same-ring :
        (dispatcher given ring).ring ≡ run (returned code) (spelled sound_ring view (returned code) given ring) ring
    pub same-deliveries :
        deliveries_in d ≡ deliveries (returned code) (spelled sound_ring view (returned code) given ring) ring

  -- refused, it changes nothing and tells no round and no delivery
  pub record TurnsAway (given : ℕ) (ring : Ring) : Type 0 where
    pub ring-as-before : (dispatcher given ring).ring ≡ ring
    pub refusal-alone : (r : Refusal) × ((dispatcher given ring).dispatched ≡ Err r)
    pub nothing-told : answered_in (dispatcher given ring).dispatched ≡ answered 0 []

  pub record DispatchPromised : Type 0 where
    pub as-singly : (given : ℕ) (ring : Ring) (d : Dispatched) → (dispatcher given ring).dispatched ≡ Ok d → AsSingly given ring d
    pub turns-away : (given : ℕ) (ring : Ring) (r : Refusal) → (dispatcher given ring).dispatched ≡ Err r → TurnsAway given ring
    pub keeps : DispatcherKeeps sound_ring view (returned code)
    pub demand3 : ActsDemand3 fresh_ring sound_ring view (returned code) ring_limits

-- code that meets the contracts, those of the single calls and that of the dispatcher, keeps all that is promised of lists of acts
abbrev pub DispatchSuffices : Type 0
DispatchSuffices =
    (code : Call → Ring → Step) (dispatcher : ℕ → Ring → DispatchStep) → MeetsContracts code → MeetsDispatch code dispatcher →
    DispatchPromised code dispatcher
