-- What is promised of the vessel ring, stated once for whatever answers ring calls: the ring apart from its layout, the ring in
-- memory, and code (Promise). `Safe` is about each call; `Demand3` is one claim about whole lists of calls, accepted or refused, in any
-- order.
use Rattle.std.specs.Prelude.{◌≤◌, ◌<◌, ◌≡◌, ◌⊎◌, Bool, true, false, ◌||◌, List, [], ◌∷◌, ◌++◌, map}
use Rattle.std.proofs.Math.Option.{some}
use Rattle.batch.specs.declared.BatchRecord.{BatchRecord}
use Rattle.numbers.specs.declared.NodeNo.{NodeNo}
use Rattle.numbers.specs.declared.ChannelNo.{ChannelNo}
use Rattle.refusal.specs.declared.Refusal.TheVariants.{UnsoundRing}
use Rattle.network.specs.Network.{Network}
use Rattle.network.specs.Sound.{Limits}
use Rattle.network.specs.Sound
use Rattle.network.specs.Calls.{Outcome, refused, unless}
use Rattle.network.specs.Runs.{Call, enter, move, hops_left, waiting_set, call, after, is_accepted, run, deeds, withdrawn, counted, offered_on, delivered_on, matched, bound}
use Rattle.network.specs.Answers.{says, answers}

-- the calls of the definitions, with the test for 25 before all others
unfoldable pub checked_call : Limits → Call → Network → Outcome Network
checked_call L a σ = unless (Sound.sound L σ) (refused UnsoundRing) (call L a σ)

-- S: what is called. fresh: a fresh one. sound: the test for 25. seen: the ring that it holds. step: one call.
module _ {S : Type 0} (fresh : S) (sound : S → Bool) (seen : S → Network) (step : Call → S → Outcome S) where
  -- An unsound ring is refused before all others, by every call.
  abbrev pub RefusesUnsound : Type 0
  RefusesUnsound = (a : Call) (s : S) → sound s ≡ false → step a s ≡ refused UnsoundRing

  -- Each call by itself: a fresh ring is sound, every call keeps a sound ring sound, a question leaves the ring.
  abbrev pub KeepsSound : Type 0
  KeepsSound = (a : Call) (s : S) → sound s ≡ true → sound (after s (step a s)) ≡ true

  abbrev pub Leaves : Call → Type 0
  Leaves a = (s : S) → after s (step a s) ≡ s

  pub record Safe : Type 0 where
    pub fresh-sound : sound fresh ≡ true
    pub sound-kept : KeepsSound
    pub hops-left-leaves : (k : ChannelNo) → Leaves (hops_left k)
    pub waiting-set-leaves : (p : NodeNo) → Leaves (waiting_set p)

  -- Record x is delivered on channel m, before any other on it: the calls up to some place hand out x alone on m, and no more than
  -- the bound of them are counted, the delivering move among them.
  pub record InTime (s : S) (m : ChannelNo) (x : BatchRecord) (calls : List Call) : Type 0 where
    pub up_to : List Call
    pub rest : List Call
    pub split : calls ≡ up_to ++ rest
    pub first : delivered_on step m up_to s ≡ x ∷ []
    pub within : counted step up_to s ≤ bound (seen s)

  -- Or nothing was delivered on m yet, fewer than the bound were counted, and at some node an entry or a move would be accepted next.
  pub record UnderWay (s : S) (m : ChannelNo) (calls : List Call) : Type 0 where
    pub none_yet : delivered_on step m calls s ≡ []
    pub fewer : counted step calls s < bound (seen s)
    pub at : NodeNo
    pub next-accepted : (is_accepted (step (enter at) (run step calls s)) || is_accepted (step (move at) (run step calls s))) ≡ true

  -- From a sound started ring where a request and the record x are matched on channel m, every list of calls that does not withdraw that
  -- request is one or the other.
  abbrev pub Served : Type 0
  Served =
      (s : S) (m : ChannelNo) (x : BatchRecord) (calls : List Call) →
      sound s ≡ true → (seen s).started ≡ true → matched (seen s) m ≡ some x → withdrawn m (deeds step calls s) ≡ false →
      InTime s m x calls ⊎ UnderWay s m calls

  -- From a fresh ring, the records delivered on each channel are the first of those offered, in order, each once.
  abbrev pub InOrder : Type 0
  InOrder =
      (k : ChannelNo) (calls : List Call) →
      (left : List BatchRecord) × (offered_on step k calls fresh ≡ delivered_on step k calls fresh ++ left)

  -- From an unsound ring, each call of a run answers 25, and the ring stays.
  pub record TurnedDown (s : S) (calls : List Call) : Type 0 where
    pub all-25 : answers step calls s ≡ map (λ a. says 25) calls
    pub ring-stays : run step calls s ≡ s

  abbrev pub Unsound : Type 0
  Unsound = (s : S) (calls : List Call) → sound s ≡ false → TurnedDown s calls

  -- L: how many nodes, channels and slots are allowed.
  module _ (L : Limits) where
    -- From a sound ring, each call of a run has demand 2's answer and next ring: call by call, the number and the values are those of
    -- the definitions, and the ring after the run is sound and holds the ring of the definitions.
    pub record AsDefined (s : S) (calls : List Call) : Type 0 where
      pub same-answers : answers step calls s ≡ answers (call L) calls (seen s)
      pub same-ring : seen (run step calls s) ≡ run (call L) calls (seen s)
      pub still-sound : sound (run step calls s) ≡ true

    abbrev pub Each : Type 0
    Each = (s : S) (calls : List Call) → sound s ≡ true → AsDefined s calls

    -- Demand 3, all of it, for every list of calls.
    pub record Demand3 : Type 0 where
      pub each : Each
      pub unsound : Unsound
      pub served : Served
      pub in_order : InOrder
