-- What is promised of code that answers each ring call with a step, the ring and a reply. Everything is said of what the code returns, by
-- document 01's number and values: demand 1 and demand 3, if the code meets the contracts of the ring calls, which are demand 2.
use Rattle.std.specs.Prelude.{◌≡◌, ◌≢◌, Err}
use Rattle.refusal.specs.declared.Refusal.{Refusal}
use Rattle.batch.specs.Blank.{no_record}
use Rattle.network.specs.declared.Ring.{Ring}
use Rattle.network.specs.declared.Step.{Step}
use Rattle.network.specs.Calls.{Outcome}
use Rattle.network.specs.Runs.{Call, after}
use Rattle.network.specs.Layout.{ring_limits, view, fresh_ring, sound_ring, call_ring}
use Rattle.network.specs.Answers.{number_in, record_told, step_of, outcome_of}
use Rattle.network.specs.Demand.{RefusesUnsound, Safe, Demand3}

module _ (code : Call → Ring → Step) where
  -- Demand 2: for every call and every ring, the answer and the next ring of the definitions. This is the contract of each of the eight
  -- calls that can change a ring; of a question it is the answer, beside the ring that was asked. (The operands in code
  -- are bytes, which are among the numbers here.)
  abbrev pub MeetsContracts : Type 0
  MeetsContracts = (a : Call) (ring : Ring) → code a ring ≡ step_of ring (call_ring a ring)

  -- a ring call as the code answers it
  abbrev pub returned : Call → Ring → Outcome Ring
  returned a ring = outcome_of (code a ring)

  -- A refusal answers its number alone and changes nothing: where the number is not 0, the ring that is returned is the ring that was
  -- given, the reply is the refusal, and the record beside it is blank.
  pub record ChangesNothing (a : Call) (ring : Ring) : Type 0 where
    pub ring-as-before : (code a ring).ring ≡ ring
    pub refusal-alone : (r : Refusal) × ((code a ring).reply ≡ Err r)
    pub record-blank : record_told (code a ring).reply ≡ no_record

  abbrev pub RefusalLeaves : Type 0
  RefusalLeaves = (a : Call) (ring : Ring) → number_in (code a ring).reply ≢ 0 → ChangesNothing a ring

  -- So in a run each call gets the ring that the code returned for the one before, accepted or refused.
  abbrev pub NextRing : Type 0
  NextRing = (a : Call) (ring : Ring) → after ring (returned a ring) ≡ (code a ring).ring

  pub record Promised : Type 0 where
    pub refuses-unsound : RefusesUnsound fresh_ring sound_ring view returned
    pub refusal-leaves : RefusalLeaves
    pub next-ring : NextRing
    pub safe : Safe fresh_ring sound_ring view returned
    pub demand3 : Demand3 fresh_ring sound_ring view returned ring_limits

-- demand 2 brings the others: code that meets the contracts keeps all that is promised
abbrev pub ContractsSuffice : Type 0
ContractsSuffice = (code : Call → Ring → Step) → MeetsContracts code → Promised code
