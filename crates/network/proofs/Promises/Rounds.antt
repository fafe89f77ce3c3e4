-- The worked rounds and acts of the ring in memory (specs/Worked/Rounds): computed on the ring apart from its layout (Worked), which makes
-- the same rounds with the same calls and deliveries.
use Prim.Native.Nat.{ℕ}
use mathlib.Core.Path.{◌≡◌, refl, sym, ap, ◌∙◌}
use mathlib.Core.Bool.{Bool, true, false, cond}
use mathlib.Core.List.{List, [], ◌∷◌}
use lib.ListN.{take}
use Rattle.refusal.specs.declared.Refusal.TheVariants.{NotStarted}
use Rattle.network.specs.declared.Ring.{Ring}
use Rattle.network.specs.Counting.{times}
use Rattle.network.specs.Network.{Network, fresh, channel}
use Rattle.network.specs.Calls.{Delivery, unless}
use Rattle.network.specs.Runs.{Call, call, run}
use Rattle.network.specs.Layout.{ring_limits, view, fresh_ring, sound_ring, call_ring}
use Rattle.network.specs.Dispatch.{DispatchSaid, told_in, round, on_ring, deliveries, not_run, ran, after_dispatch, Act, single, dispatch, dispatched, after_act, act_deliveries, stands_for, spelled_out}
use Rattle.network.specs.Worked.Edges.{c0}
use Rattle.network.specs.Worked.Withdrawals.{matched_pair}
use Rattle.network.specs.Worked.Rounds.{backward, bare, forward, leaves, WorkedRounds, RoundsTold, WorkedActs, ActsSpelled, RingRounds}
use Rattle.network.proofs.Ground.Splits.{by-test}
use Rattle.network.proofs.Worked.Rounds as Worked
use Rattle.network.proofs.Promises.Machine.{run_sound, run-seen, deliveries-seen}
use Rattle.network.proofs.Promises.Demand.{ring-machine}
use Rattle.network.proofs.Promises.Acts.{act-ring, acts-spelled}
use Rattle.network.proofs.Promises.Dispatch.{rounds-seen, spelled-seen, handed-out-seen, machine-none-too-many}
use Rattle.network.proofs.Promises.Edges.{fresh-run, fresh-sound, answers-after, counted-after}

-- a sound ring in memory: the dispatcher tells what it tells on the ring that it holds

told-alike : {S T : Type 0} (on : Bool) {rounds rounds' : ℕ} {ds ds' : List Delivery} (s : S) (t : T) → rounds ≡ rounds' → ds ≡ ds' →
    told_in (unless on (not_run NotStarted) (ran rounds ds s)) ≡ told_in (unless on (not_run NotStarted) (ran rounds' ds' t))
told-alike true s t made handed = λ i. record { number = 0; rounds = made i; handed = handed i }
told-alike false s t made handed = refl

told-there : (given : ℕ) (ring : Ring) → sound_ring ring ≡ true →
    told_in (dispatched sound_ring view call_ring given ring) ≡ told_in (dispatched (λ σ. true) (λ σ. σ) (call ring_limits) given (view ring))
told-there given ring ok =
    rw ok
    (told-alike (view ring).started _ _
    (rounds-seen ring_limits fresh_ring sound_ring view call_ring ring-machine given ring ok)
    (handed-out-seen ring_limits fresh_ring sound_ring view call_ring ring-machine given ring ok))

-- and acts stand for the same single calls
module _ (ring : Ring) (ok : sound_ring ring ≡ true) where
  stands-there : (a : Act) →
      stands_for sound_ring view call_ring a ring ≡ stands_for (λ σ. true) (λ σ. σ) (call ring_limits) a (view ring)
  stands-there (single a) = refl
  stands-there (dispatch given) =
      rw ok (ap (λ calls. cond (view ring).started calls [])
      (spelled-seen ring_limits fresh_ring sound_ring view call_ring ring-machine given ring ok))

  act-sound : (a : Act) → sound_ring (after_act sound_ring view call_ring a ring) ≡ true
  act-sound a =
      rw (act-ring sound_ring view call_ring a ring)
      (run_sound ring_limits fresh_ring sound_ring view call_ring ring-machine (stands_for sound_ring view call_ring a ring) ring ok)

  after-there : (a : Act) →
      view (after_act sound_ring view call_ring a ring) ≡ after_act (λ σ. true) (λ σ. σ) (call ring_limits) a (view ring)
  after-there a =
      ap view (act-ring sound_ring view call_ring a ring)
      ∙ run-seen ring_limits fresh_ring sound_ring view call_ring ring-machine (stands_for sound_ring view call_ring a ring) ring ok
      ∙ ap (λ calls. run (call ring_limits) calls (view ring)) (stands-there a)
      ∙ sym (act-ring (λ σ. true) (λ σ. σ) (call ring_limits) a (view ring))

spelled-there : (acts : List Act) (ring : Ring) → sound_ring ring ≡ true →
    spelled_out sound_ring view call_ring acts ring ≡ spelled_out (λ σ. true) (λ σ. σ) (call ring_limits) acts (view ring)
spelled-there [] ring ok = refl
spelled-there (a ∷ acts) ring ok =
    rw (stands-there ring ok a, spelled-there acts (after_act sound_ring view call_ring a ring) (act-sound ring ok a), after-there ring ok a)

handed-there : (acts : List Act) (ring : Ring) → sound_ring ring ≡ true →
    act_deliveries sound_ring view call_ring acts ring ≡ act_deliveries (λ σ. true) (λ σ. σ) (call ring_limits) acts (view ring)
handed-there acts ring ok =
    (acts-spelled sound_ring view call_ring acts ring).same-deliveries
    ∙ deliveries-seen ring_limits fresh_ring sound_ring view call_ring ring-machine (spelled_out sound_ring view call_ring acts ring) ring ok
    ∙ ap (λ calls. deliveries (call ring_limits) calls (view ring)) (spelled-there acts ring ok)
    ∙ sym (acts-spelled (λ σ. true) (λ σ. σ) (call ring_limits) acts (view ring)).same-deliveries

-- from a fresh ring
module _ (before : List Call) where
  leaves-there : (given : ℕ) →
      view (leaves fresh_ring sound_ring view call_ring before given) ≡ leaves fresh (λ σ. true) (λ σ. σ) (call ring_limits) before given
  leaves-there given =
      after-there (run call_ring before fresh_ring) (fresh-sound before) (dispatch given)
      ∙ ap (after_act (λ σ. true) (λ σ. σ) (call ring_limits) (dispatch given)) (fresh-run before)

  worked : {given : ℕ} {told : DispatchSaid} {left : ℕ} → WorkedRounds fresh (λ σ. true) (λ σ. σ) (call ring_limits) before given told left →
      WorkedRounds fresh_ring sound_ring view call_ring before given told left
  worked {given} w =
      record {
        is-told =
            told-there given (run call_ring before fresh_ring) (fresh-sound before)
            ∙ ap (λ σ. told_in (dispatched (λ τ. true) (λ τ. τ) (call ring_limits) given σ)) (fresh-run before)
            ∙ w.is-told;
        is-left = ap on_ring (leaves-there given) ∙ w.is-left;
      }

  acted : {acts : List Act} {calls : List Call} {handed : List Delivery} →
      WorkedActs fresh (λ σ. true) (λ σ. σ) (call ring_limits) before acts calls handed →
      WorkedActs fresh_ring sound_ring view call_ring before acts calls handed
  acted {acts} w =
      record {
        is_spelled =
            spelled-there acts (run call_ring before fresh_ring) (fresh-sound before)
            ∙ ap (spelled_out (λ σ. true) (λ σ. σ) (call ring_limits) acts) (fresh-run before)
            ∙ w.is_spelled;
        is-handed =
            handed-there acts (run call_ring before fresh_ring) (fresh-sound before)
            ∙ ap (act_deliveries (λ σ. true) (λ σ. σ) (call ring_limits) acts) (fresh-run before)
            ∙ w.is-handed;
      }

-- given no round, the dispatcher makes none
none_made : (ring : Ring) → after_dispatch ring (dispatched sound_ring view call_ring 0 ring) ≡ ring
none_made ring =
    by-test (sound_ring ring) (λ ok. by-test (view ring).started (λ on. rw (ok, on)) (λ off. rw (ok, off))) (λ broken. rw broken)

rounds-told : RoundsTold fresh_ring sound_ring view call_ring
rounds-told =
    let r = Worked.rounds-told in
    record {
      not-started = worked _ r.not-started;
      nothing-asked = worked _ r.nothing-asked;
      one-round = worked _ r.one-round;
      then-rests = ap (λ (σ : Network). (channel σ c0).phase) (leaves-there backward 12) ∙ r.then-rests;
      no-record = worked _ r.no-record;
      then_ready = ap (λ (σ : Network). (channel σ c0).phase) (leaves-there bare 12) ∙ r.then_ready;
      two-rounds = worked _ r.two-rounds;
      none-given = worked _ r.none-given;
      as_before = none_made _;
      one-given = worked _ r.one-given;
      entry_first = worked _ r.entry_first;
      two-same = worked _ r.two-same;
      turn-case = worked _ r.turn-case;
      crowded = worked _ r.crowded;
      one_fewer = worked _ r.one_fewer;
    }

acts-told : ActsSpelled fresh_ring sound_ring view call_ring
acts-told =
    let r = Worked.acts-spelled in
    record {
      pair = acted _ r.pair;
      pair-answers = answers-after matched_pair (times 2 (round 2)) ∙ r.pair-answers;
      pair-counted = counted-after matched_pair (times 2 (round 2)) ∙ r.pair-counted;
      mid-round = acted _ r.mid-round;
      mid-round-answers = answers-after forward (times 2 (round 2)) ∙ r.mid-round-answers;
      mid-round-counted = counted-after forward (take 6 (times 2 (round 2))) ∙ r.mid-round-counted;
      among-others = acted _ r.among-others;
    }

pub ring-rounds : RingRounds
ring-rounds =
    record {
      rounds-told = rounds-told;
      none-too-many = machine-none-too-many ring_limits fresh_ring sound_ring view call_ring ring-machine;
      acts-spelled = acts-told;
      refuses-rounds = Worked.refuses-rounds fresh_ring sound_ring view call_ring;
    }
