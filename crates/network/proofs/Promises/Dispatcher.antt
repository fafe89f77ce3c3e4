-- The answer of the dispatcher in code tells every delivery, and code that meets the contracts, that of the dispatcher too, keeps what is
-- promised (specs/Dispatcher): what it returns is what the definitions say of the same entries and moves called singly.
use Prim.Native.Nat.{ℕ, ◌≤◌, ◌<◌}
use mathlib.Core.Path.{◌≡◌, refl, sym, ap, subst, ◌∙◌}
use mathlib.Core.List.{List}
use native.Mathlib.Omega.{arith}
use lib.ListN.{length, get_or, get_or-map}
use Rattle.refusal.specs.declared.Refusal.{Refusal}
use Rattle.refusal.specs.declared.Refusal.TheVariants.{UnsoundRing, NotStarted}
use Rattle.std.specs.Prelude.{Result, Ok, Err}
use Rattle.batch.specs.Blank.{no_record}
use Rattle.network.specs.declared.Ring.{Ring}
use Rattle.network.specs.declared.Step.{Step}
use Rattle.network.specs.declared.Dispatched.{Dispatched}
use Rattle.network.specs.declared.DispatchStep.{DispatchStep}
use Rattle.network.specs.Network.{channel_no}
use Rattle.network.specs.Calls.{Delivery}
use Rattle.network.specs.Runs.{Call, run}
use Rattle.network.specs.Layout.{ring_limits, channel_room, view, fresh_ring, sound_ring, call_ring}
use Rattle.network.specs.Dispatch.{Dispatch, not_run, ran, deliveries, rounds_made, spelled, DispatcherKeeps, ActsDemand3}
use Rattle.network.specs.Promise.{MeetsContracts, returned}
use Rattle.network.specs.Dispatcher.{dispatch_ring, filled, channels_of, records_of, answered, answer_of, dispatch_step_of, deliveries_in, TellsAll, MeetsDispatch, AsSingly, TurnsAway, DispatchPromised, DispatchSuffices, answered_in}
use Rattle.network.proofs.Ground.Splits.{by-test}
use Rattle.network.proofs.Memory.Rows.{get_d_tabulate, tabulate-is}
use Rattle.network.proofs.Memory.Held.{sound-ring}
use Rattle.network.proofs.Promises.Promise.{returned-is}
use Rattle.network.proofs.Promises.DemandActs.{ring-acts-demand3}
use Rattle.network.proofs.Promises.Dispatch.{ring-dispatcher-keeps}

blank : Delivery
blank = record { channel = channel_no 0; «record» = no_record }

pub tells_all : TellsAll
unfolding blank
tells_all rounds ds few =
    tabulate-is (length ds) _ blank ds refl
    (λ i l.
    let there : i < channel_room = omega arith in
    let channel : get_or (filled 0 (channels_of ds)) i 0 ≡ (get_or ds i blank).channel.0 =
    get_d_tabulate channel_room (λ j. get_or (channels_of ds) j 0) i 0 there
    ∙ get_or-map (λ (d : Delivery). d.channel.0) ds i blank in
    let told : get_or (filled no_record (records_of ds)) i no_record ≡ (get_or ds i blank).«record» =
    get_d_tabulate channel_room (λ j. get_or (records_of ds) j no_record) i no_record there
    ∙ get_or-map (λ (d : Delivery). d.«record») ds i blank in
    λ j. record { channel = channel_no (channel j); «record» = told j })

-- The dispatcher on the ring in memory, by its answer: it has run on a sound started ring, or it was refused.

-- what an answer of a run tells
told_or : Dispatched → Result Dispatched Refusal → Dispatched
told_or none (Ok d) = d
told_or none (Err r) = none

abbrev Told : Type 0
Told = Result Dispatched Refusal

ok-is : {a d : Dispatched} → ◌≡◌ {A = Told} (Ok a) (Ok d) → a ≡ d
unfolding told_or
ok-is {a} e = ap (told_or a) e

record HasRun (given : ℕ) (ring : Ring) (d : Dispatched) : Type 0 where
  rounds-made : d.rounds ≡ rounds_made sound_ring view call_ring given ring
  same-ring : (dispatch_step_of ring (dispatch_ring given ring)).ring ≡ run call_ring (spelled sound_ring view call_ring given ring) ring
  same-deliveries : deliveries_in d ≡ deliveries call_ring (spelled sound_ring view call_ring given ring) ring

module _ (given : ℕ) (ring : Ring) (d : Dispatched) where
  -- a refusal is no answer of a run
  not-refused : {X : Type 0} (r : Refusal) → dispatch_ring given ring ≡ not_run r → answer_of (dispatch_ring given ring) ≡ Ok d → X
  not-refused r e done = let both : ◌≡◌ {A = Told} (Err r) (Ok d) = sym (ap answer_of e) ∙ done in cc

  has-run : answer_of (dispatch_ring given ring) ≡ Ok d → HasRun given ring d
  unfolding dispatch_ring
  has-run done =
      by-test (sound_ring ring)
      (λ ok.
      by-test (view ring).started
      (λ on.
      let calls : List Call = spelled sound_ring view call_ring given ring in
      let few : length (deliveries call_ring calls ring) ≤ channel_room =
      omega (arith, (ring-dispatcher-keeps given ring ok on).few, (sound-ring ring ok).fits.channels-fit) in
      let told : answered (rounds_made sound_ring view call_ring given ring) (deliveries call_ring calls ring) ≡ d =
      ok-is (rw (ok, on) at done) in
      record {
        rounds-made = sym (ap (λ (x : Dispatched). x.rounds) told);
        same-ring = rw (ok, on);
        same-deliveries = sym (ap deliveries_in told) ∙ tells_all (rounds_made sound_ring view call_ring given ring) _ few;
      })
      (λ off. not-refused NotStarted (rw (ok, off)) done))
      (λ broken. not-refused UnsoundRing (rw broken) done)

-- an answer that is a refusal leaves the ring
turned-away : (ring : Ring) (d : Dispatch Ring) (r : Refusal) → answer_of d ≡ Err r → (dispatch_step_of ring d).ring ≡ ring
turned-away ring (not_run x) r e = refl
turned-away ring (ran rounds ds t) r e = cc

module _ (code : Call → Ring → Step) (dispatcher : ℕ → Ring → DispatchStep) (meets : MeetsContracts code)
    (dispatches : MeetsDispatch code dispatcher) where
  same_step : call_ring ≡ returned code
  same_step = sym (returned-is code meets)

  as-singly : (given : ℕ) (ring : Ring) (d : Dispatched) → (dispatcher given ring).dispatched ≡ Ok d → AsSingly code dispatcher given ring d
  as-singly given ring d done =
      let is = dispatches given ring in
      let has = has-run given ring d (sym (ap (λ (s : DispatchStep). s.dispatched) is) ∙ done) in
      record {
        rounds-made =
            has.rounds-made ∙ ap (λ step. rounds_made sound_ring view step given ring) same_step;
        same-ring =
            ap (λ s. s.ring) is ∙ has.same-ring ∙ ap (λ step. run step (spelled sound_ring view step given ring) ring) same_step;
        same-deliveries =
            has.same-deliveries
            ∙ ap (λ step. deliveries step (spelled sound_ring view step given ring) ring) same_step;
      }

  turns-away : (given : ℕ) (ring : Ring) (r : Refusal) → (dispatcher given ring).dispatched ≡ Err r → TurnsAway code dispatcher given ring
  turns-away given ring r told =
      let is = dispatches given ring in
      record {
        ring-as-before =
            ap (λ (s : DispatchStep). s.ring) is
            ∙ turned-away ring (dispatch_ring given ring) r (sym (ap (λ (s : DispatchStep). s.dispatched) is) ∙ told);
        refusal-alone = (r, told);
        nothing-told = ap answered_in told;
      }

  promised : DispatchPromised code dispatcher
  promised =
      record {
        as-singly = as-singly;
        turns-away = turns-away;
        keeps = subst (DispatcherKeeps sound_ring view) same_step ring-dispatcher-keeps;
        demand3 = subst (λ step. ActsDemand3 fresh_ring sound_ring view step ring_limits) same_step ring-acts-demand3;
      }

pub dispatch-suffices : DispatchSuffices
dispatch-suffices = promised
