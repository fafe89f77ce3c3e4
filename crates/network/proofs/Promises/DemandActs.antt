-- Demand 3 of lists of acts (specs/Dispatch): of whatever answers single calls as the ring that it holds (Machine) each act has the answer
-- and the next ring of the definitions, and an unsound ring is refused; delivery in time, and order, are those of the single calls that the acts
-- stand for (Acts).
use Prim.Native.Nat.{ℕ}
use mathlib.Core.Path.{◌≡◌, refl, sym, ap, ◌∙◌}
use mathlib.Core.Bool.{Bool, true, false}
use mathlib.Core.List.{List, [], ◌∷◌, ◌++◌, map}
use Rattle.refusal.specs.declared.Refusal.TheVariants.{UnsoundRing, NotStarted}
use Rattle.network.specs.Network.{Network}
use Rattle.network.specs.Network
use Rattle.network.specs.Sound.{Limits}
use Rattle.network.specs.Sound
use Rattle.network.specs.Calls.{Delivery, Outcome, unless}
use Rattle.network.specs.Runs.{Call, call, run}
use Rattle.network.specs.Layout.{ring_limits, view, fresh_ring, sound_ring, call_ring}
use Rattle.network.specs.Demand.{checked_call, Demand3}
use Rattle.network.specs.Dispatch.{Dispatch, not_run, ran, after_dispatch, told_in, Act, single, dispatch, singly, in_rounds, turned_down, rounds_made, deliveries, spelled, dispatched, after_act, run_acts, act_said, act_answers, spelled_out, ActsDemand3}
use Rattle.network.proofs.Ground.Splits.{by-test}
use Rattle.network.proofs.Promises.Machine.{Machine, seen_next, run_sound, said-seen}
use Rattle.network.proofs.Promises.Demand.{machine, demand3, ring-machine, ring-demand3}
use Rattle.network.proofs.Promises.Acts.{acts-spelled}
use Rattle.network.proofs.Promises.Dispatch.{rounds-seen, end_seen, handed-out-seen}

-- the tests of a dispatcher call on a sound ring: it has started, or it has not
passed : {A : Type 0} (b c : Bool) (x y z : A) → b ≡ true → c ≡ true → unless b x (unless c y z) ≡ z
passed b c x y z p q = rw (p, q)

stopped : {A : Type 0} (b c : Bool) (x y z : A) → b ≡ true → c ≡ false → unless b x (unless c y z) ≡ y
stopped b c x y z p q = rw (p, q)

module _ {S : Type 0} (sound : S → Bool) (seen : S → Network) (step : Call → S → Outcome S) (given : ℕ) (s : S) (ok : sound s ≡ true) where
  runs : (seen s).started ≡ true →
      dispatched sound seen step given s
      ≡ ran (rounds_made sound seen step given s) (deliveries step (spelled sound seen step given s) s) (run step (spelled sound seen step given s) s)
  runs on = passed (sound s) (seen s).started (not_run UnsoundRing) (not_run NotStarted) _ ok on

  waits : (seen s).started ≡ false → dispatched sound seen step given s ≡ not_run NotStarted
  waits off =
      stopped (sound s) (seen s).started (not_run UnsoundRing) (not_run NotStarted)
      (ran (rounds_made sound seen step given s) (deliveries step (spelled sound seen step given s) s) (run step (spelled sound seen step given s) s))
      ok off

same-told : {n n' : ℕ} {ds ds' : List Delivery} → n ≡ n' → ds ≡ ds' →
    in_rounds (record { number = 0; rounds = n; handed = ds }) ≡ in_rounds (record { number = 0; rounds = n'; handed = ds' })
same-told a b = rw (a, b)

module _ (L : Limits) {S : Type 0} (fresh : S) (sound : S → Bool) (seen : S → Network) (step : Call → S → Outcome S)
    (M : Machine L fresh sound seen step) where
  -- one act on a sound ring: the ring stays sound, and the answer and the next ring are those of the ring that is held
  act-sound : (a : Act) (s : S) → sound s ≡ true → sound (after_act sound seen step a s) ≡ true
  act-sound (single a) s ok = M.step-sound a s ok
  act-sound (dispatch given) s ok =
      by-test (seen s).started
      (λ on.
      ap (λ d. sound (after_dispatch s d)) (runs sound seen step given s ok on) ∙ run_sound L fresh sound seen step M (spelled sound seen step given s) s ok)
      (λ off. ap (λ d. sound (after_dispatch s d)) (waits sound seen step given s ok off) ∙ ok)

  act-seen : (a : Act) (s : S) → sound s ≡ true →
      seen (after_act sound seen step a s) ≡ after_act (Sound.sound L) (λ σ. σ) (call L) a (seen s)
  act-seen (single a) s ok = seen_next L fresh sound seen step M a s ok
  act-seen (dispatch given) s ok =
      by-test (seen s).started
      (λ on.
      ap (λ d. seen (after_dispatch s d)) (runs sound seen step given s ok on)
      ∙ end_seen L fresh sound seen step M given s ok
      ∙ sym (ap (after_dispatch (seen s)) (runs (Sound.sound L) (λ σ. σ) (call L) given (seen s) (M.seen-sound s ok) on)))
      (λ off.
      ap (λ d. seen (after_dispatch s d)) (waits sound seen step given s ok off) ∙ sym (ap (after_dispatch (seen s)) (waits (Sound.sound L) (λ σ. σ) (call L) given (seen s) (M.seen-sound s ok) off)))

  act-said : (a : Act) (s : S) → sound s ≡ true → act_said sound seen step a s ≡ act_said (Sound.sound L) (λ σ. σ) (call L) a (seen s)
  act-said (single a) s ok = ap singly (said-seen L fresh sound seen step M a s ok)
  act-said (dispatch given) s ok =
      by-test (seen s).started
      (λ on.
      ap (λ d. in_rounds (told_in d)) (runs sound seen step given s ok on)
      ∙ same-told (rounds-seen L fresh sound seen step M given s ok) (handed-out-seen L fresh sound seen step M given s ok)
      ∙ sym (ap (λ d. in_rounds (told_in d)) (runs (Sound.sound L) (λ σ. σ) (call L) given (seen s) (M.seen-sound s ok) on)))
      (λ off.
      ap (λ d. in_rounds (told_in d)) (waits sound seen step given s ok off) ∙ sym (ap (λ d. in_rounds (told_in d)) (waits (Sound.sound L) (λ σ. σ) (call L) given (seen s) (M.seen-sound s ok) off)))

  -- and so one after the other
  acts-sound : (acts : List Act) (s : S) → sound s ≡ true → sound (run_acts sound seen step acts s) ≡ true
  acts-sound [] s ok = ok
  acts-sound (a ∷ acts) s ok = acts-sound acts (after_act sound seen step a s) (act-sound a s ok)

  acts-seen : (acts : List Act) (s : S) → sound s ≡ true →
      seen (run_acts sound seen step acts s) ≡ run_acts (Sound.sound L) (λ σ. σ) (call L) acts (seen s)
  acts-seen [] s ok = refl
  acts-seen (a ∷ acts) s ok =
      acts-seen acts (after_act sound seen step a s) (act-sound a s ok)
      ∙ ap (run_acts (Sound.sound L) (λ σ. σ) (call L) acts) (act-seen a s ok)

  acts-said : (acts : List Act) (s : S) → sound s ≡ true →
      act_answers sound seen step acts s ≡ act_answers (Sound.sound L) (λ σ. σ) (call L) acts (seen s)
  acts-said [] s ok = refl
  acts-said (a ∷ acts) s ok =
      rw (act-said a s ok, acts-said acts (after_act sound seen step a s) (act-sound a s ok), act-seen a s ok)

  -- an unsound ring is refused and stays, so the next act finds it unsound too
  act-stays : (a : Act) (s : S) → sound s ≡ false → after_act sound seen step a s ≡ s
  act-stays (single a) s broken = rw (M.step-unsound a s broken)
  act-stays (dispatch given) s broken = rw broken

  act-25 : (a : Act) (s : S) → sound s ≡ false → act_said sound seen step a s ≡ turned_down 25 a
  act-25 (single a) s broken = rw (M.step-unsound a s broken)
  act-25 (dispatch given) s broken = rw broken

  acts-stay : (acts : List Act) (s : S) → sound s ≡ false → run_acts sound seen step acts s ≡ s
  acts-stay [] s broken = refl
  acts-stay (a ∷ acts) s broken = rw (act-stays a s broken) (acts-stay acts s broken)

  acts-25 : (acts : List Act) (s : S) → sound s ≡ false → act_answers sound seen step acts s ≡ map (turned_down 25) acts
  acts-25 [] s broken = refl
  acts-25 (a ∷ acts) s broken = rw (act-25 a s broken, act-stays a s broken, acts-25 acts s broken)

  machine-acts : Demand3 fresh sound seen step L → ActsDemand3 fresh sound seen step L
  machine-acts d =
      record {
        acts-each = λ s acts ok.
            record { same-answers = acts-said acts s ok; same-ring = acts-seen acts s ok; still-sound = acts-sound acts s ok };
        acts-unsound = λ s acts broken. record { all-25 = acts-25 acts s broken; ring-stays = acts-stay acts s broken };
        acts-spelled = acts-spelled sound seen step;
        acts-served = λ s m x acts. d.served s m x (spelled_out sound seen step acts s);
        acts-in-order = λ k acts.
            let r = d.in_order k (spelled_out sound seen step acts fresh) in
            (r.0, r.1 ∙ ap (λ l. l ++ r.0) (sym ((acts-spelled sound seen step acts fresh).on-channel k)));
      }

-- for every size of ring, and for the ring in memory

pub acts-demand3 : (L : Limits) → ActsDemand3 Network.fresh (Sound.sound L) (λ σ. σ) (checked_call L) L
acts-demand3 L = machine-acts L Network.fresh (Sound.sound L) (λ σ. σ) (checked_call L) (machine L) (demand3 L)

pub ring-acts-demand3 : ActsDemand3 fresh_ring sound_ring view call_ring ring_limits
ring-acts-demand3 = machine-acts ring_limits fresh_ring sound_ring view call_ring ring-machine ring-demand3
