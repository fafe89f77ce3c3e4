-- Code that meets the contracts keeps what is promised (specs/Promise): what it returns says what the definitions say, so that demand 3 of
-- the ring in memory is demand 3 of the code.
use mathlib.Core.Path.{◌≡◌, refl, sym, ap, subst, ◌∙◌}
use mathlib.Core.Logic.{◌≢◌}
use Rattle.std.specs.Prelude.{Err}
use Rattle.refusal.specs.declared.Refusal.{Refusal}
use Rattle.network.specs.declared.Ring.{Ring}
use Rattle.network.specs.declared.Step.{Step}
use Rattle.network.specs.Calls.{done, delivered, hops_are, waiting_are, Outcome, refused, accepted}
use Rattle.network.specs.Runs.{Call, after}
use Rattle.network.specs.Layout.{ring_limits, view, fresh_ring, sound_ring, call_ring}
use Rattle.network.specs.Answers.{number_in, record_told, step_of, outcome_of}
use Rattle.network.specs.Demand.{RefusesUnsound, Safe, Demand3}
use Rattle.network.specs.Promise.{MeetsContracts, returned, ChangesNothing, Promised, ContractsSuffice}
use Rattle.network.proofs.Promises.Answers.{steps-keep}
use Rattle.network.proofs.Promises.Demand.{ring-refuses-unsound, ring-safe, ring-demand3}

-- a step that is promised, and that has a number, is a refusal
step-leaves : (ring : Ring) (o : Outcome Ring) → number_in (step_of ring o).reply ≢ 0 →
    ((step_of ring o).ring ≡ ring) × ((r : Refusal) × ((step_of ring o).reply ≡ Err r))
step-leaves ring (refused r) numbered = (refl, (r, refl))
step-leaves ring (accepted done s) numbered = absurd (numbered refl)
step-leaves ring (accepted (delivered k x) s) numbered = absurd (numbered refl)
step-leaves ring (accepted (hops_are h) s) numbered = absurd (numbered refl)
step-leaves ring (accepted (waiting_are w) s) numbered = absurd (numbered refl)

module _ (code : Call → Ring → Step) (meets : MeetsContracts code) where
  pub returned-is : returned code ≡ call_ring
  returned-is = λ i a ring. (ap outcome_of (meets a ring) ∙ steps-keep ring (call_ring a ring)) i

  leaves : (a : Call) (ring : Ring) → number_in (code a ring).reply ≢ 0 → ChangesNothing code a ring
  leaves a ring numbered =
      let kept = step-leaves ring (call_ring a ring) (subst (λ s. number_in s.reply ≢ 0) (meets a ring) numbered) in
      record {
        ring-as-before = ap (λ s. s.ring) (meets a ring) ∙ kept.0;
        refusal-alone = (kept.1.0, ap (λ s. s.reply) (meets a ring) ∙ kept.1.1);
        record-blank = ap record_told (ap (λ s. s.reply) (meets a ring) ∙ kept.1.1);
      }

  promised : Promised code
  promised =
      record {
        refuses-unsound = subst (RefusesUnsound fresh_ring sound_ring view) (sym returned-is) ring-refuses-unsound;
        refusal-leaves = leaves;
        next-ring = λ a ring. ap (λ step. after ring (step a ring)) returned-is ∙ sym (ap (λ s. s.ring) (meets a ring));
        safe = subst (Safe fresh_ring sound_ring view) (sym returned-is) ring-safe;
        demand3 = subst (λ step. Demand3 fresh_ring sound_ring view step ring_limits) (sym returned-is) ring-demand3;
      }

pub contracts-suffice : ContractsSuffice
contracts-suffice = promised
