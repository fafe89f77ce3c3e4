-- A reply says what document 01 says that the call answers, and a returned step says what its reply says: by cases on the outcome and on
-- the reply.
use mathlib.Core.Path.{◌≡◌, refl}
use mathlib.Core.Bool.{false}
use native.Mathlib.Omega.{arith}
use lib.Dec.{eqb}
use borrow.Author.Tests.{ne_eqb}
use Rattle.std.specs.Prelude.{Ok, Err}
use Rattle.refusal.specs.declared.Refusal.{Refusal}
use Rattle.refusal.specs.Number.{number_of}
use Rattle.refusal.proofs.Number.{in-range}
use Rattle.network.specs.declared.Ring.{Ring}
use Rattle.network.specs.declared.Answer.TheVariants.{Done, Delivered, Hops, Waiting}
use Rattle.network.specs.Calls.{done, delivered, hops_are, waiting_are, refused, accepted}
use Rattle.network.specs.Answers.{Reply, number_in, values_in, outcome_of, outcome_number, outcome_values, RepliesSay, StepsSay, StepsKeep}

pub replies-say : RepliesSay
replies-say S (refused r) = (refl, refl)
replies-say S (accepted done s) = (refl, refl)
replies-say S (accepted (delivered k x) s) = (refl, refl)
replies-say S (accepted (hops_are h) s) = (refl, refl)
replies-say S (accepted (waiting_are w) s) = (refl, refl)

-- no refusal has the number 0
not-zero : (r : Refusal) → eqb (number_of r) 0 ≡ false
not-zero r = ne_eqb (number_of r) 0 (λ e. omega (arith, (in-range r).0))

pub steps-say : StepsSay
steps-say s = by_reply s.reply s.ring
  where
    by_reply : (r : Reply) (ring : Ring) →
        let o = outcome_of (record { ring = ring; reply = r }) in (outcome_number o ≡ number_in r) × (outcome_values o ≡ values_in r)
    by_reply (Ok Done) ring = (refl, refl)
    by_reply (Ok (Delivered k x)) ring = (refl, refl)
    by_reply (Ok (Hops h)) ring = (refl, refl)
    by_reply (Ok (Waiting w)) ring = (refl, refl)
    by_reply (Err r) ring = (rw (not-zero r), rw (not-zero r))

pub steps-keep : StepsKeep
steps-keep ring (refused r) = rw (not-zero r)
steps-keep ring (accepted done s) = refl
steps-keep ring (accepted (delivered k x) s) = refl
steps-keep ring (accepted (hops_are h) s) = refl
steps-keep ring (accepted (waiting_are w) s) = refl
