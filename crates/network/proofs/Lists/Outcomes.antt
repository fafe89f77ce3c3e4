-- Lists. How laws about calls are stated: `After` says what holds wherever a call is accepted, and goes by the order of the call's
-- refusals, so that a law sees only the rings that pass them all. `Silent` is a call that the account of a run does not see.
use mathlib.Core.Path.{◌≡◌, refl}
use mathlib.Core.Bool.{Bool, true, false}
use mathlib.Core.List.{[]}
use Rattle.refusal.specs.declared.Refusal.{Refusal}
use Rattle.std.specs.Prelude.{Ok, Err}
use Rattle.refusal.specs.Number.{Verdict}
use Rattle.numbers.specs.declared.ChannelNo.{ChannelNo}
use Rattle.network.specs.Network.{Network}
use Rattle.network.specs.Calls.{Event, Outcome, refused, accepted, unless, if_good}
use Rattle.network.specs.Runs.{Call, silent, deed_of, sent_on, handed_on, after, is_accepted}

-- what holds of the answer and the next ring wherever a call is accepted
pub data After (P : Event → Network → Type 0) : Outcome Network → Type 0 where
  not-done : {r : Refusal} → After P (refused r)
  was-done : {e : Event} {τ : Network} → P e τ → After P (accepted e τ)

module _ {P : Event → Network → Type 0} where
  -- behind a refusal only the rings that pass its test matter
  pub if-met : (b : Bool) (r : Refusal) (o : Outcome Network) → (b ≡ true → After P o) → After P (unless b (refused r) o)
  if-met true r o h = h refl
  if-met false r o h = not-done

  -- what follows from it
  pub after-some : {Q : Event → Network → Type 0} {o : Outcome Network} →
      ((e : Event) (τ : Network) → P e τ → Q e τ) → After P o → After Q o
  after-some f not-done = not-done
  after-some f (was-done h) = was-done (f _ _ h)

  pub if-good : (v : Verdict) (o : Outcome Network) → (v ≡ Ok tt → After P o) → After P (if_good v o)
  if-good (Ok u) o h = h refl
  if-good (Err r) o h = not-done

  -- what holds of the ring before, and of the next wherever there is one, holds of the ring that the call leaves
  pub after-all : (Q : Network → Type 0) (σ : Network) {o : Outcome Network} →
      Q σ → ((e : Event) (τ : Network) → P e τ → Q τ) → After P o → Q (after σ o)
  after-all Q σ here next not-done = here
  after-all Q σ here next (was-done h) = next _ _ h

-- a test that passes leads on
pub go_on : (b : Bool) (r : Refusal) (o : Outcome Network) →
    b ≡ true → is_accepted o ≡ true → is_accepted (unless b (refused r) o) ≡ true
go_on b r o met next = rw met next

-- a call that is nothing to the count, takes no record in and hands none out
pub record Silent (a : Call) (e : Event) : Type 0 where
  pub uncounted : deed_of a ≡ silent
  pub none-sent : (k : ChannelNo) → sent_on k a ≡ []
  pub none-handed : (k : ChannelNo) → handed_on k e ≡ []

pub unseen : {a : Call} {e : Event} →
    deed_of a ≡ silent → ((k : ChannelNo) → sent_on k a ≡ []) → ((k : ChannelNo) → handed_on k e ≡ []) → Silent a e
unseen c s d = record { uncounted = c; none-sent = s; none-handed = d }
