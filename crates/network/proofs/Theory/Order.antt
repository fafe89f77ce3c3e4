-- Theory. Records keep their order on a channel: what was offered and not yet delivered is the record carried, if the channel is
-- answering, and then the record offered. Every step keeps "offered is delivered and then pending".
use Prim.Native.Nat.{ℕ}
use mathlib.Core.Path.{◌≡◌, refl, sym}
use mathlib.Core.Logic.{◌≢◌}
use mathlib.Core.List.{List, [], ◌∷◌, ◌++◌, append-nil}
use mathlib.Core.Option.{Option, none, some}
use borrow.Author.Tests.{eq-eqb, ne_eqb}
use Rattle.batch.specs.declared.BatchRecord.{BatchRecord}
use Rattle.network.specs.Network.{Phase, resting, asking, ready, answering, channel_no}
use Rattle.network.specs.Calls.{Event}
use Rattle.network.specs.Runs.{Call, on_channel, sent_on, handed_on}
use Rattle.network.proofs.Ground.Splits.{by-same}
use Rattle.network.proofs.Theory.State.{Net, State, Sound, Did, did-receive, did-offer, did-answer, did-enter, did-pass, did-ask, did-respond, did-deliver, did-withdraw, upd, upd_same, upd_other}

abbrev pub carried_list : Phase → List BatchRecord
carried_list resting = []
carried_list asking = []
carried_list ready = []
carried_list (answering x) = x ∷ []

abbrev pub offer_list : Option BatchRecord → List BatchRecord
offer_list none = []
offer_list (some x) = x ∷ []

-- offered on a channel and not yet delivered
abbrev pub pending_in : Phase → Option BatchRecord → List BatchRecord
pending_in f o = carried_list f ++ offer_list o

abbrev pub pending : State → ℕ → List BatchRecord
pending σ j = pending_in (σ.phase j) (σ.offer j)

-- Where the call sends xs and the answer hands ys out, both only on channel k, which then has phase f and offer o, it is enough to look
-- at channel k.
at-channel : (σ : State) (k j : ℕ) (f : Phase) (o : Option BatchRecord) (xs ys : List BatchRecord) →
    (j ≡ k → pending σ k ++ xs ≡ ys ++ pending_in f o) → (j ≢ k → (xs ≡ []) × (ys ≡ [])) →
    pending σ j ++ xs ≡ ys ++ pending_in (upd k f σ.phase j) (upd k o σ.offer j)
at-channel σ k j f o xs ys same other =
    by-same j k (λ e. rw (e, upd_same k f, upd_same k o) (same e))
    (λ d. rw ((other d).0, (other d).1, upd_other k f σ.phase j d, upd_other k o σ.offer j d) (append-nil _))

-- record x, sent or handed out on channel k, as channel j sees it

pub on_same : (j k : ℕ) (x : BatchRecord) → j ≡ k → on_channel (channel_no j) (channel_no k) x ≡ x ∷ []
on_same j k x e = rw (eq-eqb k j (sym e))

pub on-other : (j k : ℕ) (x : BatchRecord) → j ≢ k → on_channel (channel_no j) (channel_no k) x ≡ []
on-other j k x d = rw (ne_eqb k j (λ e. d (sym e)))

module _ (N : Net) where
  pub in-order-step : {σ τ : State} {a : Call} {e : Event} → Sound N σ → Did N σ a e τ → (j : ℕ) →
      pending σ j ++ sent_on (channel_no j) a ≡ handed_on (channel_no j) e ++ pending τ j
  in-order-step {σ} s (did-receive k l r) j =
      at-channel σ k j asking (σ.offer k) [] [] (λ e. rw r (append-nil _)) (λ d. (refl, refl))
  in-order-step {σ} s (did-offer k x l g o r) j =
      at-channel σ k j (σ.phase k) (some x) (on_channel (channel_no j) (channel_no k) x) [] (λ e. rw (on_same j k x e, o, append-nil))
      (λ d. (on-other j k x d, refl))
  in-order-step {σ} s (did-answer k x l g r) j =
      at-channel σ k j (answering x) none (on_channel (channel_no j) (channel_no k) x) [] (λ e. rw (on_same j k x e, r, s.ready-bare k l r))
      (λ d. (on-other j k x d, refl))
  in-order-step s (did-enter p k ks l e r) j = append-nil _
  in-order-step s (did-pass p k ks l e t d r m) j = append-nil _
  in-order-step {σ} s (did-ask p k ks l e r t o) j = at-channel σ k j ready none [] [] (λ i. rw (r, o)) (λ d. (refl, refl))
  in-order-step {σ} s (did-respond p k ks x l e r t o) j =
      at-channel σ k j (answering x) none [] [] (λ i. rw (r, o)) (λ d. (refl, refl))
  in-order-step {σ} s (did-deliver p k ks x l e r t) j =
      at-channel σ k j resting (σ.offer k) [] (on_channel (channel_no j) (channel_no k) x) (λ i. rw (on_same j k x i, r) (append-nil _))
      (λ d. (refl, on-other j k x d))
  in-order-step {σ} s (did-withdraw k l r i) j =
      at-channel σ k j resting (σ.offer k) [] [] (λ e. rw r (append-nil _)) (λ d. (refl, refl))
