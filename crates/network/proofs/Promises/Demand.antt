-- Demand 3: of the ring apart from its layout, and of the ring in memory. A matched record has a place on the ring and a measure that pays
-- for every counted call (Measure), while it is under way something would be accepted (Stall), and its channel's records keep their order
-- (Order); Run takes this from one call to every list of calls, and Machine from the ring to the ring in memory.
use Prim.Native.Nat.{ℕ, ◌+◌, ◌≤◌, ◌<◌}
use mathlib.Core.Path.{◌≡◌, refl, sym, ap, subst, ◌∙◌}
use mathlib.Core.Logic.{◌⊎◌, inl, inr, ⊎_elim}
use mathlib.Core.Bool.{Bool, true, false, ◌||◌, or-true}
use mathlib.Core.List.{List, [], ◌∷◌, ◌++◌, append-nil}
use mathlib.Core.Option.{Option, some, none-ne-some}
use native.Mathlib.Omega.{arith}
use lib.Dec.{ltb}
use borrow.Author.Tests.{eq-eqb}
use lib.ListN.{get_or-eq_default}
use Rattle.refusal.specs.declared.Refusal.{Refusal}
use Rattle.batch.specs.declared.BatchRecord.{BatchRecord}
use Rattle.numbers.specs.declared.NodeNo.{NodeNo}
use Rattle.numbers.specs.declared.ChannelNo.{ChannelNo}
use Rattle.network.specs.Network.{Network, Phase, resting, asking, ready, answering, fresh, node_no, no_channel, count_of_nodes, count_of_channels, channel, moving}
use Rattle.network.specs.Sound.{Limits, sound}
use Rattle.network.specs.Calls.{Event, Outcome, refused, accepted, unless}
use Rattle.network.specs.Calls
use Rattle.network.specs.Runs.{Call, enter, move, hops_left, waiting_set, Deed, deed_of, withdrawn, call, after, is_accepted, handed_on, deed_by, offered_by, delivered_by, run, deeds, counted, offered_on, delivered_on, matched_in, matched}
use Rattle.network.specs.declared.Ring.{Ring}
use Rattle.network.specs.Layout.{ring_limits, view, hold, fresh_ring, sound_ring, held_outcome, call_ring}
use Rattle.network.specs.Demand.{checked_call, RefusesUnsound, Safe, InTime, UnderWay, Demand3}
use Rattle.network.proofs.Ground.Splits.{by-test, by_less}
use Rattle.network.proofs.Theory.State.{Net, Sound, Did, matched-moving}
use Rattle.network.proofs.Lists.Tables.{net_of, state_of}
use Rattle.network.proofs.Lists.Clauses.{Started, facts, sound-started}
use Rattle.network.proofs.Lists.Outcomes.{After, not-done, was-done, Silent}
use Rattle.network.proofs.Lists.Accepted.{Answered, by-step, by-question, Stepped, call-did}
use Rattle.network.proofs.Lists.Before.{Idle, Prepared, call-before, sound-idle, idle-rests, fresh-sound}
use Rattle.network.proofs.Lists.Bridge.{stepped-started, call-sound, enter-accepted, move-accepted}
use Rattle.network.proofs.Theory.Measure.{Place, Ψ, placed, Ψ-some, falls}
use Rattle.network.proofs.Theory.Count.{taken, given_back, Course, ended, by-silence, asking-in, course-did, count-bounded}
use Rattle.network.proofs.Theory.Stall.{no-stall}
use Rattle.network.proofs.Theory.Order.{pending, in-order-step}
use Rattle.network.proofs.Memory.Held.{Fits, view-hold, hold-fresh, view-fresh, sound-fits, sound-ring, sound-hold}
use Rattle.network.proofs.Promises.Machine.{seen_by, Machine, carried-over}
use Rattle.network.proofs.Promises.Run.{Stays, Falls, every-run, run-order}

module _ (L : Limits) (N : Net) (m : ChannelNo) (x : BatchRecord) (lm : m.0 < N.c) where
  -- x is under way on channel m of a sound started ring with the plan N, and the measure of its place is v
  record Under (σ : Network) (v : ℕ) : Type 0 where
    started : Started L σ
    same-net : net_of σ ≡ N
    match : matched σ m ≡ some x
    place : Place N m.0 (state_of σ)
    value : Ψ N m.0 place ≡ v

  under-sound : {σ : Network} {v : ℕ} → Under σ v → Sound N (state_of σ)
  under-sound {σ} u = subst (λ M. Sound M (state_of σ)) u.same-net u.started.tables

  some_left : (σ : Network) (v : ℕ) → Under σ v → 1 ≤ v
  some_left σ v u = rw u.value at (Ψ-some N m.0 (under-sound u) lm u.place)

  -- what a call that is answered so does to x
  Next : Network → ℕ → List Deed → Call → Outcome Network → Type 0
  Next σ v ds a o = (delivered_by m o ≡ x ∷ []) ⊎ Stays (λ b ρ. o) m x Under a σ v ds

  next-step : {σ τ : Network} {v : ℕ} (ds : List Deed) {a : Call} {e : Event} → Under σ v → withdrawn m (deed_of a ∷ ds) ≡ false →
      Stepped σ a e τ → Next σ v ds a (accepted e τ)
  unfolding Next
  next-step {σ} {τ} {v} ds {a} {e} u on d =
      ⊎_elim (λ here. inl (ap (handed_on m) here ∙ rw (eq-eqb m.0 m.0 refl)))
      (λ r.
      inr
      (record {
        quiet = r.0;
        not-withdrawn = r.1;
        now = Ψ N m.0 r.2.1;
        under = record {
          started = stepped-started L σ τ u.started d;
          same-net = d.same-net ∙ u.same-net;
          match = r.2.0;
          place = r.2.1;
          value = refl;
        };
        cost = omega (arith, r.2.2, u.value);
      }))
      (falls N m.0 x (under-sound u) lm u.match u.place ds on
      (subst (λ M. Did M (state_of σ) a e (state_of τ)) u.same-net d.did))

  next-call : {σ : Network} {v : ℕ} (ds : List Deed) (a : Call) {o : Outcome Network} → Under σ v → withdrawn m (deed_by a o ∷ ds) ≡ false →
      After (Answered σ a) o → Next σ v ds a o
  unfolding Next
  next-call {v = v} ds a u on not-done = inr (record { quiet = refl; not-withdrawn = on; now = v; under = u; cost = omega arith })
  next-call ds a u on (was-done (by-step d)) = next-step ds u on d
  next-call {σ} {v} ds a u on (was-done (by-question q same)) =
      inr
      (record {
        quiet = q.none-handed m;
        not-withdrawn = rw q.uncounted at on;
        now = v;
        under = subst (λ τ. Under τ v) (sym same) u;
        cost = rw q.uncounted (omega arith);
      })

  under-falls : Falls (call L) m x Under
  unfolding Next
  under-falls a σ v ds u on =
      ⊎_elim inl (λ r. inr (record { quiet = r.quiet; not-withdrawn = r.not-withdrawn; now = r.now; under = r.under; cost = r.cost }))
      (next-call ds a u on (call-did L σ u.started a))

  -- while x is under way an entry or a move would be accepted
  accepted-next : {σ : Network} {v : ℕ} → Under σ v →
      (p : NodeNo) × ((is_accepted (call L (enter p) σ) || is_accepted (call L (move p) σ)) ≡ true)
  accepted-next {σ} u =
      let s = u.started in
      let below : m.0 < count_of_channels σ = subst (λ M. m.0 < M.c) (sym u.same-net) lm in
      let on : moving (channel σ m).phase ≡ true = matched-moving (channel σ m).phase (channel σ m).offer x u.match in
      let r = no-stall (net_of σ) (state_of σ) m.0 s.tables below on in (
        node_no r.0,
        ⊎_elim (λ g. rw (enter-accepted L σ s (node_no r.0) r.1 g))
            (λ g. rw (move-accepted L σ s (node_no r.0) r.1 g) (or-true (is_accepted (call L (enter (node_no r.0)) σ))))
            r.2,
      )

-- a call that may still be refused leaves the ring where what it goes on to does
left-unless : (σ : Network) (b : Bool) (r : Refusal) (o : Outcome Network) → after σ o ≡ σ → after σ (unless b (refused r) o) ≡ σ
left-unless σ true r o e = e
left-unless σ false r o e = refl

seen-as-is : (o : Outcome Network) → seen_by (λ σ. σ) o ≡ o
seen-as-is (refused r) = refl
seen-as-is (accepted e τ) = refl

-- a channel that there is not is matched with nothing
matched-below : (σ : Network) (m : ChannelNo) (x : BatchRecord) → matched σ m ≡ some x → m.0 < count_of_channels σ
matched-below σ m x e =
    by_less m.0 (count_of_channels σ) (λ l. l)
    (λ beyond.
    let none-there : channel σ m ≡ no_channel = get_or-eq_default σ.channels no_channel beyond in
    absurd (none-ne-some x (ap (λ s. matched_in s.phase s.offer) (sym none-there) ∙ e)))

module _ (L : Limits) where
  -- which channels ask, call by call: only a receive makes one ask
  course : (N : Net) (calls : List Call) (σ : Network) → Started L σ → net_of σ ≡ N →
      Course N.c (asking-in (state_of σ)) (deeds (call L) calls σ)
  course N [] σ s same = ended
  course N (a ∷ calls) σ s same = onward (course N calls) (call L a σ) (call-did L σ s a)
    where
      onward : ((τ : Network) → Started L τ → net_of τ ≡ N → Course N.c (asking-in (state_of τ)) (deeds (call L) calls τ)) →
          (o : Outcome Network) → After (Answered σ a) o →
          Course N.c (asking-in (state_of σ)) (deed_by a o ∷ deeds (call L) calls (after σ o))
      onward rest _ not-done = by-silence (rest σ s same)
      onward rest _ (was-done {e = e} {τ = τ} (by-step d)) =
          course-did N (rest τ (stepped-started L σ τ s d) (d.same-net ∙ same))
          (subst (λ M. Did M (state_of σ) a e (state_of τ)) same d.did)
      onward rest _ (was-done (by-question q unchanged)) = rw (q.uncounted, unchanged) (by-silence (rest σ s same))

  Fulfilled : Network → ChannelNo → BatchRecord → List Call → Type 0
  Fulfilled σ m x calls = InTime fresh (sound L) (λ τ. τ) (call L) σ m x calls ⊎ UnderWay fresh (sound L) (λ τ. τ) (call L) σ m calls

  served : (σ : Network) (m : ChannelNo) (x : BatchRecord) (calls : List Call) →
      sound L σ ≡ true → σ.started ≡ true → matched σ m ≡ some x → withdrawn m (deeds (call L) calls σ) ≡ false → Fulfilled σ m x calls
  unfolding Fulfilled
  served σ m x calls ok on e still-on =
      let N = net_of σ in
      let s = sound-started L σ ok on in
      let lm : m.0 < count_of_channels σ = matched-below σ m x e in
      let at = placed N m.0 s.tables lm e in
      let v : ℕ = Ψ N m.0 at.0 in
      let bounded : (up_to : List Call) (begin left : ℕ) → taken (deeds (call L) up_to σ) + left ≤ begin + given_back (deeds (call L) up_to σ) →
      counted (call L) up_to σ + left ≤ begin + N.c = λ up_to begin left. count-bounded N.c begin left (course N up_to σ s refl) in
      let u : Under L N m x lm σ v = record { started = s; same-net = refl; match = e; place = at.0; value = refl } in
      ⊎_elim
      (λ r.
      inl
      (record {
        up_to = r.up_to;
        rest = r.rest;
        split = r.split;
        first = r.first;
        within = omega (arith, bounded r.up_to v 0 (omega (arith, r.paid)), at.1);
      }))
      (λ r.
      let next = accepted-next L N m x lm r.still in
      let left = some_left L N m x lm _ _ r.still in
      inr
      (record {
        none_yet = r.none_yet;
        fewer = omega (arith, bounded calls v r.left r.paid, at.1, left);
        at = next.0;
        next-accepted = next.1;
      }))
      (every-run (call L) m x (Under L N m x lm) (under-falls L N m x lm) (some_left L N m x lm) calls σ v u still-on)

  -- what is offered on k and not yet delivered
  abbrev pending_on : ChannelNo → Network → List BatchRecord
  pending_on k σ = pending (state_of σ) k.0

  Balanced : ChannelNo → Call → Network → Outcome Network → Type 0
  Balanced k a σ o = pending_on k σ ++ offered_by k a o ≡ delivered_by k o ++ pending_on k (after σ o)

  -- a call that the account does not see, between rings with the same records pending
  balanced-silent : (k : ChannelNo) {a : Call} {e : Event} (σ τ : Network) → Silent a e → pending_on k τ ≡ pending_on k σ →
      Balanced k a σ (accepted e τ)
  unfolding Balanced
  balanced-silent k σ τ q same = rw (q.none-sent k, q.none-handed k, same) (append-nil _)

  balanced-started : (k : ChannelNo) {σ : Network} (a : Call) {o : Outcome Network} → Started L σ → After (Answered σ a) o → Balanced k a σ o
  unfolding Balanced
  balanced-started k a s not-done = append-nil _
  balanced-started k {σ} a s (was-done (by-step d)) = in-order-step (net_of σ) s.tables d.did k.0
  balanced-started k {σ} a s (was-done {τ = τ} (by-question q same)) = balanced-silent k σ τ q (ap (pending_on k) same)

  idle-pending : (k : ChannelNo) (σ : Network) → Idle L σ.nodes σ.channels σ.deliveries → pending_on k σ ≡ []
  idle-pending k σ i = let r = idle-rests i k.0 in rw (r.0, r.1)

  balanced-before : (k : ChannelNo) (σ : Network) (a : Call) {o : Outcome Network} →
      Idle L σ.nodes σ.channels σ.deliveries → After (Prepared L a) o → Balanced k a σ o
  unfolding Balanced
  balanced-before k σ a i not-done = append-nil _
  balanced-before k σ a i (was-done {τ = τ} p) =
      balanced-silent k σ τ p.unheard (idle-pending k τ p.still-idle ∙ sym (idle-pending k σ i))

  balanced : (k : ChannelNo) (a : Call) (σ : Network) → sound L σ ≡ true → Balanced k a σ (call L a σ)
  balanced k a σ ok =
      by-test σ.started
      (λ on. let s = sound-started L σ ok on in balanced-started k a s (call-did L σ s a))
      (λ off. balanced-before k σ a (sound-idle L σ ok off) (call-before L σ ok off a))

  in_order : (k : ChannelNo) (calls : List Call) →
      (left : List BatchRecord) × (offered_on (call L) k calls fresh ≡ delivered_on (call L) k calls fresh ++ left)
  unfolding Balanced
  in_order k calls = (
    pending_on k (run (call L) calls fresh),
    run-order (call L) k (λ σ. sound L σ ≡ true) (pending_on k) (λ a σ. call-sound L σ a) (balanced k) calls fresh (fresh-sound L),
  )

  -- the definitions with the test for 25 before them answer as the definitions do, if the ring is sound
  checked : (a : Call) (σ : Network) → sound L σ ≡ true → checked_call L a σ ≡ call L a σ
  unfolding checked_call
  checked a σ ok = rw ok

  pub refuses-unsound : RefusesUnsound fresh (sound L) (λ σ. σ) (checked_call L)
  unfolding checked_call
  refuses-unsound a σ broken = rw broken

  pub machine : Machine L fresh (sound L) (λ σ. σ) (checked_call L)
  machine =
      record {
        fresh-sound = fresh-sound L;
        fresh-seen = refl;
        seen-sound = λ σ ok. ok;
        step-seen = λ a σ ok. seen-as-is (checked_call L a σ) ∙ checked a σ ok;
        step-sound = λ a σ ok. rw (checked a σ ok) (call-sound L σ a ok);
        step-unsound = refuses-unsound;
      }

  -- demand 3 for every size of ring
  pub demand3 : Demand3 fresh (sound L) (λ σ. σ) (checked_call L) L
  unfolding Fulfilled
  demand3 = carried-over L fresh (sound L) (λ σ. σ) (checked_call L) machine served in_order

  -- each call by itself
  question-leaves : (σ : Network) (a : Call) → after σ (call L a σ) ≡ σ → after σ (checked_call L a σ) ≡ σ
  unfolding checked_call
  question-leaves σ a e = left-unless σ (sound L σ) _ _ e

  hops-left-leaves : (k : ChannelNo) (σ : Network) → after σ (call L (hops_left k) σ) ≡ σ
  unfolding Calls.hops_left
  hops-left-leaves k σ = left-unless σ σ.started _ _ (left-unless σ (ltb k.0 (count_of_channels σ)) _ _ refl)

  waiting-set-leaves : (p : NodeNo) (σ : Network) → after σ (call L (waiting_set p) σ) ≡ σ
  unfolding Calls.waiting_set
  waiting-set-leaves p σ = left-unless σ (ltb p.0 (count_of_nodes σ)) _ _ refl

  pub safe : Safe fresh (sound L) (λ σ. σ) (checked_call L)
  safe =
      record {
        fresh-sound = fresh-sound L;
        sound-kept = machine.step-sound;
        hops-left-leaves = λ k σ. question-leaves σ (hops_left k) (hops-left-leaves k σ);
        waiting-set-leaves = λ p σ. question-leaves σ (waiting_set p) (waiting-set-leaves p σ);
      }

-- the ring in memory answers every call as the ring that it holds, if it is sound, and refuses it otherwise

pub ring-refuses-unsound : RefusesUnsound fresh_ring sound_ring view call_ring
unfolding call_ring
ring-refuses-unsound a ring broken = rw broken

held-seen : (o : Outcome Network) → ((e : Event) (τ : Network) → o ≡ accepted e τ → Fits τ) → seen_by view (held_outcome o) ≡ o
held-seen (refused r) fits = refl
held-seen (accepted e τ) fits = ap (accepted e) (view-hold τ (fits e τ refl))

module _ (a : Call) (ring : Ring) (ok : sound_ring ring ≡ true) where
  inside : sound ring_limits (view ring) ≡ true
  inside = (sound-ring ring ok).sound

  next-sound : (e : Event) (τ : Network) → call ring_limits a (view ring) ≡ accepted e τ → sound ring_limits τ ≡ true
  next-sound e τ same = subst (λ o. sound ring_limits (after (view ring) o) ≡ true) same (call-sound ring_limits (view ring) a inside)

  called : call_ring a ring ≡ held_outcome (call ring_limits a (view ring))
  unfolding call_ring
  called = rw ok

  ring-seen : seen_by view (call_ring a ring) ≡ call ring_limits a (view ring)
  ring-seen = rw called (held-seen _ (λ e τ same. sound-fits τ (facts ring_limits τ (next-sound e τ same))))

  ring-kept : sound_ring (after ring (call_ring a ring)) ≡ true
  ring-kept = rw called (still (call ring_limits a (view ring)) next-sound)
    where
      still : (o : Outcome Network) → ((e : Event) (τ : Network) → o ≡ accepted e τ → sound ring_limits τ ≡ true) →
          sound_ring (after ring (held_outcome o)) ≡ true
      still (refused r) next = ok
      still (accepted e τ) next = sound-hold τ (next e τ refl)

-- a call that leaves the ring that is held leaves the ring in memory; an unsound ring is left by its refusal
module _ (a : Call) (ring : Ring) (same : after (view ring) (call ring_limits a (view ring)) ≡ view ring) where
  ring-left : after ring (call_ring a ring) ≡ ring
  ring-left =
      by-test (sound_ring ring)
      (λ ok. rw (called a ring ok) (still (sound-ring ring ok).laid-out (call ring_limits a (view ring)) same))
      (λ broken. rw (ring-refuses-unsound a ring broken))
    where
      still : hold (view ring) ≡ ring → (o : Outcome Network) → after (view ring) o ≡ view ring → after ring (held_outcome o) ≡ ring
      still laid (refused r) e = refl
      still laid (accepted e τ) e' = ap hold e' ∙ laid

sound-fresh : sound_ring fresh_ring ≡ true
sound-fresh = rw (← hold-fresh) (sound-hold fresh (fresh-sound ring_limits))

pub ring-machine : Machine ring_limits fresh_ring sound_ring view call_ring
ring-machine =
    record {
      fresh-sound = sound-fresh;
      fresh-seen = view-fresh;
      seen-sound = λ ring ok. (sound-ring ring ok).sound;
      step-seen = ring-seen;
      step-sound = ring-kept;
      step-unsound = ring-refuses-unsound;
    }

-- demand 3 of the ring in memory, for the very calls that the contracts cite
pub ring-demand3 : Demand3 fresh_ring sound_ring view call_ring ring_limits
unfolding Fulfilled
ring-demand3 = carried-over ring_limits fresh_ring sound_ring view call_ring ring-machine (served ring_limits) (in_order ring_limits)

pub ring-safe : Safe fresh_ring sound_ring view call_ring
ring-safe =
    record {
      fresh-sound = sound-fresh;
      sound-kept = ring-kept;
      hops-left-leaves = λ k ring. ring-left (hops_left k) ring (hops-left-leaves ring_limits k (view ring));
      waiting-set-leaves = λ p ring. ring-left (waiting_set p) ring (waiting-set-leaves ring_limits p (view ring));
    }
