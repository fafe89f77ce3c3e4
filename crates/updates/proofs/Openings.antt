-- What every call opens with. The opening is judged by the numbers of the head; on a sound ring these tests are the first ones of the call
-- itself, so a refused opening is the call's refusal, and one that passed says where the call stands. Then how a call in memory is a call on the
-- ring that it holds, and what the code's answer says of it.
use Prim.Native.Nat.{ℕ, ◌<◌}
use mathlib.Core.Path.{◌≡◌, refl, sym, ap, ◌∙◌}
use mathlib.Core.Logic.{◌≢◌}
use mathlib.Core.Bool.{Bool, true, false, not}
use native.Mathlib.Omega.{arith}
use lib.Dec.{ltb}
use borrow.Author.Tests.{ltb-true, ne_eqb}
use Rattle.std.specs.Prelude.{Ok, Err}
use Rattle.std.specs.Result.{IsErrAnd}
use Rattle.std.proofs.lemmas.Result.{err_from_is_err_and}
use Rattle.refusal.specs.declared.Refusal.{Refusal}
use Rattle.refusal.specs.declared.Refusal.TheVariants.{UnsoundRing, AlreadyStarted, NotStarted, NoSuchChannel, NoSuchNode}
use Rattle.refusal.specs.Number.{Verdict}
use Rattle.numbers.specs.declared.ChannelNo.{ChannelNo}
use Rattle.numbers.specs.declared.NodeNo.{NodeNo}
use Rattle.network.specs.declared.Ring.{Ring}
use Rattle.network.specs.declared.Answer.TheVariants.{Done}
use Rattle.network.specs.Answers.{Reply, reply_of}
use Rattle.network.specs.Counting.{one}
use Rattle.network.specs.Network.{Network}
use Rattle.network.specs.Calls.{Event, Outcome, done, refused, accepted, unless}
use Rattle.network.specs.Calls
use Rattle.network.specs.Sound.{sound}
use Rattle.network.specs.Runs.{Call, add_node, add_channel, start, receive, send, enter, move, withdraw, hops_left, waiting_set, call, after}
use Rattle.network.specs.Layout.{ring_limits, view, sound_ring, held_outcome, call_ring}
use Rattle.network.proofs.Ground.Splits.{by-test, by-same, both_ways}
use Rattle.network.proofs.Lists.Clauses.{facts}
use Rattle.network.proofs.Memory.Held.{Fits, Held, sound-ring, sound-fits}
use Rattle.network.proofs.Lists.Bridge.{call-sound}
use Rattle.updates.specs.declared.opening.Subject.{Subject}
use Rattle.updates.specs.declared.opening.Subject.TheVariants.{Plan, Channel, Node, Tasks}
use Rattle.updates.specs.Known.{Planned, AtNode, AtChannel, AskedAt}
use Rattle.updates.specs.Openings.{subject_of, begun, before_start, after_start, in_count, sound_opening, opening_of}

-- the call on a ring in memory

pub unsound-refused : (a : Call) (ring : Ring) → sound_ring ring ≡ false → call_ring a ring ≡ refused UnsoundRing
unfolding call_ring
unsound-refused a ring e = rw e

pub sound-called : (a : Call) (ring : Ring) → sound_ring ring ≡ true → call_ring a ring ≡ held_outcome (call ring_limits a (view ring))
unfolding call_ring
sound-called a ring e = rw e

-- the ring and the reply after a call of which a law says the outcome: a refusal, which leaves the ring, or done with another ring

abbrev pub Answered : Ring → Outcome Ring → Ring → Reply → Type 0
Answered ring o next reply = (next ≡ after ring o) × (reply ≡ reply_of o)

pub refuses : (ring : Ring) {reply : Reply} {o : Outcome Ring} {r : Refusal} → o ≡ refused r → reply ≡ Err r → Answered ring o ring reply
refuses ring law e = rw (law, e) (refl, refl)

pub accepts : (ring : Ring) {next : Ring} {o : Outcome Ring} → o ≡ accepted done next → Answered ring o next (Ok Done)
accepts ring law = rw law (refl, refl)

-- what a `?` passes on is what the call answers
pub passed-on : {reply : Reply} {r : Refusal} → IsErrAnd reply (λ x. x ≡ r) → reply ≡ Err r
passed-on {reply} told = let out = err_from_is_err_and reply told in rw out.2 at out.1

-- a flag that stands for a test

pub marked : (m : Bool) → one m ≢ 0 → m ≡ true
marked true d = refl
marked false d = absurd (d refl)

pub unmarked : (m : Bool) → one m ≡ 0 → m ≡ false
unmarked true e = absurd (omega arith)
unmarked false e = refl

module _ (ring : Ring) (ok : sound_ring ring ≡ true) where
  pub running : ring.head.started ≢ 0 → (view ring).started ≡ true
  running going = marked (view ring).started (λ e. going ((sound-ring ring ok).holds.started ∙ e))

  pub idle : ring.head.started ≡ 0 → (view ring).started ≡ false
  idle still = unmarked (view ring).started (sym (sound-ring ring ok).holds.started ∙ still)

  -- an accepted call leaves a ring for which there is room
  pub accepted-fits : (a : Call) {e : Event} {τ : Network} → call ring_limits a (view ring) ≡ accepted e τ → Fits τ
  accepted-fits a {e} {τ} said =
      let next : sound ring_limits (after (view ring) (call ring_limits a (view ring))) ≡ true =
      call-sound ring_limits (view ring) a (sound-ring ring ok).sound in
      sound-fits τ (facts ring_limits τ (rw said at next))

-- the tests of an opening are the first tests of the call: where one of them fails, the call is refused with the same number

test-refused : (b : Bool) (x : Refusal) (rest : Verdict) (o : Outcome Network) {r : Refusal} → (rest ≡ Err r → o ≡ refused r) →
    unless b (Err x) rest ≡ Err r → unless b (refused x) o ≡ refused r
test-refused true x rest o next e = next e
test-refused false x rest o {r} next e = let same : x ≡ r = cc in ap refused same

never-refused : {r : Refusal} {o : Outcome Network} → ◌≡◌ {A = Verdict} (Ok tt) (Err r) → o ≡ refused r
never-refused e = let z : ◌≡◌ {A = ℕ} 0 1 = cc in absurd (omega arith)

there-refused : {count n : ℕ} (k : ℕ) (none : Refusal) (o : Outcome Network) {r : Refusal} → count ≡ n → in_count count k none ≡ Err r →
    unless (ltb k n) (refused none) o ≡ refused r
there-refused {n = n} k none o same e = test-refused (ltb k n) none (Ok tt) o never-refused (rw same at e)

module _ (ring : Ring) (ok : sound_ring ring ≡ true) where
  abbrev σ : Network
  σ = view ring

  abbrev numbers : Held ring σ
  numbers = (sound-ring ring ok).holds

  pub begun-is : begun ring.head.started ≡ σ.started
  begun-is = ap begun numbers.started ∙ by-test σ.started (λ t. rw t) (λ t. rw t)

  plan-refused : (o : Outcome Network) {r : Refusal} → before_start ring.head.started ≡ Err r →
      unless (not σ.started) (refused AlreadyStarted) o ≡ refused r
  plan-refused o e = test-refused (not σ.started) AlreadyStarted (Ok tt) o never-refused (rw begun-is at e)

  going-refused : {count n : ℕ} (k : ℕ) (none : Refusal) (o : Outcome Network) {r : Refusal} → count ≡ n →
      after_start ring.head.started count k none ≡ Err r →
      unless σ.started (refused NotStarted) (unless (ltb k n) (refused none) o) ≡ refused r
  going-refused {count} k none o same e =
      test-refused σ.started NotStarted (in_count count k none) _ (there-refused k none o same) (rw begun-is at e)

  called-refused : (a : Call) {r : Refusal} → sound_opening ring (subject_of a) ≡ Err r → call ring_limits a σ ≡ refused r
  unfolding Calls.add_node Calls.add_channel Calls.start Calls.receive Calls.send Calls.enter Calls.move Calls.withdraw Calls.hops_left Calls.waiting_set
  called-refused (add_node slots) e = plan-refused _ e
  called-refused (add_channel s r) e = plan-refused _ e
  called-refused start e = plan-refused _ e
  called-refused (receive k) e = going-refused k.0 NoSuchChannel _ numbers.channel-count e
  called-refused (send k x) e = going-refused k.0 NoSuchChannel _ numbers.channel-count e
  called-refused (enter p) e = going-refused p.0 NoSuchNode _ numbers.node-count e
  called-refused (move p) e = going-refused p.0 NoSuchNode _ numbers.node-count e
  called-refused (withdraw k) e = going-refused k.0 NoSuchChannel _ numbers.channel-count e
  called-refused (hops_left k) e = going-refused k.0 NoSuchChannel _ numbers.channel-count e
  called-refused (waiting_set p) e = there-refused p.0 NoSuchNode _ numbers.node-count e

module _ (a : Call) (ring : Ring) where
  pub opening-refused : {r : Refusal} → opening_of ring (subject_of a) ≡ Err r → call_ring a ring ≡ refused r
  opening-refused {r} e =
      by-test (sound_ring ring)
      (λ ok. sound-called a ring ok ∙ ap held_outcome (called-refused ring ok a (rw ok at e)))
      (λ bad. let same : ◌≡◌ {A = Verdict} (Err UnsoundRing) (Err r) = rw bad at e in let number : UnsoundRing ≡ r = cc in unsound-refused a ring bad ∙ ap refused number)

  -- the same of the ring and the reply after a call whose opening was refused
  pub turns-away : {reply : Reply} {r : Refusal} → Err r ≡ opening_of ring (subject_of a) → reply ≡ Err r →
      Answered ring (call_ring a ring) ring reply
  turns-away told e = refuses ring (opening-refused (sym told)) e

-- where an opening passed, all its tests passed

test-open : (b : Bool) (x : Refusal) (rest : Verdict) → unless b (Err x) rest ≡ (Ok tt) → (b ≡ true) × (rest ≡ (Ok tt))
test-open true x rest e = (refl, e)
test-open false x rest e = let z : ◌≡◌ {A = ℕ} 0 1 = cc in absurd (omega arith)

module _ (ring : Ring) where
  sound-open : (subject : Subject) {u : Unit} → Ok u ≡ opening_of ring subject →
      (sound_ring ring ≡ true) × (sound_opening ring subject ≡ (Ok tt))
  sound-open subject told = test-open (sound_ring ring) UnsoundRing (sound_opening ring subject) (sym told)

  going-open : (count k : ℕ) (none : Refusal) → after_start ring.head.started count k none ≡ (Ok tt) →
      (ring.head.started ≢ 0) × (k < count)
  going-open count k none e =
      let going = test-open (begun ring.head.started) NotStarted (in_count count k none) e in
      let there = test-open (ltb k count) none (Ok tt) going.1 in
      (λ still. both_ways going.0 (rw still), ltb-true k count there.0)

  pub plan-passed : {u : Unit} → Ok u ≡ opening_of ring Plan → Planned ring
  plan-passed told =
      let sound = sound-open Plan told in
      let waits = test-open (not (begun ring.head.started)) AlreadyStarted (Ok tt) sound.1 in
      record { ok = sound.0; still = by-same ring.head.started 0 (λ e. e) (λ d. both_ways waits.0 (rw (ne_eqb _ 0 d))) }

  pub channel-passed : {k : ChannelNo} {u : Unit} → Ok u ≡ opening_of ring (Channel k) → AtChannel ring k.0
  channel-passed {k} told =
      let sound = sound-open (Channel k) told in
      let rest = going-open ring.head.channel_count k.0 NoSuchChannel sound.1 in
      record { ok = sound.0; going = rest.0; there = rest.1 }

  pub node-passed : {p : NodeNo} {u : Unit} → Ok u ≡ opening_of ring (Node p) → AtNode ring p.0
  node-passed {p} told =
      let sound = sound-open (Node p) told in
      let rest = going-open ring.head.node_count p.0 NoSuchNode sound.1 in
      record { ok = sound.0; going = rest.0; there = rest.1 }

  pub tasks-passed : {p : NodeNo} {u : Unit} → Ok u ≡ opening_of ring (Tasks p) → AskedAt ring p.0
  tasks-passed {p} told =
      let sound = sound-open (Tasks p) told in
      let there = test-open (ltb p.0 ring.head.node_count) NoSuchNode (Ok tt) sound.1 in
      record { ok = sound.0; there = ltb-true _ _ there.0 }
