-- Rounds one after the other: from where the loop stands, what is left of the rounds comes to the end that the definition gives.
use Prim.Native.Nat.{ℕ, zero, suc, ◌+◌, ◌-◌, ◌≤◌, ◌<◌}
use mathlib.Core.Path.{◌≡◌, refl, sym, ap, subst, ◌∙◌}
use mathlib.Core.Logic.{◌⊎◌, inl, inr, ⊎_elim}
use mathlib.Core.Bool.{true, false}
use mathlib.Core.List.{List, ◌++◌}
use native.Mathlib.Omega.{arith}
use lib.Dec.{ltb}
use lib.ListN.{length}
use borrow.Author.Tests.{lt-ltb}
use Rattle.std.specs.Prelude.{Result, Ok, Err}
use Rattle.refusal.specs.declared.Refusal.{Refusal}
use Rattle.refusal.specs.declared.Refusal.TheVariants.{UnsoundRing, NotStarted, NoSuchNode}
use Rattle.refusal.specs.Number.{Verdict}
use Rattle.network.specs.declared.Dispatched.{Dispatched}
use Rattle.network.specs.declared.Ring.{Ring}
use Rattle.network.specs.Calls.{Delivery}
use Rattle.network.specs.Counting.{times}
use Rattle.network.specs.Network.{node_no, count_of_nodes}
use Rattle.network.specs.Runs.{Call, run}
use Rattle.network.specs.Layout.{ring_limits, channel_room, view, sound_ring, call_ring}
use Rattle.network.specs.Dispatch.{round, still, deliveries, after_dispatch, rounds_made, spelled, not_run, ran}
use Rattle.network.specs.Dispatcher.{dispatch_ring, answered, answer_of, dispatch_step}
use Rattle.network.proofs.Ground.Splits.{by-test}
use Rattle.network.proofs.Lists.Clauses.{sound-started}
use Rattle.network.proofs.Memory.Held.{sound-ring}
use Rattle.network.proofs.Promises.Dispatch.{going-round, going-times}
use Rattle.updates.specs.declared.opening.Subject.TheVariants.{Node}
use Rattle.updates.specs.Openings.{after_start, opening_of}
use Rattle.updates.proofs.Openings.{running, begun-is}
use Rattle.dispatch.specs.Log.{logged_all}
use Rattle.dispatch.specs.Rounds.{CanGo, CallsMade}
use Rattle.dispatch.proofs.Log.{in_rounds, logged-rounds, rounds-stay, blank, kept-from-none}
use Rattle.dispatch.proofs.Going.{went_on, gone, goes_on, nodes-stay}

abbrev made : ℕ → Ring → ℕ
made given ring = rounds_made sound_ring view call_ring given ring

abbrev calls : ℕ → Ring → List Call
calls given ring = spelled sound_ring view call_ring given ring

-- the ring and what is told at the end, with so many rounds left
pub record End : Type 0 where
  pub ring : Ring
  pub told : Dispatched

abbrev end : Ring → Dispatched → End
end ring told = record { ring = ring; told = told }

abbrev pub end_of : ℕ → Ring → Dispatched → End
end_of left ring l =
    end (run call_ring (calls left ring) ring)
    (in_rounds (l.rounds + made left ring) (logged_all (deliveries call_ring (calls left ring) ring) l))

same_end : {ring ring' : Ring} {l l' : Dispatched} {n n' : ℕ} → ring ≡ ring' → l ≡ l' → n ≡ n' →
    end ring (in_rounds n l) ≡ end ring' (in_rounds n' l')
same_end a b c = rw (a, b, c)

-- what is delivered is kept beside the rounds that are counted
pub rounds-kept : {calls : List Call} {ring : Ring} {l : Dispatched} {next : Ring} {kept : Dispatched} →
    CallsMade calls ring l next kept → kept.rounds ≡ l.rounds
rounds-kept {calls} {ring} {l} w = ap (λ t. t.rounds) w.log_is ∙ rounds-stay (deliveries call_ring calls ring) l

-- a round, where something is on the ring; it is counted
one-round : (left : ℕ) {ring next : Ring} {l kept : Dispatched} → still (view ring) ≡ false →
    count_of_nodes (view next) ≡ count_of_nodes (view ring) →
    CallsMade (round (count_of_nodes (view ring))) ring l next kept →
    end_of left next (in_rounds (kept.rounds + 1) kept) ≡ end_of (suc left) ring l
one-round left {ring} {next} {l} {kept} busy same w =
    let n : ℕ = count_of_nodes (view ring) in
    let m : ℕ = made left (run call_ring (round n) ring) in
    let more : List Call = times m (round n) in
    let there : calls left next ≡ more =
    ap (λ (r : Ring). times (made left r) (round (count_of_nodes (view next)))) w.ring-is ∙ ap (λ k. times m (round k)) same in
    let all : CallsMade (round n ++ more) ring l (run call_ring more next) (logged_all (deliveries call_ring more next) kept) =
    went_on more w (record { ring-is = refl; log_is = refl }) in
    let counted : kept.rounds + 1 + made left next ≡ l.rounds + suc m =
    omega (arith, ap (made left) w.ring-is, rounds-kept w) in
    rw busy
    (ap (λ t. end (run call_ring (calls left next) next) (in_rounds (kept.rounds + 1 + made left next) t))
    (logged-rounds (deliveries call_ring (calls left next) next) (kept.rounds + 1) kept)
    ∙ same_end (ap (λ cs. run call_ring cs next) there ∙ all.ring-is)
    (ap (λ cs. logged_all (deliveries call_ring cs next) kept) there ∙ all.log_is) counted)

-- none is made where none is left, or nothing is on the ring
none_made : (left : ℕ) (ring : Ring) → (left ≡ 0) ⊎ (still (view ring) ≡ true) → made left ring ≡ 0
none_made zero ring over = refl
none_made (suc left) ring over = ⊎_elim (λ e. absurd (omega arith)) (λ quiet. rw quiet) over

ended : (left : ℕ) (ring : Ring) (l : Dispatched) → (left ≡ 0) ⊎ (still (view ring) ≡ true) → end_of left ring l ≡ end ring l
ended left ring l over =
    let none = none_made left ring over in
    let counted : l.rounds + 0 ≡ l.rounds = omega arith in
    rw none (same_end {l = l} refl refl counted)

-- where the loop stands
pub record InCourse (given : ℕ) (ring : Ring) (l : Dispatched) (done : ℕ) (now : Ring) (kept : Dispatched) : Type 0 where
  pub counted : kept.rounds ≡ done
  pub can-go : CanGo now kept.count
  pub comes-to : end_of (given - done) now kept ≡ end_of given ring l

module _ {given : ℕ} {ring : Ring} {l : Dispatched} {done : ℕ} {now : Ring} {kept : Dispatched} (c : InCourse given ring l done now kept) where
  nodes-are : {other : Ring} {count : ℕ} → CanGo other count → other.head.node_count ≡ count_of_nodes (view other)
  nodes-are {other} h = (sound-ring other h.ok).holds.node-count

  pub course-goes-on : {next : Ring} {more : Dispatched} → done < given → still (view now) ≡ false →
      CallsMade (round now.head.node_count) now kept next more → InCourse given ring l (done + 1) next (in_rounds (more.rounds + 1) more)
  course-goes-on {next} {more} below busy w =
      let n : ℕ = now.head.node_count in
      let on : CanGo next more.count = goes_on (going-round n) c.can-go w in
      let same : count_of_nodes (view next) ≡ count_of_nodes (view now) =
      sym (nodes-are on) ∙ nodes-stay (going-round n) c.can-go w ∙ nodes-are c.can-go in
      let left : given - done ≡ suc (given - (done + 1)) = omega arith in
      let step = one-round (given - (done + 1)) busy same (subst (λ k. CallsMade (round k) now kept next more) (nodes-are c.can-go) w) in
      record {
        counted = omega (arith, c.counted, rounds-kept w);
        can-go = on;
        comes-to = step ∙ ap (λ k. end_of k now kept) (sym left) ∙ c.comes-to;
      }

  -- the loop is left when all rounds are made, or nothing is on the ring
  pub course-ends : (given ≤ done) ⊎ (still (view now) ≡ true) → end_of given ring l ≡ end now kept
  course-ends over =
      sym c.comes-to ∙ ended (given - done) now kept (⊎_elim (λ spent. inl (omega arith)) (λ quiet. inr quiet) over)

-- what the dispatcher is on a sound started ring, and what the code answers at the end of its loop
module _ (given : ℕ) {ring : Ring} (h : CanGo ring 0) where
  abbrev handed : List Delivery
  handed = deliveries call_ring (calls given ring) ring

  pub dispatches : dispatch_ring given ring ≡ ran (made given ring) handed (run call_ring (calls given ring) ring)
  unfolding dispatch_ring
  dispatches = rw (h.ok, running ring h.ok h.going)

  few : length handed ≤ channel_room
  few = omega (arith, (gone (going-times (made given ring) (going-round (count_of_nodes (view ring)))) h).0.room)

  pub ran-so : {now : Ring} {kept : Dispatched} → end_of given ring blank ≡ end now kept →
      (now ≡ (dispatch_step given ring).ring) × (Ok kept ≡ (dispatch_step given ring).dispatched)
  ran-so {now} {kept} ends =
      let none-before : 0 + made given ring ≡ made given ring = omega arith in
      let told : kept ≡ answered (made given ring) handed =
      sym (ap (λ e. e.told) ends)
      ∙ ap (λ n. in_rounds n (logged_all handed blank)) none-before
      ∙ ap (in_rounds (made given ring)) (kept-from-none handed few) in
      (sym (ap (λ e. e.ring) ends) ∙ sym (ap (after_dispatch ring) dispatches), ap Ok told ∙ sym (ap answer_of dispatches))

-- an opening that is refused is the refusal of the dispatcher

module _ (given : ℕ) (ring : Ring) {r : Refusal} (told : Err r ≡ opening_of ring (Node (node_no 0))) where
  some-node : (ok : sound_ring ring ≡ true) → (view ring).started ≡ true → 0 < ring.head.node_count
  some-node ok on =
      let s = sound-ring ring ok in
      omega (arith, s.holds.node-count, (sound-started ring_limits (view ring) s.sound on).within.some-node)

  pub turned-away : dispatch_ring given ring ≡ not_run r
  unfolding dispatch_ring
  turned-away =
      by-test (sound_ring ring)
      (λ ok.
      let judged : after_start ring.head.started ring.head.node_count 0 NoSuchNode ≡ Err r = rw ok at (sym told) in
      let begun = begun-is ring ok in
      by-test (view ring).started
      (λ on.
      let some : ltb 0 ring.head.node_count ≡ true = lt-ltb 0 _ (some-node ok on) in
      let never : ◌≡◌ {A = Verdict} (Ok tt) (Err r) = rw (begun, on, some) at judged in
      let z : ◌≡◌ {A = ℕ} 0 1 = cc in
      absurd (omega arith))
      (λ off.
      let first : ◌≡◌ {A = Verdict} (Err NotStarted) (Err r) = rw (begun, off) at judged in
      let number : NotStarted ≡ r = cc in
      rw (ok, off) (ap not_run number)))
      (λ broken.
      let first : ◌≡◌ {A = Verdict} (Err UnsoundRing) (Err r) = rw broken at (sym told) in
      let number : UnsoundRing ≡ r = cc in
      rw broken (ap not_run number))

  pub not-run : {result : Result Dispatched Refusal} → result ≡ Err r →
      (ring ≡ (dispatch_step given ring).ring) × (result ≡ (dispatch_step given ring).dispatched)
  not-run is = (sym (ap (after_dispatch ring) turned-away), is ∙ sym (ap answer_of turned-away))
