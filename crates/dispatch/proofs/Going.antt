-- Entries and moves one after the other on a sound started ring: what is known stays known, and what was kept is what was delivered.
use Prim.Native.Nat.{ℕ, ◌+◌, ◌≤◌, ◌<◌}
use mathlib.Core.Path.{◌≡◌, refl, sym, ap, subst, ◌∙◌}
use mathlib.Core.Logic.{◌≢◌}
use mathlib.Core.Bool.{Bool, true, false}
use mathlib.Core.List.{List, [], ◌∷◌, ◌++◌, append-nil}
use native.Mathlib.Omega.{arith}
use native.Mathlib.Numerals.{add-one}
use lib.ListN.{length, length-append}
use Rattle.refusal.specs.declared.Refusal.{Refusal}
use Rattle.refusal.specs.declared.Refusal.TheVariants.{UnsoundRing, NotStarted, NoSuchNode, NoFreeSlot}
use Rattle.numbers.specs.declared.NodeNo.{NodeNo}
use Rattle.numbers.specs.declared.ChannelNo.{ChannelNo}
use Rattle.network.specs.declared.Dispatched.{Dispatched}
use Rattle.network.specs.declared.Ring.{Ring}
use Rattle.network.specs.Counting.{one}
use Rattle.network.specs.Network.{Network, node_no, node, is_node, with_node}
use Rattle.network.specs.Calls.{Outcome, refused, accepted, unless, done, has_slot, enter_first}
use Rattle.network.specs.Calls
use Rattle.network.specs.Answers.{Reply, delivered_in}
use Rattle.network.specs.Runs.{Call, enter, move, after, run}
use Rattle.network.specs.Layout.{channel_room, view, sound_ring, held_outcome, call_ring}
use Rattle.network.specs.Dispatch.{round, listed, handed_by, deliveries}
use Rattle.network.proofs.Memory.Held.{sound-ring}
use Rattle.network.proofs.Promises.Acts.{run-append, deliveries-append}
use Rattle.network.proofs.Promises.Dispatch.{Going, none-go, go}
use Rattle.network.proofs.Promises.Tried.{goes, Tried, tried, on-ring-most}
use Rattle.updates.specs.Known.{AtNode}
use Rattle.updates.proofs.Openings.{Answered, running}
use Rattle.dispatch.specs.Log.{logged_all}
use Rattle.dispatch.specs.Rounds.{CanGo, CallsMade}
use Rattle.dispatch.proofs.Log.{logged-more, logged-count, handed-in}

pub can-begin : (ring : Ring) → sound_ring ring ≡ true → ring.head.started ≢ 0 → CanGo ring 0
can-begin ring ok going = record { ok = ok; going = going; room = omega (arith, on-ring-most ring ok) }

pub at-node : {ring : Ring} {count : ℕ} (p : ℕ) → CanGo ring count → p < ring.head.node_count → AtNode ring p
at-node p h l = record { ok = h.ok; going = h.going; there = l }

-- one entry or move: the ring that it leaves, and the deliveries with it

module _ {ring : Ring} {count : ℕ} (h : CanGo ring count) (a : Call) (g : goes a ≡ true) where
  abbrev next : Ring
  next = after ring (call_ring a ring)

  pub made : Tried ring a
  made = tried ring h.ok (running ring h.ok h.going) a g

  pub room-there : count + length (handed_by (call_ring a ring)) ≤ channel_room
  room-there = omega (arith, made.fewer, h.room)

  pub same_nodes : next.head.node_count ≡ ring.head.node_count
  same_nodes =
      (sound-ring next made.still-sound).holds.node-count ∙ made.same_nodes ∙ sym (sound-ring ring h.ok).holds.node-count

  next-started : next.head.started ≡ 1
  next-started = (sound-ring next made.still-sound).holds.started ∙ ap one made.still-started

  pub can-go-on : {total : ℕ} → total ≡ count + length (handed_by (call_ring a ring)) → CanGo next total
  can-go-on is =
      record {
        ok = made.still-sound;
        going = λ e. omega (arith, e, next-started);
        room = omega (arith, made.fewer, h.room, is);
      }

-- made one after the other

pub went_on : {xs : List Call} {ring : Ring} {l : Dispatched} {next : Ring} {kept : Dispatched} (ys : List Call) {last : Ring} {all : Dispatched} →
    CallsMade xs ring l next kept → CallsMade ys next kept last all → CallsMade (xs ++ ys) ring l last all
went_on {xs} {ring} {l} {next} {kept} ys a b =
    record {
      ring-is = b.ring-is ∙ ap (run call_ring ys) a.ring-is ∙ sym (run-append call_ring xs ys ring);
      log_is =
          b.log_is
          ∙ ap (logged_all (deliveries call_ring ys next)) a.log_is
          ∙ ap (λ r. logged_all (deliveries call_ring ys r) (logged_all (deliveries call_ring xs ring) l)) a.ring-is
          ∙ sym (logged-more (deliveries call_ring xs ring) (deliveries call_ring ys (run call_ring xs ring)) l)
          ∙ ap (λ ds. logged_all ds l) (sym (deliveries-append call_ring xs ys ring));
    }

-- what is known stays known
pub gone : {calls : List Call} → Going calls → {ring : Ring} {count : ℕ} → CanGo ring count →
    CanGo (run call_ring calls ring) (count + length (deliveries call_ring calls ring))
    × ((run call_ring calls ring).head.node_count ≡ ring.head.node_count)
gone none-go {ring} {count} h = (record { ok = h.ok; going = h.going; room = omega (arith, h.room) }, refl)
gone (go {a} {calls} g rest) {ring} {count} h =
    let later = gone rest (can-go-on h a g refl) in
    let all = length-append (handed_by (call_ring a ring)) (deliveries call_ring calls (after ring (call_ring a ring))) in
    (record { ok = later.0.ok; going = later.0.going; room = omega (arith, later.0.room, all) }, later.1 ∙ same_nodes h a g)

module _ {calls : List Call} (g : Going calls) {ring : Ring} {l : Dispatched} {next : Ring} {kept : Dispatched} (h : CanGo ring l.count)
    (w : CallsMade calls ring l next kept) where
  pub goes_on : CanGo next kept.count
  goes_on =
      let after-all = (gone g h).0 in
      let many : kept.count ≡ l.count + length (deliveries call_ring calls ring) =
      ap (λ k. k.count) w.log_is ∙ logged-count (deliveries call_ring calls ring) l in
      subst (λ r. CanGo r kept.count) (sym w.ring-is)
      (record { ok = after-all.ok; going = after-all.going; room = omega (arith, after-all.room, many) })

  pub nodes-stay : next.head.node_count ≡ ring.head.node_count
  nodes-stay = ap (λ r. r.head.node_count) w.ring-is ∙ (gone g h).1

-- an entry delivers nothing
enter-quiet : (p : NodeNo) (ring : Ring) → handed_by (call_ring (enter p) ring) ≡ []
unfolding call_ring Calls.enter
enter-quiet p ring =
    let σ = view ring in
    let line : handed_by (enter_first p (node σ p).line σ) ≡ [] = first-quiet (node σ p).line σ in
    let there : Outcome Network = unless (is_node σ p) (refused NoSuchNode) (enter_first p (node σ p).line σ) in
    quiet (sound_ring ring) UnsoundRing (held_outcome (Calls.enter p σ))
    (held-quiet (Calls.enter p σ) (quiet σ.started NotStarted there (quiet (is_node σ p) NoSuchNode (enter_first p (node σ p).line σ) line)))
  where
    quiet : {S : Type 0} (b : Bool) (r : Refusal) (o : Outcome S) → handed_by o ≡ [] → handed_by (unless b (refused r) o) ≡ []
    quiet true r o none = none
    quiet false r o none = refl

    held-quiet : (o : Outcome Network) → handed_by o ≡ [] → handed_by (held_outcome o) ≡ []
    held-quiet (refused r) none = refl
    held-quiet (accepted e σ) none = none

    first-quiet : (ks : List ChannelNo) (σ : Network) → handed_by (enter_first p ks σ) ≡ []
    first-quiet [] σ = refl
    first-quiet (k ∷ ks) σ = quiet (has_slot σ p) NoFreeSlot (accepted done (with_node p ((node σ p).buffer ++ (k ∷ [])) ks false σ)) refl

-- a visit: the entry, and then the move on the ring that it left, as the code answers them
module _ {ring : Ring} (l : Dispatched) (p : NodeNo) (h : CanGo ring l.count)
    {entered : Ring} (e : entered ≡ after ring (call_ring (enter p) ring)) where
  can-move : CanGo entered l.count
  can-move =
      subst (λ r. CanGo r l.count) (sym e) (can-go-on h (enter p) refl (omega (arith, ap length (enter-quiet p ring))))

  pub at-move : p.0 < ring.head.node_count → AtNode entered p.0
  at-move there =
      at-node p.0 can-move
      (subst (λ r. p.0 < r.head.node_count) (sym e) (omega (arith, same_nodes h (enter p) refl, there)))

  module _ {moved : Ring} {reply : Reply} (m : Answered entered (call_ring (move p) entered) moved reply) where
    told : listed (delivered_in reply) ≡ handed_by (call_ring (move p) entered)
    told = ap (λ r. listed (delivered_in r)) m.1 ∙ handed-in (call_ring (move p) entered)

    pub place-there : l.count + length (listed (delivered_in reply)) ≤ channel_room
    place-there = omega (arith, ap length told, room-there can-move (move p) refl)

    pub visited : {kept : Dispatched} → kept ≡ logged_all (listed (delivered_in reply)) l →
        CallsMade (enter p ∷ move p ∷ []) ring l moved kept
    visited {kept} is =
        let none : deliveries call_ring (enter p ∷ []) ring ≡ [] = rw (enter-quiet p ring) refl in
        let first : CallsMade (enter p ∷ []) ring l entered l =
        record { ring-is = e; log_is = rw none refl } in
        let second : CallsMade (move p ∷ []) entered l moved kept =
        record { ring-is = m.0; log_is = is ∙ ap (λ ds. logged_all ds l) (told ∙ sym (append-nil _)) } in
        went_on (move p ∷ []) first second

-- a round so far: the first nodes were visited
pub record InRound (ring : Ring) (l : Dispatched) (node : ℕ) (now : Ring) (kept : Dispatched) : Type 0 where
  pub can-go : CanGo now kept.count
  pub went : CallsMade (round node) ring l now kept
  pub same_nodes : now.head.node_count ≡ ring.head.node_count

pub round-goes-on : {ring : Ring} {l : Dispatched} {node : ℕ} {now : Ring} {kept : Dispatched} {next : Ring} {more : Dispatched} →
    InRound ring l node now kept → CallsMade (enter (node_no node) ∷ move (node_no node) ∷ []) now kept next more →
    InRound ring l (node + 1) next more
round-goes-on {node = node} r w =
    let visit : Going (enter (node_no node) ∷ move (node_no node) ∷ []) = go refl (go refl none-go) in
    record {
      can-go = goes_on visit r.can-go w;
      went = rw (add-one node) (went_on (enter (node_no node) ∷ move (node_no node) ∷ []) r.went w);
      same_nodes = nodes-stay visit r.can-go w ∙ r.same_nodes;
    }
