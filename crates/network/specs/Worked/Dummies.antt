-- The five dummies of document 01, "Conditions of acceptance", as ways to answer ring calls, each made of the true calls in a line or two;
-- and the claims that demand 2 rejects all five, that the bound and the order in demand 3 alone reject the first, the fourth and the
-- fifth, and that each part of what is promised can fail.
use Rattle.std.specs.Prelude.{suc, ◌+◌, ◌≡◌, ◌≢◌, true, cond, List, [], ◌∷◌, ◌++◌, eqb, take, replicate}
use Rattle.numbers.specs.declared.NodeNo.{NodeNo}
use Rattle.refusal.specs.declared.Refusal.{Refusal}
use Rattle.refusal.specs.declared.Refusal.TheVariants.{NoFreeSlot, NextBufferFull, UnsoundRing}
use Rattle.network.specs.declared.Ring.{Ring}
use Rattle.network.specs.declared.Step.{Step}
use Rattle.network.specs.Counting.{times}
use Rattle.network.specs.Network.{Network, ring_of, fresh, channel_no, count_of_nodes, next_node}
use Rattle.network.specs.Sound.{sound}
use Rattle.network.specs.Calls.{Event, done, delivered, hops_are, waiting_are, Outcome, refused, accepted, unless, has_slot}
use Rattle.network.specs.Runs.{Call, add_node, add_channel, start, receive, send, enter, move, withdraw, hops_left, waiting_set, call, run, counted, delivered_on}
use Rattle.network.specs.Layout.{ring_limits, view, fresh_ring, sound_ring, held_outcome}
use Rattle.network.specs.Answers.{said_in, says, reply_of, step_of}
use Rattle.network.specs.Demand.{RefusesUnsound, KeepsSound, Leaves, Served, InOrder, Each, Unsound}
use Rattle.network.specs.Promise.{MeetsContracts, RefusalLeaves, NextRing}
use Rattle.network.specs.Worked.Edges.{n0, n1, c0, worked_record}

-- a way to answer ring calls on the ring apart from its layout, and the true one
abbrev pub Way : Type 0
Way = Call → Network → Outcome Network

abbrev pub truly : Way
truly = call ring_limits

-- What a dummy makes of a true outcome that is accepted: another answer, the same ring as before, or a refusal.

abbrev pub retold : (Event → Event) → Outcome Network → Outcome Network
retold f (refused r) = refused r
retold f (accepted e τ) = accepted (f e) τ

abbrev pub not_done : Network → Outcome Network → Outcome Network
not_done σ (refused r) = refused r
not_done σ (accepted e τ) = accepted done σ

abbrev pub instead_of : Refusal → Outcome Network → Outcome Network
instead_of r (refused q) = refused q
instead_of r (accepted e τ) = refused r

-- one for an entry, one for a move, one for any other call
abbrev pub by_traffic : {A : Type 0} → Call → (NodeNo → A) → (NodeNo → A) → A → A
by_traffic (add_node slots) entry moving other = other
by_traffic (add_channel s r) entry moving other = other
by_traffic start entry moving other = other
by_traffic (receive k) entry moving other = other
by_traffic (send k x) entry moving other = other
by_traffic (enter p) entry moving other = entry p
by_traffic (move p) entry moving other = moving p
by_traffic (withdraw k) entry moving other = other
by_traffic (hops_left k) entry moving other = other
by_traffic (waiting_set p) entry moving other = other

-- 1. Carries the first lap truly and only acts the later ones: once a record was delivered, messages go round and no record comes out.
abbrev pub no_record_out : Event → Event
no_record_out done = done
no_record_out (delivered k x) = done
no_record_out (hops_are h) = hops_are h
no_record_out (waiting_are w) = waiting_are w

abbrev pub acts_later_laps : Way
acts_later_laps a σ = cond (eqb σ.deliveries 0) (truly a σ) (retold no_record_out (truly a σ))

-- 2. Reports 18 or 20 with a slot free: at the node of an entry that would be accepted, or at the next node of such a move.
abbrev pub grudges_slots : Way
grudges_slots a σ =
    by_traffic a (λ p. instead_of NoFreeSlot (truly a σ))
    (λ p. cond (has_slot σ (next_node σ p)) (instead_of NextBufferFull (truly a σ)) (truly a σ))
    (truly a σ)

-- 3. Invents its hops left or deliveries: one hop too many, or a delivery on the next channel.
abbrev pub invention : Event → Event
invention done = done
invention (delivered k x) = delivered (channel_no (suc k.0)) x
invention (hops_are h) = hops_are (suc h)
invention (waiting_are w) = waiting_are w

abbrev pub invents : Way
invents a σ = retold invention (truly a σ)

-- 4. Accepts a move and moves nothing.
abbrev pub moves_nothing : Way
moves_nothing a σ = by_traffic a (λ p. truly a σ) (λ p. not_done σ (truly a σ)) (truly a σ)

-- 5. Turns every call down, with whatever refusal; or always answers the same, whatever that is and whatever it does to the ring.
abbrev pub turns_down : Refusal → Way
turns_down r a σ = refused r

abbrev pub always_says : Event → (Call → Network → Network) → Way
always_says e next a σ = accepted e (next a σ)

-- The rings on which they are tried: two nodes of one slot each and a same-node channel at node 0, so that n = 2, b = 2, c = 1 and the
-- bound of demand 3 is 84. The request waits in the line; it is in the buffer of node 0; the response is in the buffer of node 1, one move
-- from its receiver; and the same in the second lap.
abbrev pub lap : List Call
lap = receive c0 ∷ send c0 worked_record ∷ enter n0 ∷ move n0 ∷ move n1 ∷ enter n0 ∷ move n0 ∷ []

unfoldable pub begun : Network
begun = run truly (add_node 1 ∷ add_node 1 ∷ add_channel n0 n0 ∷ start ∷ []) fresh

unfoldable pub in_line : Network
in_line = run truly (receive c0 ∷ send c0 worked_record ∷ []) begun

unfoldable pub in_buffer : Network
in_buffer = run truly (enter n0 ∷ []) in_line

unfoldable pub first_lap : Network
first_lap = run truly lap begun

unfoldable pub second_lap : Network
second_lap = run truly (move n1 ∷ lap) first_lap

-- a ring that is not sound: started with no node
unfoldable pub broken : Network
broken = ring_of true [] [] 0

-- Demand 2 rejects a way to answer: at a sound ring it answers a call otherwise than the definitions do, so code that answers so does not
-- meet the contracts.
abbrev pub checked_ring : Ring → Outcome Network → Outcome Ring
checked_ring ring o = unless (sound_ring ring) (refused UnsoundRing) (held_outcome o)

abbrev pub as_code : Way → Call → Ring → Step
as_code dummy a ring = step_of ring (checked_ring ring (dummy a (view ring)))

pub record Exposed (dummy : Way) (a : Call) (σ : Network) : Type 0 where
  pub sound-there : sound ring_limits σ ≡ true
  pub otherwise : said_in (dummy a σ) ≢ said_in (truly a σ)
  pub breaks-contracts : MeetsContracts (as_code dummy) → ⊥

pub record Demand2Rejects : Type 0 where
  pub acts-later-laps : Exposed acts_later_laps (move n1) second_lap
  pub grudges-18 : Exposed grudges_slots (enter n0) in_line
  pub grudges-20 : Exposed grudges_slots (move n0) in_buffer
  pub free-at-18 : (said_in (grudges_slots (enter n0) in_line) ≡ says 18) × (has_slot in_line n0 ≡ true)
  pub free-at-20 : (said_in (grudges_slots (move n0) in_buffer) ≡ says 20) × (has_slot in_buffer n1 ≡ true)
  pub invents-hops : Exposed invents (hops_left c0) in_line
  pub invents-delivery : Exposed invents (move n1) first_lap
  pub moves-nothing : Exposed moves_nothing (move n1) first_lap
  pub turns-down : (r : Refusal) → Exposed (turns_down r) (enter n0) in_line
  pub always-says : (e : Event) (next : Call → Network → Network) → Exposed (always_says e next) start begun

-- The bound and the order in demand 3 alone reject it.
abbrev pub ServedBy : Way → Type 0
ServedBy way = Served fresh (sound ring_limits) (λ σ. σ) way

abbrev pub InOrderBy : Way → Type 0
InOrderBy way = InOrder fresh (sound ring_limits) (λ σ. σ) way

-- The runs that show it: the end of a lap and eleven laps more, 89 calls; one call 84 times; for a ring that turns every call down the
-- empty run, and for a ring that always delivers one call from a fresh ring.
abbrev pub eleven_laps : List Call
eleven_laps = move n1 ∷ times 11 (lap ++ (move n1 ∷ []))

abbrev pub past_the_bound : Call → List Call
past_the_bound a = replicate 84 a

pub record Demand3Rejects : Type 0 where
  pub acts-later-laps : ServedBy acts_later_laps → ⊥
  pub moves-nothing : ServedBy moves_nothing → ⊥
  pub turns-down : (r : Refusal) → ServedBy (turns_down r) → ⊥
  pub always-says : (e : Event) (next : Call → Network → Network) → ServedBy (always_says e next) → InOrderBy (always_says e next) → ⊥

-- Each part of what is promised can fail, beside the dummies: the definitions without the test for 25, a way that breaks the ring at every
-- call, and code that says 25 and hands a fresh ring back.
abbrev pub breaks_ring : Way
breaks_ring a σ = accepted done broken

abbrev pub forgets : Call → Ring → Step
forgets a ring = record { ring = fresh_ring; reply = reply_of {S = Ring} (refused UnsoundRing) }

pub record EachCanFail : Type 0 where
  pub refuses-unsound : RefusesUnsound fresh (sound ring_limits) (λ σ. σ) truly → ⊥
  pub fresh-sound : sound ring_limits broken ≡ true → ⊥
  pub sound-kept : KeepsSound fresh (sound ring_limits) (λ σ. σ) breaks_ring → ⊥
  pub hops-left-leaves : Leaves fresh (sound ring_limits) (λ σ. σ) breaks_ring (hops_left c0) → ⊥
  pub waiting-set-leaves : Leaves fresh (sound ring_limits) (λ σ. σ) breaks_ring (waiting_set n0) → ⊥
  pub each : Each fresh (sound ring_limits) (λ σ. σ) invents ring_limits → ⊥
  pub unsound : Unsound fresh (sound ring_limits) (λ σ. σ) truly → ⊥
  pub served : ServedBy moves_nothing → ⊥
  pub in_order : InOrderBy (always_says (delivered c0 worked_record) (λ a σ. σ)) → ⊥
  pub refusal-leaves : RefusalLeaves forgets → ⊥
  pub next-ring : NextRing forgets → ⊥

-- A bound of n + 4 alone would be wrong: it is 6 on this ring, and in this run the seventh counted call delivers.
abbrev pub slow_calls : List Call
slow_calls = enter n0 ∷ move n0 ∷ move n1 ∷ send c0 worked_record ∷ enter n0 ∷ move n0 ∷ move n1 ∷ []

pub record SevenCounted : Type 0 where
  pub six : count_of_nodes in_line + 4 ≡ 6
  pub seven : counted truly slow_calls in_line ≡ 7
  pub none_before : delivered_on truly c0 (take 6 slow_calls) in_line ≡ []
  pub delivered-then : delivered_on truly c0 slow_calls in_line ≡ worked_record ∷ []
