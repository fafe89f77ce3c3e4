-- Request N7 of document 02, two fitters at two ends: of entries and moves, two that touch no common node may come in either order. Said of
-- whatever answers ring calls, and asked of the ring in memory and of what code returns; worked pairs are in Pairs.
use Rattle.std.specs.Prelude.{ℕ, ◌≤◌, ◌≡◌, ◌⊎◌, true, false, [], ◌∷◌}
use Rattle.refusal.specs.declared.Refusal.TheVariants.{UnsoundRing, NotStarted, NoSuchNode}
use Rattle.numbers.specs.declared.NodeNo.{NodeNo}
use Rattle.network.specs.declared.Ring.{Ring}
use Rattle.network.specs.declared.Step.{Step}
use Rattle.network.specs.Network.{Network, count_of_nodes, next_on}
use Rattle.network.specs.Calls.{Outcome, refused}
use Rattle.network.specs.Runs.{Call, enter, move, after, run}
use Rattle.network.specs.Layout.{view, sound_ring, call_ring}
use Rattle.network.specs.Answers.{reply_of}
use Rattle.network.specs.Promise.{MeetsContracts}

-- an entry or a move, at its node
pub data Traffic : Type 0 where
  entry_at move_at : NodeNo → Traffic

abbrev pub as_call : Traffic → Call
as_call (entry_at p) = enter p
as_call (move_at p) = move p

-- the node where it is called
abbrev pub own : Traffic → NodeNo
own (entry_at p) = p
own (move_at p) = p

-- on n nodes, an entry touches its node, and a move touches its node and the next
abbrev pub Touches : ℕ → Traffic → NodeNo → Type 0
Touches n (entry_at p) q = q ≡ p
Touches n (move_at p) q = (q ≡ p) ⊎ (q ≡ next_on n p)

-- they touch no common node
abbrev pub Apart : ℕ → Traffic → Traffic → Type 0
Apart n a b = (q : NodeNo) → Touches n a q → Touches n b q → ⊥

-- S, step: as in Demand
module _ {S : Type 0} (step : Call → S → Outcome S) where
  -- in either order the same two answers, refusals included, and the same ring
  pub record Commute (a b : Call) (s : S) : Type 0 where
    pub first-answer : reply_of (step a (after s (step b s))) ≡ reply_of (step a s)
    pub second-answer : reply_of (step b (after s (step a s))) ≡ reply_of (step b s)
    pub same-ring : run step (a ∷ b ∷ []) s ≡ run step (b ∷ a ∷ []) s

-- of every ring, also one that is not sound or has not started, and of every node number; seen: the network that s holds
abbrev pub EndsCommute : {S : Type 0} → (S → Network) → (Call → S → Outcome S) → Type 0
EndsCommute {S} seen step = (s : S) (a b : Traffic) → Apart (count_of_nodes (seen s)) a b → Commute step (as_call a) (as_call b) s

-- of the ring in memory, for the calls that the contracts cite
abbrev pub RingCommutes : Type 0
RingCommutes = EndsCommute view call_ring

-- the refusals that no other call changes: on an unsound ring 25, before the start 8, at a number that is no node 16
pub record RefusedThere (a : Traffic) (ring : Ring) : Type 0 where
  pub unsound : sound_ring ring ≡ false → call_ring (as_call a) ring ≡ refused UnsoundRing
  pub not-started : sound_ring ring ≡ true → (view ring).started ≡ false → call_ring (as_call a) ring ≡ refused NotStarted
  pub no-such-node :
      sound_ring ring ≡ true → (view ring).started ≡ true → count_of_nodes (view ring) ≤ (own a).0 → call_ring (as_call a) ring ≡ refused NoSuchNode

-- and so of what code returns that meets the contracts: the replies and the ring, each call on the ring that the one before returned
pub record CodeCommutes (code : Call → Ring → Step) (a b : Call) (ring : Ring) : Type 0 where
  pub first-reply : (code a (code b ring).ring).reply ≡ (code a ring).reply
  pub second-reply : (code b (code a ring).ring).reply ≡ (code b ring).reply
  pub same-ring : (code b (code a ring).ring).ring ≡ (code a (code b ring).ring).ring

abbrev pub ContractsCommute : Type 0
ContractsCommute =
    (code : Call → Ring → Step) → MeetsContracts code →
    (ring : Ring) (a b : Traffic) → Apart (count_of_nodes (view ring)) a b → CodeCommutes code (as_call a) (as_call b) ring
