-- Request N7 of document 02 (Commute), pinned down by worked pairs of entries and moves: what they answer and leave in either order, that the
-- condition matters, and that a sound ring does. Said of whatever answers ring calls, and asked of the ring in memory.
use Rattle.std.specs.Prelude.{ℕ, ◌≡◌, true, false, List, [], ◌∷◌, ◌++◌}
use Rattle.std.proofs.Math.Option.{Option, none, some}
use Rattle.refusal.specs.declared.Refusal.TheVariants.{UnsoundRing}
use Rattle.batch.specs.declared.BatchRecord.{BatchRecord}
use Rattle.numbers.specs.declared.NodeNo.{NodeNo}
use Rattle.numbers.specs.declared.ChannelNo.{ChannelNo}
use Rattle.network.specs.Network.{Network, NodeState, ChannelState, Phase, asking, answering, ring_of, node_no, count_of_nodes, node}
use Rattle.network.specs.Sound
use Rattle.network.specs.Calls.{Outcome, refused}
use Rattle.network.specs.Runs.{Call, receive, enter, move, call, run}
use Rattle.network.specs.Demand.{checked_call}
use Rattle.network.specs.Layout.{ring_limits, view, hold, call_ring}
use Rattle.network.specs.Answers.{Said, says, delivers, answers}
use Rattle.network.specs.Worked.Edges.{n0, n1, n2, c0, c1, c2, worked_record}
use Rattle.network.specs.Worked.Withdrawals.{ring_after, one_waits}
use Rattle.network.specs.Commute.{Traffic, entry_at, move_at, as_call, Touches, Apart, Commute, EndsCommute}

-- the turn case of document 01 after three receives and an entry: channel 0 is in the one slot of node 0, channel 2 in its line, channel 1 in
-- the line of node 1
abbrev pub turn_case : List Call
turn_case = one_waits ++ (receive c0 ∷ receive c1 ∷ receive c2 ∷ enter n0 ∷ [])

-- Four nodes of two slots, and two channels. In the buffers of nodes 0 and 2 there are messages one hop before their targets.
abbrev pub n3 : NodeNo
n3 = node_no 3

abbrev pub holding : List ChannelNo → NodeState
holding ks = record { slots = 2; buffer = ks; line = []; mark = false }

abbrev pub four_nodes : List ChannelNo → List ChannelNo → List ChannelState → ℕ → Network
four_nodes xs ys channels deliveries = ring_of true (holding xs ∷ holding [] ∷ holding ys ∷ holding [] ∷ []) channels deliveries

abbrev pub runs_from : NodeNo → NodeNo → Phase → Option BatchRecord → ChannelState
runs_from p q f o = record { sender = p; receiver = q; phase = f; offer = o }

-- two records, and the count of deliveries has one more to go
abbrev pub arriving : Network
arriving =
    four_nodes (c0 ∷ []) (c1 ∷ [])
    (runs_from n0 n1 (answering worked_record) none ∷ runs_from n2 n3 (answering worked_record) none ∷ []) 4294967294

-- a request for which a record is offered, and a record
abbrev pub meeting : Network
meeting =
    four_nodes (c0 ∷ []) (c1 ∷ [])
    (runs_from n1 n0 asking (some worked_record) ∷ runs_from n2 n3 (answering worked_record) none ∷ []) 0

-- not sound: one request, for which a record is offered, in both buffers, one hop before its sender and one hop before its receiver
abbrev pub stands_twice : Network
stands_twice = four_nodes (c0 ∷ []) (c0 ∷ []) (runs_from n1 n3 asking (some worked_record) ∷ []) 0

module _ {S : Type 0} (seen : S → Network) (step : Call → S → Outcome S) where
  -- a and b touch no common node; what they say, whichever comes first, and that they leave one ring
  pub record EitherWay (s : S) (a b : Traffic) (x y : Said) : Type 0 where
    pub no-common : Apart (count_of_nodes (seen s)) a b
    pub one-way : answers step (as_call a ∷ as_call b ∷ []) s ≡ x ∷ y ∷ []
    pub other_way : answers step (as_call b ∷ as_call a ∷ []) s ≡ y ∷ x ∷ []
    pub one-ring : run step (as_call a ∷ as_call b ∷ []) s ≡ run step (as_call b ∷ as_call a ∷ []) s

  -- An entry at node 1 and a move that leads there touch a common node. Both are accepted, whichever comes first, but the buffer is in the
  -- order of the calls: the condition matters.
  pub record OrderMatters (s : S) : Type 0 where
    pub entry-touches : Touches 3 (entry_at n1) n1
    pub move-touches : Touches 3 (move_at n0) n1
    pub entry_first : answers step (enter n1 ∷ move n0 ∷ []) s ≡ says 0 ∷ says 0 ∷ []
    pub move-first : answers step (move n0 ∷ enter n1 ∷ []) s ≡ says 0 ∷ says 0 ∷ []
    pub buffer-by-entry : (node (seen (run step (enter n1 ∷ move n0 ∷ []) s)) n1).buffer ≡ c1 ∷ c0 ∷ []
    pub buffer-by-move : (node (seen (run step (move n0 ∷ enter n1 ∷ []) s)) n1).buffer ≡ c0 ∷ c1 ∷ []

  -- turn, last, met: the rings of the turn case, of two records, and of a request and a record
  pub record WorkedPairs (turn last met : S) : Type 0 where
    pub two-entries : EitherWay turn (entry_at n0) (entry_at n1) (says 18) (says 0)
    pub entry-and-move : EitherWay turn (entry_at n2) (move_at n0) (says 17) (says 0)
    -- the mark of the next node is set, where channel 1 waits, and not that of its own, where channel 2 does
    pub mark_set : (node (seen (run step (enter n2 ∷ move n0 ∷ []) turn)) n1).mark ≡ true
    pub no-mark : (node (seen (run step (enter n2 ∷ move n0 ∷ []) turn)) n0).mark ≡ false
    pub no-such-node : EitherWay turn (entry_at n3) (move_at n0) (says 16) (says 0)
    pub order-matters : OrderMatters turn
    pub two-deliveries : EitherWay last (move_at n0) (move_at n2) (delivers c0 worked_record) (delivers c1 worked_record)
    pub count-at-end : (seen (run step (move n0 ∷ move n2 ∷ []) last)).deliveries ≡ 4294967295
    -- the response waits at the node that took the request
    pub taken-and-delivered : EitherWay met (move_at n0) (move_at n2) (says 0) (delivers c1 worked_record)
    pub answers-there : (node (seen (run step (move n0 ∷ move n2 ∷ []) met)) n1).line ≡ c0 ∷ []

-- of the ring in memory
pub record RingPairs : Type 0 where
  pub worked : WorkedPairs view call_ring (ring_after turn_case) (hold arriving) (hold meeting)
  pub not-in-either-order : Commute call_ring (enter n1) (move n0) (ring_after turn_case) → ⊥
  -- on one node all touch it, and on two nodes every two moves share both
  pub one-node : Apart 1 (entry_at n0) (move_at n0) → ⊥
  pub two-nodes : Apart 2 (move_at n0) (move_at n1) → ⊥

-- Without the test for 25 it is not so: where a message stands in two buffers, a move of one changes what a move of the other does.
pub record SoundMatters : Type 0 where
  pub not_sound : Sound.sound ring_limits stands_twice ≡ false
  pub with-25 : (a : Call) → checked_call ring_limits a stands_twice ≡ refused UnsoundRing
  pub without-25 : EndsCommute (λ σ. σ) (call ring_limits) → ⊥
