-- Withdraw (document 02), pinned down by worked lists: what withdrawals answer and what they leave, of the ring in memory, and what is
-- counted, where each list gives a wrong count away; what refusal 28 means; and the claim that demand 3 needs its exception, the matched
-- pair that is withdrawn.
use Rattle.std.specs.Prelude.{ℕ, ◌<◌, ◌≡◌, ◌⊎◌, ◌↔◌, Bool, true, false, List, [], ◌∷◌, ◌++◌, map, replicate}
use Rattle.std.proofs.Math.Option.{some}
use Rattle.batch.specs.declared.BatchRecord.{BatchRecord}
use Rattle.numbers.specs.declared.NodeNo.{NodeNo}
use Rattle.numbers.specs.declared.ChannelNo.{ChannelNo}
use Rattle.network.specs.declared.Ring.{Ring}
use Rattle.network.specs.Counting.{times}
use Rattle.network.specs.Network.{Network, fresh, channel_no, times_in, node, channel, is_node, is_channel}
use Rattle.network.specs.Sound.{Limits, is_asking, sound}
use Rattle.network.specs.Calls.{in_receiver_line}
use Rattle.network.specs.Runs.{Call, start, receive, send, enter, move, withdraw, Deed, received, withdrew, stepped, silent, withdrawn, count_of, call, run, counted, matched, bound}
use Rattle.network.specs.Layout.{ring_limits, view, fresh_ring, call_ring}
use Rattle.network.specs.Answers.{Said, says, delivers, answers}
use Rattle.network.specs.Demand.{InTime, UnderWay}
use Rattle.network.specs.Worked.Edges.{Ends, ends, plan, n0, n1, c0, c1, c2, worked_record}

abbrev pub c3 : ChannelNo
c3 = channel_no 3

-- a plan, started
abbrev pub begin : List ℕ → List Ends → List Call
begin slots ends = plan slots ends ++ (start ∷ [])

-- the ring in memory after these calls, from a fresh one; and what further calls answer there, and how many of them are counted
abbrev pub ring_after : List Call → Ring
ring_after before = run call_ring before fresh_ring

pub record WorkedList (before calls : List Call) (said : List Said) : Type 0 where
  pub is-answered : answers call_ring calls (ring_after before) ≡ said

pub record WorkedCount (before calls : List Call) (n : ℕ) : Type 0 where
  pub is-counted : counted call_ring calls (ring_after before) ≡ n

-- The plans: a channel from node 1 to node 0; three same-node channels; requests that pass a node where others wait, one or two; and two
-- same-node channels, P2 of document 01.
abbrev pub one_way : List Call
one_way = begin (1 ∷ 2 ∷ []) (ends 1 0 ∷ [])

abbrev pub three_here : List Call
three_here = begin (4 ∷ []) (ends 0 0 ∷ ends 0 0 ∷ ends 0 0 ∷ [])

abbrev pub one_waits : List Call
one_waits = begin (1 ∷ 2 ∷ 1 ∷ []) (ends 2 0 ∷ ends 2 1 ∷ ends 2 0 ∷ [])

abbrev pub two_wait : List Call
two_wait = begin (1 ∷ 3 ∷ 1 ∷ []) (ends 2 0 ∷ ends 2 1 ∷ ends 2 1 ∷ ends 2 0 ∷ [])

abbrev pub two_same : List Call
two_same = begin (1 ∷ 2 ∷ []) (ends 0 0 ∷ ends 1 1 ∷ [])

-- a request taken out from between two others, and then entries
abbrev pub from_between : List Call
from_between = receive c0 ∷ receive c1 ∷ receive c2 ∷ withdraw c1 ∷ enter n0 ∷ enter n0 ∷ enter n0 ∷ []

pub record WithdrawalsAnswer : Type 0 where
  -- 8 before 9, and 9 before 27
  pub not-started : WorkedList (plan (1 ∷ 2 ∷ []) (ends 1 0 ∷ [])) (withdraw c0 ∷ withdraw c1 ∷ []) (map says (8 ∷ 8 ∷ []))
  pub no-channel : WorkedList one_way (withdraw c1 ∷ withdraw (channel_no 255) ∷ withdraw c0 ∷ []) (map says (9 ∷ 9 ∷ 27 ∷ []))
  -- a request is withdrawn once, and then the channel rests
  pub once : WorkedList one_way (receive c0 ∷ withdraw c0 ∷ withdraw c0 ∷ receive c0 ∷ []) (map says (0 ∷ 0 ∷ 27 ∷ 0 ∷ []))
  -- 28 while the request is in a buffer; 27 once the channel is ready
  pub in-buffer :
      WorkedList one_way (receive c0 ∷ enter n0 ∷ withdraw c0 ∷ move n0 ∷ withdraw c0 ∷ []) (map says (0 ∷ 0 ∷ 28 ∷ 0 ∷ 27 ∷ []))
  -- the offer stays, so that a second is refused with 15 and the next receive is matched; 27 while it is answered; the record comes out
  pub offer-stays :
      WorkedList one_way
      (send c0 worked_record ∷ receive c0 ∷ withdraw c0 ∷ send c0 worked_record ∷ receive c0 ∷ enter n0 ∷ move n0 ∷ withdraw c0
      ∷ enter n1 ∷ move n1 ∷ [])
      (map says (0 ∷ 0 ∷ 0 ∷ 15 ∷ 0 ∷ 0 ∷ 0 ∷ 27 ∷ 0 ∷ []) ++ (delivers c0 worked_record ∷ []))
  -- the others keep their order
  pub others-stay : WorkedList three_here from_between (map says (0 ∷ 0 ∷ 0 ∷ 0 ∷ 0 ∷ 0 ∷ 17 ∷ []))
  pub in_order : (node (view (ring_after (three_here ++ from_between))) n0).buffer ≡ c0 ∷ c2 ∷ []
  -- the turn mark goes with the last of the line: what waited for it may pass
  pub mark-goes :
      WorkedList one_waits
      (receive c0 ∷ receive c1 ∷ receive c2 ∷ enter n0 ∷ move n0 ∷ enter n0 ∷ move n0 ∷ withdraw c1 ∷ move n0 ∷ [])
      (map says (0 ∷ 0 ∷ 0 ∷ 0 ∷ 0 ∷ 0 ∷ 21 ∷ 0 ∷ 0 ∷ []))
  -- and stays while another waits there, though the first was taken out
  pub mark-stays :
      WorkedList two_wait
      (receive c0 ∷ receive c1 ∷ receive c2 ∷ enter n0 ∷ move n0 ∷ withdraw c1 ∷ receive c3 ∷ enter n0 ∷ move n0 ∷ withdraw c2
      ∷ move n0 ∷ [])
      (map says (0 ∷ 0 ∷ 0 ∷ 0 ∷ 0 ∷ 0 ∷ 0 ∷ 0 ∷ 21 ∷ 0 ∷ 0 ∷ []))

-- A matched pair on channel 0 of P2. With nothing else on the ring its request and its response go once round each: six counted calls
-- of the 156 that are allowed.
abbrev pub matched_pair : List Call
matched_pair = two_same ++ (send c0 worked_record ∷ receive c0 ∷ [])

abbrev pub once_round : List Call
once_round = enter n0 ∷ move n0 ∷ move n1 ∷ []

-- Meanwhile the task of channel 1 asks and gives up a thousand times.
abbrev pub giving_up : List Call
giving_up = times 1000 (receive c1 ∷ withdraw c1 ∷ []) ++ once_round ++ once_round

-- Or its request, made before the run, is withdrawn once and made anew; the response of channel 0 waits for it.
abbrev pub asking_anew : List Call
asking_anew =
    withdraw c1 ∷ receive c1 ∷ enter n0 ∷ move n0 ∷ move n1 ∷ enter n0 ∷ move n0 ∷ enter n1 ∷ move n0 ∷ move n1 ∷ move n1 ∷ []

-- Or it asks just before the record is delivered, and gives up after.
abbrev pub asking_late : List Call
asking_late = once_round ++ (enter n0 ∷ move n0 ∷ receive c1 ∷ move n1 ∷ [])

pub record CallsCounted : Type 0 where
  pub allowed : bound (view (ring_after matched_pair)) ≡ 156
  -- not 1006, as where a receive that is undone is counted, nor 2006, as where its withdrawal is too
  pub given-up : WorkedCount matched_pair giving_up 6
  pub given-up-answers : WorkedList matched_pair giving_up (map says (replicate 2005 0) ++ (delivers c0 worked_record ∷ []))
  -- not 8, as where a withdrawal takes any receive on its channel off the count; the refused move is not counted
  pub asked-anew : WorkedCount (matched_pair ++ (receive c1 ∷ [])) asking_anew 9
  pub asked-anew-answers :
      WorkedList (matched_pair ++ (receive c1 ∷ [])) asking_anew
      (map says (0 ∷ 0 ∷ 0 ∷ 0 ∷ 0 ∷ 0 ∷ 21 ∷ 0 ∷ 0 ∷ 0 ∷ []) ++ (delivers c0 worked_record ∷ []))
  -- not 6 up to the delivery, as where a receive is left out that is undone only later
  pub asked-late : WorkedCount matched_pair asking_late 7
  pub asked-late-answers :
      WorkedList matched_pair (asking_late ++ (withdraw c1 ∷ [])) (map says (replicate 6 0) ++ (delivers c0 worked_record ∷ says 0 ∷ []))
  pub asked-late-undone : WorkedCount matched_pair (asking_late ++ (withdraw c1 ∷ [])) 6
  -- not 1, as where a withdrawal that is refused, here with 28, undoes the receive
  pub refused-withdrawal : WorkedCount one_way (receive c0 ∷ enter n0 ∷ withdraw c0 ∷ []) 2
  -- not 1, as where a withdrawal undoes the call of receive before it, here one that is refused with 10
  pub refused-receive : WorkedCount one_way (receive c0 ∷ receive c0 ∷ withdraw c0 ∷ []) 0

pub record DeedsCounted : Type 0 where
  -- not 0, as where no receive on a channel is counted that is withdrawn, nor 2, as where each is
  pub anew : count_of (received c1 ∷ withdrew c1 ∷ received c1 ∷ []) ≡ 1
  -- not 0, as where each withdrawal takes 1 off: the first undoes no receive of the run
  pub stood-before : count_of (withdrew c1 ∷ received c1 ∷ stepped ∷ withdrew c1 ∷ []) ≡ 1
  -- not 1, as where a withdrawal undoes all the receives on its channel before it: the first was answered
  pub last-alone : count_of (received c1 ∷ stepped ∷ received c1 ∷ withdrew c1 ∷ []) ≡ 2
  -- not 0, as where a withdrawal undoes the receive before it, whatever the channel
  pub other-channel : count_of (received c0 ∷ withdrew c1 ∷ []) ≡ 1
  -- not 3, as where nothing, or nothing but steps, may stand between a receive and its withdrawal
  pub in_between : count_of (received c0 ∷ received c1 ∷ stepped ∷ silent ∷ withdrew c0 ∷ withdrew c1 ∷ []) ≡ 1

abbrev pub Withdrawn : List Deed → Bool → Type 0
Withdrawn ds b = withdrawn c0 ds ≡ b

-- whether a request that stands on channel 0 is withdrawn
pub record PairWithdrawn : Type 0 where
  pub kept : Withdrawn [] false
  pub later : Withdrawn (received c1 ∷ stepped ∷ silent ∷ withdrew c0 ∷ []) true
  pub other-channel : Withdrawn (withdrew c1 ∷ []) false
  -- a request made anew is another, and so is its withdrawal
  pub though-anew : Withdrawn (withdrew c0 ∷ received c0 ∷ []) true
  pub next_one : Withdrawn (stepped ∷ received c0 ∷ withdrew c0 ∷ []) false

-- Refusal 28 means what document 02 says: while a channel of a sound started ring is asking, its request is not in its receiver's line
-- exactly where it is in a buffer.
pub record InBuffer (σ : Network) (k : ChannelNo) : Type 0 where
  pub at : NodeNo
  pub there : is_node σ at ≡ true
  pub stands : 0 < times_in (node σ at).buffer k

abbrev pub Means28 : Type 0
Means28 =
    (L : Limits) (σ : Network) (k : ChannelNo) → sound L σ ≡ true → σ.started ≡ true → is_channel σ k ≡ true →
    is_asking (channel σ k).phase ≡ true → (in_receiver_line σ k ≡ false) ↔ InBuffer σ k

-- Demand 3's `Served` of the definitions without its exception is false: with the one matched pair withdrawn, nothing is delivered, and no
-- entry and no move would be accepted next.
abbrev pub ServedAlways : Type 0
ServedAlways =
    (σ : Network) (m : ChannelNo) (x : BatchRecord) (calls : List Call) →
    sound ring_limits σ ≡ true → σ.started ≡ true → matched σ m ≡ some x →
    InTime fresh (sound ring_limits) (λ τ. τ) (call ring_limits) σ m x calls
    ⊎ UnderWay fresh (sound ring_limits) (λ τ. τ) (call ring_limits) σ m calls

abbrev pub ExceptionNeeded : Type 0
ExceptionNeeded = ServedAlways → ⊥
