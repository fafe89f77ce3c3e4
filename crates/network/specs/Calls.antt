-- The nine ring calls of document 01, "Steps" and "Refusal by operation", and withdraw of document 02: each is a function of its operands
-- and the ring, and answers the first refusal that applies, or is accepted with an answer and the next ring. That an unsound ring is
-- refused before all others is said once, where a ring in memory is called (Layout).
use Rattle.std.specs.Prelude.{ℕ, zero, suc, ◌+◌, ◌*◌, ◌^◌, Bool, true, false, cond, ◌&&◌, ◌||◌, not, List, [], ◌∷◌, ◌++◌, leb, ltb, length}
use Rattle.std.specs.Prelude.{Ok, Err}
use Rattle.std.proofs.Math.Option.{Option, none, some}
use Rattle.refusal.specs.declared.Refusal.{Refusal}
use Rattle.refusal.specs.declared.Refusal.TheVariants.{AlreadyStarted, NodesFull, BadSlots, ChannelsFull, NoSuchEnd, NothingToStart, TooFewSlots, NotStarted, NoSuchChannel, NotResting, AlreadyOffered, NoSuchNode, LineEmpty, NoFreeSlot, BufferEmpty, NextBufferFull, TurnMarkSet, NotAsking, RequestInBuffer}
use Rattle.refusal.specs.Number.{Verdict}
use Rattle.batch.specs.declared.BatchRecord.{BatchRecord}
use Rattle.batch.specs.Good.{send_verdict}
pub use Rattle.batch.specs.Good.{unless}
use Rattle.numbers.specs.declared.NodeNo.{NodeNo}
use Rattle.numbers.specs.declared.ChannelNo.{ChannelNo}
use Rattle.network.specs.Counting.{one, sum, occupied}
use Rattle.network.specs.Network.{Network, ChannelState, Phase, resting, asking, ready, answering, count_of_nodes, count_of_channels, slot_count, node_no, channel_no, same_node, times_in, without, node, channel, is_node, is_channel, next_node, hops_on, target, with_node, with_channel, with_new_node, with_new_channel, with_started, with_deliveries}
use Rattle.network.specs.Sound.{Limits, next_count, absent, is_resting, is_asking, is_ready}

-- what an accepted call answers: nothing more, a delivery with its channel and record, hops left, or a waiting set
pub data Event : Type 0 where
  done : Event
  delivered : ChannelNo → BatchRecord → Event
  hops_are : ℕ → Event
  waiting_are : ℕ → Event

-- the delivery in an answer, if it has one: the channel and the record
pub record Delivery : Type 0 where
  pub channel : ChannelNo
  pub «record» : BatchRecord

abbrev pub delivery_in : Event → Option Delivery
delivery_in done = none
delivery_in (delivered k x) = some (record { channel = k; «record» = x })
delivery_in (hops_are h) = none
delivery_in (waiting_are w) = none

-- a call is refused with one of the numbered refusals, or accepted with its answer and the next ring
pub data Outcome (S : Type 0) : Type 0 where
  refused : Refusal → Outcome S
  accepted : Event → S → Outcome S

-- channel k joins the line of node p
abbrev pub join_line : NodeNo → ChannelNo → Network → Network
join_line p k σ = with_node p (node σ p).buffer ((node σ p).line ++ (k ∷ [])) (node σ p).mark σ

-- the channel becomes asking, and its request joins the receiver node's line
abbrev pub request : ChannelNo → Network → Network
request k σ = join_line (channel σ k).receiver k (with_channel k asking (channel σ k).offer σ)

-- the channel becomes answering, and the record x leaves the offer and joins the sender node's line as the response
abbrev pub respond : ChannelNo → BatchRecord → Network → Network
respond k x σ = join_line (channel σ k).sender k (with_channel k (answering x) none σ)

-- channel k leaves the line of node p, and the turn mark is cleared if that leaves the line empty
abbrev pub leave_line : NodeNo → ChannelNo → Network → Network
leave_line p k σ =
    with_node p (node σ p).buffer (without k (node σ p).line) ((node σ p).mark && occupied (without k (node σ p).line)) σ

-- the request leaves the receiver node's line and the channel rests; a record that is offered stays offered
abbrev pub take_back : ChannelNo → Network → Network
take_back k σ = with_channel k resting (channel σ k).offer (leave_line (channel σ k).receiver k σ)

-- channel k stands in the line of its receiver node
abbrev pub in_receiver_line : Network → ChannelNo → Bool
in_receiver_line σ k = ltb 0 (times_in (node σ (channel σ k).receiver).line k)

-- what a node q does with a message that reaches it: a request for which it is the sender node is taken, a response for which it is
-- the receiver node is delivered, anything else passes into its buffer
pub data Arrival : Type 0 where
  taken passing : Arrival
  arrived : BatchRecord → Arrival

abbrev pub arrival_of : Phase → Bool → Arrival
arrival_of resting here = passing
arrival_of asking here = cond here taken passing
arrival_of ready here = passing
arrival_of (answering x) here = cond here (arrived x) passing

unfoldable pub arrival : Network → NodeNo → ChannelNo → Arrival
arrival σ q k = arrival_of (channel σ k).phase (same_node q (target σ k))

-- a request is taken without a slot: the channel becomes ready, or, with a record offered, answering
abbrev pub take_request : ChannelNo → Option BatchRecord → Network → Network
take_request k none σ = with_channel k ready none σ
take_request k (some x) σ = respond k x σ

-- a response is delivered without a slot: the channel rests and the count rises
abbrev pub deliver : ChannelNo → Network → Network
deliver k σ = with_deliveries (next_count σ.deliveries) (with_channel k resting (channel σ k).offer σ)

-- the message leaves the buffer of p, where ks stay behind
abbrev pub leave : NodeNo → List ChannelNo → Network → Network
leave p ks σ = with_node p ks (node σ p).line (node σ p).mark σ

-- a passing message goes to the end of the buffer of q; if the line of q is not empty, its turn mark is set
abbrev pub pass : NodeNo → ChannelNo → Network → Network
pass q k σ =
    with_node q ((node σ q).buffer ++ (k ∷ [])) (node σ q).line ((node σ q).mark || occupied (node σ q).line) σ

abbrev pub has_slot : Network → NodeNo → Bool
has_slot σ p = ltb (length (node σ p).buffer) (node σ p).slots

-- the first of a line goes to the end of the buffer, and the turn mark is cleared
abbrev pub enter_first : NodeNo → List ChannelNo → Network → Outcome Network
enter_first p [] σ = refused LineEmpty
enter_first p (k ∷ ks) σ =
    unless (has_slot σ p) (refused NoFreeSlot)
    (accepted done (with_node p ((node σ p).buffer ++ (k ∷ [])) ks false σ))

-- message k goes from the buffer of p, where ks stay behind, to node q
abbrev pub hand_over : NodeNo → NodeNo → ChannelNo → List ChannelNo → Arrival → Network → Outcome Network
hand_over p q k ks taken σ = accepted done (take_request k (channel σ k).offer (leave p ks σ))
hand_over p q k ks (arrived x) σ = accepted (delivered k x) (deliver k (leave p ks σ))
hand_over p q k ks passing σ =
    unless (has_slot σ q) (refused NextBufferFull)
    (unless (not (node σ q).mark) (refused TurnMarkSet)
    (accepted done (pass q k (leave p ks σ))))

abbrev pub move_first : NodeNo → List ChannelNo → Network → Outcome Network
move_first p [] σ = refused BufferEmpty
move_first p (k ∷ ks) σ = hand_over p (next_node σ p) k ks (arrival σ (next_node σ p) k) σ

-- Send offers the record. If the channel is ready, the record leaves the offer at once as the response.
abbrev pub offer_to : ChannelNo → BatchRecord → Network → Network
offer_to k x σ = cond (is_ready (channel σ k).phase) (respond k x σ) (with_channel k (channel σ k).phase (some x) σ)

-- a bad record is refused with its own number
abbrev pub if_good : Verdict → Outcome Network → Outcome Network
if_good (Ok u) o = o
if_good (Err r) o = refused r

-- the node in whose buffer channel k stands, if it stands in one of the first n
unfoldable pub holder : Network → ChannelNo → ℕ → Option NodeNo
holder σ k zero = none
holder σ k (suc p) = cond (ltb 0 (times_in (node σ (node_no p)).buffer k)) (some (node_no p)) (holder σ k p)

-- Hops left, document 01, by phase and by where the message stands: in a line (none) or in the buffer of p
abbrev pub hops_left_of : ℕ → ChannelState → Phase → Option NodeNo → ℕ
hops_left_of n s resting at = 0
hops_left_of n s ready at = hops_on n s.sender s.receiver
hops_left_of n s asking none = hops_on n s.receiver s.sender + hops_on n s.sender s.receiver
hops_left_of n s asking (some p) = hops_on n p s.sender + hops_on n s.sender s.receiver
hops_left_of n s (answering x) none = hops_on n s.sender s.receiver
hops_left_of n s (answering x) (some p) = hops_on n p s.receiver

unfoldable pub hops_of : Network → ChannelNo → ℕ
hops_of σ k = hops_left_of (count_of_nodes σ) (channel σ k) (channel σ k).phase (holder σ k (count_of_nodes σ))

-- a channel whose receiver is node p and that is not resting; and all these as a set of bits, channel 0 being the lowest
abbrev pub waits : NodeNo → ChannelState → Bool
waits p s = same_node s.receiver p && not (is_resting s.phase)

unfoldable pub waiting_of : Network → NodeNo → ℕ
waiting_of σ p =
    sum (count_of_channels σ) (λ k. 2 ^ k * one (waits p (channel σ (channel_no k))))

-- The calls. Each line is a refusal in the order of document 01: go on where the test passes, else refuse.
module _ (L : Limits) where
  unfoldable pub add_node : ℕ → Network → Outcome Network
  add_node slots σ =
      unless (not σ.started) (refused AlreadyStarted)
      (unless (ltb (count_of_nodes σ) L.nodes) (refused NodesFull)
      (unless (leb 1 slots && leb slots L.slots) (refused BadSlots)
      (accepted done (with_new_node slots σ))))

  unfoldable pub add_channel : NodeNo → NodeNo → Network → Outcome Network
  add_channel sender receiver σ =
      unless (not σ.started) (refused AlreadyStarted)
      (unless (ltb (count_of_channels σ) L.channels) (refused ChannelsFull)
      (unless (is_node σ sender && is_node σ receiver) (refused NoSuchEnd)
      (accepted done (with_new_channel sender receiver σ))))

unfoldable pub start : Network → Outcome Network
start σ =
    unless (not σ.started) (refused AlreadyStarted)
    (unless (leb 1 (count_of_nodes σ) && leb 1 (count_of_channels σ)) (refused NothingToStart)
    (unless (ltb (count_of_channels σ) (slot_count σ)) (refused TooFewSlots)
    (accepted done (with_started true σ))))

-- Receive on a resting channel: it becomes asking, and its request joins the receiver node's line.
unfoldable pub receive : ChannelNo → Network → Outcome Network
receive k σ =
    unless σ.started (refused NotStarted)
    (unless (is_channel σ k) (refused NoSuchChannel)
    (unless (is_resting (channel σ k).phase) (refused NotResting)
    (accepted done (request k σ))))

unfoldable pub send : ChannelNo → BatchRecord → Network → Outcome Network
send k x σ =
    unless σ.started (refused NotStarted)
    (unless (is_channel σ k) (refused NoSuchChannel)
    (if_good (send_verdict x)
    (unless (absent (channel σ k).offer) (refused AlreadyOffered)
    (accepted done (offer_to k x σ)))))

unfoldable pub enter : NodeNo → Network → Outcome Network
enter p σ =
    unless σ.started (refused NotStarted)
    (unless (is_node σ p) (refused NoSuchNode)
    (enter_first p (node σ p).line σ))

unfoldable pub move : NodeNo → Network → Outcome Network
move p σ =
    unless σ.started (refused NotStarted)
    (unless (is_node σ p) (refused NoSuchNode)
    (move_first p (node σ p).buffer σ))

-- Withdraw on an asking channel whose request still stands in its receiver's line: the request is taken back.
unfoldable pub withdraw : ChannelNo → Network → Outcome Network
withdraw k σ =
    unless σ.started (refused NotStarted)
    (unless (is_channel σ k) (refused NoSuchChannel)
    (unless (is_asking (channel σ k).phase) (refused NotAsking)
    (unless (in_receiver_line σ k) (refused RequestInBuffer)
    (accepted done (take_back k σ)))))

unfoldable pub hops_left : ChannelNo → Network → Outcome Network
hops_left k σ =
    unless σ.started (refused NotStarted)
    (unless (is_channel σ k) (refused NoSuchChannel)
    (accepted (hops_are (hops_of σ k)) σ))

unfoldable pub waiting_set : NodeNo → Network → Outcome Network
waiting_set p σ = unless (is_node σ p) (refused NoSuchNode) (accepted (waiting_are (waiting_of σ p)) σ)
