-- The ring of document 01 apart from how it is held in memory: nodes with a buffer and a line, channels with a phase and an offer.
-- Buffers and lines are lists of channel numbers, first come first. A node number and a channel number are two types, so that neither is
-- taken for the other. Nothing here knows how many nodes or channels there may be.
use Rattle.std.specs.Prelude.{ℕ, ◌+◌, Bool, true, false, List, [], ◌∷◌, ◌++◌, map, ltb, length, get_or, set}
use Rattle.std.proofs.Math.Option.{Option, none}
use Rattle.batch.specs.declared.BatchRecord.{BatchRecord}
use Rattle.numbers.specs.declared.NodeNo.{NodeNo}
use Rattle.numbers.specs.declared.ChannelNo.{ChannelNo}
pub use Rattle.numbers.specs.Numbers.{node_no, channel_no, same_node, same_channel}
use Rattle.hops.specs.Hops.{hops, next}
use Rattle.network.specs.Counting.{sum, count, without_first}

-- the numbers of a buffer or a line, and how many times channel k stands in it
abbrev pub numbers_of : List ChannelNo → List ℕ
numbers_of ks = map (λ (k : ChannelNo). k.0) ks

abbrev pub times_in : List ChannelNo → ChannelNo → ℕ
times_in ks k = count k.0 (numbers_of ks)

-- a line without channel k
abbrev pub without : ChannelNo → List ChannelNo → List ChannelNo
without k ks = without_first (λ j. same_channel j k) ks

-- Where a channel stands. Resting: nothing under way. Asking (document 01's word): its request is on the ring. Ready: the request
-- arrived and no record was offered. Answering: its response is on the ring, with the record carried.
pub data Phase : Type 0 where
  resting asking ready : Phase
  answering : BatchRecord → Phase

-- A node: how many slots its buffer has, the buffer, and two things that document 01 names: the line, its own messages that wait
-- to enter the buffer, and the turn mark, which lets the line go before passing traffic.
pub record NodeState : Type 0 where
  pub slots : ℕ
  pub buffer : List ChannelNo
  pub line : List ChannelNo
  pub mark : Bool

-- A channel: its two ends, its phase, and at most one offered record.
pub record ChannelState : Type 0 where
  pub sender : NodeNo
  pub receiver : NodeNo
  pub phase : Phase
  pub offer : Option BatchRecord

-- A ring. A message is known by its channel, which has at most one on the ring.
pub record Network : Type 0 where
  pub started : Bool
  pub nodes : List NodeState
  pub channels : List ChannelState
  pub deliveries : ℕ

abbrev pub ring_of : Bool → List NodeState → List ChannelState → ℕ → Network
ring_of a ns cs d = record { started = a; nodes = ns; channels = cs; deliveries = d }

-- A fresh ring has no node and no channel.
abbrev pub fresh : Network
fresh = ring_of false [] [] 0

-- n, c and b of document 01
abbrev pub count_of_nodes : Network → ℕ
count_of_nodes σ = length σ.nodes

abbrev pub count_of_channels : Network → ℕ
count_of_channels σ = length σ.channels

-- what is read of a node or a channel that there is not
abbrev pub no_node : NodeState
no_node = record { slots = 0; buffer = []; line = []; mark = false }

abbrev pub no_channel : ChannelState
no_channel = record { sender = node_no 0; receiver = node_no 0; phase = resting; offer = none }

abbrev pub node : Network → NodeNo → NodeState
node σ p = get_or σ.nodes p.0 no_node

abbrev pub channel : Network → ChannelNo → ChannelState
channel σ k = get_or σ.channels k.0 no_channel

-- whether there is such a node, or such a channel
abbrev pub is_node : Network → NodeNo → Bool
is_node σ p = ltb p.0 (count_of_nodes σ)

abbrev pub is_channel : Network → ChannelNo → Bool
is_channel σ k = ltb k.0 (count_of_channels σ)

abbrev pub slot_count : Network → ℕ
slot_count σ = sum (count_of_nodes σ) (λ p. (node σ (node_no p)).slots)

-- on n nodes: the next one round the ring, and the hops from one to another
abbrev pub next_on : ℕ → NodeNo → NodeNo
next_on n p = node_no (next n p.0)

abbrev pub hops_on : ℕ → NodeNo → NodeNo → ℕ
hops_on n p q = hops n p.0 q.0

abbrev pub next_node : Network → NodeNo → NodeNo
next_node σ p = next_on (count_of_nodes σ) p

-- the same ring but for node p: its buffer, its line and its turn mark are as given
abbrev pub with_node : NodeNo → List ChannelNo → List ChannelNo → Bool → Network → Network
with_node p xs ys m σ =
    ring_of σ.started
    (set σ.nodes p.0 (record { slots = (node σ p).slots; buffer = xs; line = ys; mark = m }))
    σ.channels
    σ.deliveries

-- the same ring but for channel k: its phase and its offer are as given
abbrev pub with_channel : ChannelNo → Phase → Option BatchRecord → Network → Network
with_channel k f o σ =
    ring_of σ.started σ.nodes
    (set σ.channels k.0 (record { sender = (channel σ k).sender; receiver = (channel σ k).receiver; phase = f; offer = o }))
    σ.deliveries

-- a new node comes after the others, with nothing in it; a new channel after the others, at rest
abbrev pub with_new_node : ℕ → Network → Network
with_new_node slots σ =
    ring_of σ.started
    (σ.nodes ++ (record { slots = slots; buffer = []; line = []; mark = false } ∷ []))
    σ.channels
    σ.deliveries

abbrev pub with_new_channel : NodeNo → NodeNo → Network → Network
with_new_channel sender receiver σ =
    ring_of σ.started σ.nodes
    (σ.channels ++ (record { sender = sender; receiver = receiver; phase = resting; offer = none } ∷ []))
    σ.deliveries

abbrev pub with_started : Bool → Network → Network
with_started b σ = ring_of b σ.nodes σ.channels σ.deliveries

abbrev pub with_deliveries : ℕ → Network → Network
with_deliveries d σ = ring_of σ.started σ.nodes σ.channels d

-- a channel's message is on the ring: in a line or a buffer
abbrev pub moving : Phase → Bool
moving resting = false
moving asking = true
moving ready = false
moving (answering x) = true

-- A request goes from the receiver to the sender, a response from the sender to the receiver: the end of a channel from which its
-- message comes. With the ends exchanged it is the one to which the message goes.
abbrev pub from_end : {A : Type 0} → Phase → A → A → A
from_end resting sender receiver = receiver
from_end asking sender receiver = receiver
from_end ready sender receiver = sender
from_end (answering x) sender receiver = sender

-- the node at which a channel's message enters the ring, and the node that takes it
abbrev pub entry_of : ChannelState → Phase → NodeNo
entry_of s f = from_end f s.sender s.receiver

abbrev pub target_of : ChannelState → Phase → NodeNo
target_of s f = from_end f s.receiver s.sender

abbrev pub entry : Network → ChannelNo → NodeNo
entry σ k = entry_of (channel σ k) (channel σ k).phase

abbrev pub target : Network → ChannelNo → NodeNo
target σ k = target_of (channel σ k) (channel σ k).phase

-- how many times channel k stands in lines and buffers
abbrev pub times_on : Network → ChannelNo → ℕ
times_on σ k = sum (count_of_nodes σ) (λ p. times_in (node σ (node_no p)).buffer k + times_in (node σ (node_no p)).line k)
