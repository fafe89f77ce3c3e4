-- How a ring lies in memory, and the ring calls on it. `view` reads the ring off its arrays, `hold` lays one out; the definitions
-- above know nothing of cells. Only this file knows how many nodes, channels and cells the arrays have room for.
use Rattle.std.specs.Prelude.{ℕ, zero, suc, pred, ◌+◌, ◌*◌, Bool, true, false, cond, ◌&&◌, List, [], ◌∷◌, ◌++◌, map, eqb, length, get_or, take, drop, replicate}
use Rattle.std.proofs.Math.Option.{Option, none, some}
use Rattle.refusal.specs.declared.Refusal.TheVariants.{UnsoundRing}
use Rattle.batch.specs.declared.BatchRecord.{BatchRecord}
use Rattle.numbers.specs.declared.ChannelNo.{ChannelNo}
use Rattle.wire.specs.Record.{record_length, record_bytes, record_in}
use Rattle.network.specs.declared.Ring.{Ring}
use Rattle.network.specs.declared.Head.{Head}
use Rattle.network.specs.declared.Step.{Step}
use Rattle.network.specs.Counting.{one, tabulate}
use Rattle.network.specs.Network.{Network, NodeState, ChannelState, Phase, resting, asking, ready, answering, ring_of, node_no, channel_no, node, channel}
use Rattle.network.specs.Sound.{Limits}
use Rattle.network.specs.Sound
use Rattle.network.specs.Calls.{Outcome, refused, accepted, unless}
use Rattle.network.specs.Runs.{Call, call}
use Rattle.network.specs.Answers.{Reply, step_of, reply_of}

-- the limits of this ring
abbrev pub ring_limits : Limits
ring_limits = record { nodes = 16; channels = 64; slots = 64 }

-- the sizes of the arrays: room for so many nodes and channels, the cells of a node's row, all cells, the bytes of all records
abbrev pub node_room : ℕ
node_room = 16

abbrev pub channel_room : ℕ
channel_room = 64

abbrev pub row_length : ℕ
row_length = 64

abbrev pub cell_room : ℕ
cell_room = row_length * node_room

abbrev pub record_room : ℕ
record_room = record_length * channel_room

-- rows of so many cells each: row p, a list made as long as a row by zeros, and the rows 0 to n - 1 one after the other
unfoldable pub row : ℕ → List ℕ → ℕ → List ℕ
row width cells p = take width (drop (width * p) cells)

unfoldable pub padded : ℕ → List ℕ → List ℕ
padded width xs = take width (xs ++ replicate width 0)

unfoldable pub rows : ℕ → ℕ → (ℕ → List ℕ) → List ℕ
rows width zero f = []
rows width (suc n) f = rows width n f ++ padded width (f n)

-- Node p's rows hold its buffer and its line: a used cell holds channel number + 1, oldest first.
abbrev pub cells_of : List ChannelNo → List ℕ
cells_of ks = map (λ (k : ChannelNo). suc k.0) ks

abbrev pub queue_of : ℕ → List ℕ → List ChannelNo
queue_of used cells = map (λ cell. channel_no (pred cell)) (take used cells)

-- the numbers of the phases
abbrev pub resting_code : ℕ
resting_code = 0

abbrev pub asking_code : ℕ
asking_code = 1

abbrev pub ready_code : ℕ
ready_code = 2

abbrev pub answering_code : ℕ
answering_code = 3

-- the numbers that stand for a phase, with the record that is carried
abbrev pub phase_code : Phase → ℕ
phase_code resting = resting_code
phase_code asking = asking_code
phase_code ready = ready_code
phase_code (answering x) = answering_code

abbrev pub phase_of : ℕ → BatchRecord → Phase
phase_of code carried =
    cond (eqb code resting_code) resting (cond (eqb code asking_code) asking (cond (eqb code ready_code) ready (answering carried)))

-- the number that stands for an offer, with the record that is offered
abbrev pub offered_flag : Option BatchRecord → ℕ
offered_flag none = 0
offered_flag (some x) = 1

abbrev pub offer_of : ℕ → BatchRecord → Option BatchRecord
offer_of flag offer = cond (eqb flag 1) (some offer) none

-- channel k's record, in the bytes that it has on a tape too
abbrev pub record_at : List ℕ → ℕ → BatchRecord
record_at records k = record_in (row record_length records k)

-- reading a ring off its arrays

abbrev pub view_node : Ring → ℕ → NodeState
view_node ring p =
    record {
      slots = get_or ring.head.capacity p 0;
      buffer = queue_of (get_or ring.head.used p 0) (row row_length ring.slots p);
      line = queue_of (get_or ring.head.waiting p 0) (row row_length ring.lines p);
      mark = eqb (get_or ring.head.marks p 0) 1;
    }

abbrev pub view_channel : Ring → ℕ → ChannelState
view_channel ring k =
    record {
      sender = node_no (get_or ring.head.senders k 0);
      receiver = node_no (get_or ring.head.receivers k 0);
      phase = phase_of (get_or ring.head.phases k 0) (record_at ring.carried k);
      offer = offer_of (get_or ring.head.offered k 0) (record_at ring.offers k);
    }

unfoldable pub view : Ring → Network
view ring =
    ring_of (eqb ring.head.started 1)
    (tabulate ring.head.node_count (view_node ring))
    (tabulate ring.head.channel_count (view_channel ring))
    ring.head.deliveries

-- laying a ring out

-- the bytes of a record that is there, and none where there is none, which leaves a row of zeros
abbrev pub offer_bytes : Option BatchRecord → List ℕ
offer_bytes none = []
offer_bytes (some x) = record_bytes x

abbrev pub carried_bytes : Phase → List ℕ
carried_bytes resting = []
carried_bytes asking = []
carried_bytes ready = []
carried_bytes (answering x) = record_bytes x

-- a number for each node and for each channel; what there is not reads as nothing, so as 0
abbrev pub by_node : Network → (NodeState → ℕ) → List ℕ
by_node σ f = tabulate node_room (λ p. f (node σ (node_no p)))

abbrev pub by_channel : Network → (ChannelState → ℕ) → List ℕ
by_channel σ f = tabulate channel_room (λ k. f (channel σ (channel_no k)))

unfoldable pub hold_head : Network → Head
hold_head σ =
    record {
      deliveries = σ.deliveries;
      started = one σ.started;
      node_count = length σ.nodes;
      channel_count = length σ.channels;
      spare = 0;
      capacity = by_node σ (λ s. s.slots);
      used = by_node σ (λ s. length s.buffer);
      waiting = by_node σ (λ s. length s.line);
      marks = by_node σ (λ s. one s.mark);
      senders = by_channel σ (λ s. s.sender.0);
      receivers = by_channel σ (λ s. s.receiver.0);
      phases = by_channel σ (λ s. phase_code s.phase);
      offered = by_channel σ (λ s. offered_flag s.offer);
    }

unfoldable pub hold : Network → Ring
hold σ =
    record {
      head = hold_head σ;
      slots = rows row_length node_room (λ p. cells_of (node σ (node_no p)).buffer);
      lines = rows row_length node_room (λ p. cells_of (node σ (node_no p)).line);
      offers = rows record_length channel_room (λ k. offer_bytes (channel σ (channel_no k)).offer);
      carried = rows record_length channel_room (λ k. carried_bytes (channel σ (channel_no k)).phase);
    }

-- A fresh ring has no node, no channel and all 1,024 slot cells empty.
abbrev pub fresh_head : Head
fresh_head =
    record {
      deliveries = 0;
      started = 0;
      node_count = 0;
      channel_count = 0;
      spare = 0;
      capacity = replicate node_room 0;
      used = replicate node_room 0;
      waiting = replicate node_room 0;
      marks = replicate node_room 0;
      senders = replicate channel_room 0;
      receivers = replicate channel_room 0;
      phases = replicate channel_room 0;
      offered = replicate channel_room 0;
    }

abbrev pub fresh_ring : Ring
fresh_ring =
    record {
      head = fresh_head;
      slots = replicate 1024 0;
      lines = replicate cell_room 0;
      offers = replicate record_room 0;
      carried = replicate record_room 0;
    }

-- Laid out as it should be: what is read off the ring, laid out again, is this ring, number for number. So flags and phases are in
-- range, and every cell and byte that holds nothing is zero.

unfoldable pub same : List ℕ → List ℕ → Bool
same [] [] = true
same [] (y ∷ ys) = false
same (x ∷ xs) [] = false
same (x ∷ xs) (y ∷ ys) = eqb x y && same xs ys

unfoldable pub same_head : Head → Head → Bool
same_head a b =
    eqb a.deliveries b.deliveries
    && eqb a.started b.started
    && eqb a.node_count b.node_count
    && eqb a.channel_count b.channel_count
    && eqb a.spare b.spare
    && same a.capacity b.capacity
    && same a.used b.used
    && same a.waiting b.waiting
    && same a.marks b.marks
    && same a.senders b.senders
    && same a.receivers b.receivers
    && same a.phases b.phases
    && same a.offered b.offered

unfoldable pub same_ring : Ring → Ring → Bool
same_ring a b =
    same_head a.head b.head
    && same a.slots b.slots
    && same a.lines b.lines
    && same a.offers b.offers
    && same a.carried b.carried

unfoldable pub laid_out : Ring → Bool
laid_out ring = same_ring (hold (view ring)) ring

-- A sound ring in memory: laid out as it should be, and sound as the ring that it holds.
unfoldable pub sound_ring : Ring → Bool
sound_ring ring = laid_out ring && Sound.sound ring_limits (view ring)

abbrev pub held_outcome : Outcome Network → Outcome Ring
held_outcome (refused r) = refused r
held_outcome (accepted e σ) = accepted e (hold σ)

-- A ring call in memory. An unsound ring is refused before all others.
unfoldable pub call_ring : Call → Ring → Outcome Ring
call_ring a ring = unless (sound_ring ring) (refused UnsoundRing) (held_outcome (call ring_limits a (view ring)))

-- the ring as a call leaves it, and the reply; each by itself; and the reply to a question, which leaves the ring
abbrev pub step_ring : Call → Ring → Step
step_ring a ring = step_of ring (call_ring a ring)

abbrev pub ring_after : Call → Ring → Ring
ring_after a ring = (step_ring a ring).ring

abbrev pub reply_to : Call → Ring → Reply
reply_to a ring = (step_ring a ring).reply

abbrev pub answer_to : Call → Ring → Reply
answer_to a ring = reply_of (call_ring a ring)

-- the head with these numbers, in the order of its fields
abbrev pub head_of : ℕ → ℕ → ℕ → ℕ → ℕ → List ℕ → List ℕ → List ℕ → List ℕ → List ℕ → List ℕ → List ℕ → List ℕ → Head
head_of deliveries started nodes channels spare capacity used waiting marks senders receivers phases offered =
    record {
      deliveries = deliveries;
      started = started;
      node_count = nodes;
      channel_count = channels;
      spare = spare;
      capacity = capacity;
      used = used;
      waiting = waiting;
      marks = marks;
      senders = senders;
      receivers = receivers;
      phases = phases;
      offered = offered;
    }

-- the same head with other numbers of its nodes or its channels: those that a started ring's calls change
abbrev pub with_nodes : Head → List ℕ → List ℕ → List ℕ → Head
with_nodes h used waiting marks =
    head_of h.deliveries h.started h.node_count h.channel_count h.spare h.capacity used waiting marks
    h.senders h.receivers h.phases h.offered

abbrev pub with_channels : Head → List ℕ → List ℕ → Head
with_channels h phases offered =
    head_of h.deliveries h.started h.node_count h.channel_count h.spare h.capacity h.used h.waiting h.marks
    h.senders h.receivers phases offered

abbrev pub with_deliveries : Head → ℕ → Head
with_deliveries h deliveries =
    head_of deliveries h.started h.node_count h.channel_count h.spare h.capacity h.used h.waiting h.marks
    h.senders h.receivers h.phases h.offered

-- the ring of a head and of the cells and records that lie beside it
abbrev pub ring_in : Head → List ℕ → List ℕ → List ℕ → List ℕ → Ring
ring_in head slots lines offers carried =
    record { head = head; slots = slots; lines = lines; offers = offers; carried = carried }
