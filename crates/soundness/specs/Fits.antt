-- What the test for a sound ring decides, over the arrays of a ring, part by part as the code has it; what it says of blank cells and of
-- the messages stands in the crate `messages`. `Fits` is the whole; it holds of exactly the sound rings of the definitions
-- (proofs/FitsSound one way, proofs/SoundFits the other).
use Rattle.std.specs.Prelude.{ℕ, ◌*◌, ◌<◌, ◌≤◌, ◌≡◌, ◌≢◌, Bool, true, false, cond, List, [], eqb, ltb, length, get_or, drop}
use Rattle.batch.specs.Good.{good_record}
use Rattle.wire.specs.Record.{record_length, record_bytes, record_in}
use Rattle.network.specs.declared.Head.{Head}
use Rattle.network.specs.declared.Ring.{Ring}
use Rattle.network.specs.Sound.{last_count}
use Rattle.network.specs.Counting.{one, sum}
use Rattle.network.specs.Layout.{ring_limits, node_room, channel_room, record_room, row, padded, resting_code, ready_code, answering_code}
use Rattle.messages.specs.Messages.{Blank, MessagesFit}

-- the counts are in range, and the byte of no use is zero
pub record CountsFit (head : Head) : Type 0 where
  pub started-flag : head.started ≤ 1
  pub nodes-within : head.node_count ≤ ring_limits.nodes
  pub channels-within : head.channel_count ≤ ring_limits.channels
  pub spare-zero : head.spare ≡ 0

-- what is used, and what isn't and so holds nothing
abbrev pub Either : Bool → Type 0 → Type 0 → Type 0
Either true Used Blank = Used
Either false Used Blank = Blank

abbrev pub Nothing : ℕ → ℕ → ℕ → ℕ → Type 0
Nothing a b c d = (a ≡ 0) × (b ≡ 0) × (c ≡ 0) × (d ≡ 0)

-- A node. A turn mark, 0 or 1, only on a started ring and with a line that isn't empty.
pub record UsedNode (started : Bool) (slots used waiting mark : ℕ) : Type 0 where
  pub some-slot : 1 ≤ slots
  pub slot-limit : slots ≤ ring_limits.slots
  pub buffer-fits : used ≤ slots
  pub marked-started : mark ≤ one started
  pub marked-line : mark ≤ waiting

abbrev pub NodeFits : Bool → Bool → ℕ → ℕ → ℕ → ℕ → Type 0
NodeFits in_use started slots used waiting mark =
    Either in_use (UsedNode started slots used waiting mark) (Nothing slots used waiting mark)

-- the arrays of the nodes, each with a cell for every node that there is room for
pub record NodesFit (head : Head) : Type 0 where
  pub capacity-whole : length head.capacity ≡ node_room
  pub used-whole : length head.used ≡ node_room
  pub waiting-whole : length head.waiting ≡ node_room
  pub marks-whole : length head.marks ≡ node_room
  pub each : (p : ℕ) → p < node_room →
      NodeFits (ltb p head.node_count) (eqb head.started 1) (get_or head.capacity p 0) (get_or head.used p 0)
      (get_or head.waiting p 0) (get_or head.marks p 0)

-- A channel, by its two nodes and the codes of its phase and its offer.
pub record PhaseFits (started : Bool) (phase offered : ℕ) : Type 0 where
  pub phase-known : phase ≤ answering_code
  pub offer-flag : offered ≤ 1
  pub ready-bare : phase ≡ ready_code → offered ≡ 0
  pub before-start : started ≡ false → (phase ≡ resting_code) × (offered ≡ 0)

pub record UsedChannel (started : Bool) (n sender receiver phase offered : ℕ) : Type 0 where
  pub sender-below : sender < n
  pub receiver-below : receiver < n
  pub state : PhaseFits started phase offered

abbrev pub ChannelFits : Bool → Bool → ℕ → ℕ → ℕ → ℕ → ℕ → Type 0
ChannelFits in_use started n sender receiver phase offered =
    Either in_use (UsedChannel started n sender receiver phase offered) (Nothing sender receiver phase offered)

-- the arrays of the channels likewise
pub record ChannelsFit (head : Head) : Type 0 where
  pub senders-whole : length head.senders ≡ channel_room
  pub receivers-whole : length head.receivers ≡ channel_room
  pub phases-whole : length head.phases ≡ channel_room
  pub offered-whole : length head.offered ≡ channel_room
  pub each : (k : ℕ) → k < channel_room →
      ChannelFits (ltb k head.channel_count) (eqb head.started 1) head.node_count (get_or head.senders k 0)
      (get_or head.receivers k 0) (get_or head.phases k 0) (get_or head.offered k 0)

-- The bytes of a record that is there are those of a good record, and where there is none they are zero.
pub record BytesFit (there : Bool) (bytes : List ℕ) : Type 0 where
  pub good : there ≡ true → good_record (record_in bytes) ≡ true
  pub laid : bytes ≡ padded record_length (cond there (record_bytes (record_in bytes)) [])

pub record RecordsFit (ring : Ring) : Type 0 where
  pub offers-whole : length ring.offers ≡ record_room
  pub carried-whole : length ring.carried ≡ record_room
  pub offer-fits : (k : ℕ) → k < ring.head.channel_count →
      BytesFit (eqb (get_or ring.head.offered k 0) 1) (row record_length ring.offers k)
  pub carried-fits : (k : ℕ) → k < ring.head.channel_count →
      BytesFit (eqb (get_or ring.head.phases k 0) answering_code) (row record_length ring.carried k)
  pub offers-beyond : Blank (drop (record_length * ring.head.channel_count) ring.offers)
  pub carried-beyond : Blank (drop (record_length * ring.head.channel_count) ring.carried)

-- Started: n and c at least 1, b greater than c. Not started: no deliveries, and the rest is said of each channel and node. A count of
-- deliveries is never past the last one.
pub record StartFits (head : Head) : Type 0 where
  pub after-start : head.started ≡ 1 →
      (1 ≤ head.node_count) × (1 ≤ head.channel_count)
      × (head.channel_count < sum node_room (λ p. get_or head.capacity p 0))
  pub before-start : head.started ≢ 1 → head.deliveries ≡ 0
  pub delivery-limit : head.deliveries ≤ last_count

-- the whole ring
pub record Fits (ring : Ring) : Type 0 where
  pub counts : CountsFit ring.head
  pub nodes : NodesFit ring.head
  pub channels : ChannelsFit ring.head
  pub records : RecordsFit ring
  pub messages : MessagesFit ring
  pub start : StartFits ring.head
