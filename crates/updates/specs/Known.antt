-- What is known where a part of a call is made: the tests that were made before it.
use Rattle.std.specs.Prelude.{ℕ, ◌+◌, ◌-◌, ◌*◌, ◌≤◌, ◌<◌, ◌≡◌, ◌≢◌, true, List, get_or}
use Rattle.hops.specs.Hops.{next}
use Rattle.network.specs.declared.Head.{Head}
use Rattle.network.specs.declared.Ring.{Ring}
use Rattle.network.specs.Layout.{node_room, channel_room, row_length, sound_ring, asking_code}
use Rattle.updates.specs.Flat.{used_at, waiting_at, sender_at, receiver_at, phase_at, target_by}

-- the line of node p has room for one more
pub record CanJoin (h : Head) (p : ℕ) : Type 0 where
  pub there : p < node_room
  pub room : waiting_at h p < row_length

-- a message stands at index i of the line of node p, which is no longer than its row
pub record CanLeave (h : Head) (p i : ℕ) : Type 0 where
  pub there : p < node_room
  pub waits : i < waiting_at h p
  pub within : waiting_at h p ≤ row_length

-- i is the index at which the cell stands first among the `used` cells from `base` on, or `used` where it is not among them
pub record FirstAt (cells : List ℕ) (base used cell i : ℕ) : Type 0 where
  pub within : i ≤ used
  pub not-before : (j : ℕ) → j < i → get_or cells (base + j) 0 ≢ cell
  pub there : i < used → get_or cells (base + i) 0 ≡ cell

-- channel k is there, and its sender node's line has room for one more, as it has on every sound ring where the channel is not on the ring
pub record CanRespond (h : Head) (k : ℕ) : Type 0 where
  pub known : k < channel_room
  pub line : CanJoin h (sender_at h k)

-- a sound started ring, and one of its nodes or channels
pub record AtNode (ring : Ring) (p : ℕ) : Type 0 where
  pub ok : sound_ring ring ≡ true
  pub going : ring.head.started ≢ 0
  pub there : p < ring.head.node_count

pub record AtChannel (ring : Ring) (k : ℕ) : Type 0 where
  pub ok : sound_ring ring ≡ true
  pub going : ring.head.started ≢ 0
  pub there : k < ring.head.channel_count

-- a sound ring that has not started; and a sound ring, started or not, with one of its nodes
pub record Planned (ring : Ring) : Type 0 where
  pub ok : sound_ring ring ≡ true
  pub still : ring.head.started ≡ 0

pub record AskedAt (ring : Ring) (p : ℕ) : Type 0 where
  pub ok : sound_ring ring ≡ true
  pub there : p < ring.head.node_count

-- the tests of a move have passed: cell is the first of the buffer of node p, and channel cell - 1 is its channel
pub record Leaves (ring : Ring) (p cell : ℕ) : Type 0 where
  pub at-node : AtNode ring p
  pub some : used_at ring.head p ≢ 0
  pub first : cell ≡ get_or ring.slots (row_length * p) 0

-- what becomes of it at the next node: a request taken, a response delivered, or anything else
pub record Takes (ring : Ring) (p cell : ℕ) : Type 0 where
  pub leaves : Leaves ring p cell
  pub asks : phase_at ring.head (cell - 1) ≡ asking_code
  pub arrives : sender_at ring.head (cell - 1) ≡ next ring.head.node_count p

pub record Delivers (ring : Ring) (p cell : ℕ) : Type 0 where
  pub leaves : Leaves ring p cell
  pub answers : phase_at ring.head (cell - 1) ≢ asking_code
  pub arrives : receiver_at ring.head (cell - 1) ≡ next ring.head.node_count p

pub record Passes (ring : Ring) (p q cell : ℕ) : Type 0 where
  pub leaves : Leaves ring p cell
  pub next-is : q ≡ next ring.head.node_count p
  pub elsewhere : target_by (phase_at ring.head (cell - 1)) (sender_at ring.head (cell - 1)) (receiver_at ring.head (cell - 1)) ≢ q
