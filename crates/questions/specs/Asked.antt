-- What the questions find in the numbers of a ring: where a message stands and how far it has to go, and which channels wait at a node.
-- proofs/ shows each to be what the definitions say of the ring that is held.
use Rattle.std.specs.Prelude.{ℕ, zero, suc, ◌+◌, ◌*◌, ◌^◌, ◌≤◌, ◌<◌, Bool, false, cond, ◌&&◌, ◌||◌, not, List, eqb, get_or}
use Rattle.hops.specs.Hops.{hops_between}
use Rattle.network.specs.declared.Head.{Head}
use Rattle.network.specs.Counting.{one, sum}
use Rattle.network.specs.Layout.{node_room, channel_room, row_length, resting_code, asking_code, ready_code}
use Rattle.updates.specs.Flat.{used_at, sender_at, receiver_at, phase_at}

-- the counts of the head are within the arrays, and those of its nodes within their rows
pub record Within (h : Head) : Type 0 where
  pub nodes : h.node_count ≤ node_room
  pub channels : h.channel_count ≤ channel_room
  pub rows : (p : ℕ) → p < h.node_count → used_at h p ≤ row_length

-- the cell stands among the `used` cells from `base` on
unfoldable pub stands_in : List ℕ → ℕ → ℕ → ℕ → Bool
stands_in cells base cell zero = false
stands_in cells base cell (suc j) = eqb (get_or cells (base + j) 0) cell || stands_in cells base cell j

-- the node below n in whose buffer the cell stands, or else the node of entry
unfoldable pub place_in : Head → List ℕ → ℕ → ℕ → ℕ → ℕ
place_in h slots cell entry zero = entry
place_in h slots cell entry (suc p) =
    cond (stands_in slots (row_length * p) cell (used_at h p)) p (place_in h slots cell entry p)

-- in hops: the way back of channel k, from its sender to its receiver; and the way of its message to node q, from where it stands
abbrev pub back_in : Head → ℕ → ℕ
back_in h k = hops_between h.node_count (sender_at h k) (receiver_at h k)

abbrev pub way_in : Head → List ℕ → ℕ → ℕ → ℕ → ℕ
way_in h slots k entry q = hops_between h.node_count (place_in h slots (k + 1) entry h.node_count) q

-- hops left, by the number of the phase
abbrev pub hops_in : Head → List ℕ → ℕ → ℕ
hops_in h slots k =
    cond (eqb (phase_at h k) resting_code) 0
    (cond (eqb (phase_at h k) ready_code) (back_in h k)
    (cond (eqb (phase_at h k) asking_code) (way_in h slots k (receiver_at h k) (sender_at h k) + back_in h k)
    (way_in h slots k (sender_at h k) (receiver_at h k))))

-- channel k waits at node p, as a bit, by the numbers of its receiver and its phase
abbrev pub waits_by : ℕ → ℕ → ℕ → ℕ
waits_by p receiver phase = one (eqb receiver p && not (eqb phase resting_code))

abbrev pub waits_at : Head → ℕ → ℕ → ℕ
waits_at h p k = waits_by p (receiver_at h k) (phase_at h k)

-- a set of bits: the sum of 2 ^ j over the j below n with b j = 1; and that of the channels that wait at node p
abbrev pub bits : (ℕ → ℕ) → ℕ → ℕ
bits b n = sum n (λ j. 2 ^ j * b j)

abbrev pub waiting_in : Head → ℕ → ℕ
waiting_in h p = bits (waits_at h p) h.channel_count
