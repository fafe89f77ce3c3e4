-- What is known where the dispatcher makes its entries and moves, what they come to, and when nothing is on the ring, on the numbers of the
-- head.
use Rattle.std.specs.Prelude.{ℕ, ◌+◌, ◌≤◌, ◌≡◌, ◌≢◌, Bool, true, not, ◌||◌, List, eqb, take}
use Rattle.std.specs.List.{list_any}
use Rattle.network.specs.declared.Dispatched.{Dispatched}
use Rattle.network.specs.declared.Ring.{Ring}
use Rattle.network.specs.Runs.{Call, run}
use Rattle.network.specs.Layout.{channel_room, view, sound_ring, call_ring, asking_code, answering_code}
use Rattle.network.specs.Dispatch.{on_ring, deliveries}
use Rattle.dispatch.specs.Log.{logged_all}

-- a sound started ring, and a place behind these deliveries for every message that is on it
pub record CanGo (ring : Ring) (count : ℕ) : Type 0 where
  pub ok : sound_ring ring ≡ true
  pub going : ring.head.started ≢ 0
  pub room : count + on_ring (view ring) ≤ channel_room

-- these calls were made one after the other, and what they delivered was kept
pub record CallsMade (calls : List Call) (ring : Ring) (log : Dispatched) (next : Ring) (kept : Dispatched) : Type 0 where
  pub ring-is : next ≡ run call_ring calls ring
  pub log_is : kept ≡ logged_all (deliveries call_ring calls ring) log

-- a channel of this phase has its message on the ring; and none of the first channels has
abbrev pub is_moving : ℕ → Bool
is_moving phase = eqb phase asking_code || eqb phase answering_code

abbrev pub none_moving : List ℕ → ℕ → Bool
none_moving phases count = not (list_any is_moving (take count phases))
