-- An entry or a move on a sound started ring in memory, accepted or refused: the ring stays sound and started with as many nodes, its
-- messages are fewer by what is delivered, and a delivered record fits its types. This is what code that makes one after the other needs
-- of each.
use Prim.Native.Nat.{◌+◌, ◌≤◌}
use mathlib.Core.Path.{◌≡◌, sym, ap, ◌∙◌}
use mathlib.Core.Bool.{true}
use mathlib.Core.List.{[], ◌∷◌}
use native.Mathlib.Omega.{arith}
use lib.ListN.{length}
use Rattle.wire.specs.Record.{RecordFits}
use Rattle.wire.proofs.Good.{good-fits}
use Rattle.network.specs.declared.Ring.{Ring}
use Rattle.network.specs.Network.{Network, count_of_nodes}
use Rattle.network.specs.Calls.{Delivery}
use Rattle.network.specs.Runs.{Call, call, after}
use Rattle.network.specs.Layout.{ring_limits, channel_room, view, fresh_ring, sound_ring, call_ring}
use Rattle.network.specs.Dispatch.{on_ring, handed_by}
pub use Rattle.network.proofs.Theory.Todo.{goes}
use Rattle.network.proofs.Lists.Clauses.{sound-started}
use Rattle.network.proofs.Lists.Tries.{on-ring-few, went}
use Rattle.network.proofs.Memory.Held.{sound-ring}
use Rattle.network.proofs.Promises.Machine.{seen-handed, seen_next}
use Rattle.network.proofs.Promises.Demand.{ring-machine}

pub record Tried (ring : Ring) (a : Call) : Type 0 where
  pub still-sound : sound_ring (after ring (call_ring a ring)) ≡ true
  pub still-started : (view (after ring (call_ring a ring))).started ≡ true
  pub same_nodes : count_of_nodes (view (after ring (call_ring a ring))) ≡ count_of_nodes (view ring)
  pub fewer : length (handed_by (call_ring a ring)) + on_ring (view (after ring (call_ring a ring))) ≤ on_ring (view ring)
  pub fits : (d : Delivery) → handed_by (call_ring a ring) ≡ d ∷ [] → RecordFits d.«record»

pub tried : (ring : Ring) → sound_ring ring ≡ true → (view ring).started ≡ true → (a : Call) → goes a ≡ true → Tried ring a
tried ring ok on a g =
    let σ : Network = view ring in
    let w = went ring_limits σ (sound-started ring_limits σ (sound-ring ring ok).sound on) a g in
    let next : view (after ring (call_ring a ring)) ≡ after σ (call ring_limits a σ) =
    seen_next ring_limits fresh_ring sound_ring view call_ring ring-machine a ring ok in
    let handed : handed_by (call_ring a ring) ≡ handed_by (call ring_limits a σ) =
    seen-handed view (call_ring a ring) ∙ ap handed_by (ring-machine.step-seen a ring ok) in
    record {
      still-sound = ring-machine.step-sound a ring ok;
      still-started = ap (λ (τ : Network). τ.started) next ∙ w.started.running;
      same_nodes = ap count_of_nodes next ∙ ap (λ N. N.n) w.same-net;
      fewer = omega (arith, ap length handed, ap on_ring next, w.fewer);
      fits = λ d h. good-fits d.«record» (w.good d (sym handed ∙ h));
    }

pub on-ring-most : (ring : Ring) → sound_ring ring ≡ true → on_ring (view ring) ≤ channel_room
on-ring-most ring ok = omega (arith, on-ring-few (view ring), (sound-ring ring ok).fits.channels-fit)
