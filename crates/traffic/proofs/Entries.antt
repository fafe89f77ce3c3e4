-- The call "enter" at a node of a sound started ring: each refusal by the tests that the code makes, and what an accepted entry leaves in
-- memory.
use Prim.Native.Nat.{ℕ, ◌≤◌, ◌<◌}
use mathlib.Core.Path.{◌≡◌, sym, ap, ◌∙◌}
use mathlib.Core.Logic.{◌≢◌}
use native.Mathlib.Omega.{arith}
use lib.ListN.{length}
use borrow.Author.Tests.{lt-ltb, le-ltb}
use Rattle.refusal.specs.declared.Refusal.TheVariants.{LineEmpty, NoFreeSlot}
use Rattle.network.specs.declared.Ring.{Ring}
use Rattle.network.specs.Network.{Network, node_no, node}
use Rattle.network.specs.Calls.{done, refused, accepted, enter_first}
use Rattle.network.specs.Calls
use Rattle.network.specs.Runs
use Rattle.network.specs.Layout.{row_length, view, held_outcome, call_ring}
use Rattle.network.proofs.Ground.Splits.{by-list}
use Rattle.updates.specs.Flat.{capacity_at, used_at, waiting_at, entered}
use Rattle.updates.specs.Known.{AtNode}
use Rattle.updates.proofs.Openings.{sound-called}
use Rattle.updates.proofs.FlatLaws.{entered-held}
use Rattle.updates.proofs.Reading.{node-known, node-there, node-numbers, node-running, slots-within, empty-length}

module _ {ring : Ring} {p : ℕ} (h : AtNode ring p) where
  abbrev σ : Network
  σ = view ring

  called : call_ring (Runs.enter (node_no p)) ring ≡ held_outcome (enter_first (node_no p) (node σ (node_no p)).line σ)
  unfolding Calls.enter
  called = rw (sound-called (Runs.enter (node_no p)) ring h.ok, node-running h, lt-ltb _ _ (node-there h))

  pub enter-empty : waiting_at ring.head p ≡ 0 → call_ring (Runs.enter (node_no p)) ring ≡ refused LineEmpty
  enter-empty e = called ∙ rw (empty-length (node σ (node_no p)).line (sym (node-numbers h).waiting ∙ e))

  module _ (some : waiting_at ring.head p ≢ 0) where
    pub enter-full : capacity_at ring.head p ≤ used_at ring.head p → call_ring (Runs.enter (node_no p)) ring ≡ refused NoFreeSlot
    enter-full full =
        by-list (node σ (node_no p)).line (λ e. absurd (some ((node-numbers h).waiting ∙ ap length e))) λ k ks e.
        called ∙ rw (e, le-ltb _ _ (rw ((node-numbers h).capacity, (node-numbers h).used) at full))

    module _ (free : used_at ring.head p < capacity_at ring.head p) where
      pub enter-room : used_at ring.head p < row_length
      enter-room = omega (arith, slots-within h)

      pub enter-done : call_ring (Runs.enter (node_no p)) ring ≡ accepted done (entered ring p)
      enter-done =
          let s = node-known h in
          let slot : length (node σ (node_no p)).buffer < (node σ (node_no p)).slots =
          rw ((node-numbers h).capacity, (node-numbers h).used) at free in
          let room : length (node σ (node_no p)).buffer < row_length = rw (node-numbers h).used at enter-room in
          by-list (node σ (node_no p)).line (λ e. absurd (some ((node-numbers h).waiting ∙ ap length e))) λ k ks e.
          called
          ∙ rw (e, lt-ltb _ _ slot)
          (ap (accepted done)
          (sym (entered-held σ s.fits p (node-there h) k ks e room) ∙ ap (λ r. entered r p) s.laid-out))
