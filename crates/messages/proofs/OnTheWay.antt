-- Where a message stands. The nodes on its way are those no further from the target than its node of entry is (`decides-way`); and by
-- the channel's phase it stands nowhere or on the way from its entry to its target.
use Prim.Native.Nat.{ℕ, ◌≤◌, ◌<◌}
use mathlib.Core.Path.{◌≡◌, refl}
use mathlib.Core.Bool.{true, cond}
use lib.Dec.{eqb}
use Rattle.hops.specs.Hops.{hops}
use Rattle.hops.proofs.Laws.{hops-between}
use Rattle.network.specs.Network.{ChannelState, Phase, resting, asking, ready, answering, moving, entry_of, target_of}
use Rattle.network.specs.Layout.{phase_code, asking_code}
use Rattle.network.proofs.Ground.Splits.{both_ways}
use Rattle.messages.specs.Decides.{Decides}
use Rattle.messages.specs.Messages.{on_the_way, has_message}
use Rattle.messages.proofs.Decides.{decides-most}

pub decides-way : (n p entry target : ℕ) → p < n → entry < n → target < n →
    Decides (on_the_way n p entry target) (hops n p target ≤ hops n entry target)
unfolding on_the_way
decides-way n p entry target pn en tn =
    rw (hops-between n p target pn tn, hops-between n entry target en tn) (decides-most _ _)

-- by the phase

pub ends-below : (s : ChannelState) (n : ℕ) → s.sender.0 < n → s.receiver.0 < n → (f : Phase) →
    ((entry_of s f).0 < n) × ((target_of s f).0 < n)
ends-below s n sends receives resting = (receives, sends)
ends-below s n sends receives asking = (receives, sends)
ends-below s n sends receives ready = (sends, receives)
ends-below s n sends receives (answering x) = (sends, receives)

-- a message on the ring enters and goes by the code of its phase as by its phase
pub by-code : (s : ChannelState) (f : Phase) → moving f ≡ true →
    (cond (eqb (phase_code f) asking_code) s.receiver.0 s.sender.0 ≡ (entry_of s f).0)
    × (cond (eqb (phase_code f) asking_code) s.sender.0 s.receiver.0 ≡ (target_of s f).0)
by-code s resting on = both_ways on refl
by-code s asking on = (refl, refl)
by-code s ready on = both_ways on refl
by-code s (answering x) on = (refl, refl)

pub message-by-code : (f : Phase) → has_message (phase_code f) ≡ moving f
message-by-code resting = refl
message-by-code asking = refl
message-by-code ready = refl
message-by-code (answering x) = refl
