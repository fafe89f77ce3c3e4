-- What the code reads of a sound ring in memory is what the definitions read of the ring that it holds: nodes, channels, and the numbers
-- that stand for a phase, an offer, an empty queue.
use Prim.Native.Nat.{ℕ, ◌≤◌, ◌<◌}
use mathlib.Core.Path.{◌≡◌, refl}
use mathlib.Core.Logic.{◌≢◌}
use mathlib.Core.Bool.{true, false}
use mathlib.Core.List.{List, [], ◌∷◌}
use mathlib.Core.Option.{Option, none, some}
use native.Mathlib.Omega.{arith}
use lib.ListN.{length}
use Rattle.batch.specs.declared.BatchRecord.{BatchRecord}
use Rattle.numbers.specs.declared.ChannelNo.{ChannelNo}
use Rattle.network.specs.declared.Ring.{Ring}
use Rattle.network.specs.Network.{Phase, resting, asking, ready, answering, count_of_nodes, count_of_channels}
use Rattle.network.specs.Sound.{is_resting, is_asking, is_ready, absent}
use Rattle.network.specs.Layout.{node_room, channel_room, row_length, phase_code, offered_flag, view}
use Rattle.network.proofs.Memory.Held.{SoundRing, sound-ring, HeldNode, HeldChannel}
use Rattle.updates.specs.Flat.{capacity_at}
use Rattle.updates.specs.Known.{AtNode, AtChannel}
use Rattle.updates.proofs.Openings.{running}

-- a node and a channel of a sound started ring

module _ {ring : Ring} {p : ℕ} (h : AtNode ring p) where
  pub node-known : SoundRing ring
  node-known = sound-ring ring h.ok

  pub node-there : p < count_of_nodes (view ring)
  node-there = omega (arith, node-known.holds.node-count, h.there)

  pub node-within : p < node_room
  node-within = omega (arith, node-there, node-known.fits.nodes-fit)

  pub node-numbers : HeldNode ring (view ring) p
  node-numbers = node-known.holds.nodes p node-within

  pub node-running : (view ring).started ≡ true
  node-running = running ring h.ok h.going

  pub slots-within : capacity_at ring.head p ≤ row_length
  slots-within = omega (arith, node-numbers.capacity, (node-known.facts.each-node p node-there).slot-limit)

module _ {ring : Ring} {k : ℕ} (h : AtChannel ring k) where
  pub channel-known : SoundRing ring
  channel-known = sound-ring ring h.ok

  pub channel-there : k < count_of_channels (view ring)
  channel-there = omega (arith, channel-known.holds.channel-count, h.there)

  pub channel-within : k < channel_room
  channel-within = omega (arith, channel-there, channel-known.fits.channels-fit)

  pub channel-numbers : HeldChannel ring (view ring) k
  channel-numbers = channel-known.holds.channels k channel-within

  pub channel-running : (view ring).started ≡ true
  channel-running = running ring h.ok h.going

-- numbers for a phase, an offer, a queue

pub resting-code : (f : Phase) → phase_code f ≡ 0 → f ≡ resting
resting-code resting e = refl
resting-code asking e = absurd (omega arith)
resting-code ready e = absurd (omega arith)
resting-code (answering x) e = absurd (omega arith)

pub busy-code : (f : Phase) → phase_code f ≢ 0 → is_resting f ≡ false
busy-code resting d = absurd (d refl)
busy-code asking d = refl
busy-code ready d = refl
busy-code (answering x) d = refl

pub asking-code : (f : Phase) → phase_code f ≡ 1 → f ≡ asking
asking-code resting e = absurd (omega arith)
asking-code asking e = refl
asking-code ready e = absurd (omega arith)
asking-code (answering x) e = absurd (omega arith)

pub not-asking-code : (f : Phase) → phase_code f ≢ 1 → is_asking f ≡ false
not-asking-code resting d = refl
not-asking-code asking d = absurd (d refl)
not-asking-code ready d = refl
not-asking-code (answering x) d = refl

pub ready-code : (f : Phase) → phase_code f ≡ 2 → f ≡ ready
ready-code resting e = absurd (omega arith)
ready-code asking e = absurd (omega arith)
ready-code ready e = refl
ready-code (answering x) e = absurd (omega arith)

pub unready-code : (f : Phase) → phase_code f ≢ 2 → is_ready f ≡ false
unready-code resting d = refl
unready-code asking d = refl
unready-code ready d = absurd (d refl)
unready-code (answering x) d = refl

pub none-flag : (o : Option BatchRecord) → offered_flag o ≡ 0 → o ≡ none
none-flag none e = refl
none-flag (some x) e = absurd (omega arith)

pub some-flag : (o : Option BatchRecord) → offered_flag o ≢ 0 → absent o ≡ false
some-flag none d = absurd (d refl)
some-flag (some x) d = refl

pub empty-length : (xs : List ChannelNo) → length xs ≡ 0 → xs ≡ []
empty-length [] e = refl
empty-length (x ∷ xs) e = absurd (omega arith)
