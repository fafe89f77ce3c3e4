-- A ring in tenths of a degree turned into hundredths, as document 02 has it: each temperature ten times as many, all else the same, 25 where
-- it is not sound in tenths; and what is promised of it.
use Rattle.std.specs.Prelude.{◌≡◌, Bool, true, ◌&&◌, map}
use Rattle.std.proofs.Math.Option.{Option, none, some}
use Rattle.refusal.specs.declared.Refusal.TheVariants.{UnsoundRing}
use Rattle.batch.specs.declared.BatchRecord.{BatchRecord}
use Rattle.batch.specs.declared.sending.Scale.TheVariants.{Tenths}
use Rattle.batch.specs.Good.{every, unless}
use Rattle.batch.specs.Sending.{in_tenths, record_from, fields_of}
use Rattle.network.specs.declared.Ring.{Ring}
use Rattle.network.specs.Network.{Network, ChannelState, Phase, resting, asking, ready, answering, ring_of}
use Rattle.network.specs.Sound.{sound}
use Rattle.network.specs.Calls.{Outcome, done, refused, accepted}
use Rattle.network.specs.Layout.{ring_limits, view, hold, laid_out, sound_ring}

-- each temperature ten times as many: of a record, of one that is offered and of one that is carried; of a channel and of a ring, all else
-- the same
abbrev pub tenfold_record : BatchRecord → BatchRecord
tenfold_record x = record_from Tenths (fields_of x)

abbrev pub tenfold_offer : Option BatchRecord → Option BatchRecord
tenfold_offer none = none
tenfold_offer (some x) = some (tenfold_record x)

abbrev pub tenfold_phase : Phase → Phase
tenfold_phase resting = resting
tenfold_phase asking = asking
tenfold_phase ready = ready
tenfold_phase (answering x) = answering (tenfold_record x)

abbrev pub tenfold_channel : ChannelState → ChannelState
tenfold_channel s =
    record { sender = s.sender; receiver = s.receiver; phase = tenfold_phase s.phase; offer = tenfold_offer s.offer }

abbrev pub tenfold_ring : Network → Network
tenfold_ring σ = ring_of σ.started σ.nodes (map tenfold_channel σ.channels) σ.deliveries

-- the temperatures that a channel holds are temperatures in tenths
abbrev pub offer_in_tenths : Option BatchRecord → Bool
offer_in_tenths none = true
offer_in_tenths (some x) = in_tenths x.temperature

abbrev pub phase_in_tenths : Phase → Bool
phase_in_tenths resting = true
phase_in_tenths asking = true
phase_in_tenths ready = true
phase_in_tenths (answering x) = in_tenths x.temperature

abbrev pub channel_in_tenths : ChannelState → Bool
channel_in_tenths s = offer_in_tenths s.offer && phase_in_tenths s.phase

-- Sound in tenths: laid out as a ring is, every temperature is one in tenths, and the ring with each ten times as many is sound.
unfoldable pub sound_in_tenths : Ring → Bool
sound_in_tenths ring = laid_out ring && every channel_in_tenths (view ring).channels && sound ring_limits (tenfold_ring (view ring))

unfoldable pub turn_ring : Ring → Outcome Ring
turn_ring ring = unless (sound_in_tenths ring) (refused UnsoundRing) (accepted done (hold (tenfold_ring (view ring))))

-- ---- what is promised of every ring
-- a ring that was turned is sound, and holds what the ring before held with each temperature ten times as many
abbrev pub TurnedSound : Type 0
TurnedSound =
    (ring after : Ring) → turn_ring ring ≡ accepted done after → (sound_ring after ≡ true) × (view after ≡ tenfold_ring (view ring))

-- and every ring that holds temperatures in tenths, and would be sound with each ten times as many, is turned
abbrev pub TurnsHeld : Type 0
TurnsHeld =
    (σ : Network) → every channel_in_tenths σ.channels ≡ true → sound ring_limits (tenfold_ring σ) ≡ true →
    turn_ring (hold σ) ≡ accepted done (hold (tenfold_ring σ))
