-- The turning of a ring, pinned down by worked ones, made by hand: what they become and then deliver, and which are refused.
use Rattle.std.specs.Prelude.{◌≡◌, [], ◌∷◌, ℤ, pos, neg_ℤ, replicate}
use Rattle.std.proofs.Math.Option.{none, some}
use Rattle.refusal.specs.declared.Refusal.TheVariants.{UnsoundRing}
use Rattle.batch.specs.declared.BatchRecord.{BatchRecord}
use Rattle.network.specs.Network.{Network, asking, answering, fresh, with_channel}
use Rattle.network.specs.Calls.{done, refused, accepted}
use Rattle.network.specs.Runs.{call, run}
use Rattle.network.specs.Layout.{ring_limits, hold, fresh_ring, call_ring}
use Rattle.network.specs.Answers.{says, delivers, answers}
use Rattle.network.specs.Worked.Edges.{c0, sample}
use Rattle.network.specs.Worked.BlankEnds.{requested, responded, whole_way, way_back}
use Rattle.convert.specs.TurnedRing.{turn_ring}

-- a record with this temperature
abbrev pub warm : ℤ → BatchRecord
warm x = sample x 2 (0x41 ∷ 0x31 ∷ replicate 30 0)

-- a channel from node 1 to node 0: asking, with this offered; answering, with this carried; and with another offered besides
unfoldable pub offering : ℤ → Network
offering x = with_channel c0 asking (some (warm x)) (run (call ring_limits) requested fresh)

unfoldable pub carrying : ℤ → Network
carrying x = with_channel c0 (answering (warm x)) none (run (call ring_limits) responded fresh)

unfoldable pub holding : ℤ → ℤ → Network
holding x y = with_channel c0 (answering (warm x)) (some (warm y)) (run (call ring_limits) responded fresh)

-- turned, and then delivered
abbrev pub TurnsTo : Network → Network → Type 0
TurnsTo before after = turn_ring (hold before) ≡ accepted done (hold after)

pub record Turned : Type 0 where
  pub offer : TurnsTo (offering (pos 612)) (offering (pos 6120))
  pub carried : TurnsTo (carrying (pos 612)) (carrying (pos 6120))
  pub both : TurnsTo (holding (pos 612) (neg_ℤ (pos 400))) (holding (pos 6120) (neg_ℤ (pos 4000)))
  pub hottest : TurnsTo (holding (pos 1200) (pos 0)) (holding (pos 12000) (pos 0))
  pub fresh-ring : turn_ring fresh_ring ≡ accepted done fresh_ring
  pub offer-delivered : answers call_ring whole_way (hold (offering (pos 6120))) ≡ says 0 ∷ says 0 ∷ says 0 ∷ delivers c0 (warm (pos 6120)) ∷ []
  pub carried-delivered : answers call_ring way_back (hold (carrying (pos 6120))) ≡ says 0 ∷ delivers c0 (warm (pos 6120)) ∷ []

-- not sound in tenths, though each of these is sound in hundredths; ten times 6554 would come round to 4 in 16 bits
abbrev pub Says25 : Network → Type 0
Says25 σ = turn_ring (hold σ) ≡ refused UnsoundRing

pub record NotSound : Type 0 where
  pub offer-too-hot : Says25 (offering (pos 1201))
  pub offer-too-cold : Says25 (offering (neg_ℤ (pos 401)))
  pub carried-too-hot : Says25 (carrying (pos 1201))
  pub carried-alone : Says25 (holding (pos 1201) (pos 612))
  pub offer-alone : Says25 (holding (pos 612) (pos 1201))
  pub comes-round : Says25 (carrying (pos 6554))
  pub in-hundredths : Says25 (offering (pos 6120))
