-- The worked rings, computed on the ring apart from its layout.
use mathlib.Core.Path.{◌≡◌, refl}
use mathlib.Core.Bool.{true, false}
use mathlib.Core.List.{[], ◌∷◌}
use lib.IntN.{pos, neg_ℤ}
use Rattle.batch.specs.Good.{every, blank_at_end, blank_ends, send_verdict, verdict_of, good_record, batch_good, temp_good, name_length_good, name_good, widths_good, name_cells_good}
use Rattle.hops.specs.Hops.{hops, next}
use Rattle.network.specs.Counting.{sum, weigh, all_below}
use Rattle.network.specs.Network.{Network, fresh}
use Rattle.network.specs.Sound.{sound_node, sound_channel, sound_before, sound_after, sound, next_count}
use Rattle.network.specs.Calls.{arrival}
use Rattle.network.specs.Calls
use Rattle.network.specs.Runs.{call}
use Rattle.network.specs.Layout.{ring_limits}
use Rattle.network.specs.Answers.{says, delivers, answers}
use Rattle.network.specs.Worked.Edges.{c0}
use Rattle.network.specs.Worked.BlankEnds.{whole_way, way_back}
use Rattle.convert.specs.TurnedRing.{channel_in_tenths, tenfold_ring}
use Rattle.convert.specs.RingExamples.{warm, offering, carrying, holding}

-- ten times as many, and sound so
pub record TurnsOnLists (before after : Network) : Type 0 where
  pub in-tenths : every channel_in_tenths before.channels ≡ true
  pub tenfold : tenfold_ring before ≡ after
  pub is-sound : sound ring_limits after ≡ true

pub record OnLists : Type 0 where
  pub offer : TurnsOnLists (offering (pos 612)) (offering (pos 6120))
  pub carried : TurnsOnLists (carrying (pos 612)) (carrying (pos 6120))
  pub both : TurnsOnLists (holding (pos 612) (neg_ℤ (pos 400))) (holding (pos 6120) (neg_ℤ (pos 4000)))
  pub hottest : TurnsOnLists (holding (pos 1200) (pos 0)) (holding (pos 12000) (pos 0))
  pub fresh-ring : TurnsOnLists fresh fresh
  pub offer-delivered : answers (call ring_limits) whole_way (offering (pos 6120)) ≡ says 0 ∷ says 0 ∷ says 0 ∷ delivers c0 (warm (pos 6120)) ∷ []
  pub carried-delivered : answers (call ring_limits) way_back (carrying (pos 6120)) ≡ says 0 ∷ delivers c0 (warm (pos 6120)) ∷ []

pub on-lists : OnLists
unfolding offering carrying holding sound sound_node sound_channel sound_before sound_after sum weigh all_below hops next next_count send_verdict blank_ends blank_at_end verdict_of good_record batch_good temp_good name_length_good name_good widths_good name_cells_good arrival Calls.add_node Calls.add_channel Calls.start Calls.receive Calls.send Calls.enter Calls.move
on-lists = record {
  offer = record { in-tenths = refl; tenfold = refl; is-sound = refl };
  carried = record { in-tenths = refl; tenfold = refl; is-sound = refl };
  both = record { in-tenths = refl; tenfold = refl; is-sound = refl };
  hottest = record { in-tenths = refl; tenfold = refl; is-sound = refl };
  fresh-ring = record { in-tenths = refl; tenfold = refl; is-sound = refl };
  offer-delivered = refl;
  carried-delivered = refl;
}

-- sound in hundredths, and with a temperature that is none in tenths
pub record NotInTenths (σ : Network) : Type 0 where
  pub out : every channel_in_tenths σ.channels ≡ false
  pub is-sound : sound ring_limits σ ≡ true

pub record NoneOnLists : Type 0 where
  pub offer-too-hot : NotInTenths (offering (pos 1201))
  pub offer-too-cold : NotInTenths (offering (neg_ℤ (pos 401)))
  pub carried-too-hot : NotInTenths (carrying (pos 1201))
  pub carried-alone : NotInTenths (holding (pos 1201) (pos 612))
  pub offer-alone : NotInTenths (holding (pos 612) (pos 1201))
  pub comes-round : NotInTenths (carrying (pos 6554))
  pub in-hundredths : NotInTenths (offering (pos 6120))

pub none-on-lists : NoneOnLists
unfolding offering carrying holding sound sound_node sound_channel sound_after sum weigh all_below hops next send_verdict blank_ends blank_at_end verdict_of good_record batch_good temp_good name_length_good name_good widths_good name_cells_good arrival Calls.add_node Calls.add_channel Calls.start Calls.receive Calls.send Calls.enter Calls.move
none-on-lists = record {
  offer-too-hot = record { out = refl; is-sound = refl };
  offer-too-cold = record { out = refl; is-sound = refl };
  carried-too-hot = record { out = refl; is-sound = refl };
  carried-alone = record { out = refl; is-sound = refl };
  offer-alone = record { out = refl; is-sound = refl };
  comes-round = record { out = refl; is-sound = refl };
  in-hundredths = record { out = refl; is-sound = refl };
}
