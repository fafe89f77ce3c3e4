-- Worked. The worked sends and the rings made by hand, computed on the ring apart from its layout. They stand before all that is shown of
-- the calls and of a sound ring, so that a wrong refusal is told by its row.
use mathlib.Core.Path.{refl}
use Rattle.batch.specs.Good.{blank_at_end, blank_ends, send_verdict, verdict_of, good_record, batch_good, temp_good, name_length_good, name_good, widths_good, name_cells_good}
use Rattle.hops.specs.Hops.{hops, next}
use Rattle.network.specs.Counting.{sum, weigh, all_below}
use Rattle.network.specs.Network.{fresh}
use Rattle.network.specs.Sound.{sound_node, sound_channel, sound_after, sound, next_count}
use Rattle.network.specs.Calls.{arrival}
use Rattle.network.specs.Calls
use Rattle.network.specs.Runs.{call, run}
use Rattle.network.specs.Layout.{ring_limits}
use Rattle.network.specs.Worked.BlankEnds.{old_offer, old_carried, sends, SendsAnswer, OldRings}

pub sends-answer : SendsAnswer (λ before. run (call ring_limits) before fresh) (call ring_limits)
unfolding sends sum next send_verdict blank_ends blank_at_end verdict_of batch_good temp_good name_length_good name_good widths_good name_cells_good Calls.add_node Calls.add_channel Calls.start Calls.receive Calls.send
sends-answer = refl

pub old-rings : OldRings (λ σ. σ) (sound ring_limits) (call ring_limits)
unfolding old_offer old_carried sound sound_node sound_channel sound_after sum weigh all_below hops next next_count send_verdict blank_ends blank_at_end verdict_of good_record batch_good temp_good name_length_good name_good widths_good name_cells_good arrival Calls.add_node Calls.add_channel Calls.start Calls.receive Calls.send Calls.enter Calls.move
old-rings = record { offer-sound = refl; carried-sound = refl; offer-delivered = refl; carried-delivered = refl }
