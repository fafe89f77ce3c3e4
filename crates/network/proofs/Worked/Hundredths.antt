-- Worked. The worked temperatures and deliveries in both units, computed on the ring apart from its layout, before all that is shown of the
-- calls.
use mathlib.Core.Path.{refl}
use Rattle.batch.specs.Good.{blank_at_end, blank_ends, send_verdict, verdict_of, batch_good, temp_good, name_length_good, name_good, widths_good, name_cells_good}
use Rattle.hops.specs.Hops.{next}
use Rattle.network.specs.Counting.{sum}
use Rattle.network.specs.Network.{fresh}
use Rattle.network.specs.Sound.{next_count}
use Rattle.network.specs.Calls.{arrival}
use Rattle.network.specs.Calls
use Rattle.network.specs.Runs.{call, run}
use Rattle.network.specs.Layout.{ring_limits}
use Rattle.network.specs.Worked.Hundredths.{temperatures, TemperaturesAnswer, BothDelivered}

pub temperatures-answer : TemperaturesAnswer (λ before. run (call ring_limits) before fresh) (call ring_limits)
unfolding temperatures sum next send_verdict blank_ends blank_at_end verdict_of batch_good temp_good name_length_good name_good widths_good name_cells_good Calls.add_node Calls.add_channel Calls.start Calls.receive Calls.send
temperatures-answer = refl

pub both-delivered : BothDelivered (λ before. run (call ring_limits) before fresh) (call ring_limits)
unfolding sum next next_count send_verdict blank_ends blank_at_end verdict_of batch_good temp_good name_length_good name_good widths_good name_cells_good arrival Calls.add_node Calls.add_channel Calls.start Calls.receive Calls.send Calls.enter Calls.move
both-delivered = refl
