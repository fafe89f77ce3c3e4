-- The worked temperatures and deliveries in both units, of the ring in memory, which answers as the ring apart from its layout does
-- (Ground/Hundredths).
use mathlib.Core.Path.{◌∙◌}
use Rattle.network.specs.Worked.Hundredths.{temperatures, two_ways, both_units, RingUnits}
use Rattle.network.proofs.Worked.Hundredths as lists
use Rattle.network.proofs.Promises.Edges.{answers-after}
use Rattle.network.proofs.Promises.BlankEnds.{rows-answer}

pub ring-units : RingUnits
ring-units = record {
  temperatures-answer = rows-answer temperatures ∙ lists.temperatures-answer;
  both-delivered = answers-after two_ways both_units ∙ lists.both-delivered;
}
