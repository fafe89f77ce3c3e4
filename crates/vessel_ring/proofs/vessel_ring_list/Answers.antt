-- A run from the beginning lists the tape.
use Rattle.std.proofs.Common.{rules}
use Rattle.vessel_ring.proofs.Listings.{listed}
use Rattle.vessel_ring.proofs.vessel_ring_list.Goals as goal

pub returns : goal.returns
returns c = search (rules, listed)
