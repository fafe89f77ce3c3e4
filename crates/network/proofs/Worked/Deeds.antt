-- Worked. The worked lists of deeds, computed: what is counted, and whether a request is withdrawn. They stand before all that is shown of
-- the count, so that a wrong count is told by its list.
use mathlib.Core.Path.{refl}
use Rattle.network.specs.Worked.Withdrawals.{DeedsCounted, PairWithdrawn}

pub deeds-counted : DeedsCounted
deeds-counted = record { anew = refl; stood-before = refl; last-alone = refl; other-channel = refl; in_between = refl }

pub pair-withdrawn : PairWithdrawn
pair-withdrawn = record { kept = refl; later = refl; other-channel = refl; though-anew = refl; next_one = refl }
