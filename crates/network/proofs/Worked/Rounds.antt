-- Worked. The rounds and acts, computed on the ring apart from its layout, and what a refused dispatcher call tells and stands for.
-- They stand before all that is shown of the dispatcher, so that a wrong one is told by its example.
use mathlib.Core.Path.{refl}
use mathlib.Core.Bool.{Bool, true}
use Rattle.batch.specs.Good.{blank_at_end, blank_ends, send_verdict, verdict_of, batch_good, temp_good, name_length_good, name_good, widths_good, name_cells_good}
use Rattle.hops.specs.Hops.{next}
use Rattle.network.specs.Counting.{sum}
use Rattle.network.specs.Network.{Network, fresh}
use Rattle.network.specs.Calls.{Outcome, arrival}
use Rattle.network.specs.Calls
use Rattle.network.specs.Runs.{Call, call}
use Rattle.network.specs.Layout.{ring_limits}
use Rattle.network.specs.Worked.Rounds.{RoundsTold, ActsSpelled, RefusesRounds}

-- the test for 25 is left out here: the rings of the examples are sound

pub rounds-told : RoundsTold fresh (λ σ. true) (λ σ. σ) (call ring_limits)
unfolding sum next send_verdict blank_ends blank_at_end verdict_of batch_good temp_good name_length_good name_good widths_good name_cells_good arrival Calls.add_node Calls.add_channel Calls.start Calls.receive Calls.send Calls.enter Calls.move
rounds-told =
    record {
      not-started = record { is-told = refl; is-left = refl };
      nothing-asked = record { is-told = refl; is-left = refl };
      one-round = record { is-told = refl; is-left = refl };
      then-rests = refl;
      no-record = record { is-told = refl; is-left = refl };
      then_ready = refl;
      two-rounds = record { is-told = refl; is-left = refl };
      none-given = record { is-told = refl; is-left = refl };
      as_before = refl;
      one-given = record { is-told = refl; is-left = refl };
      entry_first = record { is-told = refl; is-left = refl };
      two-same = record { is-told = refl; is-left = refl };
      turn-case = record { is-told = refl; is-left = refl };
      crowded = record { is-told = refl; is-left = refl };
      one_fewer = record { is-told = refl; is-left = refl };
    }

pub acts-spelled : ActsSpelled fresh (λ σ. true) (λ σ. σ) (call ring_limits)
unfolding sum next send_verdict blank_ends blank_at_end verdict_of batch_good temp_good name_length_good name_good widths_good name_cells_good arrival Calls.add_node Calls.add_channel Calls.start Calls.receive Calls.send Calls.enter Calls.move
acts-spelled =
    record {
      pair = record { is_spelled = refl; is-handed = refl };
      pair-answers = refl;
      pair-counted = refl;
      mid-round = record { is_spelled = refl; is-handed = refl };
      mid-round-answers = refl;
      mid-round-counted = refl;
      among-others = record { is_spelled = refl; is-handed = refl };
    }

pub refuses-rounds : {S : Type 0} (fresh : S) (sound : S → Bool) (seen : S → Network) (step : Call → S → Outcome S) →
    RefusesRounds fresh sound seen step
refuses-rounds fresh sound seen step =
    record {
      unsound = λ given s broken. record { is-told = rw broken; ring-stays = rw broken; stands-for-none = rw broken };
      not-started = λ given s ok off. record { is-told = rw (ok, off); ring-stays = rw (ok, off); stands-for-none = rw (ok, off) };
    }
