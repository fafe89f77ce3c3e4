-- Worked. The worked pairs of entries and moves (specs/Worked/Pairs), computed on the ring apart from its layout. They stand before all that is shown
-- of the calls, so that a wrong definition is told by its example.
use Prim.Native.Nat.{ℕ}
use mathlib.Core.Path.{◌≡◌, refl, sym, ap, ◌∙◌}
use mathlib.Core.Logic.{⊎_elim, inr}
use mathlib.Core.Bool.{true, false}
use mathlib.Core.List.{List, [], ◌∷◌}
use mathlib.Core.Option.{none}
use lib.Dec.{eqb}
use borrow.Author.Tests.{eqb-false}
use Rattle.batch.specs.Good.{good_record, verdict_of, batch_good, temp_good, name_length_good, name_good, widths_good, name_cells_good}
use Rattle.numbers.specs.declared.NodeNo.{NodeNo}
use Rattle.numbers.specs.declared.ChannelNo.{ChannelNo}
use Rattle.hops.specs.Hops.{hops, next}
use Rattle.network.specs.Counting.{sum, weigh, all_below}
use Rattle.network.specs.Network.{Network, NodeState, asking, ring_of, fresh, next_on}
use Rattle.network.specs.Sound.{next_count, sound, sound_node, sound_channel, sound_after}
use Rattle.network.specs.Calls.{arrival}
use Rattle.network.specs.Calls
use Rattle.network.specs.Runs.{call, run}
use Rattle.network.specs.Layout.{ring_limits}
use Rattle.network.specs.Worked.Edges.{n0, n1, n2, c0, c1, c2}
use Rattle.network.specs.Commute.{entry_at, move_at, Apart}
use Rattle.network.specs.Worked.Pairs.{turn_case, n3, runs_from, arriving, meeting, stands_twice, OrderMatters, WorkedPairs}

-- the ring of the turn case
abbrev waiting : ℕ → List ChannelNo → List ChannelNo → NodeState
waiting slots buffer line = record { slots = slots; buffer = buffer; line = line; mark = false }

pub turning : Network
turning =
    ring_of true (waiting 1 (c0 ∷ []) (c2 ∷ []) ∷ waiting 2 [] (c1 ∷ []) ∷ waiting 1 [] [] ∷ [])
    (runs_from n2 n0 asking none ∷ runs_from n2 n1 asking none ∷ runs_from n2 n0 asking none ∷ []) 0

pub turn-case : run (call ring_limits) turn_case fresh ≡ turning
unfolding turning sum next arrival Calls.add_node Calls.add_channel Calls.start Calls.receive Calls.enter
turn-case = refl

order-matters : OrderMatters (λ σ. σ) (call ring_limits) turning
unfolding turning next arrival Calls.enter Calls.move
order-matters =
    record {
      entry-touches = refl;
      move-touches = inr refl;
      entry_first = refl;
      move-first = refl;
      buffer-by-entry = refl;
      buffer-by-move = refl;
    }

-- those that touch no common node: nodes of different numbers are different
apart-at : {p q r : NodeNo} → eqb p.0 r.0 ≡ false → q ≡ p → q ≡ r → ⊥
apart-at {p} {q} {r} other at_p at-r = eqb-false p.0 r.0 other (ap (λ (x : NodeNo). x.0) (sym at_p ∙ at-r))

entry-apart : (n : ℕ) (p r : NodeNo) → eqb p.0 r.0 ≡ false → eqb p.0 (next_on n r).0 ≡ false → Apart n (entry_at p) (move_at r)
entry-apart n p r own far q at_p = ⊎_elim (apart-at own at_p) (apart-at far at_p)

pub moves-apart : Apart 4 (move_at n0) (move_at n2)
unfolding next
moves-apart q at_a at_b = ⊎_elim (λ at. entry-apart 4 n0 n2 refl refl q at at_b) (λ at. entry-apart 4 n1 n2 refl refl q at at_b) at_a

pub worked-pairs : WorkedPairs (λ σ. σ) (call ring_limits) turning arriving meeting
unfolding turning next next_count arrival Calls.enter Calls.move
worked-pairs =
    record {
      two-entries = record { no-common = λ q. apart-at refl; one-way = refl; other_way = refl; one-ring = refl };
      entry-and-move = record { no-common = entry-apart 3 n2 n0 refl refl; one-way = refl; other_way = refl; one-ring = refl };
      mark_set = refl;
      no-mark = refl;
      no-such-node = record { no-common = entry-apart 3 n3 n0 refl refl; one-way = refl; other_way = refl; one-ring = refl };
      order-matters = order-matters;
      two-deliveries = record { no-common = moves-apart; one-way = refl; other_way = refl; one-ring = refl };
      count-at-end = refl;
      taken-and-delivered = record { no-common = moves-apart; one-way = refl; other_way = refl; one-ring = refl };
      answers-there = refl;
    }

-- the rings that are made by hand are sound, but for one
pub record MadeByHand : Type 0 where
  pub arriving-sound : sound ring_limits arriving ≡ true
  pub meeting-sound : sound ring_limits meeting ≡ true
  pub not_sound : sound ring_limits stands_twice ≡ false

pub made-by-hand : MadeByHand
unfolding sound sound_node sound_channel sound_after sum weigh all_below hops good_record verdict_of batch_good temp_good name_length_good name_good widths_good name_cells_good
made-by-hand = record { arriving-sound = refl; meeting-sound = refl; not_sound = refl }
