-- The edges P1 to P11, by one computed test over the table and one law that turns it into a fact about each row; and the two worked
-- runs, computed. The test runs on the ring apart from its layout, which answers as the ring in memory does.
use Prim.Native.Nat.{ℕ, zero, suc, ◌<◌}
use mathlib.Core.Path.{◌≡◌, refl, ap, ◌∙◌}
use mathlib.Core.Bool.{Bool, true, ◌&&◌}
use mathlib.Core.List.{List, [], ◌∷◌}
use native.Mathlib.Nat.{not-suc-le-zero, le_of_suc-le-suc}
use lib.Dec.{eqb}
use lib.ListN.{length, get_or}
use borrow.Author.Tests.{eqb-true}
use Rattle.batch.specs.Good.{blank_at_end, blank_ends, send_verdict, verdict_of, batch_good, temp_good, name_length_good, name_good, widths_good, name_cells_good}
use Rattle.hops.specs.Hops.{hops, next}
use Rattle.network.specs.Counting.{sum}
use Rattle.network.specs.Network.{fresh}
use Rattle.network.specs.Calls.{arrival}
use Rattle.network.specs.Calls
use Rattle.network.specs.Runs.{Call, add_node, start, call, run, counted, bound}
use Rattle.network.specs.Layout.{ring_limits, view, fresh_ring, sound_ring, call_ring}
use Rattle.network.specs.Answers.{outcome_number, says, answers}
use Rattle.network.specs.Demand.{AsDefined}
use Rattle.network.specs.Worked.Edges.{plan, Question, starting, hops_from, naming, heating, slotting, counting, Edge, ask, edges, EdgesHold, worked_calls, WorkedRunHolds, turn_calls, TurnHolds}
use Rattle.network.proofs.Ground.Splits.{and_left, and_right}
use Rattle.network.proofs.Memory.Held.{view-fresh}
use Rattle.network.proofs.Promises.Machine.{counted-seen}
use Rattle.network.proofs.Promises.Demand.{ring-machine, ring-safe, ring-demand3}

-- from a fresh ring in memory, a run answers what it answers on lists, and leaves what it leaves there

abbrev on_lists : Question → ℕ
on_lists = ask fresh (λ σ. σ) (call ring_limits)

module _ (calls : List Call) where
  from-fresh : AsDefined fresh_ring sound_ring view call_ring ring_limits fresh_ring calls
  from-fresh = ring-demand3.each fresh_ring calls ring-safe.fresh-sound

  fresh-answers : answers call_ring calls fresh_ring ≡ answers (call ring_limits) calls fresh
  fresh-answers = from-fresh.same-answers ∙ ap (answers (call ring_limits) calls) view-fresh

  pub fresh-run : view (run call_ring calls fresh_ring) ≡ run (call ring_limits) calls fresh
  fresh-run = from-fresh.same-ring ∙ ap (run (call ring_limits) calls) view-fresh

  pub fresh-sound : sound_ring (run call_ring calls fresh_ring) ≡ true
  fresh-sound = from-fresh.still-sound

  -- and so do further calls
  pub answers-after : (more : List Call) →
      answers call_ring more (run call_ring calls fresh_ring) ≡ answers (call ring_limits) more (run (call ring_limits) calls fresh)
  answers-after more =
      (ring-demand3.each (run call_ring calls fresh_ring) more fresh-sound).same-answers
      ∙ ap (answers (call ring_limits) more) fresh-run

  pub counted-after : (more : List Call) →
      counted call_ring more (run call_ring calls fresh_ring) ≡ counted (call ring_limits) more (run (call ring_limits) calls fresh)
  counted-after more =
      counted-seen ring_limits fresh_ring sound_ring view call_ring ring-machine more (run call_ring calls fresh_ring) fresh-sound
      ∙ ap (counted (call ring_limits) more) fresh-run

  pub number-after : (a : Call) →
      outcome_number (call_ring a (run call_ring calls fresh_ring)) ≡ outcome_number (call ring_limits a (run (call ring_limits) calls fresh))
  number-after a = ap (λ said. (get_or said 0 (says 0)).number) (answers-after (a ∷ []))

asked : (q : Question) → ask fresh_ring view call_ring q ≡ on_lists q
asked (starting slots ends) = number-after (plan slots ends) start
asked (hops_from n p q) = refl
asked (naming size) = refl
asked (heating scale degrees) = refl
asked (slotting slots) = number-after [] (add_node slots)
asked (counting slots ends) = ap bound (fresh-run (plan slots ends))

right : Edge → Bool
right e = eqb (on_lists e.question) e.answer

all_right : List Edge → Bool
all_right [] = true
all_right (e ∷ es) = right e && all_right es

right-at : (es : List Edge) (d : Edge) → all_right es ≡ true → (i : ℕ) → i < length es → on_lists (get_or es i d).question ≡ (get_or es i d).answer
unfolding right all_right
right-at [] d t i l = absurd (not-suc-le-zero l)
right-at (e ∷ es) d t zero l = eqb-true _ _ (and_left (right e) (all_right es) t)
right-at (e ∷ es) d t (suc i) l = right-at es d (and_right (right e) (all_right es) t) i (le_of_suc-le-suc l)

pub edges-hold : EdgesHold
unfolding right all_right edges sum hops send_verdict blank_ends blank_at_end verdict_of batch_good temp_good name_length_good name_good widths_good name_cells_good Calls.add_node Calls.add_channel Calls.start
edges-hold i l = asked (get_or edges i _).question ∙ right-at edges _ refl i l

pub worked-run-holds : WorkedRunHolds
unfolding sum hops next send_verdict blank_ends blank_at_end verdict_of batch_good temp_good name_length_good name_good widths_good name_cells_good arrival Calls.add_node Calls.add_channel Calls.start Calls.receive Calls.send Calls.enter Calls.move
worked-run-holds = fresh-answers worked_calls ∙ refl

pub turn_holds : TurnHolds
unfolding sum hops next arrival Calls.add_node Calls.add_channel Calls.start Calls.receive Calls.enter Calls.move
turn_holds = fresh-answers turn_calls ∙ refl
