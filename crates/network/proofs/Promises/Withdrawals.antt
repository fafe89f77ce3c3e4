-- The worked lists of calls with withdrawals, computed on the ring apart from its layout, which answers and counts as the ring in memory
-- does (those of deeds are in Worked/Deeds); what 28 means; and a matched pair that is withdrawn, of which neither case of `Served` holds.
use Prim.Native.Nat.{ℕ, zero, suc}
use mathlib.Core.Path.{◌≡◌, refl, sym, ap, ◌∙◌}
use mathlib.Core.Bool.{false, ◌||◌, false≢true}
use mathlib.Core.List.{List, [], ◌∷◌, ◌++◌}
use native.Mathlib.Omega.{arith}
use lib.Dec.{ltb}
use borrow.Author.Tests.{lt-ltb, le-ltb, ltb-true}
use Rattle.batch.specs.Good.{blank_at_end, blank_ends, send_verdict, verdict_of, good_record, batch_good, temp_good, name_length_good, name_good, widths_good, name_cells_good}
use Rattle.hops.specs.Hops.{next}
use Rattle.network.specs.Counting.{sum, weigh, all_below}
use Rattle.network.specs.Network.{Network, fresh, node_no, times_in, node, channel}
use Rattle.network.specs.Sound.{sound_node, sound_channel, sound_after, sound}
use Rattle.network.specs.Calls.{arrival}
use Rattle.network.specs.Calls
use Rattle.network.specs.Runs.{Call, enter, move, withdraw, call, run, is_accepted, counted, bound}
use Rattle.network.specs.Layout.{ring_limits}
use Rattle.network.specs.Answers.{Said, answers}
use Rattle.network.specs.Worked.Edges.{n0, c0, worked_record}
use Rattle.network.specs.Worked.Dummies.{begun, in_line}
use Rattle.network.specs.Worked.Withdrawals.{WorkedList, WorkedCount, matched_pair, three_here, from_between, WithdrawalsAnswer, CallsCounted, Means28, ExceptionNeeded}
use Rattle.network.proofs.Ground.Joined.{asking-is}
use Rattle.network.proofs.Theory.Place.{not-in-line, not-in-both}
use Rattle.network.proofs.Lists.Tables.{net_of}
use Rattle.network.proofs.Lists.Clauses.{sound-started}
use Rattle.network.proofs.Promises.Dummies.{neither}
use Rattle.network.proofs.Promises.Edges.{answers-after, counted-after, fresh-run}

abbrev on_lists : List Call → Network
on_lists before = run (call ring_limits) before fresh

module _ {before calls : List Call} where
  answered : {said : List Said} → answers (call ring_limits) calls (on_lists before) ≡ said → WorkedList before calls said
  answered e = record { is-answered = answers-after before calls ∙ e }

  count-is : {n : ℕ} → counted (call ring_limits) calls (on_lists before) ≡ n → WorkedCount before calls n
  count-is e = record { is-counted = counted-after before calls ∙ e }

pub withdrawals-answer : WithdrawalsAnswer
unfolding sum weigh next send_verdict blank_ends blank_at_end verdict_of batch_good temp_good name_length_good name_good widths_good name_cells_good arrival Calls.add_node Calls.add_channel Calls.start Calls.receive Calls.send Calls.enter Calls.move Calls.withdraw
withdrawals-answer =
    record {
      not-started = answered refl;
      no-channel = answered refl;
      once = answered refl;
      in-buffer = answered refl;
      offer-stays = answered refl;
      others-stay = answered refl;
      in_order = ap (λ (σ : Network). (node σ n0).buffer) (fresh-run (three_here ++ from_between)) ∙ refl;
      mark-goes = answered refl;
      mark-stays = answered refl;
    }

pub calls-counted : CallsCounted
unfolding sum weigh next send_verdict blank_ends blank_at_end verdict_of batch_good temp_good name_length_good name_good widths_good name_cells_good arrival Calls.add_node Calls.add_channel Calls.start Calls.receive Calls.send Calls.enter Calls.move Calls.withdraw
calls-counted =
    record {
      allowed = ap bound (fresh-run matched_pair) ∙ refl;
      given-up = count-is refl;
      given-up-answers = answered refl;
      asked-anew = count-is refl;
      asked-anew-answers = answered refl;
      asked-late = count-is refl;
      asked-late-answers = answered refl;
      asked-late-undone = count-is refl;
      refused-withdrawal = count-is refl;
      refused-receive = count-is refl;
    }

-- what stands in a queue, by the test and as a fact
none_in : (n : ℕ) → ltb 0 n ≡ false → n ≡ 0
none_in zero e = refl
none_in (suc n) e = absurd (false≢true (sym e ∙ lt-ltb 0 (suc n) (omega arith)))

pub means-28 : Means28
means-28 L σ k ok on known asks =
    let s = (sound-started L σ ok on).tables in
    let lk = ltb-true _ _ known in
    let f = asking-is _ asks in
    let line : ℕ = times_in (node σ (channel σ k).receiver).line k in (
      λ gone. let r = not-in-line (net_of σ) s k.0 lk f (none_in line gone) in
          record { at = node_no r.0; there = lt-ltb _ _ r.1; stands = r.2 },
      λ b. rw (not-in-both (net_of σ) s k.0 lk f b.at.0 (ltb-true _ _ b.there) b.stands) refl,
    )

-- once the one matched pair is withdrawn, no entry and no move would be accepted next
given_up : Network
given_up = run (call ring_limits) (withdraw c0 ∷ []) in_line

stuck : (p : ℕ) →
    (is_accepted (call ring_limits (enter (node_no p)) given_up) || is_accepted (call ring_limits (move (node_no p)) given_up)) ≡ false
unfolding given_up begun in_line sum weigh send_verdict blank_ends blank_at_end verdict_of batch_good temp_good name_length_good name_good widths_good name_cells_good Calls.add_node Calls.add_channel Calls.start Calls.receive Calls.send Calls.enter Calls.move Calls.withdraw
stuck zero = refl
stuck (suc zero) = refl
stuck (suc (suc p)) = rw (le-ltb (suc (suc p)) 2 (omega arith)) refl

pub exception-needed : ExceptionNeeded
unfolding given_up begun in_line sound sound_node sound_channel sound_after sum weigh all_below send_verdict blank_ends blank_at_end verdict_of good_record batch_good temp_good name_length_good name_good widths_good name_cells_good Calls.add_node Calls.add_channel Calls.start Calls.receive Calls.send Calls.withdraw
exception-needed served =
    neither (call ring_limits) c0 worked_record in_line (withdraw c0 ∷ []) refl
    (λ u. false≢true (sym (stuck u.at.0) ∙ u.next-accepted))
    (served in_line c0 worked_record (withdraw c0 ∷ []) refl refl refl)
