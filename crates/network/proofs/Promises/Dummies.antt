-- The dummies are rejected: each answers a named call at a named ring otherwise than the definitions, by computation; and for the first, the
-- fourth and the fifth one run, computed, goes past the bound with nothing delivered, or nothing is accepted next, or a record is delivered
-- that was not offered.
use Prim.Native.Nat.{ℕ, suc, ◌≤◌}
use mathlib.Core.Path.{◌≡◌, refl, sym, ap, ◌∙◌}
use mathlib.Core.Logic.{◌⊎◌, ◌≢◌, ⊎_elim}
use mathlib.Core.Bool.{true, false≢true, false}
use mathlib.Core.List.{List, [], ◌∷◌, ◌++◌, nil≢cons, cons≢nil}
use mathlib.Core.Option.{some}
use native.Mathlib.Omega.{arith}
use lib.Dec.{lit≤}
use lib.ListN.{get_or}
use borrow.Author.Tests.{eq-eqb}
use Rattle.refusal.proofs.Number.{in-range}
use Rattle.batch.specs.declared.BatchRecord.{BatchRecord}
use Rattle.numbers.specs.declared.ChannelNo.{ChannelNo}
use Rattle.batch.specs.Good.{blank_at_end, blank_ends, send_verdict, verdict_of, good_record, batch_good, temp_good, name_length_good, name_good, widths_good, name_cells_good}
use Rattle.hops.specs.Hops.{hops, next}
use Rattle.network.specs.Counting.{sum, weigh, all_below}
use Rattle.network.specs.declared.Ring.{Ring}
use Rattle.network.specs.Network.{Network, fresh}
use Rattle.network.specs.Sound.{next_count, sound_node, sound_channel, sound_before, sound_after, sound}
use Rattle.network.specs.Calls.{Event, done, delivered, hops_are, waiting_are, Outcome, refused, accepted, arrival, holder, hops_of}
use Rattle.network.specs.Calls
use Rattle.network.specs.Runs.{Call, start, enter, move, hops_left, after, delivered_by, withdrawn, deeds, counted, delivered_on, matched, bound}
use Rattle.network.specs.Layout.{ring_limits, view, hold, hold_head, held_outcome, call_ring}
use Rattle.network.specs.Answers.{Said, said_in, says, outcome_number, outcome_of, step_of}
use Rattle.network.specs.Demand.{InTime, UnderWay}
use Rattle.network.specs.Promise.{MeetsContracts}
use Rattle.network.specs.Worked.Edges.{n0, n1, c0, worked_record}
use Rattle.network.specs.Worked.Dummies.{Way, truly, acts_later_laps, grudges_slots, invents, moves_nothing, turns_down, always_says, begun, in_line, in_buffer, first_lap, second_lap, broken, checked_ring, as_code, Exposed, Demand2Rejects, ServedBy, InOrderBy, Demand3Rejects, eleven_laps, past_the_bound, EachCanFail, SevenCounted}
use Rattle.network.proofs.Memory.Held.{sound-view, sound-hold}
use Rattle.network.proofs.Promises.Answers.{steps-keep}

-- demand 2: where a sound ring is answered otherwise, the contracts are not met

held-says : (o : Outcome Network) → said_in (held_outcome o) ≡ said_in o
held-says (refused r) = refl
held-says (accepted e τ) = refl

-- a step tells its outcome
same_outcome : (ring : Ring) (o o' : Outcome Ring) → step_of ring o ≡ step_of ring o' → o ≡ o'
same_outcome ring o o' same = sym (steps-keep ring o) ∙ ap outcome_of same ∙ steps-keep ring o'

module _ (dummy : Way) (a : Call) (σ : Network) (ok : sound ring_limits σ ≡ true) where
  back : view (hold σ) ≡ σ
  back = sound-view σ ok

  same-held : MeetsContracts (as_code dummy) → held_outcome (dummy a σ) ≡ held_outcome (truly a σ)
  unfolding call_ring
  same-held meets =
      let same : checked_ring (hold σ) (dummy a (view (hold σ))) ≡ checked_ring (hold σ) (truly a (view (hold σ))) =
      same_outcome (hold σ) _ _ (meets a (hold σ)) in
      rw (sound-hold σ ok, back) at same

  exposed : said_in (dummy a σ) ≢ said_in (truly a σ) → Exposed dummy a σ
  exposed differs =
      let same-said : MeetsContracts (as_code dummy) → said_in (dummy a σ) ≡ said_in (truly a σ) =
      λ meets. sym (held-says (dummy a σ)) ∙ ap said_in (same-held meets) ∙ held-says (truly a σ) in
      record { sound-there = ok; otherwise = differs; breaks-contracts = λ meets. differs (same-said meets) }

-- what tells two answers apart
number_of : Event → ℕ
number_of done = 0
number_of (delivered k x) = suc k.0
number_of (hops_are h) = suc h
number_of (waiting_are w) = suc w

other-number : {s t : Said} → s.number ≢ t.number → s ≢ t
other-number differs e = differs (ap (λ (s : Said). s.number) e)

other-values : {s t : Said} → number_of s.values ≢ number_of t.values → s ≢ t
other-values differs e = differs (ap (λ (s : Said). number_of s.values) e)

pub demand2-rejects : Demand2Rejects
unfolding number_of begun in_line in_buffer first_lap second_lap sound sound_node sound_channel sound_after sum weigh all_below hops next next_count send_verdict blank_ends blank_at_end verdict_of good_record batch_good temp_good name_length_good name_good widths_good name_cells_good arrival holder hops_of Calls.add_node Calls.add_channel Calls.start Calls.receive Calls.send Calls.enter Calls.move Calls.hops_left
demand2-rejects =
    record {
      acts-later-laps = exposed acts_later_laps (move n1) second_lap refl (other-values (λ e. omega (arith, e)));
      grudges-18 = exposed grudges_slots (enter n0) in_line refl (other-number (λ e. omega (arith, e)));
      grudges-20 = exposed grudges_slots (move n0) in_buffer refl (other-number (λ e. omega (arith, e)));
      free-at-18 = (refl, refl);
      free-at-20 = (refl, refl);
      invents-hops = exposed invents (hops_left c0) in_line refl (other-values (λ e. omega (arith, e)));
      invents-delivery = exposed invents (move n1) first_lap refl (other-values (λ e. omega (arith, e)));
      moves-nothing = exposed moves_nothing (move n1) first_lap refl (other-values (λ e. omega (arith, e)));
      turns-down = λ r. exposed (turns_down r) (enter n0) in_line refl (other-number (λ e. omega (arith, e, (in-range r).0)));
      always-says = λ e next. exposed (always_says e next) start begun refl (other-number (λ n. omega (arith, n)));
    }

-- demand 3: a run that delivers nothing on m, and after which the record cannot count as under way, refutes `Served`

nothing-first : (xs ys : List BatchRecord) → xs ++ ys ≡ [] → (xs ≡ []) × (ys ≡ [])
nothing-first [] ys e = (refl, e)
nothing-first (x ∷ xs) ys e = absurd (cons≢nil e)

module _ (way : Way) (m : ChannelNo) where
  none_before : (up_to rest : List Call) (σ : Network) → delivered_on way m (up_to ++ rest) σ ≡ [] → delivered_on way m up_to σ ≡ []
  none_before [] rest σ none = refl
  none_before (a ∷ up_to) rest σ none =
      let parts = nothing-first (delivered_by m (way a σ)) (delivered_on way m (up_to ++ rest) (after σ (way a σ))) none in
      rw (parts.0, none_before up_to rest (after σ (way a σ)) parts.1)

  -- what the run starts from, and what it comes to
  record Starts (x : BatchRecord) (σ : Network) (calls : List Call) : Type 0 where
    ok : sound ring_limits σ ≡ true
    on : σ.started ≡ true
    match : matched σ m ≡ some x
    none : delivered_on way m calls σ ≡ []
    kept_on : withdrawn m (deeds way calls σ) ≡ false

  -- nothing delivered and nothing under way: neither case of `Served`
  pub neither : (x : BatchRecord) (σ : Network) (calls : List Call) → delivered_on way m calls σ ≡ [] →
      (UnderWay fresh (sound ring_limits) (λ τ. τ) way σ m calls → ⊥) →
      InTime fresh (sound ring_limits) (λ τ. τ) way σ m x calls ⊎ UnderWay fresh (sound ring_limits) (λ τ. τ) way σ m calls → ⊥
  neither x σ calls none not-under-way =
      ⊎_elim
      (λ i.
      let whole : delivered_on way m (i.up_to ++ i.rest) σ ≡ [] = ap (λ l. delivered_on way m l σ) (sym i.split) ∙ none in
      cons≢nil (sym i.first ∙ none_before i.up_to i.rest σ whole))
      not-under-way

  unserved : (x : BatchRecord) (σ : Network) (calls : List Call) → Starts x σ calls →
      (UnderWay fresh (sound ring_limits) (λ τ. τ) way σ m calls → ⊥) → ServedBy way → ⊥
  unserved x σ calls s not-under-way served =
      neither x σ calls s.none not-under-way (served σ m x calls s.ok s.on s.match s.kept_on)

  past_bound : (x : BatchRecord) (σ : Network) (calls : List Call) → Starts x σ calls → bound σ ≤ counted way calls σ → ServedBy way → ⊥
  past_bound x σ calls s many = unserved x σ calls s (λ u. omega (arith, u.fewer, many))

not-offered : (k : ChannelNo) (x : BatchRecord) (next : Call → Network → Network) → InOrderBy (always_says (delivered k x) next) → ⊥
not-offered k x next in_order =
    let r = in_order k (start ∷ []) in
    nil≢cons (rw (eq-eqb k.0 k.0 refl) at r.1)

pub demand3-rejects : Demand3Rejects
unfolding begun in_line in_buffer first_lap second_lap sound sound_node sound_channel sound_after sum weigh all_below hops next next_count send_verdict blank_ends blank_at_end verdict_of good_record batch_good temp_good name_length_good name_good widths_good name_cells_good arrival Calls.add_node Calls.add_channel Calls.start Calls.receive Calls.send Calls.enter Calls.move
demand3-rejects =
    record {
      acts-later-laps =
          past_bound acts_later_laps c0 worked_record second_lap eleven_laps (record { ok = refl; on = refl; match = refl; none = refl; kept_on = refl }) (lit≤ tt);
      moves-nothing =
          past_bound moves_nothing c0 worked_record first_lap (past_the_bound (move n1)) (record { ok = refl; on = refl; match = refl; none = refl; kept_on = refl })
          (lit≤ tt);
      turns-down = λ r.
          unserved (turns_down r) c0 worked_record in_line [] (record { ok = refl; on = refl; match = refl; none = refl; kept_on = refl })
          (λ u. false≢true u.next-accepted);
      always-says = same-always;
    }
  where
    -- whatever is said, if it is no delivery
    no-delivery : (e : Event) (next : Call → Network → Network) →
        delivered_on (always_says e next) c0 (past_the_bound (enter n0)) in_line ≡ [] → ServedBy (always_says e next) → ⊥
    no-delivery e next none =
        past_bound (always_says e next) c0 worked_record in_line (past_the_bound (enter n0))
        (record { ok = refl; on = refl; match = refl; none = none; kept_on = refl })
        (lit≤ tt)

    same-always : (e : Event) (next : Call → Network → Network) → ServedBy (always_says e next) → InOrderBy (always_says e next) → ⊥
    same-always done next served in_order = no-delivery done next refl served
    same-always (delivered k x) next served in_order = not-offered k x next in_order
    same-always (hops_are h) next served in_order = no-delivery (hops_are h) next refl served
    same-always (waiting_are w) next served in_order = no-delivery (waiting_are w) next refl served

pub each-can-fail : EachCanFail
unfolding number_of broken begun in_line sound sound_node sound_channel sound_before sound_after sum weigh all_below hops send_verdict blank_ends blank_at_end verdict_of good_record batch_good temp_good name_length_good name_good widths_good name_cells_good holder hops_of hold hold_head Calls.add_node Calls.add_channel Calls.start Calls.receive Calls.send Calls.hops_left
each-can-fail =
    record {
      refuses-unsound = λ h. let e : ◌≡◌ {A = ℕ} 1 25 = ap outcome_number (h start broken refl) in omega arith;
      fresh-sound = λ h. false≢true h;
      sound-kept = λ h. false≢true (h start fresh refl);
      hops-left-leaves = λ h. false≢true (sym (ap (λ σ. σ.started) (h fresh)));
      waiting-set-leaves = λ h. false≢true (sym (ap (λ σ. σ.started) (h fresh)));
      each = λ h.
          let e : ◌≡◌ {A = ℕ} 6 5 = ap (λ l. number_of (get_or l 0 (says 0)).values) (h in_line (hops_left c0 ∷ []) refl).same-answers in
          omega arith;
      unsound = λ h. let e : ◌≡◌ {A = ℕ} 1 25 = ap (λ l. (get_or l 0 (says 0)).number) (h broken (start ∷ []) refl).all-25 in omega arith;
      served = demand3-rejects.moves-nothing;
      in_order = not-offered c0 worked_record (λ a σ. σ);
      refusal-leaves = λ h.
          let e : ◌≡◌ {A = ℕ} 0 1 = ap (λ r. r.head.started) (h start (hold broken) (λ n. omega (arith, n))).ring-as-before in omega arith;
      next-ring = λ h. let e : ◌≡◌ {A = ℕ} 1 0 = ap (λ r. r.head.started) (h start (hold broken)) in omega arith;
    }

pub seven-counted : SevenCounted
unfolding begun in_line sum hops next next_count send_verdict blank_ends blank_at_end verdict_of good_record batch_good temp_good name_length_good name_good widths_good name_cells_good arrival Calls.add_node Calls.add_channel Calls.start Calls.receive Calls.send Calls.enter Calls.move
seven-counted = record { six = refl; seven = refl; none_before = refl; delivered-then = refl }
