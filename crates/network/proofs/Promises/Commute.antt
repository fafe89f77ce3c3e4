-- Entries and moves that touch no common node commute (specs/Commute): of the ring in memory, on which the lists' own calls are laid out, and
-- so of code that meets the contracts; and the worked pairs (specs/Worked/Pairs), computed on the ring apart from its layout.
use Prim.Native.Nat.{ℕ}
use mathlib.Core.Path.{◌≡◌, refl, sym, ap, subst, ◌∙◌}
use mathlib.Core.Logic.{inl, inr}
use mathlib.Core.Bool.{true}
use mathlib.Core.List.{List, [], ◌∷◌}
use native.Mathlib.Omega.{arith}
use lib.ListN.{length, get_or}
use Rattle.refusal.specs.declared.Refusal.{Refusal}
use Rattle.hops.specs.Hops.{next}
use Rattle.network.specs.declared.Ring.{Ring}
use Rattle.network.specs.declared.Step.{Step}
use Rattle.network.specs.Network.{Network, numbers_of, count_of_nodes, node}
use Rattle.network.specs.Calls.{Outcome, refused, accepted, arrival}
use Rattle.network.specs.Calls
use Rattle.network.specs.Runs.{Call, enter, move, call, after, run}
use Rattle.network.specs.Demand.{checked_call}
use Rattle.network.specs.Layout.{ring_limits, view, hold, fresh_ring, sound_ring, call_ring}
use Rattle.network.specs.Answers.{Reply, reply_of, delivered_in, Said, answers}
use Rattle.network.specs.Promise.{MeetsContracts}
use Rattle.network.specs.Dispatch.{listed}
use Rattle.network.specs.Worked.Edges.{n0, n1, n2}
use Rattle.network.specs.Worked.Withdrawals.{ring_after}
use Rattle.network.specs.Commute.{Traffic, move_at, as_call, Apart, Commute, RingCommutes, RefusedThere, CodeCommutes, ContractsCommute}
use Rattle.network.specs.Worked.Pairs.{turn_case, arriving, meeting, stands_twice, EitherWay, OrderMatters, RingPairs, SoundMatters}
use Rattle.network.proofs.Worked.AtTwoEnds.{turning, turn-case, moves-apart, worked-pairs, made-by-hand}
use Rattle.network.proofs.Ground.Splits.{by-test}
use Rattle.network.proofs.Lists.Clauses.{sound-started}
use Rattle.network.proofs.Lists.Commute.{not-started, beyond-refused, started-commute}
use Rattle.network.proofs.Memory.Held.{sound-view, sound-ring, sound-hold}
use Rattle.network.proofs.Promises.Machine.{seen_by, seen_next, run_sound, run-seen}
use Rattle.network.proofs.Promises.Demand.{ring-machine, ring-demand3}
use Rattle.network.proofs.Promises.Edges.{fresh-run, fresh-sound}

-- two refusals: nothing has changed for the other call
both-refused : {S : Type 0} (step : Call → S → Outcome S) (a b : Call) (s : S) {r r' : Refusal} →
    step a s ≡ refused r → step b s ≡ refused r' → Commute step a b s
both-refused step a b s ra rb =
    record {
      first-answer = ap (λ o. reply_of (step a (after s o))) rb;
      second-answer = ap (λ o. reply_of (step b (after s o))) ra;
      same-ring =
          ap (λ o. after (after s o) (step b (after s o))) ra
          ∙ ap (after s) rb
          ∙ sym (ap (after s) ra)
          ∙ sym (ap (λ o. after (after s o) (step a (after s o))) rb);
    }

-- a sound ring in memory is the layout of the ring that it holds, so what holds of this one is carried over
module _ (ring : Ring) (ok : sound_ring ring ≡ true) where
  abbrev σ : Network
  σ = view ring

  seen-reply : {S : Type 0} (seen : S → Network) (o : Outcome S) → reply_of o ≡ reply_of (seen_by seen o)
  seen-reply seen (refused r) = refl
  seen-reply seen (accepted e t) = refl

  replies : (a : Call) (r : Ring) → sound_ring r ≡ true → reply_of (call_ring a r) ≡ reply_of (call ring_limits a (view r))
  replies a r sound = seen-reply view (call_ring a r) ∙ ap reply_of (ring-machine.step-seen a r sound)

  later-reply : (a b : Call) → reply_of (call_ring a (after ring (call_ring b ring))) ≡ reply_of (call ring_limits a (after σ (call ring_limits b σ)))
  later-reply a b =
      replies a _ (ring-machine.step-sound b ring ok)
      ∙ ap (λ τ. reply_of (call ring_limits a τ)) (seen_next ring_limits fresh_ring sound_ring view call_ring ring-machine b ring ok)

  laid-out : (calls : List Call) → run call_ring calls ring ≡ hold (run (call ring_limits) calls σ)
  laid-out calls =
      sym (sound-ring _ (run_sound ring_limits fresh_ring sound_ring view call_ring ring-machine calls ring ok)).laid-out
      ∙ ap hold (run-seen ring_limits fresh_ring sound_ring view call_ring ring-machine calls ring ok)

  in_memory : (a b : Call) → Commute (call ring_limits) a b σ → Commute call_ring a b ring
  in_memory a b c =
      record {
        first-answer = later-reply a b ∙ c.first-answer ∙ sym (replies a ring ok);
        second-answer = later-reply b a ∙ c.second-answer ∙ sym (replies b ring ok);
        same-ring = laid-out (a ∷ b ∷ []) ∙ ap hold c.same-ring ∙ sym (laid-out (b ∷ a ∷ []));
      }

pub ring-commutes : RingCommutes
ring-commutes ring a b apart =
    let σ = view ring in
    by-test (sound_ring ring)
    (λ ok. in_memory ring ok (as_call a) (as_call b)
    (by-test σ.started
    (λ on. started-commute ring_limits σ (sound-started ring_limits σ (sound-ring ring ok).sound on) a b apart)
    (λ off. both-refused (call ring_limits) (as_call a) (as_call b) σ (not-started ring_limits σ off a) (not-started ring_limits σ off b))))
    (λ broken.
    both-refused call_ring (as_call a) (as_call b) ring (ring-machine.step-unsound (as_call a) ring broken)
    (ring-machine.step-unsound (as_call b) ring broken))

pub refused-there : (a : Traffic) (ring : Ring) → RefusedThere a ring
unfolding call_ring
refused-there a ring =
    record {
      unsound = λ broken. rw broken;
      not-started = λ ok off. rw (ok, not-started ring_limits (view ring) off a);
      no-such-node = λ ok on beyond. rw (ok, beyond-refused ring_limits (view ring) on a beyond);
    }

-- what code returns is what the contracts say, call after call
module _ (code : Call → Ring → Step) (meets : MeetsContracts code) (ring : Ring) where
  left : (a : Call) → (code a ring).ring ≡ after ring (call_ring a ring)
  left a = ap (λ (s : Step). s.ring) (meets a ring)

  replied : (a : Call) → (code a ring).reply ≡ reply_of (call_ring a ring)
  replied a = ap (λ (s : Step). s.reply) (meets a ring)

  then-replied : (a b : Call) → (code a (code b ring).ring).reply ≡ reply_of (call_ring a (after ring (call_ring b ring)))
  then-replied a b = ap (λ r. (code a r).reply) (left b) ∙ ap (λ (s : Step). s.reply) (meets a _)

  then-left : (a b : Call) → (code b (code a ring).ring).ring ≡ run call_ring (a ∷ b ∷ []) ring
  then-left a b = ap (λ r. (code b r).ring) (left a) ∙ ap (λ (s : Step). s.ring) (meets b _)

  returned-commute : (a b : Call) → Commute call_ring a b ring → CodeCommutes code a b ring
  returned-commute a b c =
      record {
        first-reply = then-replied a b ∙ c.first-answer ∙ sym (replied a);
        second-reply = then-replied b a ∙ c.second-answer ∙ sym (replied b);
        same-ring = then-left a b ∙ c.same-ring ∙ sym (then-left b a);
      }

pub contracts-commute : ContractsCommute
contracts-commute code meets ring a b apart = returned-commute code meets ring (as_call a) (as_call b) (ring-commutes ring a b apart)

-- The worked pairs, carried over to a sound ring in memory that holds the ring of the example.

module _ (ring : Ring) (ok : sound_ring ring ≡ true) {τ : Network} (holds : view ring ≡ τ) where
  answered-there : (calls : List Call) → answers call_ring calls ring ≡ answers (call ring_limits) calls τ
  answered-there calls = (ring-demand3.each ring calls ok).same-answers ∙ ap (answers (call ring_limits) calls) holds

  seen-there : (calls : List Call) → view (run call_ring calls ring) ≡ run (call ring_limits) calls τ
  seen-there calls =
      run-seen ring_limits fresh_ring sound_ring view call_ring ring-machine calls ring ok ∙ ap (run (call ring_limits) calls) holds

  left_there : (calls : List Call) → run call_ring calls ring ≡ hold (run (call ring_limits) calls τ)
  left_there calls = laid-out ring ok calls ∙ ap (λ υ. hold (run (call ring_limits) calls υ)) holds

  either_way : {a b : Traffic} {x y : Said} → EitherWay (λ υ. υ) (call ring_limits) τ a b x y → EitherWay view call_ring ring a b x y
  either_way {a} {b} w =
      let one = as_call a ∷ as_call b ∷ [] in
      let other = as_call b ∷ as_call a ∷ [] in
      record {
        no-common = subst (λ υ. Apart (count_of_nodes υ) a b) (sym holds) w.no-common;
        one-way = answered-there one ∙ w.one-way;
        other_way = answered-there other ∙ w.other_way;
        one-ring = left_there one ∙ ap hold w.one-ring ∙ sym (left_there other);
      }

  order-there : OrderMatters (λ υ. υ) (call ring_limits) τ → OrderMatters view call_ring ring
  order-there w =
      record {
        entry-touches = w.entry-touches;
        move-touches = w.move-touches;
        entry_first = answered-there (enter n1 ∷ move n0 ∷ []) ∙ w.entry_first;
        move-first = answered-there (move n0 ∷ enter n1 ∷ []) ∙ w.move-first;
        buffer-by-entry = ap (λ υ. (node υ n1).buffer) (seen-there (enter n1 ∷ move n0 ∷ [])) ∙ w.buffer-by-entry;
        buffer-by-move = ap (λ υ. (node υ n1).buffer) (seen-there (move n0 ∷ enter n1 ∷ [])) ∙ w.buffer-by-move;
      }

-- the buffers in the two orders are not the same
order-seen : (ring : Ring) → OrderMatters view call_ring ring → Commute call_ring (enter n1) (move n0) ring → ⊥
order-seen ring w c =
    let same = sym w.buffer-by-entry ∙ ap (λ r. (node (view r) n1).buffer) c.same-ring ∙ w.buffer-by-move in
    absurd (omega (arith, ap (λ ks. get_or (numbers_of ks) 0 0) same))

turn-ring : Ring
turn-ring = ring_after turn_case

turn_holds : view turn-ring ≡ turning
unfolding turn-ring
turn_holds = fresh-run turn_case ∙ turn-case

pub ring-pairs : RingPairs
unfolding turn-ring next
ring-pairs =
    let turn-sound = fresh-sound turn_case in
    let turned = seen-there turn-ring turn-sound turn_holds (enter n2 ∷ move n0 ∷ []) in
    let last = sound-hold arriving made-by-hand.arriving-sound in
    let last-holds = sound-view arriving made-by-hand.arriving-sound in
    let met = sound-hold meeting made-by-hand.meeting-sound in
    let Met-Holds = sound-view meeting made-by-hand.meeting-sound in
    let both = move n0 ∷ move n2 ∷ [] in
    let order = order-there turn-ring turn-sound turn_holds worked-pairs.order-matters in
    record {
      worked =
          record {
            two-entries = either_way turn-ring turn-sound turn_holds worked-pairs.two-entries;
            entry-and-move = either_way turn-ring turn-sound turn_holds worked-pairs.entry-and-move;
            mark_set = ap (λ υ. (node υ n1).mark) turned ∙ worked-pairs.mark_set;
            no-mark = ap (λ υ. (node υ n0).mark) turned ∙ worked-pairs.no-mark;
            no-such-node = either_way turn-ring turn-sound turn_holds worked-pairs.no-such-node;
            order-matters = order;
            two-deliveries = either_way (hold arriving) last last-holds worked-pairs.two-deliveries;
            count-at-end = ap (λ (υ : Network). υ.deliveries) (seen-there (hold arriving) last last-holds both) ∙ worked-pairs.count-at-end;
            taken-and-delivered = either_way (hold meeting) met Met-Holds worked-pairs.taken-and-delivered;
            answers-there = ap (λ υ. (node υ n1).line) (seen-there (hold meeting) met Met-Holds both) ∙ worked-pairs.answers-there;
          };
      not-in-either-order = order-seen turn-ring order;
      one-node = λ apart. apart n0 refl (inl refl);
      two-nodes = λ apart. apart n0 (inl refl) (inr refl);
    }

-- Where a message stands in two buffers: first the move from node 0, by which the request is taken and its record answers, and the move from
-- node 2 delivers; without it the request passes there.

-- how many deliveries a reply has
handed : Reply → ℕ
handed r = length (listed (delivered_in r))

pub sound-matters : SoundMatters
unfolding handed checked_call next arrival Calls.move
sound-matters =
    record {
      not_sound = made-by-hand.not_sound;
      with-25 = λ a. rw made-by-hand.not_sound;
      without-25 = λ commutes. absurd (omega (arith, ap handed (commutes stands_twice (move_at n0) (move_at n2) moves-apart).second-answer));
    }
