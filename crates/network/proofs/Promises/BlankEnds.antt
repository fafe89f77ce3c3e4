-- The worked sends and the rings made by hand, of the ring in memory, which answers as the ring apart from its layout does (Ground/BlankEnds);
-- a ring that holds a record from before, still sound and served; and from a fresh ring none comes out, since none goes in.
use Prim.Native.Nat.{◌<◌}
use mathlib.Core.Path.{◌≡◌, refl, sym, ap, subst, ◌∙◌}
use mathlib.Core.Bool.{Bool, true, false, not, ◌&&◌, and_assoc}
use mathlib.Core.List.{List, [], ◌∷◌, ◌++◌, map}
use mathlib.Core.Option.{Option}
use borrow.Author.Tests.{ltb-true}
use Rattle.batch.specs.declared.BatchRecord.{BatchRecord}
use Rattle.batch.specs.Good.{every, good_record, blank_ends, send_verdict}
use Rattle.batch.proofs.Good.{means-30, sent-exactly}
use Rattle.numbers.specs.declared.ChannelNo.{ChannelNo}
use Rattle.network.specs.declared.Ring.{Ring}
use Rattle.network.specs.Network.{Network, Phase, answering, fresh, count_of_channels, same_channel, channel, is_channel, with_channel}
use Rattle.network.specs.Sound.{is_ready, absent, sound}
use Rattle.network.specs.Calls.{Outcome, refused, accepted}
use Rattle.network.specs.Calls
use Rattle.network.specs.Runs.{Call, add_node, add_channel, start, receive, send, enter, move, withdraw, hops_left, waiting_set, sent_on, call, after, run, offered_by, offered_on, delivered_on}
use Rattle.network.specs.Layout.{ring_limits, view, hold, fresh_ring, sound_ring, call_ring}
use Rattle.network.specs.Answers.{answers}
use Rattle.network.specs.Worked.BlankEnds.{old_offer, old_carried, whole_way, way_back, SendRow, sends, answered, RingBlanks, HoldsAsWell, StillSound, StillServed, NoneDelivered}
use Rattle.network.proofs.Worked.BlankEnds as lists
use Rattle.network.proofs.Ground.Splits.{by-test, both_ways, and_left}
use Rattle.network.proofs.Ground.Joined.{ready-is}
use Rattle.network.proofs.Theory.State.{Sound, turn}
use Rattle.network.proofs.Theory.Kept.{good-unready, kept-records, kept-offer}
use Rattle.network.proofs.Lists.Tables.{net_of, state_of, turned}
use Rattle.network.proofs.Lists.Clauses.{Within, Started, sound-started, started-sound}
use Rattle.network.proofs.Lists.Outcomes.{After, not-done, was-done, if-met, if-good}
use Rattle.network.proofs.Memory.Held.{sound-view, sound-ring, sound-hold}
use Rattle.network.proofs.Promises.Machine.{offered-seen}
use Rattle.network.proofs.Promises.Demand.{ring-machine, ring-demand3, ring-safe}
use Rattle.network.proofs.Promises.Edges.{number-after}

-- a sound ring, laid out, answers as it does apart from its layout
pub held-answers : (σ : Network) (calls : List Call) → sound ring_limits σ ≡ true → answers call_ring calls (hold σ) ≡ answers (call ring_limits) calls σ
held-answers σ calls ok =
    (ring-demand3.each (hold σ) calls (sound-hold σ ok)).same-answers
    ∙ ap (answers (call ring_limits) calls) (sound-view σ ok)

pub rows-answer : (rs : List SendRow) →
    map (answered (λ before. run call_ring before fresh_ring) call_ring) rs
    ≡ map (answered (λ before. run (call ring_limits) before fresh) (call ring_limits)) rs
rows-answer [] = refl
rows-answer (r ∷ rs) = λ i. number-after r.before (send r.at r.sent) i ∷ rows-answer rs i

pub ring-blanks : RingBlanks
ring-blanks =
    let old = lists.old-rings in
    record {
      sends-answer = rows-answer sends ∙ lists.sends-answer;
      old-rings = record {
        offer-sound = sound-hold old_offer old.offer-sound;
        carried-sound = sound-hold old_carried old.carried-sound;
        offer-delivered = held-answers old_offer whole_way old.offer-sound ∙ old.offer-delivered;
        carried-delivered = held-answers old_carried way_back old.carried-sound ∙ old.carried-delivered;
      };
    }

-- another good record in the place of the one that a sound started ring holds
module _ (ring : Ring) (k : ChannelNo) (x : BatchRecord) (ok : sound_ring ring ≡ true) (on : (view ring).started ≡ true)
    (there : is_channel (view ring) k ≡ true) (good : good_record x ≡ true) where
  abbrev σ : Network
  σ = view ring

  lk : k.0 < count_of_channels σ
  lk = ltb-true _ _ there

  is-started : Started ring_limits σ
  is-started = sound-started ring_limits σ (sound-ring ring ok).sound on

  abbrev tables : Sound (net_of σ) (state_of σ)
  tables = is-started.tables

  exchanged : (f : Phase) (o : Option BatchRecord) → Sound (net_of σ) (turn k.0 f o (state_of σ)) → sound_ring (hold (with_channel k f o σ)) ≡ true
  exchanged f o s =
      let τ : Network = with_channel k f o σ in
      let b = turned σ k f o lk in
      sound-hold τ
      (started-sound ring_limits τ
      (record {
        running = b.same_start ∙ on;
        within = subst (Within ring_limits) (sym b.same-net) is-started.within;
        delivery-limit = is-started.delivery-limit;
        tables = subst (λ N. Sound N (state_of τ)) (sym b.same-net) (subst (Sound (net_of σ)) (sym b.tables) s);
      }))

  -- a channel with an offer is not ready
  unready : absent (channel σ k).offer ≡ false → is_ready (channel σ k).phase ≡ false
  unready has =
      by-test (is_ready (channel σ k).phase)
      (λ r. both_ways (ap absent (tables.ready-bare k.0 lk (ready-is _ r))) has)
      (λ r. r)

  holds-as-well : HoldsAsWell ring k x
  holds-as-well =
      record {
        offered = λ has. exchanged _ _ (kept-offer (net_of σ) tables k.0 x lk good (unready has));
        carried = λ y f.
            exchanged _ _
            (kept-records (net_of σ) tables k.0 (answering x) (channel σ k).offer (good-unready (net_of σ) refl (tables.good-offer k.0 lk) good)
            (λ _ _. rw f) (rw f));
      }

pub still-sound : StillSound
still-sound ring k x ok on there ends = holds-as-well ring k x ok on there ((means-30 x).0 ends).0

pub still-served : StillServed
still-served ring m x calls ok on match ends still-on = ring-demand3.served ring m x calls ok on match still-on

-- none comes out, since none goes in

abbrev clean : BatchRecord → Bool
clean x = not (blank_ends x)

every_append : (xs ys : List BatchRecord) → every clean (xs ++ ys) ≡ every clean xs && every clean ys
every_append [] ys = refl
every_append (x ∷ xs) ys = rw (every_append xs ys) (sym (and_assoc (clean x) (every clean xs) (every clean ys)))

module _ (k : ChannelNo) where
  -- a record that was taken in has no blank at an end
  taken-in : (σ : Network) (j : ChannelNo) (x : BatchRecord) → After (λ e τ. blank_ends x ≡ false) (Calls.send j x σ)
  unfolding Calls.send
  taken-in σ j x =
      if-met σ.started _ _ λ _. if-met (is_channel σ j) _ _ λ _.
      if-good (send_verdict x) _ λ g. if-met (absent (channel σ j).offer) _ _ λ _. was-done ((sent-exactly x).0 g).1

  clean-send : (j : ChannelNo) (x : BatchRecord) {o : Outcome Network} → After (λ e τ. blank_ends x ≡ false) o →
      every clean (offered_by k (send j x) o) ≡ true
  clean-send j x not-done = refl
  clean-send j x (was-done ends) = by-test (same_channel j k) (λ s. rw (s, ends)) (λ s. rw s)

  -- a call that sends nothing takes none in
  clean-none : (a : Call) → sent_on k a ≡ [] → (o : Outcome Network) → every clean (offered_by k a o) ≡ true
  clean-none a none (refused r) = refl
  clean-none a none (accepted e τ) = rw none

  clean-call : (a : Call) (σ : Network) → every clean (offered_by k a (call ring_limits a σ)) ≡ true
  clean-call (send j x) σ = clean-send j x (taken-in σ j x)
  clean-call (add_node slots) σ = clean-none (add_node slots) refl (call ring_limits (add_node slots) σ)
  clean-call (add_channel s r) σ = clean-none (add_channel s r) refl (call ring_limits (add_channel s r) σ)
  clean-call start σ = clean-none start refl (call ring_limits start σ)
  clean-call (receive j) σ = clean-none (receive j) refl (call ring_limits (receive j) σ)
  clean-call (enter p) σ = clean-none (enter p) refl (call ring_limits (enter p) σ)
  clean-call (move p) σ = clean-none (move p) refl (call ring_limits (move p) σ)
  clean-call (withdraw j) σ = clean-none (withdraw j) refl (call ring_limits (withdraw j) σ)
  clean-call (hops_left j) σ = clean-none (hops_left j) refl (call ring_limits (hops_left j) σ)
  clean-call (waiting_set p) σ = clean-none (waiting_set p) refl (call ring_limits (waiting_set p) σ)

  clean_run : (calls : List Call) (σ : Network) → every clean (offered_on (call ring_limits) k calls σ) ≡ true
  clean_run [] σ = refl
  clean_run (a ∷ calls) σ =
      let next : Network = after σ (call ring_limits a σ) in
      rw (every_append (offered_by k a (call ring_limits a σ)) (offered_on (call ring_limits) k calls next), clean-call a σ) (clean_run calls next)

pub none-delivered : NoneDelivered
none-delivered k calls =
    let order = ring-demand3.in_order k calls in
    let delivered : List BatchRecord = delivered_on call_ring k calls fresh_ring in
    let offered : every clean (offered_on call_ring k calls fresh_ring) ≡ true =
    ap (every clean) (offered-seen ring_limits fresh_ring sound_ring view call_ring ring-machine k calls fresh_ring ring-safe.fresh-sound)
    ∙ clean_run k calls (view fresh_ring) in
    and_left (every clean delivered) (every clean order.0)
    (sym (every_append delivered order.0) ∙ ap (every clean) (sym order.1) ∙ offered)
