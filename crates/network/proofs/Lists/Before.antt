-- Lists. A ring that has not started: it is sound exactly when it is idle, that is, when every node is empty and every channel rests. So
-- what the ring is built by keeps it sound, and nothing is taken in or handed out before the start.
use Prim.Native.Nat.{ℕ, ◌+◌, ◌≤◌, ◌<◌}
use mathlib.Core.Path.{◌≡◌, refl, sym, ap, subst, ◌∙◌}
use mathlib.Core.Logic.{◌↔◌}
use mathlib.Core.Bool.{true, false, cond, ◌&&◌, not}
use mathlib.Core.List.{List, [], ◌∷◌, ◌++◌}
use mathlib.Core.Option.{none, some}
use native.Mathlib.Omega.{arith}
use lib.Dec.{leb, ltb, eqb}
use lib.ListN.{length, get_or, length-append, get_or-append, get_or-eq_default}
use lib.Seq.{get_or-append_seam}
use borrow.Author.Tests.{ltb-true, leb-true, le-leb}
use Rattle.refusal.specs.declared.Refusal.{Refusal}
use Rattle.numbers.specs.declared.NodeNo.{NodeNo}
use Rattle.numbers.specs.declared.ChannelNo.{ChannelNo}
use Rattle.network.specs.Counting.{one, all_below, weigh}
use Rattle.network.specs.Network.{Network, NodeState, ChannelState, resting, fresh, node_no, channel_no, times_in, count_of_nodes, count_of_channels, slot_count, node, channel, moving, no_node, no_channel, times_on}
use Rattle.network.specs.Sound.{Limits, sound_before, sound_after, sound}
use Rattle.network.specs.Calls.{Event, Outcome, refused, unless}
use Rattle.network.specs.Calls
use Rattle.network.specs.Runs.{Call, call}
use Rattle.network.specs.Runs
use Rattle.network.proofs.Ground.Splits.{by_less, by-same, and_left, and_right, and_both, both_ways}
use Rattle.network.proofs.Ground.Counting.{count_same, sum_same, sum-none, sum-term, weigh-none}
use Rattle.network.proofs.Ground.Tests.{eqb-reads, each_below}
use Rattle.network.proofs.Ground.Joined.{two-read, three-read, resting-reads, absent-reads, not-reads}
use Rattle.network.proofs.Lists.Clauses.{Facts, facts, facts-sound}
use Rattle.network.proofs.Lists.Outcomes.{After, was-done, if-met, Silent, unseen}

pub record IdleNode (L : Limits) (s : NodeState) : Type 0 where
  pub some-slot : 1 ≤ s.slots
  pub slot-limit : s.slots ≤ L.slots
  pub empty-buffer : s.buffer ≡ []
  pub empty-line : s.line ≡ []
  pub unmarked : s.mark ≡ false

pub record IdleChannel (n : ℕ) (s : ChannelState) : Type 0 where
  pub sender-below : s.sender.0 < n
  pub receiver-below : s.receiver.0 < n
  pub at_rest : s.phase ≡ resting
  pub no-offer : s.offer ≡ none

-- over the parts of a ring, so that it says nothing of the start
pub record Idle (L : Limits) (ns : List NodeState) (cs : List ChannelState) (d : ℕ) : Type 0 where
  pub node-limit : length ns ≤ L.nodes
  pub channel-limit : length cs ≤ L.channels
  pub none-delivered : d ≡ 0
  pub each-node : (p : ℕ) → p < length ns → IdleNode L (get_or ns p no_node)
  pub each-channel : (k : ℕ) → k < length cs → IdleChannel (length ns) (get_or cs k no_channel)

-- a list in which nothing stands is empty
none-empty : (ks : List ChannelNo) → ((k : ℕ) → 0 < times_in ks (channel_no k) → ⊥) → ks ≡ []
unfolding weigh
none-empty [] h = refl
none-empty (k ∷ ks) h = absurd (h k.0 (omega (arith, count_same k.0)))

-- what `sound_before` says
before-reads : (σ : Network) →
    (sound_before σ ≡ true) ↔
    (((k : ℕ) → k < count_of_channels σ → ((channel σ (channel_no k)).phase ≡ resting) × ((channel σ (channel_no k)).offer ≡ none))
    × ((p : ℕ) → p < count_of_nodes σ → (node σ (node_no p)).mark ≡ false)
    × (σ.deliveries ≡ 0))
unfolding sound_before
before-reads σ =
    three-read
    (each_below (count_of_channels σ)
    (λ k. two-read (resting-reads (channel σ (channel_no k)).phase) (absent-reads (channel σ (channel_no k)).offer)))
    (each_below (count_of_nodes σ) (λ p. not-reads (node σ (node_no p)).mark))
    (eqb-reads σ.deliveries 0)

-- how often k stands at p
abbrev times_at : Network → ℕ → ℕ → ℕ
times_at σ k p = times_in (node σ (node_no p)).buffer (channel_no k) + times_in (node σ (node_no p)).line (channel_no k)

module _ (L : Limits) (σ : Network) where
  abbrev IdleRing : Type 0
  IdleRing = Idle L σ.nodes σ.channels σ.deliveries

  pub sound-idle : sound L σ ≡ true → σ.started ≡ false → IdleRing
  unfolding sound_before
  sound-idle ok s =
      let before = (before-reads σ).0 (rw s at h.at-start) in
      record {
        node-limit = h.node-limit;
        channel-limit = h.channel-limit;
        none-delivered = before.2;
        each-node = λ p l. let q = h.each-node p l in record {
          some-slot = q.some-slot;
          slot-limit = q.slot-limit;
          empty-buffer = none-empty _ (λ k i. nowhere p l k (q.in-buffer k i).0 (before.0 k (q.in-buffer k i).0).0 (omega arith));
          empty-line = none-empty _ (λ k i. nowhere p l k (q.in-line k i).0 (before.0 k (q.in-line k i).0).0 (omega arith));
          unmarked = before.1 p l;
        };
        each-channel = λ k l. record {
          sender-below = (h.each-channel k l).sender-below;
          receiver-below = (h.each-channel k l).receiver-below;
          at_rest = (before.0 k l).0;
          no-offer = (before.0 k l).1;
        };
      }
    where
      h : Facts L σ
      h = facts L σ ok

      nowhere : (p : ℕ) → p < count_of_nodes σ → (k : ℕ) → k < count_of_channels σ → (channel σ (channel_no k)).phase ≡ resting → 0 < times_at σ k p → ⊥
      nowhere p lp k lk rests i =
          let none-on : times_on σ (channel_no k) ≡ 0 = (h.each-channel k lk).once ∙ ap (λ f. one (moving f)) rests in
          omega (arith, sum-term (count_of_nodes σ) p (times_at σ k) lp)

  -- an idle ring is sound, whichever clause of the start it is held to
  pub idle-sound : IdleRing → cond σ.started (sound_after σ) (sound_before σ) ≡ true → sound L σ ≡ true
  idle-sound h at =
      facts-sound L σ
      (record {
        node-limit = h.node-limit;
        channel-limit = h.channel-limit;
        delivery-limit = rw h.none-delivered (omega arith);
        each-node = λ p l. let q = h.each-node p l in record {
          some-slot = q.some-slot;
          slot-limit = q.slot-limit;
          fits = rw q.empty-buffer (omega arith);
          in-buffer = λ k i. absurd (omega (arith, nowhere k p l));
          in-line = λ k i. absurd (omega (arith, nowhere k p l));
          marked = λ t. both_ways t q.unmarked;
        };
        each-channel = λ k l. let r = h.each-channel k l in record {
          sender-below = r.sender-below;
          receiver-below = r.receiver-below;
          once = rw r.at_rest (sum_same (count_of_nodes σ) (times_at σ k) _ (nowhere k) ∙ sum-none (count_of_nodes σ));
          ready-bare = λ f. r.no-offer;
          good-offer = rw r.no-offer;
          good-carried = rw r.at_rest;
        };
        at-start = at;
      })
    where
      nowhere : (k p : ℕ) → p < count_of_nodes σ → times_at σ k p ≡ 0
      nowhere k p l = rw ((h.each-node p l).empty-buffer, (h.each-node p l).empty-line) (omega (arith, weigh-none (λ x. one (eqb x k))))

  idle-before : IdleRing → sound_before σ ≡ true
  idle-before h =
      (before-reads σ).1 (
        λ k l. ((h.each-channel k l).at_rest, (h.each-channel k l).no-offer),
        λ p l. (h.each-node p l).unmarked,
        h.none-delivered,
      )

pub fresh-sound : (L : Limits) → sound L fresh ≡ true
unfolding sound sound_before all_below
fresh-sound L = rw (le-leb 0 L.nodes (omega arith), le-leb 0 L.channels (omega arith))

-- what holds of each of a list, and of one more
each_snoc {ℓ κ} : {A : Type ℓ} (P : A → Type κ) (xs : List A) (x d : A) →
    ((i : ℕ) → i < length xs → P (get_or xs i d)) → P x → (i : ℕ) → i < length (xs ++ (x ∷ [])) → P (get_or (xs ++ (x ∷ [])) i d)
each_snoc P xs x d each last i l =
    by-same i (length xs)
    (λ e. rw (e, get_or-append_seam xs x [] d) last)
    (λ other.
    let below : i < length xs = omega (arith, length-append xs (x ∷ [])) in
    rw (get_or-append xs (x ∷ []) d i below) (each i below))

-- every channel number reads as resting and without an offer, one that is no channel too
pub idle-rests : {L : Limits} {ns : List NodeState} {cs : List ChannelState} {d : ℕ} → Idle L ns cs d → (k : ℕ) →
    ((get_or cs k no_channel).phase ≡ resting) × ((get_or cs k no_channel).offer ≡ none)
idle-rests {cs} h k =
    by_less k (length cs)
    (λ l. ((h.each-channel k l).at_rest, (h.each-channel k l).no-offer))
    (λ beyond. rw (get_or-eq_default cs no_channel beyond) (refl, refl))

-- an accepted call before the start: it is silent, and the next ring is idle and sound
pub record Prepared (L : Limits) (a : Call) (e : Event) (τ : Network) : Type 0 where
  pub unheard : Silent a e
  pub still-idle : Idle L τ.nodes τ.channels τ.deliveries
  pub next-sound : sound L τ ≡ true

module _ (L : Limits) (σ : Network) (ok : sound L σ ≡ true) (s : σ.started ≡ false) where
  idle : Idle L σ.nodes σ.channels σ.deliveries
  idle = sound-idle L σ ok s

  built : {a : Call} {e : Event} (τ : Network) → Silent a e → Idle L τ.nodes τ.channels τ.deliveries → τ.started ≡ false →
      Prepared L a e τ
  built τ q h e =
      let at = subst (λ b. cond b (sound_after τ) (sound_before τ) ≡ true) (sym e) (idle-before L τ h) in
      record { unheard = q; still-idle = h; next-sound = idle-sound L τ h at }

  add-node-before : (slots : ℕ) → After (Prepared L (Runs.add_node slots)) (Calls.add_node L slots σ)
  unfolding Calls.add_node
  add-node-before slots =
      if-met (not σ.started) _ _ λ e.
      if-met (ltb (count_of_nodes σ) L.nodes) _ _ λ room.
      if-met (leb 1 slots && leb slots L.slots) _ _ λ fit.
      was-done (built _ (unseen refl (λ k. refl) (λ k. refl)) (record {
        node-limit = rw length-append (omega (arith, ltb-true));
        channel-limit = idle.channel-limit;
        none-delivered = idle.none-delivered;
        each-node = each_snoc (IdleNode L) σ.nodes _ no_node idle.each-node (record {
          some-slot = leb-true 1 slots (and_left _ _ fit);
          slot-limit = leb-true slots L.slots (and_right (leb 1 slots) _ fit);
          empty-buffer = refl;
          empty-line = refl;
          unmarked = refl;
        });
        each-channel = λ k l. let r = idle.each-channel k l in record {
          sender-below = rw length-append (omega (arith, r.sender-below));
          receiver-below = rw length-append (omega (arith, r.receiver-below));
          at_rest = r.at_rest;
          no-offer = r.no-offer;
        };
      }) s)

  add-channel-before : (a b : NodeNo) → After (Prepared L (Runs.add_channel a b)) (Calls.add_channel L a b σ)
  unfolding Calls.add_channel
  add-channel-before a b =
      if-met (not σ.started) _ _ λ e.
      if-met (ltb (count_of_channels σ) L.channels) _ _ λ room.
      if-met (ltb a.0 (count_of_nodes σ) && ltb b.0 (count_of_nodes σ)) _ _ λ ends.
      was-done (built _ (unseen refl (λ k. refl) (λ k. refl)) (record {
        node-limit = idle.node-limit;
        channel-limit = rw length-append (omega (arith, ltb-true));
        none-delivered = idle.none-delivered;
        each-node = idle.each-node;
        each-channel = each_snoc (IdleChannel (count_of_nodes σ)) σ.channels _ no_channel idle.each-channel (record {
          sender-below = ltb-true a.0 (count_of_nodes σ) (and_left _ _ ends);
          receiver-below = ltb-true b.0 (count_of_nodes σ) (and_right (ltb a.0 (count_of_nodes σ)) _ ends);
          at_rest = refl;
          no-offer = refl;
        });
      }) s)

  start-before : After (Prepared L Runs.start) (Calls.start σ)
  unfolding Calls.start sound_after
  start-before =
      if-met (not σ.started) _ _ λ e.
      if-met (leb 1 (count_of_nodes σ) && leb 1 (count_of_channels σ)) _ _ λ some.
      if-met (ltb (count_of_channels σ) (slot_count σ)) _ _ λ more.
      was-done (record {
        unheard = unseen refl (λ k. refl) (λ k. refl);
        still-idle = idle;
        next-sound = idle-sound L _ idle (and_both _ _ some more);
      })

  -- the ring's work waits for the start
  not_yet : {P : Event → Network → Type 0} (r : Refusal) (o : Outcome Network) → After P (unless σ.started (refused r) o)
  not_yet r o = if-met σ.started r o λ e. both_ways e s

  pub call-before : (a : Call) → After (Prepared L a) (call L a σ)
  unfolding Calls.receive Calls.send Calls.enter Calls.move Calls.withdraw Calls.hops_left Calls.waiting_set
  call-before (Runs.add_node slots) = add-node-before slots
  call-before (Runs.add_channel a b) = add-channel-before a b
  call-before Runs.start = start-before
  call-before (Runs.receive k) = not_yet _ _
  call-before (Runs.send k x) = not_yet _ _
  call-before (Runs.enter p) = not_yet _ _
  call-before (Runs.move p) = not_yet _ _
  call-before (Runs.withdraw k) = not_yet _ _
  call-before (Runs.hops_left k) = not_yet _ _
  call-before (Runs.waiting_set p) =
      if-met (ltb p.0 (count_of_nodes σ)) _ _ λ l.
      was-done (built σ (unseen refl (λ k. refl) (λ k. refl)) idle s)
