-- Lists. The calls on a sound started ring, one by one: an accepted receive, send, entry, move or withdrawal is a step of the theory, and
-- leaves the sizes and ends as they are. Each law follows the order of a call's refusals and says nothing where one applies.
use Prim.Native.Nat.{ℕ, ◌≤◌, ◌<◌}
use mathlib.Core.Path.{◌≡◌, refl, sym, ap, subst, ◌∙◌}
use mathlib.Core.Logic.{◌≢◌, ⊎_elim}
use mathlib.Core.Bool.{Bool, true, false, false≢true, cond, not}
use mathlib.Core.List.{List, ◌∷◌}
use mathlib.Core.Option.{Option, none, some}
use native.Mathlib.Omega.{arith}
use lib.Dec.{ltb}
use lib.ListN.{length}
use borrow.Author.Tests.{ltb-true, eq-eqb, ne_eqb, not-true}
use Rattle.refusal.specs.declared.Refusal.{Refusal}
use Rattle.batch.specs.declared.BatchRecord.{BatchRecord}
use Rattle.batch.specs.Good.{good_record, send_verdict}
use Rattle.batch.proofs.Good.{sent-exactly}
use Rattle.numbers.specs.declared.NodeNo.{NodeNo}
use Rattle.numbers.specs.declared.ChannelNo.{ChannelNo}
use Rattle.hops.specs.Hops.{next}
use Rattle.hops.proofs.Laws
use Rattle.network.specs.Network.{Network, Phase, resting, asking, ready, answering, numbers_of, count_of_nodes, count_of_channels, node, channel, next_node, moving, with_channel}
use Rattle.network.specs.Sound.{Limits, last_count, next_count, is_resting, is_asking, is_ready, absent}
use Rattle.network.specs.Calls.{Event, done, delivered, Outcome, refused, unless, Arrival, taken, passing, arrived, arrival, join_line, in_receiver_line, respond, take_request, deliver, leave, has_slot, hand_over}
use Rattle.network.specs.Calls
use Rattle.network.specs.Runs.{Call, call}
use Rattle.network.specs.Runs
use Rattle.network.proofs.Ground.Splits.{by-same, by-list, by-phase, both_ways}
use Rattle.network.proofs.Ground.Numbers.{length-numbers}
use Rattle.network.proofs.Ground.Joined.{resting-is, asking-is, ready-is, absent-is}
use Rattle.hops.proofs.Laws.{next-below}
use Rattle.network.proofs.Theory.State.{State, Did, did-receive, did-offer, did-answer, did-enter, did-pass, did-ask, did-respond, did-deliver, did-withdraw, target_in, turn, join, pop, pass}
use Rattle.network.proofs.Lists.Tables.{net_of, state_of, Becomes, and_then, recounted, still-node, turned, joined, pulled, popped, passed, pushed}
use Rattle.network.proofs.Theory.Weight.{target_below}
use Rattle.network.proofs.Theory.Kept.{first_passes, first-moving}
use Rattle.network.proofs.Lists.Outcomes.{After, not-done, was-done, after-some, if-met, if-good, Silent, unseen}
use Rattle.network.proofs.Lists.Clauses.{Started}

-- an accepted step: it is one of the theory, and what the theory does not see stays within its bounds
pub record Stepped (σ : Network) (a : Call) (e : Event) (τ : Network) : Type 0 where
  pub did : Did (net_of σ) (state_of σ) a e (state_of τ)
  pub same-net : net_of τ ≡ net_of σ
  pub running : τ.started ≡ true
  pub delivery-limit : τ.deliveries ≤ last_count

-- how a call on a sound started ring is accepted: it is a step, or a question that leaves the ring
pub data Answered (σ : Network) (a : Call) (e : Event) (τ : Network) : Type 0 where
  by-step : Stepped σ a e τ → Answered σ a e τ
  by-question : Silent a e → τ ≡ σ → Answered σ a e τ

-- a message that is not taken at the next node leaves its own: on a ring of one node it would be taken
pub next-elsewhere : (n p q : ℕ) → p < n → q < n → next n p ≢ q → next n p ≢ p
next-elsewhere n p q lp lq d e = ⊎_elim (λ last. d (omega arith)) (λ more. omega arith) (Laws.next-cases n p)

-- what becomes of a message under way that reaches node q
pub data ArrivesAs (σ : Network) (q : NodeNo) (k : ChannelNo) : Arrival → Type 0 where
  is-taken : (channel σ k).phase ≡ asking → q.0 ≡ (channel σ k).sender.0 → ArrivesAs σ q k taken
  is-arrived : {x : BatchRecord} → (channel σ k).phase ≡ answering x → q.0 ≡ (channel σ k).receiver.0 → ArrivesAs σ q k (arrived x)
  is-passing : q.0 ≢ target_in (net_of σ) (channel σ k).phase k.0 → ArrivesAs σ q k passing

pub arrives-as : (σ : Network) (q : NodeNo) (k : ChannelNo) → moving (channel σ k).phase ≡ true → ArrivesAs σ q k (arrival σ q k)
unfolding arrival
arrives-as σ q k m =
    by-phase (channel σ k).phase
    (λ f. absurd (false≢true (rw f at m)))
    (λ f.
    by-same q.0 (channel σ k).sender.0
    (λ same. rw (f, eq-eqb _ _ same) (is-taken f same))
    (λ other. rw (f, ne_eqb _ _ other) (is-passing (rw f other))))
    (λ f. absurd (false≢true (rw f at m)))
    (λ x f.
    by-same q.0 (channel σ k).receiver.0
    (λ same. rw (f, eq-eqb _ _ same) (is-arrived f same))
    (λ other. rw (f, ne_eqb _ _ other) (is-passing (rw f other))))

-- a channel's phase changes and its message joins the line of p
announced : (σ : Network) (p : NodeNo) (k : ChannelNo) (f : Phase) (o : Option BatchRecord) → p.0 < count_of_nodes σ → k.0 < count_of_channels σ →
    Becomes σ (join_line p k (with_channel k f o σ)) (join p.0 k.0 (turn k.0 f o (state_of σ)))
announced σ p k f o lp lk = and_then (join p.0 k.0) (turned σ k f o lk) (joined _ p lp k)

module _ (L : Limits) (σ : Network) (h : Started L σ) where
  open h use {running, delivery-limit, tables}

  stepped : {a : Call} {e : Event} {s : State} (τ : Network) →
      Did (net_of σ) (state_of σ) a e s → Becomes σ τ s → τ.deliveries ≤ last_count → Stepped σ a e τ
  stepped {a} {e} τ d b l =
      record {
        did = subst (Did (net_of σ) (state_of σ) a e) (sym b.tables) d;
        same-net = b.same-net;
        running = b.same_start ∙ running;
        delivery-limit = l;
      }

  -- a call that is refused before the start, and where its channel or node is not there
  if-there : {P : Event → Network → Type 0} (i n : ℕ) (r r' : Refusal) (o : Outcome Network) → (i < n → After P o) →
      After P (unless σ.started (refused r) (unless (ltb i n) (refused r') o))
  if-there i n r r' o h = if-met σ.started r _ λ s. if-met (ltb i n) r' o λ l. h (ltb-true i n l)

  pub receive-did : (k : ChannelNo) → After (Stepped σ (Runs.receive k)) (Calls.receive k σ)
  unfolding Calls.receive
  receive-did k =
      if-there k.0 (count_of_channels σ) _ _ _ λ lk.
      if-met (is_resting (channel σ k).phase) _ _ λ f.
      was-done (stepped _ (did-receive k.0 lk (resting-is _ f))
      (announced σ _ k asking _ (tables.receiver-below k.0 lk) lk) delivery-limit)

  pub send-did : (k : ChannelNo) (x : BatchRecord) → After (Stepped σ (Runs.send k x)) (Calls.send k x σ)
  unfolding Calls.send
  send-did k x =
      if-there k.0 (count_of_channels σ) _ _ _ λ lk.
      if-good (send_verdict x) _ λ g.
      if-met (absent (channel σ k).offer) _ _ λ a.
      was-done (offered lk ((sent-exactly x).0 g).0 (absent-is _ a) (is_ready (channel σ k).phase) refl)
    where
      offered : k.0 < count_of_channels σ → good_record x ≡ true → (channel σ k).offer ≡ none →
          (b : Bool) → is_ready (channel σ k).phase ≡ b →
          Stepped σ (Runs.send k x) done (cond b (respond k x σ) (with_channel k (channel σ k).phase (some x) σ))
      offered lk g a true r =
          stepped _ (did-answer k.0 x lk g (ready-is _ r)) (announced σ _ k _ _ (tables.sender-below k.0 lk) lk) delivery-limit
      offered lk g a false r = stepped _ (did-offer k.0 x lk g a r) (turned σ k _ _ lk) delivery-limit

  pub withdraw-did : (k : ChannelNo) → After (Stepped σ (Runs.withdraw k)) (Calls.withdraw k σ)
  unfolding Calls.withdraw
  withdraw-did k =
      if-there k.0 (count_of_channels σ) _ _ _ λ lk.
      if-met (is_asking (channel σ k).phase) _ _ λ f.
      if-met (in_receiver_line σ k) _ _ λ there.
      was-done (stepped _ (did-withdraw k.0 lk (asking-is _ f) (ltb-true _ _ there))
      (and_then (turn k.0 resting _) (pulled σ _ (tables.receiver-below k.0 lk) k) (turned _ k resting _ lk)) delivery-limit)

  pub enter-did : (p : NodeNo) → After (Stepped σ (Runs.enter p)) (Calls.enter p σ)
  unfolding Calls.enter
  enter-did p =
      if-there p.0 (count_of_nodes σ) _ _ _ λ lp.
      by-list (node σ p).line (λ none. rw none not-done) λ k ks e.
      rw e (
      if-met (has_slot σ p) _ _ λ room.
      was-done (stepped _ (did-enter p.0 k.0 (numbers_of ks) lp (ap numbers_of e) (rw length-numbers (ltb-true _ _ room)))
      (pushed σ p lp k ks) delivery-limit)
      )

  -- the first of the buffer of p leaves for the next node
  module _ (p : NodeNo) (k : ChannelNo) (ks : List ChannelNo) (lp : p.0 < count_of_nodes σ) (e : (node σ p).buffer ≡ k ∷ ks) where
    first : numbers_of (node σ p).buffer ≡ k.0 ∷ numbers_of ks
    first = ap numbers_of e

    known : k.0 < count_of_channels σ
    known = (first_passes (net_of σ) tables p.0 k.0 (numbers_of ks) lp first).0

    left : Becomes σ (leave p ks σ) (pop p.0 (numbers_of ks) (state_of σ))
    left = popped σ p lp ks

    taken-there : (channel σ k).phase ≡ asking → (next_node σ p).0 ≡ (channel σ k).sender.0 →
        (o : Option BatchRecord) → (channel σ k).offer ≡ o →
        Stepped σ (Runs.move p) done (take_request k o (leave p ks σ))
    taken-there f at none eo =
        stepped _ (did-ask p.0 k.0 (numbers_of ks) lp first f at eo)
        (and_then (turn k.0 ready none) left (turned _ k ready none known)) delivery-limit
    taken-there f at (some x) eo =
        stepped _ (did-respond p.0 k.0 (numbers_of ks) x lp first f at eo)
        (and_then (λ s. join (channel σ k).sender.0 k.0 (turn k.0 (answering x) none s)) left
        (announced _ _ k (answering x) none (still-node left _ (tables.sender-below k.0 known)) known)) delivery-limit

    delivered-there : (x : BatchRecord) → (channel σ k).phase ≡ answering x → (next_node σ p).0 ≡ (channel σ k).receiver.0 →
        Stepped σ (Runs.move p) (delivered k x) (deliver k (leave p ks σ))
    unfolding next_count
    delivered-there x f at =
        stepped _ (did-deliver p.0 k.0 (numbers_of ks) x lp first f at)
        (recounted _ (and_then (turn k.0 resting _) left (turned _ k resting _ known))) (omega arith)

    passed_on : (next_node σ p).0 ≢ target_in (net_of σ) (channel σ k).phase k.0 →
        length (node σ (next_node σ p)).buffer < (node σ (next_node σ p)).slots →
        (node σ (next_node σ p)).mark ≡ false →
        Stepped σ (Runs.move p) done (Calls.pass (next_node σ p) k (leave p ks σ))
    passed_on d room clear =
        let ends = target_below (net_of σ) k.0 tables known in
        stepped _ (did-pass p.0 k.0 (numbers_of ks) lp first d (next-elsewhere _ _ _ lp ends d) (rw length-numbers room) clear)
        (and_then (pass (next_node σ p).0 k.0) left (passed _ _ (still-node left _ (next-below _ p.0 lp)) k)) delivery-limit

    handed-over : (w : Arrival) → ArrivesAs σ (next_node σ p) k w →
        After (Stepped σ (Runs.move p)) (hand_over p (next_node σ p) k ks w σ)
    handed-over _ (is-taken f at) = was-done (taken-there f at (channel σ k).offer refl)
    handed-over _ (is-arrived {x} f at) = was-done (delivered-there x f at)
    handed-over _ (is-passing d) =
        if-met (has_slot σ (next_node σ p)) _ _ λ room.
        if-met (not (node σ (next_node σ p)).mark) _ _ λ clear.
        was-done (passed_on d (ltb-true _ _ room) (not-true _ clear))

  pub move-did : (p : NodeNo) → After (Stepped σ (Runs.move p)) (Calls.move p σ)
  unfolding Calls.move
  move-did p =
      if-there p.0 (count_of_nodes σ) _ _ _ λ lp.
      by-list (node σ p).buffer (λ none. rw none not-done) λ k ks e.
      let moves = first-moving (net_of σ) tables p.0 k.0 (numbers_of ks) lp (ap numbers_of e) in
      rw e (handed-over p k ks lp e _ (arrives-as σ _ k moves))

  -- every call on a sound started ring

  -- the ring is not built further
  once-started : {P : Event → Network → Type 0} (r : Refusal) (o : Outcome Network) →
      After P (unless (not σ.started) (refused r) o)
  once-started r o = if-met (not σ.started) r o λ s. both_ways running (not-true _ s)

  pub call-did : (a : Call) → After (Answered σ a) (call L a σ)
  unfolding Calls.add_node Calls.add_channel Calls.start Calls.hops_left Calls.waiting_set
  call-did (Runs.add_node slots) = once-started _ _
  call-did (Runs.add_channel s r) = once-started _ _
  call-did Runs.start = once-started _ _
  call-did (Runs.receive k) = after-some (λ e τ. by-step) (receive-did k)
  call-did (Runs.send k x) = after-some (λ e τ. by-step) (send-did k x)
  call-did (Runs.enter p) = after-some (λ e τ. by-step) (enter-did p)
  call-did (Runs.move p) = after-some (λ e τ. by-step) (move-did p)
  call-did (Runs.withdraw k) = after-some (λ e τ. by-step) (withdraw-did k)
  call-did (Runs.hops_left k) =
      if-there k.0 (count_of_channels σ) _ _ _ λ l.
      was-done (by-question (unseen refl (λ j. refl) (λ j. refl)) refl)
  call-did (Runs.waiting_set p) =
      if-met (ltb p.0 (count_of_nodes σ)) _ _ λ l.
      was-done (by-question (unseen refl (λ j. refl) (λ j. refl)) refl)
