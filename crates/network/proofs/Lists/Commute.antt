-- Lists. On a sound started ring, entries and moves that touch no common node commute (specs/Commute). Each is read as a plan: what it will
-- do goes by the nodes that it touches and by the channel at the head of its buffer, and doing it changes those alone. So the other call
-- leaves the plan as it was, and the two changes are at different places.
use Prim.Native.Nat.{ℕ, zero, suc, ◌+◌, ◌≤◌, ◌<◌}
use mathlib.Core.Path.{◌≡◌, refl, sym, ap, subst, ◌∙◌}
use mathlib.Core.Logic.{◌≢◌, inl, inr}
use mathlib.Core.Bool.{Bool, true, false, ◌||◌, not}
use mathlib.Core.List.{List, [], ◌∷◌, ◌++◌, nil≢cons}
use mathlib.Core.Option.{Option, none, some}
use native.Mathlib.Omega.{arith}
use lib.Dec.{ltb}
use lib.ListN.{length, get_or, set}
use lib.Seq.{get_or-set_other}
use borrow.Author.Tests.{lt-ltb, le-ltb}
use Rattle.refusal.specs.declared.Refusal.{Refusal}
use Rattle.refusal.specs.declared.Refusal.TheVariants.{NotStarted, NoSuchNode, LineEmpty, NoFreeSlot, BufferEmpty, NextBufferFull, TurnMarkSet}
use Rattle.batch.specs.declared.BatchRecord.{BatchRecord}
use Rattle.numbers.specs.declared.NodeNo.{NodeNo}
use Rattle.numbers.specs.declared.ChannelNo.{ChannelNo}
use Rattle.network.specs.Counting.{count, occupied}
use Rattle.network.specs.Network.{Network, NodeState, ChannelState, Phase, resting, ready, answering, ring_of, node_no, same_node, numbers_of, count_of_nodes, count_of_channels, node, channel, next_on, next_node, no_node, no_channel, moving, target_of}
use Rattle.network.specs.Sound.{Limits, next_count}
use Rattle.network.specs.Calls.{Event, done, delivered, Outcome, refused, accepted, unless, Arrival, taken, passing, arrived, arrival, arrival_of, hand_over, move_first, enter_first, leave}
use Rattle.network.specs.Calls
use Rattle.network.specs.Runs.{Call, call, after}
use Rattle.network.specs.Answers.{reply_of}
use Rattle.network.specs.Commute.{Traffic, entry_at, move_at, as_call, own, Touches, Apart, Commute}
use Rattle.network.proofs.Ground.Splits.{by_less}
use Rattle.network.proofs.Ground.Counting.{count_same, one-most, weigh-cons}
use Rattle.network.proofs.Theory.Place.{sum-two}
use Rattle.network.proofs.Theory.Kept.{first-moving}
use Rattle.network.proofs.Theory.Todo.{goes}
use Rattle.network.proofs.Lists.Tables.{net_of, state_of}
use Rattle.network.proofs.Lists.Clauses.{Started}
use Rattle.network.proofs.Lists.Accepted.{ArrivesAs, is-taken, is-arrived, is-passing, arrives-as, next-elsewhere}
use Rattle.network.proofs.Lists.Bridge.{call-started}
use Rattle.network.proofs.Lists.Tries.{went}

-- what is changed of a list: an element, or none
data Spot (A : Type 0) : Type 0 where
  nowhere : Spot A
  place : ℕ → A → Spot A

abbrev put : {A : Type 0} → Spot A → List A → List A
put nowhere xs = xs
put (place p v) xs = set xs p v

-- what an accepted entry or move does: its node and what it becomes, perhaps the next node, perhaps a channel, perhaps a delivery
record Patch : Type 0 where
  home : ℕ
  at_home : NodeState
  beyond : Spot NodeState
  turned : Spot ChannelState
  delivers : Bool

abbrev patch : NodeNo → NodeState → Spot NodeState → Spot ChannelState → Bool → Patch
patch p v b t d = record { home = p.0; at_home = v; beyond = b; turned = t; delivers = d }

abbrev recount : Bool → ℕ → ℕ
recount true d = next_count d
recount false d = d

abbrev apply : Patch → Network → Network
apply P σ =
    ring_of σ.started (put P.beyond (set σ.nodes P.home P.at_home)) (put P.turned σ.channels) (recount P.delivers σ.deliveries)

data Plan : Type 0 where
  no : Refusal → Plan
  yes : Event → Patch → Plan

abbrev carry : Plan → Network → Outcome Network
carry (no r) σ = refused r
carry (yes e P) σ = accepted e (apply P σ)

-- the plan of an entry, from its node; and of a move from p to q, from its nodes and the channels
abbrev entry_plan : NodeNo → NodeState → List ChannelNo → Plan
entry_plan p d [] = no LineEmpty
entry_plan p d (k ∷ ks) =
    unless (ltb (length d.buffer) d.slots) (no NoFreeSlot)
    (yes done (patch p (record { slots = d.slots; buffer = d.buffer ++ (k ∷ []); line = ks; mark = false }) nowhere nowhere false))

abbrev turned_to : ChannelState → Phase → Option BatchRecord → ChannelState
turned_to c f o = record { sender = c.sender; receiver = c.receiver; phase = f; offer = o }

abbrev shorter : NodeState → List ChannelNo → NodeState
shorter d ks = record { slots = d.slots; buffer = ks; line = d.line; mark = d.mark }

module _ (q p : NodeNo) (d e : NodeState) (k : ChannelNo) (ks : List ChannelNo) (c : ChannelState) where
  abbrev taken_plan : Option BatchRecord → Plan
  taken_plan none = yes done (patch p (shorter d ks) nowhere (place k.0 (turned_to c ready none)) false)
  taken_plan (some x) =
      yes done (patch p (shorter d ks)
      (place q.0 (record { slots = e.slots; buffer = e.buffer; line = e.line ++ (k ∷ []); mark = e.mark }))
      (place k.0 (turned_to c (answering x) none)) false)

  abbrev over_plan : Arrival → Plan
  over_plan taken = taken_plan c.offer
  over_plan (arrived x) = yes (delivered k x) (patch p (shorter d ks) nowhere (place k.0 (turned_to c resting c.offer)) true)
  over_plan passing =
      unless (ltb (length e.buffer) e.slots) (no NextBufferFull)
      (unless (not e.mark) (no TurnMarkSet)
      (yes done (patch p (shorter d ks)
      (place q.0 (record { slots = e.slots; buffer = e.buffer ++ (k ∷ []); line = e.line; mark = e.mark || occupied e.line }))
      nowhere false)))

abbrev move_plan : NodeNo → NodeNo → NodeState → NodeState → (ChannelNo → ChannelState) → List ChannelNo → Plan
move_plan q p d e look [] = no BufferEmpty
move_plan q p d e look (k ∷ ks) =
    over_plan q p d e k ks (look k) (arrival_of (look k).phase (same_node q (target_of (look k) (look k).phase)))

-- what it touches besides its own node, or that node again
abbrev far : ℕ → Traffic → NodeNo
far n (entry_at p) = p
far n (move_at p) = next_on n p

touches-own : (n : ℕ) (g : Traffic) → Touches n g (own g)
touches-own n (entry_at p) = refl
touches-own n (move_at p) = inl refl

touches-far : (n : ℕ) (g : Traffic) → Touches n g (far n g)
touches-far n (entry_at p) = refl
touches-far n (move_at p) = inr refl

-- no common node, as plain numbers
record Clear (n : ℕ) (a b : Traffic) : Type 0 where
  homes : (own a).0 ≢ (own b).0
  home-far : (own a).0 ≢ (far n b).0
  far-home : (far n a).0 ≢ (own b).0
  fars : (far n a).0 ≢ (far n b).0

apart-clear : (n : ℕ) (a b : Traffic) → Apart n a b → Clear n a b
apart-clear n a b none_both =
    record {
      homes = differ (touches-own n a) (touches-own n b);
      home-far = differ (touches-own n a) (touches-far n b);
      far-home = differ (touches-far n a) (touches-own n b);
      fars = differ (touches-far n a) (touches-far n b);
    }
  where
    differ : {p q : NodeNo} → Touches n a p → Touches n b q → p.0 ≢ q.0
    differ {p} {q} at_a at_b e = none_both p at_a (subst (Touches n b) (sym (ap node_no e)) at_b)

clear_flip : {n : ℕ} {a b : Traffic} → Clear n a b → Clear n b a
clear_flip d =
    record { homes = λ e. d.homes (sym e); home-far = λ e. d.far-home (sym e); far-home = λ e. d.home-far (sym e); fars = λ e. d.fars (sym e) }

abbrev plan : Traffic → Network → Plan
plan (entry_at p) σ = entry_plan p (node σ p) (node σ p).line
plan (move_at p) σ = move_plan (next_node σ p) p (node σ p) (node σ (next_node σ p)) (channel σ) (node σ p).buffer

-- the channel that a plan may turn is the first of this
abbrev queue : Traffic → Network → List ChannelNo
queue (entry_at p) σ = []
queue (move_at p) σ = (node σ p).buffer

-- where a plan's changes are
data Near (q : ℕ) : Spot NodeState → Type 0 where
  near_none : Near q nowhere
  near-far : {v : NodeState} → Near q (place q v)

data Turns : List ChannelNo → Spot ChannelState → Type 0 where
  turns-none : {xs : List ChannelNo} → Turns xs nowhere
  turns-first : {k : ChannelNo} {ks : List ChannelNo} {c : ChannelState} → Turns (k ∷ ks) (place k.0 c)

data Stays (p q : ℕ) (xs : List ChannelNo) : Plan → Type 0 where
  stays-no : {r : Refusal} → Stays p q xs (no r)
  stays-yes : {e : Event} {P : Patch} → P.home ≡ p → Near q P.beyond → Turns xs P.turned → Stays p q xs (yes e P)

stays-unless : {p q : ℕ} {xs : List ChannelNo} (b : Bool) {x y : Plan} → Stays p q xs x → Stays p q xs y → Stays p q xs (unless b x y)
stays-unless true a b = b
stays-unless false a b = a

entry-stays : (p : NodeNo) (d : NodeState) (xs : List ChannelNo) → Stays p.0 p.0 [] (entry_plan p d xs)
entry-stays p d [] = stays-no
entry-stays p d (k ∷ ks) = stays-unless (ltb (length d.buffer) d.slots) stays-no (stays-yes refl near_none turns-none)

taken-stays : (q p : NodeNo) (d e : NodeState) (k : ChannelNo) (ks : List ChannelNo) (c : ChannelState) (o : Option BatchRecord) →
    Stays p.0 q.0 (k ∷ ks) (taken_plan q p d e k ks c o)
taken-stays q p d e k ks c none = stays-yes refl near_none turns-first
taken-stays q p d e k ks c (some x) = stays-yes refl near-far turns-first

over-stays : (q p : NodeNo) (d e : NodeState) (k : ChannelNo) (ks : List ChannelNo) (c : ChannelState) (w : Arrival) →
    Stays p.0 q.0 (k ∷ ks) (over_plan q p d e k ks c w)
over-stays q p d e k ks c taken = taken-stays q p d e k ks c c.offer
over-stays q p d e k ks c (arrived x) = stays-yes refl near_none turns-first
over-stays q p d e k ks c passing =
    stays-unless (ltb (length e.buffer) e.slots) stays-no
    (stays-unless (not e.mark) stays-no (stays-yes refl near-far turns-none))

move-stays : (q p : NodeNo) (d e : NodeState) (look : ChannelNo → ChannelState) (xs : List ChannelNo) → Stays p.0 q.0 xs (move_plan q p d e look xs)
move-stays q p d e look [] = stays-no
move-stays q p d e look (k ∷ ks) = over-stays q p d e k ks (look k) (arrival_of (look k).phase (same_node q (target_of (look k) (look k).phase)))

plan-stays : (g : Traffic) (σ : Network) → Stays (own g).0 (far (count_of_nodes σ) g).0 (queue g σ) (plan g σ)
plan-stays (entry_at p) σ = entry-stays p (node σ p) (node σ p).line
plan-stays (move_at p) σ = move-stays (next_node σ p) p (node σ p) (node σ (next_node σ p)) (channel σ) (node σ p).buffer

-- a plan reads its nodes and the channel at the head
same_move : (q p : NodeNo) (d e : NodeState) (look look' : ChannelNo → ChannelState) (xs : List ChannelNo) →
    ((k : ChannelNo) (ks : List ChannelNo) → xs ≡ k ∷ ks → look' k ≡ look k) → move_plan q p d e look' xs ≡ move_plan q p d e look xs
same_move q p d e look look' [] h = refl
same_move q p d e look look' (k ∷ ks) h = rw (h k ks refl)

-- what an accepted plan leaves
near-other : {q : ℕ} {b : Spot NodeState} (xs : List NodeState) (r : ℕ) → Near q b → r ≢ q → get_or (put b xs) r no_node ≡ get_or xs r no_node
near-other xs r near_none d = refl
near-other {q} xs r (near-far {v}) d = get_or-set_other xs q r v no_node d

turns-other : {ys : List ChannelNo} {t : Spot ChannelState} (xs : List ChannelState) (j : ℕ) → Turns ys t →
    ((k : ChannelNo) (ks : List ChannelNo) → ys ≡ k ∷ ks → j ≢ k.0) → get_or (put t xs) j no_channel ≡ get_or xs j no_channel
turns-other xs j turns-none h = refl
turns-other xs j (turns-first {k} {ks} {c}) h = get_or-set_other xs k.0 j c no_channel (h k ks refl)

module _ {p q : ℕ} {xs : List ChannelNo} (σ : Network) where
  kept-node : {π : Plan} → Stays p q xs π → (r : NodeNo) → r.0 ≢ p → r.0 ≢ q → node (after σ (carry π σ)) r ≡ node σ r
  kept-node stays-no r dp dq = refl
  kept-node (stays-yes {P = P} h b t) r dp dq =
      near-other (set σ.nodes P.home P.at_home) r.0 b dq
      ∙ get_or-set_other σ.nodes P.home r.0 P.at_home no_node (λ e. dp (e ∙ h))

  kept-channel : {π : Plan} → Stays p q xs π → (j : ChannelNo) → ((k : ChannelNo) (ks : List ChannelNo) → xs ≡ k ∷ ks → j.0 ≢ k.0) →
      channel (after σ (carry π σ)) j ≡ channel σ j
  kept-channel stays-no j d = refl
  kept-channel (stays-yes h b t) j d = turns-other σ.channels j.0 t d

-- two changes at different places

set-swap : {A : Type 0} (xs : List A) (i j : ℕ) (a b : A) → i ≢ j → set (set xs i a) j b ≡ set (set xs j b) i a
set-swap [] i j a b d = refl
set-swap (x ∷ xs) zero zero a b d = absurd (d refl)
set-swap (x ∷ xs) zero (suc j) a b d = refl
set-swap (x ∷ xs) (suc i) zero a b d = refl
set-swap (x ∷ xs) (suc i) (suc j) a b d = ap (λ l. x ∷ l) (set-swap xs i j a b (λ e. d (ap suc e)))

near-set : {q : ℕ} {b : Spot NodeState} (xs : List NodeState) (r : ℕ) (v : NodeState) → Near q b → r ≢ q → put b (set xs r v) ≡ set (put b xs) r v
near-set xs r v near_none d = refl
near-set {q} xs r v (near-far {v = w}) d = set-swap xs r q v w d

near-near : {q s : ℕ} {a b : Spot NodeState} (xs : List NodeState) → Near q a → Near s b → q ≢ s → put a (put b xs) ≡ put b (put a xs)
near-near xs near_none h d = refl
near-near {q} xs (near-far {v}) h d = sym (near-set xs q v h d)

-- the first channels of two lists are different
abbrev HeadsDiffer : List ChannelNo → List ChannelNo → Type 0
HeadsDiffer xs ys = (j k : ChannelNo) (js ks : List ChannelNo) → xs ≡ j ∷ js → ys ≡ k ∷ ks → j.0 ≢ k.0

turns-turns : {xs ys : List ChannelNo} {a b : Spot ChannelState} (l : List ChannelState) → Turns xs a → Turns ys b →
    HeadsDiffer xs ys → put a (put b l) ≡ put b (put a l)
turns-turns l turns-none h d = refl
turns-turns l (turns-first {k} {ks} {c}) turns-none d = refl
turns-turns l (turns-first {k = j} {ks = js} {c = c}) (turns-first {k = k} {ks = ks} {c = e}) d = set-swap l k.0 j.0 e c (λ f. d j k js ks refl refl (sym f))

recount-recount : (a b : Bool) (d : ℕ) → recount a (recount b d) ≡ recount b (recount a d)
recount-recount true true d = refl
recount-recount true false d = refl
recount-recount false true d = refl
recount-recount false false d = refl

module _ {p q s r : ℕ} {xs ys : List ChannelNo} (ps : p ≢ s) (pr : p ≢ r) (qs : q ≢ s) (qr : q ≢ r) (heads : HeadsDiffer xs ys) where
  swapped : {π ρ : Plan} (σ : Network) → Stays p q xs π → Stays s r ys ρ →
      after (after σ (carry π σ)) (carry ρ (after σ (carry π σ))) ≡ after (after σ (carry ρ σ)) (carry π (after σ (carry ρ σ)))
  swapped σ stays-no b = refl
  swapped σ (stays-yes h n t) stays-no = refl
  swapped σ (stays-yes {P = P} h n t) (stays-yes {P = Q} h' n' t') =
      λ i. ring_of σ.started (nodes i) (sym (turns-turns σ.channels t t' heads) i) (recount-recount Q.delivers P.delivers σ.deliveries i)
    where
      homes : P.home ≢ Q.home
      homes e = ps (sym h ∙ e ∙ h')

      nodes : put Q.beyond (set (put P.beyond (set σ.nodes P.home P.at_home)) Q.home Q.at_home)
          ≡ put P.beyond (set (put Q.beyond (set σ.nodes Q.home Q.at_home)) P.home P.at_home)
      nodes =
          ap (put Q.beyond) (sym (near-set (set σ.nodes P.home P.at_home) Q.home Q.at_home n (λ e. qs (sym e ∙ h'))))
          ∙ near-near (set (set σ.nodes P.home P.at_home) Q.home Q.at_home) n' n (λ e. qr (sym e))
          ∙ ap (λ l. put P.beyond (put Q.beyond l)) (set-swap σ.nodes P.home Q.home P.at_home Q.at_home homes)
          ∙ ap (put P.beyond) (near-set (set σ.nodes Q.home Q.at_home) P.home P.at_home n' (λ e. pr (sym h ∙ e)))

-- a plan is the same where the other call left what it reads
same-plan : (g : Traffic) (σ τ : Network) → count_of_nodes τ ≡ count_of_nodes σ → node τ (own g) ≡ node σ (own g) →
    node τ (far (count_of_nodes σ) g) ≡ node σ (far (count_of_nodes σ) g) →
    ((k : ChannelNo) (ks : List ChannelNo) → queue g σ ≡ k ∷ ks → channel τ k ≡ channel σ k) → plan g τ ≡ plan g σ
same-plan (entry_at p) σ τ count here there looks = rw here
same-plan (move_at p) σ τ count here there looks =
    rw (count, here, there) (same_move (next_node σ p) p (node σ p) (node σ (next_node σ p)) (channel σ) (channel τ) (node σ p).buffer looks)

carry-unless : (σ : Network) (b : Bool) (x y : Plan) → carry (unless b x y) σ ≡ unless b (carry x σ) (carry y σ)
carry-unless σ true x y = refl
carry-unless σ false x y = refl

module _ (L : Limits) where
  module _ (σ : Network) (s : Started L σ) where
    at-node : (p : NodeNo) (r r' : Refusal) (o : Outcome Network) → p.0 < count_of_nodes σ →
        unless σ.started (refused r) (unless (ltb p.0 (count_of_nodes σ)) (refused r') o) ≡ o
    at-node p r r' o l = rw (s.running, lt-ltb p.0 (count_of_nodes σ) l)

    entry-planned : (p : NodeNo) → p.0 < count_of_nodes σ → Calls.enter p σ ≡ carry (plan (entry_at p) σ) σ
    unfolding Calls.enter
    entry-planned p l = at-node p _ _ _ l ∙ by-line (node σ p).line
      where
        by-line : (xs : List ChannelNo) → enter_first p xs σ ≡ carry (entry_plan p (node σ p) xs) σ
        by-line [] = refl
        by-line (k ∷ ks) = sym (carry-unless σ (ltb (length (node σ p).buffer) (node σ p).slots) _ _)

    module _ (p : NodeNo) (k : ChannelNo) (ks : List ChannelNo) (apart : (next_node σ p).0 ≢ p.0) where
      next-same : node (leave p ks σ) (next_node σ p) ≡ node σ (next_node σ p)
      next-same = get_or-set_other σ.nodes p.0 (next_node σ p).0 _ no_node apart

      taken-planned : (next_node σ p).0 ≡ (channel σ k).sender.0 → (o : Option BatchRecord) →
          accepted done (Calls.take_request k o (leave p ks σ))
          ≡ carry (taken_plan (next_node σ p) p (node σ p) (node σ (next_node σ p)) k ks (channel σ k) o) σ
      taken-planned at none = refl
      taken-planned at (some x) = rw (← at, next-same) refl

      over-planned : (w : Arrival) → ArrivesAs σ (next_node σ p) k w →
          hand_over p (next_node σ p) k ks w σ
          ≡ carry (over_plan (next_node σ p) p (node σ p) (node σ (next_node σ p)) k ks (channel σ k) w) σ
      over-planned _ (is-taken f at) = taken-planned at (channel σ k).offer
      over-planned _ (is-arrived f at) = refl
      over-planned _ (is-passing d) =
          rw (
            carry-unless σ (ltb (length (node σ (next_node σ p)).buffer) (node σ (next_node σ p)).slots),
            carry-unless σ (not (node σ (next_node σ p)).mark),
            next-same,
          ) refl

    move-planned : (p : NodeNo) → p.0 < count_of_nodes σ → (next_node σ p).0 ≢ p.0 → Calls.move p σ ≡ carry (plan (move_at p) σ) σ
    unfolding Calls.move arrival
    move-planned p l apart = at-node p _ _ _ l ∙ by-buffer (node σ p).buffer refl
      where
        by-buffer : (xs : List ChannelNo) → (node σ p).buffer ≡ xs →
            move_first p xs σ ≡ carry (move_plan (next_node σ p) p (node σ p) (node σ (next_node σ p)) (channel σ) xs) σ
        by-buffer [] e = refl
        by-buffer (k ∷ ks) e =
            over-planned p k ks apart _
            (arrives-as σ (next_node σ p) k
            (first-moving (net_of σ) s.tables p.0 k.0 (numbers_of ks) l (ap numbers_of e)))

  -- where some node is not the one that it leads to, what an entry or a move does is its plan: a move leaves its own node
  planned : (σ : Network) → Started L σ → (g : Traffic) (r : ℕ) → (own g).0 < count_of_nodes σ → r < count_of_nodes σ → (far (count_of_nodes σ) g).0 ≢ r →
      call L (as_call g) σ ≡ carry (plan g σ) σ
  planned σ s (entry_at p) r l lr d = entry-planned σ s p l
  planned σ s (move_at p) r l lr d = move-planned σ s p l (next-elsewhere (count_of_nodes σ) p.0 r l lr d)

  -- before the start, and at a node that there is not, every entry and move is refused
  pub not-started : (σ : Network) → σ.started ≡ false → (g : Traffic) → call L (as_call g) σ ≡ refused NotStarted
  unfolding Calls.enter Calls.move
  not-started σ off (entry_at p) = rw off
  not-started σ off (move_at p) = rw off

  pub beyond-refused : (σ : Network) → σ.started ≡ true → (g : Traffic) → count_of_nodes σ ≤ (own g).0 → call L (as_call g) σ ≡ refused NoSuchNode
  unfolding Calls.enter Calls.move
  beyond-refused σ on (entry_at p) l = rw (on, le-ltb p.0 (count_of_nodes σ) l)
  beyond-refused σ on (move_at p) l = rw (on, le-ltb p.0 (count_of_nodes σ) l)

  -- two buffers have different channels at their heads: a channel stands once on a sound ring
  heads-differ : (σ : Network) → Started L σ → (p q : NodeNo) → p.0 < count_of_nodes σ → q.0 < count_of_nodes σ → p.0 ≢ q.0 →
      HeadsDiffer (node σ p).buffer (node σ q).buffer
  heads-differ σ s p q lp lq d j k js ks ep eq same =
      let t = s.tables in
      let at_p : 0 < count j.0 ((state_of σ).buffer p.0) = rw (ep, weigh-cons) (omega (arith, count_same j.0)) in
      let at-q : 0 < count j.0 ((state_of σ).buffer q.0) = rw (eq, ← same, weigh-cons) (omega (arith, count_same j.0)) in
      let known : j.0 < count_of_channels σ = (t.in-buffer p.0 lp j.0 at_p).0 in
      let times : ℕ → ℕ = λ r. count j.0 ((state_of σ).buffer r) + count j.0 ((state_of σ).line r) in
      omega (
        arith,
        at_p,
        at-q,
        t.once j.0 known,
        one-most (moving (channel σ j).phase),
        sum-two (count_of_nodes σ) p.0 q.0 times lp lq d,
      )

  queues-differ : (σ : Network) → Started L σ → (a b : Traffic) → (own a).0 < count_of_nodes σ → (own b).0 < count_of_nodes σ → (own a).0 ≢ (own b).0 →
      HeadsDiffer (queue a σ) (queue b σ)
  queues-differ σ s (move_at p) (move_at q) la lb d j k js ks ea eb = heads-differ σ s p q la lb d j k js ks ea eb
  queues-differ σ s (entry_at p) b la lb d j k js ks ea eb = absurd (nil≢cons ea)
  queues-differ σ s (move_at p) (entry_at q) la lb d j k js ks ea eb = absurd (nil≢cons eb)

  reply-carry : (π : Plan) (σ τ : Network) → reply_of (carry π σ) ≡ reply_of (carry π τ)
  reply-carry (no r) σ τ = refl
  reply-carry (yes e P) σ τ = refl

  abbrev Commutes : Network → Traffic → Traffic → Type 0
  Commutes σ a b = Commute (call L) (as_call a) (as_call b) σ

  -- no entry and no move changes the number of nodes
  traffic-goes : (g : Traffic) → goes (as_call g) ≡ true
  traffic-goes (entry_at p) = refl
  traffic-goes (move_at p) = refl

  same_count : (σ : Network) → Started L σ → (g : Traffic) → count_of_nodes (after σ (call L (as_call g) σ)) ≡ count_of_nodes σ
  same_count σ s g = ap (λ N. N.n) (went L σ s (as_call g) (traffic-goes g)).same-net

  -- after b, a is as it was
  module _ (σ : Network) (s : Started L σ) (a b : Traffic) (la : (own a).0 < count_of_nodes σ) (lb : (own b).0 < count_of_nodes σ)
      (d : Clear (count_of_nodes σ) a b) where
    next-ring : Network
    next-ring = after σ (call L (as_call b) σ)

    next-is : next-ring ≡ after σ (carry (plan b σ) σ)
    unfolding next-ring
    next-is = ap (after σ) (planned σ s b (own a).0 lb la (λ e. d.home-far (sym e)))

    next-count : count_of_nodes next-ring ≡ count_of_nodes σ
    unfolding next-ring
    next-count = same_count σ s b

    plan-kept : plan a next-ring ≡ plan a σ
    plan-kept =
        same-plan a σ next-ring next-count
        (ap (λ τ. node τ (own a)) next-is ∙ kept-node σ (plan-stays b σ) (own a) d.homes d.home-far)
        (ap (λ τ. node τ (far (count_of_nodes σ) a)) next-is ∙ kept-node σ (plan-stays b σ) (far (count_of_nodes σ) a) d.far-home d.fars)
        (λ k ks e. ap (λ τ. channel τ k) next-is ∙ kept-channel σ (plan-stays b σ) k (λ j js f. queues-differ σ s a b la lb d.homes k j ks js e f))

    after-other : call L (as_call a) next-ring ≡ carry (plan a σ) next-ring
    unfolding next-ring
    after-other =
        planned next-ring (call-started L σ (as_call b) s) a (own b).0 (rw next-count la) (rw next-count lb) (rw next-count d.far-home)
        ∙ ap (λ π. carry π next-ring) plan-kept

  both-there : (σ : Network) → Started L σ → (a b : Traffic) → (own a).0 < count_of_nodes σ → (own b).0 < count_of_nodes σ →
      Clear (count_of_nodes σ) a b → Commutes σ a b
  unfolding next-ring
  both-there σ s a b la lb d =
      let pa = planned σ s a (own b).0 la lb d.far-home in
      let pb = planned σ s b (own a).0 lb la (λ e. d.home-far (sym e)) in
      let a-after = after-other σ s a b la lb d in
      let b-after = after-other σ s b a lb la (clear_flip d) in
      record {
        first-answer = ap reply_of a-after ∙ reply-carry (plan a σ) _ σ ∙ sym (ap reply_of pa);
        second-answer = ap reply_of b-after ∙ reply-carry (plan b σ) _ σ ∙ sym (ap reply_of pb);
        same-ring =
            ap (after (after σ (call L (as_call a) σ))) b-after
            ∙ ap (λ o. after (after σ o) (carry (plan b σ) (after σ o))) pa
            ∙ swapped d.homes d.home-far d.far-home d.fars (queues-differ σ s a b la lb d.homes) σ (plan-stays a σ) (plan-stays b σ)
            ∙ sym (ap (λ o. after (after σ o) (carry (plan a σ) (after σ o))) pb)
            ∙ sym (ap (after (after σ (call L (as_call b) σ))) a-after);
      }

  one-beyond : (σ : Network) → Started L σ → (a b : Traffic) → count_of_nodes σ ≤ (own a).0 → Commutes σ a b
  one-beyond σ s a b l =
      let here = beyond-refused σ s.running a l in
      let there = beyond-refused (after σ (call L (as_call b) σ)) (call-started L σ (as_call b) s).running a (rw (same_count σ s b) l) in
      record {
        first-answer = ap reply_of there ∙ sym (ap reply_of here);
        second-answer = ap (λ o. reply_of (call L (as_call b) (after σ o))) here;
        same-ring = ap (λ o. after (after σ o) (call L (as_call b) (after σ o))) here ∙ sym (ap (after (after σ (call L (as_call b) σ))) there);
      }

  flip : {σ : Network} {a b : Call} → Commute (call L) a b σ → Commute (call L) b a σ
  flip c = record { first-answer = c.second-answer; second-answer = c.first-answer; same-ring = sym c.same-ring }

  pub started-commute : (σ : Network) → Started L σ → (a b : Traffic) → Apart (count_of_nodes σ) a b → Commutes σ a b
  started-commute σ s a b apart =
      let d = apart-clear (count_of_nodes σ) a b apart in
      by_less (own a).0 (count_of_nodes σ)
      (λ la. by_less (own b).0 (count_of_nodes σ) (λ lb. both-there σ s a b la lb d) (λ gb. flip (one-beyond σ s b a gb)))
      (λ ga. one-beyond σ s a b ga)
