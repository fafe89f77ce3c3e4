-- Lists. A ring's lists seen as the theory's tables: `net_of` is what never changes after the start, `state_of` what a step changes. A store
-- to a list is an update of its tables (`set-table`, `set-alike`), so each change of a ring that a call is made of is one of the theory's
-- changes, and leaves `net_of` as it is.
use Prim.Native.Nat.{ℕ, ◌<◌}
use mathlib.Core.Path.{◌≡◌, refl, sym, ap, fun_ext, subst, ◌∙◌}
use mathlib.Core.Bool.{Bool, false, ◌&&◌, ◌||◌}
use mathlib.Core.List.{List, [], ◌∷◌, ◌++◌}
use mathlib.Core.Option.{Option}
use lib.ListN.{length, get_or, set, length-set}
use lib.Seq.{get_or-set_same, get_or-set_other}
use Rattle.batch.specs.declared.BatchRecord.{BatchRecord}
use Rattle.numbers.specs.declared.NodeNo.{NodeNo}
use Rattle.numbers.specs.declared.ChannelNo.{ChannelNo}
use Rattle.network.specs.Network.{Network, Phase, node_no, channel_no, numbers_of, count_of_nodes, count_of_channels, node, channel, with_node, with_channel, with_deliveries, no_node, no_channel}
use Rattle.network.specs.Counting.{occupied}
use Rattle.network.specs.Network
use Rattle.network.specs.Calls
use Rattle.network.proofs.Ground.Splits.{by-same}
use Rattle.network.proofs.Ground.Numbers.{numbers-snoc, numbers-without, occupied-numbers}
use Rattle.network.proofs.Theory.State.{upd, upd_same, upd_other, upd-at, Net, State, state, turn, join, pop, push, pass, without, pull}

abbrev net : ℕ → ℕ → (ℕ → ℕ) → (ℕ → ℕ) → (ℕ → ℕ) → Net
net n c b s r = record { n = n; c = c; slots = b; sender = s; receiver = r }

abbrev pub net_of : Network → Net
net_of σ =
    net (count_of_nodes σ) (count_of_channels σ)
    (λ p. (node σ (node_no p)).slots)
    (λ k. (channel σ (channel_no k)).sender.0)
    (λ k. (channel σ (channel_no k)).receiver.0)

abbrev pub state_of : Network → State
state_of σ =
    state
    (λ p. numbers_of (node σ (node_no p)).buffer)
    (λ p. numbers_of (node σ (node_no p)).line)
    (λ p. (node σ (node_no p)).mark)
    (λ k. (channel σ (channel_no k)).phase)
    (λ k. (channel σ (channel_no k)).offer)

-- an update with what stands there changes nothing
pub upd-alike {ℓ} : {A : Type ℓ} (p : ℕ) (f : ℕ → A) → upd p (f p) f ≡ f
upd-alike p f = fun_ext (upd-at (λ q v. v ≡ f q) p (f p) f refl (λ q d. refl))

-- a list as a table, read through f: after a store in range, and after a store that f does not see
abbrev table {ℓ κ} : {A : Type ℓ} {B : Type κ} → (A → B) → A → List A → ℕ → B
table f d xs q = f (get_or xs q d)

module _ {ℓ κ} {A : Type ℓ} {B : Type κ} (f : A → B) (xs : List A) (p : ℕ) (v d : A) where
  set-table : p < length xs → table f d (set xs p v) ≡ upd p (f v) (table f d xs)
  set-table l =
      fun_ext λ q.
      by-same q p
      (λ same. rw same (ap f (get_or-set_same xs p v d l) ∙ sym (upd_same p (f v) (table f d xs))))
      (λ other. ap f (get_or-set_other xs p q v d other) ∙ sym (upd_other p (f v) (table f d xs) q other))

  pub set-alike : p < length xs → f v ≡ f (get_or xs p d) → table f d (set xs p v) ≡ table f d xs
  set-alike l e = set-table l ∙ ap (λ b. upd p b (table f d xs)) e ∙ upd-alike p (table f d xs)

same-state : {b b' l l' : ℕ → List ℕ} {m m' : ℕ → Bool} {f f' : ℕ → Phase} {o o' : ℕ → Option BatchRecord} →
    b ≡ b' → l ≡ l' → m ≡ m' → f ≡ f' → o ≡ o' → state b l m f o ≡ state b' l' m' f' o'
same-state eb el em ef eo = λ i. state (eb i) (el i) (em i) (ef i) (eo i)

same-net : {n n' c c' : ℕ} {b b' s s' r r' : ℕ → ℕ} →
    n ≡ n' → c ≡ c' → b ≡ b' → s ≡ s' → r ≡ r' → net n c b s r ≡ net n' c' b' s' r'
same-net en ec eb es er = λ i. net (en i) (ec i) (eb i) (es i) (er i)

-- One ring becomes another: its tables are now s; sizes, ends and the start stay.
pub record Becomes (σ τ : Network) (s : State) : Type 0 where
  pub tables : state_of τ ≡ s
  pub same-net : net_of τ ≡ net_of σ
  pub same_start : τ.started ≡ σ.started

-- a change of the tables after another
pub and_then : {σ τ υ : Network} {s : State} (f : State → State) →
    Becomes σ τ s → Becomes τ υ (f (state_of τ)) → Becomes σ υ (f s)
and_then f a b =
    record {
      tables = b.tables ∙ ap f a.tables;
      same-net = b.same-net ∙ a.same-net;
      same_start = b.same_start ∙ a.same_start;
    }

-- the tables do not see the count of deliveries
pub recounted : {σ τ : Network} {s : State} (d : ℕ) → Becomes σ τ s → Becomes σ (with_deliveries d τ) s
recounted d b = record { tables = b.tables; same-net = b.same-net; same_start = b.same_start }

-- a node of the ring is one still
pub still-node : {σ τ : Network} {s : State} → Becomes σ τ s → (q : ℕ) → q < count_of_nodes σ → q < count_of_nodes τ
still-node b q l = subst (λ N. q < N.n) (sym b.same-net) l

-- the changes that calls make of a channel and of a node are the theory's

pub turned : (σ : Network) (k : ChannelNo) (f : Phase) (o : Option BatchRecord) → k.0 < count_of_channels σ →
    Becomes σ (with_channel k f o σ) (turn k.0 f o (state_of σ))
turned σ k f o l =
    record {
      tables =
          same-state refl refl refl
          (set-table (λ s. s.phase) σ.channels k.0 _ no_channel l)
          (set-table (λ s. s.offer) σ.channels k.0 _ no_channel l);
      same-net =
          same-net refl (length-set σ.channels k.0 _) refl
          (set-alike (λ s. s.sender.0) σ.channels k.0 _ no_channel l refl)
          (set-alike (λ s. s.receiver.0) σ.channels k.0 _ no_channel l refl);
      same_start = refl;
    }

module _ (σ : Network) (p : NodeNo) (l : p.0 < count_of_nodes σ) where
  -- at the buffer b, the line y and the mark m that the theory has after the change
  changed : (xs ys : List ChannelNo) (m : Bool) {b y : ℕ → List ℕ} {t : ℕ → Bool} →
      upd p.0 (numbers_of xs) (state_of σ).buffer ≡ b → upd p.0 (numbers_of ys) (state_of σ).line ≡ y →
      upd p.0 m (state_of σ).mark ≡ t →
      Becomes σ (with_node p xs ys m σ) (state b y t (state_of σ).phase (state_of σ).offer)
  changed xs ys m eb ey et =
      record {
        tables =
            same-state
            (set-table (λ s. numbers_of s.buffer) σ.nodes p.0 _ no_node l ∙ eb)
            (set-table (λ s. numbers_of s.line) σ.nodes p.0 _ no_node l ∙ ey)
            (set-table (λ s. s.mark) σ.nodes p.0 _ no_node l ∙ et)
            refl refl;
        same-net = same-net (length-set σ.nodes p.0 _) refl (set-alike (λ s. s.slots) σ.nodes p.0 _ no_node l refl) refl refl;
        same_start = refl;
      }

  -- one more at the end of a queue
  longer : (ks : List ChannelNo) (k : ChannelNo) (t : ℕ → List ℕ) →
      upd p.0 (numbers_of (ks ++ (k ∷ []))) t ≡ upd p.0 (numbers_of ks ++ (k.0 ∷ [])) t
  longer ks k t = ap (λ js. upd p.0 js t) (numbers-snoc ks k)

  pub joined : (k : ChannelNo) → Becomes σ (Calls.join_line p k σ) (join p.0 k.0 (state_of σ))
  joined k = changed _ _ _ (upd-alike p.0 _) (longer (node σ p).line k _) (upd-alike p.0 _)

  pub pulled : (k : ChannelNo) → Becomes σ (Calls.leave_line p k σ) (pull p.0 k.0 (state_of σ))
  pulled k =
      let left : List ChannelNo = Network.without k (node σ p).line in
      let fewer = numbers-without k (node σ p).line in
      changed _ _ _ (upd-alike p.0 _) (ap (λ js. upd p.0 js (state_of σ).line) fewer)
      (ap (λ b. upd p.0 ((node σ p).mark && b) (state_of σ).mark) (sym (occupied-numbers left) ∙ ap occupied fewer))

  pub popped : (ks : List ChannelNo) → Becomes σ (Calls.leave p ks σ) (pop p.0 (numbers_of ks) (state_of σ))
  popped ks = changed _ _ _ refl (upd-alike p.0 _) (upd-alike p.0 _)

  pub passed : (k : ChannelNo) → Becomes σ (Calls.pass p k σ) (pass p.0 k.0 (state_of σ))
  passed k =
      changed _ _ _ (longer (node σ p).buffer k _) (upd-alike p.0 _)
      (ap (λ b. upd p.0 ((node σ p).mark || b) (state_of σ).mark) (sym (occupied-numbers (node σ p).line)))

  pub pushed : (k : ChannelNo) (ks : List ChannelNo) →
      Becomes σ (with_node p ((node σ p).buffer ++ (k ∷ [])) ks false σ) (push p.0 k.0 (numbers_of ks) (state_of σ))
  pushed k ks = changed _ _ _ (longer (node σ p).buffer k _) refl refl
