-- Theory. The theory's own picture of a started ring: what never changes after the start (Net) apart from what a step changes (State),
-- both as tables, functions of a node or a channel number as a plain one. A step that was accepted is a case of `Did`, which carries what
-- its tests showed. Every theorem about steps goes by these cases and sees neither a refusal nor a layout.
use Prim.Native.Nat.{ℕ, ◌+◌, ◌≤◌, ◌<◌}
use mathlib.Core.Path.{◌≡◌, refl}
use mathlib.Core.Logic.{◌≢◌}
use mathlib.Core.Bool.{Bool, true, false, cond, ◌&&◌, ◌||◌}
use mathlib.Core.List.{List, [], ◌∷◌, ◌++◌}
use mathlib.Core.Option.{Option, none, some, none-ne-some}
use lib.Dec.{eqb}
use lib.ListN.{length}
use borrow.Author.Tests.{eq-eqb, ne_eqb}
use Rattle.network.proofs.Ground.Splits.{by-same}
pub use Rattle.network.proofs.Ground.Without.{without}
use Rattle.batch.specs.declared.BatchRecord.{BatchRecord}
use Rattle.batch.specs.Good.{good_record}
use Rattle.hops.specs.Hops.{hops, next}
use Rattle.network.specs.Counting.{one, sum, count, occupied}
use Rattle.network.specs.Network.{Phase, resting, asking, ready, answering, node_no, channel_no, moving, from_end}
use Rattle.network.specs.Sound.{is_ready, good_offer, good_carried}
use Rattle.network.specs.Calls.{Event, done, delivered}
use Rattle.network.specs.Runs.{Call, receive, send, enter, move, withdraw, matched_in}

-- the table f with v at p; shut, so that the laws below are all that is known of it
unfoldable pub upd {ℓ} : {A : Type ℓ} → ℕ → A → (ℕ → A) → ℕ → A
upd p v f q = cond (eqb q p) v (f q)

module _ {ℓ} {A : Type ℓ} where
  pub upd_same : (p : ℕ) (v : A) (f : ℕ → A) → upd p v f p ≡ v
  unfolding upd
  upd_same p v f = rw (eq-eqb p p refl)

  pub upd_other : (p : ℕ) (v : A) (f : ℕ → A) (q : ℕ) → q ≢ p → upd p v f q ≡ f q
  unfolding upd
  upd_other p v f q h = rw (ne_eqb q p h)

-- what holds of v at p, and of f elsewhere, holds of the updated table
pub upd-at {ℓ ℓ'} : {A : Type ℓ} (P : ℕ → A → Type ℓ') (p : ℕ) (v : A) (f : ℕ → A) → P p v → ((q : ℕ) → q ≢ p → P q (f q)) → (q : ℕ) → P q (upd p v f q)
upd-at P p v f here there q =
    by-same q p (λ e. rw (e, upd_same) here) (λ d. rw (upd_other p v f q d) (there q d))

-- the end that a message comes from is one of the two
pub end_below : (f : Phase) {n s r : ℕ} → s < n → r < n → from_end f s r < n
end_below resting s r = r
end_below asking s r = r
end_below ready s r = s
end_below (answering x) s r = s

pub record Net : Type 0 where
  pub n : ℕ
  pub c : ℕ
  pub slots : ℕ → ℕ
  pub sender : ℕ → ℕ
  pub receiver : ℕ → ℕ

pub record State : Type 0 where
  pub buffer : ℕ → List ℕ
  pub line : ℕ → List ℕ
  pub mark : ℕ → Bool
  pub phase : ℕ → Phase
  pub offer : ℕ → Option BatchRecord

abbrev pub state : (ℕ → List ℕ) → (ℕ → List ℕ) → (ℕ → Bool) → (ℕ → Phase) → (ℕ → Option BatchRecord) → State
state b l m f o = record { buffer = b; line = l; mark = m; phase = f; offer = o }

-- the changes that steps are made of

-- channel k takes phase f and offer o
abbrev pub turn : ℕ → Phase → Option BatchRecord → State → State
turn k f o σ = state σ.buffer σ.line σ.mark (upd k f σ.phase) (upd k o σ.offer)

-- k joins the line of p
abbrev pub join : ℕ → ℕ → State → State
join p k σ = state σ.buffer (upd p (σ.line p ++ (k ∷ [])) σ.line) σ.mark σ.phase σ.offer

-- the first leaves the buffer of p, where ks stay behind
abbrev pub pop : ℕ → List ℕ → State → State
pop p ks σ = state (upd p ks σ.buffer) σ.line σ.mark σ.phase σ.offer

-- k goes from the line of p, where ks stay behind, to the end of the buffer, and the mark is cleared
abbrev pub push : ℕ → ℕ → List ℕ → State → State
push p k ks σ =
    state (upd p (σ.buffer p ++ (k ∷ [])) σ.buffer) (upd p ks σ.line) (upd p false σ.mark) σ.phase σ.offer

-- k leaves the line of p, where the mark is cleared if nothing is left
abbrev pub pull : ℕ → ℕ → State → State
pull p k σ =
    state σ.buffer (upd p (without k (σ.line p)) σ.line)
    (upd p (σ.mark p && occupied (without k (σ.line p))) σ.mark)
    σ.phase
    σ.offer

-- k passes into the buffer of q, and the mark there is set if a line waits
abbrev pub pass : ℕ → ℕ → State → State
pass q k σ =
    state (upd q (σ.buffer q ++ (k ∷ [])) σ.buffer) σ.line (upd q (σ.mark q || occupied (σ.line q)) σ.mark)
    σ.phase
    σ.offer

module _ (N : Net) where
  open N use {n, c, slots, sender, receiver}

  -- the node where a message of channel k enters the ring, and the one that takes it, in phase f
  abbrev pub entry_in : Phase → ℕ → ℕ
  entry_in f k = from_end f (sender k) (receiver k)

  abbrev pub target_in : Phase → ℕ → ℕ
  target_in f k = from_end f (receiver k) (sender k)

  -- how many times channel k stands in lines and buffers
  abbrev pub here : State → ℕ → ℕ
  here σ k = sum n (λ p. count k (σ.buffer p) + count k (σ.line p))

  -- a sound started ring, clause by clause, as facts
  pub record Sound (σ : State) : Type 0 where
    pub sender-below : (k : ℕ) → k < c → sender k < n
    pub receiver-below : (k : ℕ) → k < c → receiver k < n
    pub some-slot : (p : ℕ) → p < n → 1 ≤ slots p
    pub fits : (p : ℕ) → p < n → length (σ.buffer p) ≤ slots p
    pub once : (k : ℕ) → k < c → here σ k ≡ one (moving (σ.phase k))
    pub in-buffer : (p : ℕ) → p < n → (k : ℕ) → 0 < count k (σ.buffer p) →
        (k < c) × (hops n p (target_in (σ.phase k) k) ≤ hops n (entry_in (σ.phase k) k) (target_in (σ.phase k) k))
    pub in-line : (p : ℕ) → p < n → (k : ℕ) → 0 < count k (σ.line p) → (k < c) × (p ≡ entry_in (σ.phase k) k)
    pub marked : (p : ℕ) → p < n → σ.mark p ≡ true → occupied (σ.line p) ≡ true
    pub ready-bare : (k : ℕ) → k < c → σ.phase k ≡ ready → σ.offer k ≡ none
    pub good-offer : (k : ℕ) → k < c → good_offer (σ.offer k) ≡ true
    pub good-carried : (k : ℕ) → k < c → good_carried (σ.phase k) ≡ true
    pub more-slots : c < sum n slots

  -- the nodes where a message enters and that takes it are nodes of the ring, whatever its phase
  pub ends-below : {σ : State} → Sound σ → (k : ℕ) → k < c → (f : Phase) → (entry_in f k < n) × (target_in f k < n)
  ends-below s k l f = let sends = s.sender-below k l in let asks = s.receiver-below k l in (end_below f sends asks, end_below f asks sends)

  -- An accepted receive, send, enter, move or withdraw: the call, its answer and the next state.
  pub data Did (σ : State) : Call → Event → State → Type 0 where
    did-receive : (k : ℕ) → k < c → σ.phase k ≡ resting →
        Did σ (receive (channel_no k)) done (join (receiver k) k (turn k asking (σ.offer k) σ))
    did-offer : (k : ℕ) (x : BatchRecord) → k < c → good_record x ≡ true → σ.offer k ≡ none → is_ready (σ.phase k) ≡ false →
        Did σ (send (channel_no k) x) done (turn k (σ.phase k) (some x) σ)
    did-answer : (k : ℕ) (x : BatchRecord) → k < c → good_record x ≡ true → σ.phase k ≡ ready →
        Did σ (send (channel_no k) x) done (join (sender k) k (turn k (answering x) none σ))
    did-enter : (p k : ℕ) (ks : List ℕ) → p < n → σ.line p ≡ k ∷ ks → length (σ.buffer p) < slots p →
        Did σ (enter (node_no p)) done (push p k ks σ)
    -- a message that is not taken passes into the next node's buffer
    did-pass : (p k : ℕ) (ks : List ℕ) → p < n → σ.buffer p ≡ k ∷ ks → next n p ≢ target_in (σ.phase k) k → next n p ≢ p →
        length (σ.buffer (next n p)) < slots (next n p) → σ.mark (next n p) ≡ false →
        Did σ (move (node_no p)) done (pass (next n p) k (pop p ks σ))
    -- a request reaches its sender node, where no record is offered
    did-ask : (p k : ℕ) (ks : List ℕ) → p < n → σ.buffer p ≡ k ∷ ks → σ.phase k ≡ asking → next n p ≡ sender k →
        σ.offer k ≡ none →
        Did σ (move (node_no p)) done (turn k ready none (pop p ks σ))
    -- a request reaches its sender node, where record x is offered
    did-respond : (p k : ℕ) (ks : List ℕ) (x : BatchRecord) → p < n → σ.buffer p ≡ k ∷ ks → σ.phase k ≡ asking →
        next n p ≡ sender k → σ.offer k ≡ some x →
        Did σ (move (node_no p)) done (join (sender k) k (turn k (answering x) none (pop p ks σ)))
    -- a response reaches its receiver node
    did-deliver : (p k : ℕ) (ks : List ℕ) (x : BatchRecord) → p < n → σ.buffer p ≡ k ∷ ks → σ.phase k ≡ answering x →
        next n p ≡ receiver k →
        Did σ (move (node_no p)) (delivered (channel_no k) x) (turn k resting (σ.offer k) (pop p ks σ))
    -- a request is taken out of its receiver's line
    did-withdraw : (k : ℕ) → k < c → σ.phase k ≡ asking → 0 < count k (σ.line (receiver k)) →
        Did σ (withdraw (channel_no k)) done (turn k resting (σ.offer k) (pull (receiver k) k σ))

  -- an entry, or a move, that would be accepted at p
  pub data CanEnter (σ : State) (p : ℕ) : Type 0 where
    can-enter : (k : ℕ) (ks : List ℕ) → σ.line p ≡ k ∷ ks → length (σ.buffer p) < slots p → CanEnter σ p

  pub data CanMove (σ : State) (p : ℕ) : Type 0 where
    can-hand : (k : ℕ) (ks : List ℕ) → σ.buffer p ≡ k ∷ ks → next n p ≡ target_in (σ.phase k) k → CanMove σ p
    can-pass : (k : ℕ) (ks : List ℕ) → σ.buffer p ≡ k ∷ ks → length (σ.buffer (next n p)) < slots (next n p) →
        σ.mark (next n p) ≡ false → CanMove σ p

  -- the record matched on channel m
  abbrev pub match_of : State → ℕ → Option BatchRecord
  match_of σ m = matched_in (σ.phase m) (σ.offer m)

-- a channel on which a record is matched has its message on the ring
pub matched-moving : (f : Phase) (o : Option BatchRecord) (x : BatchRecord) → matched_in f o ≡ some x → moving f ≡ true
matched-moving resting o x e = absurd (none-ne-some x e)
matched-moving asking o x e = refl
matched-moving ready o x e = absurd (none-ne-some x e)
matched-moving (answering y) o x e = refl
