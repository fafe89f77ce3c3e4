-- Theory. What is left to do where nothing but entries and moves is called: the hops and entries left of every message. Each accepted entry
-- and move makes it smaller, and it is at most c(2n + 2). Beside it, the messages on the ring: an entry or a move adds none, and a delivery
-- takes its own off.
use Prim.Native.Nat.{ℕ, suc, ◌+◌, ◌*◌, ◌≤◌, ◌<◌}
use mathlib.Core.Path.{◌≡◌, refl, ap, subst}
use mathlib.Core.Logic.{◌≢◌}
use mathlib.Core.Bool.{Bool, true, false, false≢true}
use mathlib.Core.List.{List, [], ◌∷◌, ◌++◌, nil≢cons}
use mathlib.Core.Option.{Option, none}
use native.Mathlib.Omega.{arith}
use lib.ListN.{length, get_or}
use Rattle.batch.specs.declared.BatchRecord.{BatchRecord}
use Rattle.batch.specs.Good.{good_record}
use Rattle.hops.specs.Hops.{hops, next}
use Rattle.hops.proofs.Laws.{hops-to-n, hops-step, hops-next, next-below}
use Rattle.network.specs.Counting.{one, sum, weigh, count}
use Rattle.network.specs.Network.{Phase, resting, asking, ready, answering, channel_no, moving}
use Rattle.network.specs.Calls.{Event, done, delivered, Delivery, delivery_in}
use Rattle.network.specs.Runs.{Call, add_node, add_channel, start, receive, send, enter, move, withdraw, hops_left, waiting_set, on_channel, handed_on}
use Rattle.network.specs.Dispatch.{listed}
use Rattle.network.proofs.Ground.Splits.{by-phase}
use Rattle.network.proofs.Ground.Counting.{sum_same, sum-le, sum-add, sum-times, sum-term, count_same, length-snoc, one-most}
use Rattle.network.proofs.Theory.State.{Net, State, Sound, Did, did-receive, did-offer, did-answer, did-enter, did-pass, did-ask, did-respond, did-deliver, did-withdraw, upd, upd_same, upd_other, upd-at, turn, pop, pass, here, target_in}
use Rattle.network.proofs.Theory.Load.{sum-upd, load, load-pop, load-join, load-pass, load-push}
use Rattle.network.proofs.Theory.Weight.{messages, quiet, all-channels, target_below}
use Rattle.network.proofs.Theory.Kept.{off-pop, first_passes, first-moving}
use Rattle.network.proofs.Theory.Order.{on_same, on-other}

-- the calls that a dispatcher tries: entries and moves
abbrev pub goes : Call → Bool
goes (add_node slots) = false
goes (add_channel s r) = false
goes start = false
goes (receive k) = false
goes (send k x) = false
goes (enter p) = true
goes (move p) = true
goes (withdraw k) = false
goes (hops_left k) = false
goes (waiting_set p) = false

-- the message of a channel, 1 where it has one on the ring
abbrev pub message : State → ℕ → ℕ
message σ k = one (moving (σ.phase k))

-- two weights that agree on what stands in a list, and a weight that is at most m there
weigh-agree : (f g : ℕ → ℕ) (xs : List ℕ) → ((j : ℕ) → 0 < count j xs → f j ≡ g j) → weigh f xs ≡ weigh g xs
unfolding weigh
weigh-agree f g [] h = refl
weigh-agree f g (x ∷ xs) h =
    let first : f x ≡ g x = h x (omega (arith, count_same x)) in
    let rest : weigh f xs ≡ weigh g xs = weigh-agree f g xs (λ j l. h j (omega arith)) in
    omega arith

weigh-most : (f : ℕ → ℕ) (m : ℕ) (xs : List ℕ) → ((j : ℕ) → 0 < count j xs → f j ≤ m) → weigh f xs ≤ m * length xs
unfolding weigh
weigh-most f m [] h = omega arith
weigh-most f m (x ∷ xs) h =
    let first : f x ≤ m = h x (omega (arith, count_same x)) in
    let rest : weigh f xs ≤ m * length xs = weigh-most f m xs (λ j l. h j (omega arith)) in
    omega arith

-- What an entry or a move does to the phases: nothing; a request is taken; a record is delivered.
pub data Turn (c : ℕ) (σ τ : State) : Event → Type 0 where
  none-turns : σ.phase ≡ τ.phase → Turn c σ τ done
  is-taken : (k : ℕ) (f : Phase) → k < c → σ.phase k ≡ asking → upd k f σ.phase ≡ τ.phase → Turn c σ τ done
  is-handed : (k : ℕ) (x : BatchRecord) → k < c → σ.phase k ≡ answering x → upd k resting σ.phase ≡ τ.phase →
      Turn c σ τ (delivered (channel_no k) x)

module _ (N : Net) where
  open N use {n, c, slots, sender, receiver}

  pub turn-did : {σ τ : State} {a : Call} {e : Event} → Sound N σ → goes a ≡ true → Did N σ a e τ → Turn c σ τ e
  turn-did s g (did-receive k lk rests) = absurd (false≢true g)
  turn-did s g (did-offer k x lk good bare busy) = absurd (false≢true g)
  turn-did s g (did-answer k x lk good is-ready) = absurd (false≢true g)
  turn-did s g (did-enter p k ks lp first room) = none-turns refl
  turn-did s g (did-pass p k ks lp first further apart room clear) = none-turns refl
  turn-did s g (did-ask p k ks lp first asks arrives bare) = is-taken k ready (first_passes N s p k ks lp first).0 asks refl
  turn-did s g (did-respond p k ks x lp first asks arrives offer) =
      is-taken k (answering x) (first_passes N s p k ks lp first).0 asks refl
  turn-did s g (did-deliver p k ks x lp first answers arrives) = is-handed k x (first_passes N s p k ks lp first).0 answers refl
  turn-did s g (did-withdraw k lk asks there) = absurd (false≢true g)

  -- the messages on the ring where channel k takes phase f
  all-turn : (σ : State) (k : ℕ) (f : Phase) → k < c →
      sum c (λ j. one (moving (upd k f σ.phase j))) + message σ k ≡ sum c (message σ) + one (moving f)
  all-turn σ k f l = sum-upd (λ j g. one (moving g)) c k f σ.phase l

  -- no message is added, and a delivery takes its own off
  pub messages-turn : {σ τ : State} {e : Event} → Turn c σ τ e → length (listed (delivery_in e)) + sum c (message τ) ≤ sum c (message σ)
  messages-turn (none-turns same) = rw same (omega arith)
  messages-turn {σ} (is-taken k f l asks same) =
      rw (← same) (omega (arith, ap (λ g. one (moving g)) asks, all-turn σ k f l, one-most (moving f)))
  messages-turn {σ} (is-handed k x l answers same) = rw (← same) (omega (arith, ap (λ g. one (moving g)) answers, all-turn σ k resting l))

  -- and so on each channel
  pub message-turn : {σ τ : State} {e : Event} → Turn c σ τ e → (j : ℕ) → length (handed_on (channel_no j) e) + message τ j ≤ message σ j
  message-turn (none-turns same) j = rw same (omega arith)
  message-turn {σ} (is-taken k f l asks same) j =
      rw (← same)
      (upd-at (λ i g. 0 + one (moving g) ≤ message σ i) k f σ.phase (rw asks (omega (arith, one-most (moving f)))) (λ i d. omega arith) j)
  message-turn {σ} (is-handed k x l answers same) j =
      rw (← same)
      (upd-at (λ i g. length (on_channel (channel_no i) (channel_no k) x) + one (moving g) ≤ message σ i) k resting σ.phase
      (rw (on_same k k x refl, answers) (omega arith))
      (λ i d. rw (on-other i k x d) (omega arith)) j)

  -- a record that is delivered is the one that the channel carried, which is good
  pub good_turn : {σ τ : State} {e : Event} → Sound N σ → Turn c σ τ e → (d : Delivery) →
      listed (delivery_in e) ≡ d ∷ [] → good_record d.«record» ≡ true
  good_turn s (none-turns same) d h = absurd (nil≢cons h)
  good_turn s (is-taken k f l asks same) d h = absurd (nil≢cons h)
  good_turn s (is-handed k x l answers same) d h =
      let carried : good_record x ≡ true = rw answers at (s.good-carried k l) in
      subst (λ y. good_record y ≡ true) (ap (λ ds. (get_or ds 0 d).«record») h) carried

  -- hops left of channel k in the buffer of p, and the entry of its response
  abbrev way : Phase → ℕ → ℕ → ℕ
  way resting p k = 0
  way asking p k = hops n p (sender k) + hops n (sender k) (receiver k) + 1
  way ready p k = 0
  way (answering x) p k = hops n p (receiver k)

  abbrev way_in : State → ℕ → ℕ → ℕ
  way_in σ p k = way (σ.phase k) p k

  abbrev waiting : State → ℕ
  waiting σ = sum n (λ p. length (σ.line p))

  -- the hops and entries left of all messages: in a line there is one entry more to make
  pub todo : State → ℕ
  todo σ = load N (way_in σ) σ + waiting σ

  waiting-line : (σ : State) (p : ℕ) (xs : List ℕ) → p < n →
      sum n (λ q. length (upd p xs σ.line q)) + length (σ.line p) ≡ waiting σ + length xs
  waiting-line σ p xs l = sum-upd (λ q ys. length ys) n p xs σ.line l

  -- the phase of a channel that stands nowhere does not matter
  load-off : (σ : State) (k : ℕ) (f : Phase) → here N σ k ≡ 0 →
      load N (λ p j. way (upd k f σ.phase j) p j) σ ≡ load N (way_in σ) σ
  load-off σ k f off =
      sum_same n _ _ (λ p l.
      let nowhere : count k (σ.buffer p) + count k (σ.line p) ≤ 0 =
      rw off at (sum-term n p (λ q. count k (σ.buffer q) + count k (σ.line q)) l) in
      let same : (xs : List ℕ) → count k xs ≤ 0 → weigh (λ j. way (upd k f σ.phase j) p j) xs ≡ weigh (way_in σ p) xs =
      λ xs none_in. weigh-agree _ _ xs (λ j i.
      ap (λ g. way g p j) (upd_other k f σ.phase j (λ e. absurd (omega (arith, rw e at i))))) in
      omega (arith, same (σ.buffer p) (omega arith), same (σ.line p) (omega arith)))

  module _ {σ : State} (s : Sound N σ) (p k : ℕ) (ks : List ℕ) (lp : p < n) (first : σ.buffer p ≡ k ∷ ks) where
    known : k < c
    known = (first_passes N s p k ks lp first).0

    popped : load N (way_in σ) (pop p ks σ) + way_in σ p k ≡ load N (way_in σ) σ
    popped = load-pop N (way_in σ) σ p lp k ks first

    -- k takes another phase and is off the ring
    turned-off : (f : Phase) (o : Option BatchRecord) → todo (turn k f o (pop p ks σ)) + way_in σ p k ≡ todo σ
    unfolding todo
    turned-off f o = omega (arith, popped, load-off (pop p ks σ) k f (off-pop N s p k ks lp first).nowhere)

    todo-pass : next n p ≢ target_in N (σ.phase k) k → suc (todo (pass (next n p) k (pop p ks σ))) ≡ todo σ
    unfolding todo
    todo-pass further =
        let on : moving (σ.phase k) ≡ true = first-moving N s p k ks lp first in
        let nearer : hops n p (target_in N (σ.phase k) k) ≡ suc (hops n (next n p) (target_in N (σ.phase k) k)) =
        hops-step n p _ lp (target_below N k s known) further in
        let less : way_in σ p k ≡ suc (way_in σ (next n p) k) =
        by-phase (σ.phase k)
        (λ e. absurd (false≢true (rw e at on)))
        (λ e. let near : hops n p (sender k) ≡ suc (hops n (next n p) (sender k)) = rw e at nearer in rw e (omega arith))
        (λ e. absurd (false≢true (rw e at on)))
        (λ x e. rw e (rw e at nearer)) in
        omega (arith, popped, less, load-pass N (way_in σ) (pop p ks σ) (next n p) (next-below n p lp) k)

  -- An entry takes one off; so does a hop, and a request that is answered at once. One that finds no record takes its response's way with it.
  pub todo-falls : {σ τ : State} {a : Call} {e : Event} → Sound N σ → goes a ≡ true → Did N σ a e τ → suc (todo τ) ≤ todo σ
  unfolding todo
  todo-falls s g (did-receive k lk rests) = absurd (false≢true g)
  todo-falls s g (did-offer k x lk good bare busy) = absurd (false≢true g)
  todo-falls s g (did-answer k x lk good is-ready) = absurd (false≢true g)
  todo-falls {σ} s g (did-enter p k ks lp first room) =
      let was : length (σ.line p) ≡ suc (length ks) = ap length first in
      omega (arith, was, load-push N (way_in σ) σ p lp k ks first, waiting-line σ p ks lp)
  todo-falls {σ} s g (did-pass p k ks lp first further apart room clear) = omega (arith, todo-pass s p k ks lp first further)
  todo-falls {σ} s g (did-ask p k ks lp first asks arrives bare) =
      let some_left : 1 ≤ way_in σ p k = rw asks (omega arith) in
      omega (arith, some_left, turned-off s p k ks lp first ready none)
  todo-falls {σ} s g (did-respond p k ks x lp first asks arrives offer) =
      let lk : k < c = known s p k ks lp first in
      let left : State = turn k (answering x) none (pop p ks σ) in
      let hop : hops n p (sender k) ≡ 1 = hops-next n p (sender k) lp (s.sender-below k lk) arrives in
      let was : way_in σ p k ≡ hops n (sender k) (receiver k) + 2 = rw (asks, hop) (omega arith) in
      let now : way_in left (sender k) k ≡ hops n (sender k) (receiver k) = rw (upd_same k (answering x) σ.phase) refl in
      omega (
        arith,
        was,
        now,
        turned-off s p k ks lp first (answering x) none,
        load-join N (way_in left) left (sender k) (s.sender-below k lk) k,
        waiting-line left (sender k) (σ.line (sender k) ++ (k ∷ [])) (s.sender-below k lk),
        length-snoc (σ.line (sender k)) k,
      )
  todo-falls {σ} s g (did-deliver p k ks x lp first answers arrives) =
      let lk : k < c = known s p k ks lp first in
      let hop : hops n p (receiver k) ≡ 1 = hops-next n p (receiver k) lp (s.receiver-below k lk) arrives in
      let was : way_in σ p k ≡ 1 = rw answers hop in
      omega (arith, was, turned-off s p k ks lp first resting (σ.offer k))
  todo-falls s g (did-withdraw k lk asks there) = absurd (false≢true g)

  -- at most once round the ring and back with two entries for every channel
  pub todo-most : {σ : State} → Sound N σ → todo σ ≤ c * (2 * n + 2)
  unfolding todo
  todo-most {σ} s =
      let each : (p : ℕ) → p < n →
      weigh (way_in σ p) (σ.buffer p) + weigh (way_in σ p) (σ.line p) + length (σ.line p) ≤ (2 * n + 2) * messages N σ p =
      λ p l.
      let ways : (j : ℕ) → j < c → way_in σ p j ≤ 2 * n + 1 = λ j lj. short p l j lj (σ.phase j) in
      omega (
        arith,
        weigh-most (way_in σ p) (2 * n + 1) (σ.buffer p) (λ j i. ways j (s.in-buffer p l j i).0),
        weigh-most (way_in σ p) (2 * n + 1) (σ.line p) (λ j i. ways j (s.in-line p l j i).0),
      ) in
      let all : (2 * n + 2) * (sum n (messages N σ) + sum c (quiet N σ)) ≡ (2 * n + 2) * c = ap (λ z. (2 * n + 2) * z) (all-channels N s) in
      omega (
        arith,
        all,
        sum-le n _ _ each,
        sum-add n (λ p. weigh (way_in σ p) (σ.buffer p) + weigh (way_in σ p) (σ.line p)) (λ p. length (σ.line p)),
        sum-times n (2 * n + 2) (messages N σ),
      )
    where
      short : (p : ℕ) → p < n → (j : ℕ) → j < c → (f : Phase) → way f p j ≤ 2 * n + 1
      short p l j lj resting = omega arith
      short p l j lj asking =
          omega (
            arith,
            hops-to-n n p (sender j) l (s.sender-below j lj),
            hops-to-n n (sender j) (receiver j) (s.sender-below j lj) (s.receiver-below j lj),
          )
      short p l j lj ready = omega arith
      short p l j lj (answering x) = omega (arith, hops-to-n n p (receiver j) l (s.receiver-below j lj))
