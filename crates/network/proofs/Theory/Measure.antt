-- Theory. A number that falls with every accepted receive, send, entry and move while a record is matched on channel m, until it is
-- delivered, and rises by one with a withdrawal on another channel: what the others weigh on their way to m's node, the delay of m there,
-- and the way that m has to go. When m itself goes on, each other channel weighs at most 3 more, and the way that m went pays for it.
use Prim.Native.Nat.{ℕ, suc, ◌+◌, ◌*◌, ◌≤◌, ◌<◌}
use mathlib.Core.Path.{◌≡◌, refl, sym, ap, ◌∙◌}
use mathlib.Core.Logic.{◌≢◌, ◌⊎◌, inl, inr}
use mathlib.Core.Bool.{false, true≢false, not}
use mathlib.Core.List.{List, [], ◌∷◌, ◌++◌}
use mathlib.Core.Option.{Option, none, some, some-ne-none, none-ne-some}
use native.Mathlib.Nat.{mul-le-mul_left}
use native.Mathlib.Omega.{arith}
use lib.ListN.{length, length-append}
use borrow.Author.Tests.{eq-eqb, ne_eqb}
use Rattle.batch.specs.declared.BatchRecord.{BatchRecord}
use Rattle.hops.specs.Hops.{hops, next}
use Rattle.network.specs.Counting.{one, sum, count}
use Rattle.network.specs.Network.{Phase, resting, asking, ready, answering, channel_no}
use Rattle.network.specs.Sound.{absent}
use Rattle.network.specs.Calls.{Event, delivered}
use Rattle.network.specs.Runs.{Call, Deed, withdrew, stepped, deed_of, withdrawn, matched_in, handed_on}
use Rattle.network.proofs.Ground.Splits.{by-same, by_less}
use Rattle.network.proofs.Ground.Counting.{sum-but, sum-add, sum-none, sum-term, sum_ones, sum-some, one-most}
use Rattle.hops.proofs.Laws.{hops-from-one, hops-to-n, hops-step, next-below}
use Rattle.network.proofs.Theory.State.{upd, upd_same, upd_other, upd-at, Net, State, turn, join, pop, push, pass, pull, entry_in, target_in, Sound, Did, did-receive, did-offer, did-answer, did-enter, did-pass, did-ask, did-respond, did-deliver, did-withdraw, match_of, matched-moving}
use Rattle.network.proofs.Theory.Away.{away, away-here, away-below, away-next, away-first, away-on}
use Rattle.network.proofs.Theory.Weight.{node_weight, weighs, channel_weight, weight, weight-turn, weight-join, weight-pull, weight-pop, weight-push, weight-pass, messages, quiet, all-channels, compare-all, entry-below, target_below}
use Rattle.network.proofs.Theory.Kept.{first_passes}
use Rattle.network.proofs.Theory.Count.{takes, gives_back}
use Rattle.network.proofs.Theory.Place.{Stands, buffered, waiting, stands_same, stands-turn, stands-join, stands-pass, stands-push, stands-pull, stands-pop, stands-once, count-split}

module _ (N : Net) where
  open N use {n, c, slots, sender, receiver}

  -- the weight of a node on the way to the node at: 3 for each hop
  abbrev pub toward : ℕ → ℕ → ℕ
  toward at p = 3 * away n at p

  abbrev pub weight_to : ℕ → State → ℕ
  weight_to at σ = weight N (toward at) σ

  toward-on : (at p : ℕ) → at < n → p < n → toward (next n at) p ≤ toward at p + 3
  toward-on at p la l =
      by-same p (next n at)
      (λ e. rw (← e) (omega (arith, away-here n p l)))
      (λ d. omega (arith, away-on n at p la l d))

  -- If the next node takes the place of the node at, each channel weighs at most 3 more, even if all at the next node count as ahead
  -- of m there, each for once round the ring.
  weight-on : {σ : State} (at : ℕ) → Sound N σ → at < n →
      weight_to (next n at) σ + 3 * n * messages N σ (next n at) ≤ weight_to at σ + 3 * c
  weight-on {σ} at s l =
      let q : ℕ = next n at in
      let lq : q < n = next-below n at l in
      let f : ℕ → ℕ = node_weight N (toward q) σ in
      let v : ℕ = f q + 3 * n * messages N σ q in
      let raised : sum n f + upd q v f q ≡ sum n (upd q v f) + f q =
      sum-but n q f (upd q v f) lq (λ p m d. sym (upd_other q v f p d)) in
      let nodes : (p : ℕ) → p < n → upd q v f p ≤ node_weight N (toward at) σ p + 3 * messages N σ p =
      upd-at (λ p u. p < n → u ≤ node_weight N (toward at) σ p + 3 * messages N σ p) q v f
      (λ i. omega (arith, ap (λ z. 3 * z * messages N σ q) (away-here n q lq), ap (λ z. 3 * z * messages N σ q) (away-first n at l)))
      (λ p d i. omega (arith, ap (λ z. 3 * z * messages N σ p) (away-on n at p l i d))) in
      let channels : (k : ℕ) → k < c → channel_weight N (toward q) σ k ≤ channel_weight N (toward at) σ k + 3 * quiet N σ k =
      λ k i. omega (arith, mul-le-mul_left (quiet N σ k) (toward-on at (entry_in N (σ.phase k) k) l (entry-below N k s i))) in
      omega (
        arith,
        raised,
        upd_same q v f,
        compare-all N 3 (upd q v f) (node_weight N (toward at) σ) (channel_weight N (toward q) σ) (channel_weight N (toward at) σ) s nodes channels,
      )

  weight-most : {σ : State} (at : ℕ) → Sound N σ → at < n → weight_to at σ ≤ 3 * n * c + c
  weight-most {σ} at s l =
      let nodes : (p : ℕ) → p < n → node_weight N (toward at) σ p ≤ 0 + 3 * n * messages N σ p =
      λ p i. omega (arith, mul-le-mul_left (3 * messages N σ p) (away-below n at p l i)) in
      let channels : (k : ℕ) → k < c → channel_weight N (toward at) σ k ≤ 1 + 3 * n * quiet N σ k =
      λ k i. omega (
        arith,
        one-most (absent (σ.offer k)),
        mul-le-mul_left (3 * quiet N σ k) (away-below n at (entry_in N (σ.phase k) k) l (entry-below N k s i)),
      ) in
      omega (
        arith,
        sum-none n,
        sum_ones c,
        compare-all N (3 * n) (node_weight N (toward at) σ) (λ p. 0) (channel_weight N (toward at) σ) (λ k. 1) s nodes channels,
      )

  module _ (m : ℕ) where
    -- the way that m has to go: to its target, and while it asks twice round the ring more
    abbrev rounds : Phase → ℕ
    rounds resting = 0
    rounds asking = 2
    rounds ready = 0
    rounds (answering x) = 0

    abbrev to_go : Phase → ℕ → ℕ
    to_go f at = hops n at (target_in N f m) + rounds f * n

    abbrev measure : State → ℕ → ℕ → ℕ
    measure σ at d = weight_to at σ + 3 * n * d + 3 * c * to_go (σ.phase m) at

    -- the node where m stands, and a bound on its delay there
    pub record Place (σ : State) : Type 0 where
      pub at : ℕ
      pub below : at < n
      pub delay : ℕ
      pub stands : Stands m σ at delay

    -- the number that falls
    unfoldable pub Ψ : {σ : State} → Place σ → ℕ
    Ψ {σ} P = measure σ P.at P.delay

    -- m is still matched with x, at a place where the number is less than v
    abbrev pub Nearer : BatchRecord → ℕ → State → Type 0
    Nearer x v τ = (match_of N τ m ≡ some x) × (P : Place τ) × (suc (Ψ P) ≤ v)

    -- the same after a deed: the number v pays for what it takes, and a withdrawal gives one back
    abbrev pub Onward : BatchRecord → Deed → ℕ → State → Type 0
    Onward x deed v τ = (match_of N τ m ≡ some x) × (P : Place τ) × (takes deed + Ψ P ≤ v + gives_back deed)

    -- m itself leaves the buffer of p; the delay d that it had plays no part
    module _ (x : BatchRecord) {σ : State} (s : Sound N σ) (lm : m < c) (match : match_of N σ m ≡ some x)
        (d p : ℕ) (ks : List ℕ) (lp : p < n) (first : σ.buffer p ≡ m ∷ ks) where
      own-passed : next n p ≢ target_in N (σ.phase m) m → next n p ≢ p →
          Nearer x (measure σ p d) (pass (next n p) m (pop p ks σ))
      unfolding Ψ
      own-passed further apart =
          let q : ℕ = next n p in
          let lq : q < n = next-below n p lp in
          let last : upd q (upd p ks σ.buffer q ++ (m ∷ [])) (upd p ks σ.buffer) q ≡ σ.buffer q ++ (m ∷ []) =
          rw (upd_same q _ (upd p ks σ.buffer), upd_other p ks σ.buffer q apart) refl in
          let one-behind : away n q p ≡ suc (away n q q) = away-next n q p lq lp (λ e. apart (sym e)) in (
            match,
            record { at = q; below = lq; delay = length (σ.buffer q); stands = buffered (σ.buffer q) [] last (omega arith) },
            omega (
              arith,
              one-behind,
              away-here n q lq,
              weight-on p s lp,
              ap (λ z. 3 * c * z) (hops-step n p (target_in N (σ.phase m) m) lp (target_below N m s lm) further),
              weight-pop N (toward q) σ p m ks lp first,
              weight-pass N (toward q) (pop p ks σ) q m lq,
            ),
          )

      own-answered : (y : BatchRecord) → σ.phase m ≡ asking → next n p ≡ sender m → σ.offer m ≡ some y →
          Nearer x (measure σ p d) (join (sender m) m (turn m (answering y) none (pop p ks σ)))
      unfolding Ψ
      own-answered y asks arrives offer =
          let q : ℕ = sender m in
          let lq : q < n = s.sender-below m lm in
          let left : State = pop p ks σ in
          let line : ℕ = length (σ.line q) in
          let clear : ℕ = one (not (σ.mark q)) in
          let answers : upd m (answering y) σ.phase m ≡ answering y = upd_same m (answering y) σ.phase in
          let weighed : channel_weight N (toward q) σ m ≡ 0 = rw (asks, offer) (omega arith) in
          let on : weight_to q σ + 3 * n * messages N σ q ≤ weight_to p σ + 3 * c = rw (← arrives) (weight-on p s lp) in
          let wait : 3 * n * (line + clear) ≤ 3 * n * c = mul-le-mul_left (3 * n) (omega (arith, room, one-most (not (σ.mark q)))) in
          let went : 3 * c * 1 ≤ 3 * c * hops n p q = mul-le-mul_left (3 * c) (hops-from-one n p q lp lq) in
          let back : 3 * c * hops n q (receiver m) ≤ 3 * c * n =
          mul-le-mul_left (3 * c) (hops-to-n n q (receiver m) lq (s.receiver-below m lm)) in (
            rw answers (cc),
            record {
              at = q;
              below = lq;
              delay = length (left.buffer q) + 2 * line + clear;
              stands = waiting (σ.line q) [] (upd_same q (σ.line q ++ (m ∷ [])) σ.line) (omega arith);
            },
            rw (answers, asks) (omega (
              arith,
              weighed,
              on,
              less-ahead,
              wait,
              went,
              back,
              away-here n q lq,
              weight-pop N (toward q) σ p m ks lp first,
              weight-turn N (toward q) left m (answering y) none lm,
              weight-join N (toward q) (turn m (answering y) none left) q m lq,
            )),
          )
        where
          -- p is another node, a hop behind, or the buffer is shorter by m
          less-ahead : 3 + 3 * n * length (upd p ks σ.buffer (sender m)) ≤ toward (sender m) p + 3 * n * length (σ.buffer (sender m))
          less-ahead =
              by-same (sender m) p
              (λ e. rw (e, upd_same p ks σ.buffer, first) (omega arith))
              (λ e. rw (upd_other p ks σ.buffer (sender m) e)
              (omega (arith, away-next n (sender m) p (s.sender-below m lm) lp (λ i. e (sym i)))))

          -- a line does not hold all channels, since m is in a buffer
          room : length (σ.line (sender m)) < c
          room =
              omega (
                arith,
                ap length first,
                all-channels N s,
                sum-add n (λ r. length (σ.buffer r)) (λ r. length (σ.line r)),
                sum-term n p (λ r. length (σ.buffer r)) lp,
                sum-term n (sender m) (λ r. length (σ.line r)) (s.sender-below m lm),
              )

    -- any step, with m at a place
    module _ (x : BatchRecord) {σ : State} (s : Sound N σ) (lm : m < c) (match : match_of N σ m ≡ some x)
        {at d : ℕ} (la : at < n) (stands : Stands m σ at d) where
      -- m keeps its node and its phase
      kept : {τ : State} {e : ℕ} → match_of N τ m ≡ some x → τ.phase m ≡ σ.phase m → Stands m τ at e →
          suc (weight_to at τ + 3 * n * e) ≤ weight_to at σ + 3 * n * d → Nearer x (measure σ at d) τ
      unfolding Ψ
      kept {τ} {e} still same there less =
          (still, record { at = at; below = la; delay = e; stands = there }, rw same (omega arith))

      -- a channel on which nothing is matched is another
      other : (k : ℕ) → match_of N σ k ≡ none → m ≢ k
      other k bare e = some-ne-none x (sym match ∙ rw (← e) at bare)

      -- another channel changes its phase and its offer
      still-matched : (k : ℕ) (f : Phase) (o : Option BatchRecord) → m ≢ k →
          matched_in (upd k f σ.phase m) (upd k o σ.offer m) ≡ some x
      still-matched k f o dk = rw (upd_other k f σ.phase m dk, upd_other k o σ.offer m dk) match

      -- a receive, or a send on a ready channel
      joined : (p k : ℕ) (f : Phase) (o : Option BatchRecord) → p < n → k < c → m ≢ k →
          weighs N (toward at) k f o + toward at p + 2 ≡ channel_weight N (toward at) σ k →
          Nearer x (measure σ at d) (join p k (turn k f o σ))
      joined p k f o lp lk dk e =
          kept (still-matched k f o dk) (upd_other k f σ.phase m dk) (stands-join m p k (stands-turn m k f o stands))
          (omega (arith, e, weight-join N (toward at) (turn k f o σ) p k lp, weight-turn N (toward at) σ k f o lk))

      -- a send that is kept for later; on m itself while its response is under way
      offered : (k : ℕ) (y : BatchRecord) → k < c → σ.offer k ≡ none → Nearer x (measure σ at d) (turn k (σ.phase k) (some y) σ)
      offered k y lk bare =
          let weighed : one (absent (σ.offer k)) ≡ 1 = rw bare refl in
          kept
          (rw same-phase (upd-at (λ j o. j ≡ m → matched_in (σ.phase m) o ≡ some x) k (some y) σ.offer
          (λ e. carried (σ.phase m) (rw (← e, ← bare, e) match)) (λ j dj e. rw e match) m refl))
          same-phase
          (stands-turn m k (σ.phase k) (some y) stands)
          (omega (arith, weight-turn N (toward at) σ k (σ.phase k) (some y) lk))
        where
          same-phase : upd k (σ.phase k) σ.phase m ≡ σ.phase m
          same-phase = upd-at (λ j f. f ≡ σ.phase j) k (σ.phase k) σ.phase refl (λ j dj. refl) m

          carried : (f : Phase) → matched_in f none ≡ some x → matched_in f (some y) ≡ some x
          carried resting e = e
          carried asking e = absurd (none-ne-some x e)
          carried ready e = e
          carried (answering z) e = e

      entered : (p k : ℕ) (ks : List ℕ) → p < n → σ.line p ≡ k ∷ ks → Nearer x (measure σ at d) (push p k ks σ)
      entered p k ks lp first =
          kept match refl (stands-push m p k ks first stands) (omega (arith, weight-push N (toward at) σ p k ks lp first))

      -- Another leaves a buffer, and comes to weigh at most two more than the next node. Before it left it weighed 3 more than that,
      -- or it was ahead of m, for once round the ring.
      other-moved : {τ : State} (p k : ℕ) (ks : List ℕ) → p < n → σ.buffer p ≡ k ∷ ks → m ≢ k →
          match_of N τ m ≡ some x → τ.phase m ≡ σ.phase m → ((e : ℕ) → Stands m (pop p ks σ) at e → Stands m τ at e) →
          weight_to at τ ≤ weight_to at (pop p ks σ) + toward at (next n p) + 2 → Nearer x (measure σ at d) τ
      other-moved p k ks lp first dk still same on heavier =
          let left : weight_to at (pop p ks σ) + toward at p ≡ weight_to at σ = weight-pop N (toward at) σ p k ks lp first in
          by-same at p
          (λ here.
          let less = stands-pop m p k ks here first dk stands in
          let round : suc (away n at (next n p)) ≡ n = rw (← here) (away-first n at la) in
          kept still same (on less.0 less.1) (omega (arith, mul-le-mul_left (3 * n) less.2)))
          (λ there.
          let nearer : away n at p ≡ suc (away n at (next n p)) = away-next n at p la lp (λ e. there (sym e)) in
          kept still same (on d (stands_same m σ (pop p ks σ) (upd_other p ks σ.buffer at there) refl refl stands)) (omega arith))

      other-passed : (p k : ℕ) (ks : List ℕ) → p < n → σ.buffer p ≡ k ∷ ks → m ≢ k → σ.mark (next n p) ≡ false →
          Nearer x (measure σ at d) (pass (next n p) k (pop p ks σ))
      other-passed p k ks lp first dk clear =
          other-moved p k ks lp first dk match refl (λ e. stands-pass m (next n p) k clear)
          (omega (arith, weight-pass N (toward at) (pop p ks σ) (next n p) k (next-below n p lp)))

      -- a request that is taken with no record offered, or a response that is delivered
      other-turned : (p k : ℕ) (ks : List ℕ) (f : Phase) (o : Option BatchRecord) → p < n → k < c → σ.buffer p ≡ k ∷ ks → m ≢ k →
          weighs N (toward at) k f o ≤ channel_weight N (toward at) σ k + toward at (next n p) + 2 →
          Nearer x (measure σ at d) (turn k f o (pop p ks σ))
      other-turned p k ks f o lp lk first dk heavier =
          other-moved p k ks lp first dk (still-matched k f o dk) (upd_other k f σ.phase m dk) (λ e. stands-turn m k f o)
          (omega (arith, weight-turn N (toward at) (pop p ks σ) k f o lk))

      other-answered : (p k : ℕ) (ks : List ℕ) (y : BatchRecord) → p < n → k < c → σ.buffer p ≡ k ∷ ks → m ≢ k →
          σ.phase k ≡ asking → next n p ≡ sender k → σ.offer k ≡ some y →
          Nearer x (measure σ at d) (join (sender k) k (turn k (answering y) none (pop p ks σ)))
      other-answered p k ks y lp lk first dk asks arrives offer =
          let weighed : channel_weight N (toward at) σ k ≡ 0 = rw (asks, offer) (omega arith) in
          let target : toward at (next n p) ≡ toward at (sender k) = rw arrives refl in
          other-moved p k ks lp first dk (still-matched k (answering y) none dk) (upd_other k (answering y) σ.phase m dk)
          (λ e i. stands-join m (sender k) k (stands-turn m k (answering y) none i))
          (omega (
            arith,
            weight-turn N (toward at) (pop p ks σ) k (answering y) none lk,
            weight-join N (toward at) (turn k (answering y) none (pop p ks σ)) (sender k) k (s.sender-below k lk),
          ))

      -- if m itself leaves a buffer, it is that of its node
      own-node : (p : ℕ) (ks : List ℕ) → p < n → σ.buffer p ≡ m ∷ ks → at ≡ p
      own-node p ks lp first =
          let here : Stands m σ p 0 = buffered [] ks first (omega arith) in
          stands-once m s lm la lp stands here

      -- another's request leaves its line: the ring weighs one more
      pulled : (k : ℕ) → k < c → σ.phase k ≡ asking → 0 < count k (σ.line (receiver k)) → m ≢ k →
          Onward x (withdrew (channel_no k)) (measure σ at d) (turn k resting (σ.offer k) (pull (receiver k) k σ))
      unfolding Ψ
      pulled k lk asks there dk =
          let p : ℕ = receiver k in
          let heavier : weighs N (toward at) k resting (σ.offer k) ≡ channel_weight N (toward at) σ k + (toward at p + 2) =
          rw asks (omega arith) in (
            still-matched k resting (σ.offer k) dk,
            record { at = at; below = la; delay = d; stands = stands-turn m k resting (σ.offer k) (stands-pull m p k dk stands) },
            rw (upd_other k resting σ.phase m dk) (omega (
              arith,
              heavier,
              weight-pull N (toward at) σ p k (s.receiver-below k lk) there,
              weight-turn N (toward at) (pull p k σ) k resting (σ.offer k) lk,
            )),
          )

      -- a receive or a step pays one
      pays : {τ : State} → Nearer x (measure σ at d) τ → Onward x stepped (measure σ at d) τ
      pays r = (r.0, r.1, omega (arith, r.2))

      -- what becomes of m: x is delivered; or nothing is handed out on m, m is not withdrawn in what follows, and it comes on
      Goes : Deed → Event → State → List Deed → Type 0
      Goes deed e τ ds =
          (e ≡ delivered (channel_no m) x)
          ⊎ ((handed_on (channel_no m) e ≡ []) × (withdrawn (channel_no m) ds ≡ false) × Onward x deed (measure σ at d) τ)

      falls_at : {a : Call} {e : Event} {τ : State} (ds : List Deed) → withdrawn (channel_no m) (deed_of a ∷ ds) ≡ false → Did N σ a e τ →
          Goes (deed_of a) e τ ds
      unfolding Goes
      falls_at ds still-on (did-receive k lk rests) =
          let dk : m ≢ k = other k (rw rests refl) in
          inr (
            refl,
            rw (ne_eqb k m (λ e. dk (sym e))) at still-on,
            pays (joined (receiver k) k asking (σ.offer k) (s.receiver-below k lk) lk dk (rw rests (omega arith))),
          )
      falls_at ds still-on (did-offer k y lk good bare busy) = inr (refl, still-on, pays (offered k y lk bare))
      falls_at ds still-on (did-answer k y lk good is-ready) =
          inr (
            refl,
            still-on,
            pays (joined (sender k) k (answering y) none (s.sender-below k lk) lk (other k (rw is-ready refl))
                (rw (is-ready, s.ready-bare k lk is-ready) (omega arith))),
          )
      falls_at ds still-on (did-enter p k ks lp first room) = inr (refl, still-on, pays (entered p k ks lp first))
      falls_at ds still-on (did-pass p k ks lp first further apart room clear) =
          inr (
            refl,
            still-on,
            pays (by-same m k
                (λ same.
                let own : σ.buffer p ≡ k ∷ ks → next n p ≢ target_in N (σ.phase k) k →
                Nearer x (measure σ at d) (pass (next n p) k (pop p ks σ)) =
                rw (← same) λ f g. rw (own-node p ks lp f) (own-passed x s lm match d p ks lp f g apart) in
                own first further)
                (λ dk. other-passed p k ks lp first dk clear)),
          )
      falls_at ds still-on (did-ask p k ks lp first asks arrives bare) =
          inr (
            refl,
            still-on,
            pays (other-turned p k ks ready none lp (first_passes N s p k ks lp first).0 first (other k (rw (asks, bare) refl))
                (rw (asks, bare, arrives) (omega arith))),
          )
      falls_at ds still-on (did-respond p k ks y lp first asks arrives offer) =
          inr (
            refl,
            still-on,
            pays (by-same m k
                (λ same.
                let own : σ.buffer p ≡ k ∷ ks → σ.phase k ≡ asking → next n p ≡ sender k → σ.offer k ≡ some y →
                Nearer x (measure σ at d) (join (sender k) k (turn k (answering y) none (pop p ks σ))) =
                rw (← same) λ f g h i. rw (own-node p ks lp f) (own-answered x s lm match d p ks lp f y g h i) in
                own first asks arrives offer)
                (λ dk. other-answered p k ks y lp (first_passes N s p k ks lp first).0 first dk asks arrives offer)),
          )
      falls_at ds still-on (did-deliver p k ks y lp first answers arrives) =
          by-same k m
          (λ same.
          let held : some y ≡ some x = rw (← same, answers) at match in
          let given : y ≡ x = cc in
          inl (rw (same, given) refl))
          (λ dk. inr (
            rw (ne_eqb k m dk) refl,
            still-on,
            pays (other-turned p k ks resting (σ.offer k) lp (first_passes N s p k ks lp first).0 first (λ e. dk (sym e))
                (rw (answers, arrives) (omega arith))),
          ))
      falls_at ds still-on (did-withdraw k lk asks there) =
          by-same k m
          (λ same. absurd (true≢false (rw (eq-eqb k m same) at still-on)))
          (λ dk. inr (refl, rw (ne_eqb k m dk) at still-on, pulled k lk asks there (λ e. dk (sym e))))

    -- No more than c messages are at a node, so 2c bounds the delay there.
    stands-in : {σ : State} (p : ℕ) → Sound N σ → p < n → 1 ≤ count m (σ.buffer p) + count m (σ.line p) → Stands m σ p (2 * c)
    stands-in {σ} p s l some-here =
        let few : messages N σ p ≤ c = omega (arith, all-channels N s, sum-term n p (messages N σ) l) in
        by_less 0 (count m (σ.buffer p))
        (λ in_Buffer.
        let split = count-split m (σ.buffer p) in_Buffer in
        buffered split.0 split.1 split.2
        (omega (arith, few, ap length split.2, length-append split.0 (m ∷ split.1))))
        (λ not_there.
        let split = count-split m (σ.line p) (omega arith) in
        waiting split.0 split.1 split.2
        (omega (arith, few, one-most (not (σ.mark p)), ap length split.2, length-append split.0 (m ∷ split.1))))

    -- Matched on m with x, m stands somewhere, and the number is at most the bound of document 01, with c to spare.
    pub placed : {x : BatchRecord} {σ : State} → Sound N σ → m < c → match_of N σ m ≡ some x →
        (P : Place σ) × (Ψ P + c ≤ (n + 4) * (2 * sum n slots + 2 * (c * n) + 6 * c))
    unfolding Ψ
    placed {x} {σ} s lm match =
        let found = sum-some n (λ p. count m (σ.buffer p) + count m (σ.line p))
        (omega (arith, s.once m lm, ap one (matched-moving (σ.phase m) (σ.offer m) x match))) in
        let at : ℕ = found.0 in
        let l : at < n = found.1 in
        let some-node : 1 ≤ n = omega arith in
        let way : to_go (σ.phase m) at ≤ 3 * n =
        omega (arith, hops-to-n n at (target_in N (σ.phase m) m) l (target_below N m s lm), mul-le-mul_left n (rounds-most (σ.phase m))) in (
          record { at = at; below = l; delay = 2 * c; stands = stands-in at s l found.2 },
          omega (
            arith,
            weight-most at s l,
            mul-le-mul_left (3 * c) way,
            mul-le-mul_left (c * n) some-node,
            mul-le-mul_left (n + 4) s.more-slots,
          ),
        )
      where
        rounds-most : (f : Phase) → rounds f ≤ 2
        rounds-most resting = omega arith
        rounds-most asking = omega arith
        rounds-most ready = omega arith
        rounds-most (answering y) = omega arith

    -- under way, m has at least a hop to go
    pub Ψ-some : {σ : State} → Sound N σ → m < c → (P : Place σ) → 1 ≤ Ψ P
    unfolding Ψ
    Ψ-some {σ} s lm P =
        omega (arith, mul-le-mul_left (3 * c) (hops-from-one n P.at (target_in N (σ.phase m) m) P.below (target_below N m s lm)))

    -- Every accepted call that does not withdraw m delivers x on m, or hands out nothing on m, and the number pays for it.
    pub falls : (x : BatchRecord) {σ τ : State} {a : Call} {e : Event} → Sound N σ → m < c → match_of N σ m ≡ some x → (P : Place σ) →
        (ds : List Deed) → withdrawn (channel_no m) (deed_of a ∷ ds) ≡ false → Did N σ a e τ →
        (e ≡ delivered (channel_no m) x)
        ⊎ ((handed_on (channel_no m) e ≡ []) × (withdrawn (channel_no m) ds ≡ false) × Onward x (deed_of a) (Ψ P) τ)
    unfolding Ψ Goes
    falls x s lm match P ds still-on did = falls_at x s lm match P.below P.stands ds still-on did
