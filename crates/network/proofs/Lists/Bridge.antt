-- Lists. From tables to the ring: every call keeps a sound ring sound, and an entry or a move that can be made on the tables is accepted
-- on the ring. With `call-did` (Accepted) and `call-before` (Before) this is all that theorems about runs need of the calls.
use Prim.Native.Nat.{ℕ, ◌<◌}
use mathlib.Core.Path.{◌≡◌, refl, sym, ap, subst}
use mathlib.Core.Logic.{◌≢◌}
use mathlib.Core.Bool.{true, not}
use mathlib.Core.List.{List, ◌∷◌}
use lib.Dec.{ltb}
use borrow.Author.Tests.{lt-ltb}
use Rattle.refusal.specs.declared.Refusal.{Refusal}
use Rattle.numbers.specs.declared.NodeNo.{NodeNo}
use Rattle.numbers.specs.declared.ChannelNo.{ChannelNo}
use Rattle.network.specs.Network.{Network, channel_no, numbers_of, count_of_nodes, node, channel, next_node}
use Rattle.network.specs.Sound.{Limits, sound}
use Rattle.network.specs.Calls.{Event, Outcome, refused, unless, has_slot, Arrival, passing, hand_over, move_first}
use Rattle.network.specs.Calls
use Rattle.network.specs.Runs.{Call, call, after, is_accepted}
use Rattle.network.proofs.Ground.Splits.{by-test}
use Rattle.network.proofs.Ground.Numbers.{length-numbers, numbers-first}
use Rattle.network.proofs.Theory.State.{Sound, CanEnter, can-enter, CanMove, can-hand, can-pass, target_in}
use Rattle.network.proofs.Lists.Tables.{net_of, state_of}
use Rattle.network.proofs.Lists.Clauses.{Within, Started, sound-started, started-sound}
use Rattle.network.proofs.Lists.Outcomes.{after-all, go_on}
use Rattle.network.proofs.Lists.Accepted.{Stepped, Answered, by-step, by-question, call-did, ArrivesAs, is-taken, is-arrived, is-passing, arrives-as}
use Rattle.network.proofs.Lists.Before.{call-before}
use Rattle.network.proofs.Theory.Kept.{kept, first-moving}

-- a step leads from a sound started ring to a sound started ring
pub stepped-started : (L : Limits) (σ τ : Network) {a : Call} {e : Event} → Started L σ → Stepped σ a e τ → Started L τ
stepped-started L σ τ h d =
    record {
      running = d.running;
      within = subst (Within L) (sym d.same-net) h.within;
      delivery-limit = d.delivery-limit;
      tables = subst (λ N. Sound N (state_of τ)) (sym d.same-net) (kept (net_of σ) h.tables d.did);
    }

answered-started : (L : Limits) (σ τ : Network) (a : Call) (e : Event) → Started L σ → Answered σ a e τ → Started L τ
answered-started L σ τ a e h (by-step d) = stepped-started L σ τ h d
answered-started L σ τ a e h (by-question q same) = subst (Started L) (sym same) h

-- a started ring stays started and sound, and every call keeps a sound ring sound
pub call-started : (L : Limits) (σ : Network) (a : Call) → Started L σ → Started L (after σ (call L a σ))
call-started L σ a h = after-all (Started L) σ h (λ e τ. answered-started L σ τ a e h) (call-did L σ h a)

pub call-sound : (L : Limits) (σ : Network) (a : Call) → sound L σ ≡ true → sound L (after σ (call L a σ)) ≡ true
call-sound L σ a ok =
    by-test σ.started
    (λ s. started-sound L _ (call-started L σ a (sound-started L σ ok s)))
    (λ s. after-all (λ τ. sound L τ ≡ true) σ ok (λ e τ p. p.next-sound) (call-before L σ ok s a))

-- an entry or a move that can be made is accepted

module _ (L : Limits) (σ : Network) (h : Started L σ) (p : NodeNo) (lp : p.0 < count_of_nodes σ) where
  at-node : (r r' : Refusal) (o : Outcome Network) → is_accepted o ≡ true →
      is_accepted (unless σ.started (refused r) (unless (ltb p.0 (count_of_nodes σ)) (refused r') o)) ≡ true
  at-node r r' o next = go_on σ.started r _ h.running (go_on (ltb p.0 (count_of_nodes σ)) r' o (lt-ltb _ _ lp) next)

  pub enter-accepted : CanEnter (net_of σ) (state_of σ) p.0 → is_accepted (Calls.enter p σ) ≡ true
  unfolding Calls.enter
  enter-accepted (can-enter k ks e room) =
      let first = numbers-first (node σ p).line e in
      at-node _ _ _ (rw first.1 (go_on (has_slot σ p) _ _ (lt-ltb _ _ (rw length-numbers at room)) refl))

  -- a message that is taken or delivered needs no slot; any other, what its refusals ask
  handed-over : (q : NodeNo) (k : ChannelNo) (ks : List ChannelNo) (w : Arrival) → ArrivesAs σ q k w →
      (q.0 ≢ target_in (net_of σ) (channel σ k).phase k.0 → is_accepted (hand_over p q k ks passing σ) ≡ true) →
      is_accepted (hand_over p q k ks w σ) ≡ true
  handed-over q k ks _ (is-taken f at) pass_on = refl
  handed-over q k ks _ (is-arrived f at) pass_on = refl
  handed-over q k ks _ (is-passing d) pass_on = pass_on d

  -- the first message of the buffer, of channel k, is handed over
  first-handed : (k : ℕ) (ks : List ℕ) → numbers_of (node σ p).buffer ≡ k ∷ ks →
      ((next_node σ p).0 ≢ target_in (net_of σ) (channel σ (channel_no k)).phase k → (rest : List ChannelNo) →
      is_accepted (hand_over p (next_node σ p) (channel_no k) rest passing σ) ≡ true) →
      is_accepted (move_first p (node σ p).buffer σ) ≡ true
  first-handed k ks e pass_on =
      let first = numbers-first (node σ p).buffer e in
      let moves = first-moving (net_of σ) h.tables p.0 k ks lp e in
      rw first.1 (handed-over (next_node σ p) (channel_no k) first.0 _ (arrives-as σ _ (channel_no k) moves) (λ d. pass_on d first.0))

  pub move-accepted : CanMove (net_of σ) (state_of σ) p.0 → is_accepted (Calls.move p σ) ≡ true
  unfolding Calls.move
  move-accepted (can-hand k ks e at) =
      at-node _ _ _ (first-handed k ks e (λ d rest. absurd (d at)))
  move-accepted (can-pass k ks e room clear) =
      at-node _ _ _ (first-handed k ks e (λ d rest.
      go_on (has_slot σ (next_node σ p)) _ _ (lt-ltb _ _ (rw length-numbers at room))
      (go_on (not (node σ (next_node σ p)).mark) _ _ (ap not clear) refl)))
