-- Lists. An entry or a move that is tried on a sound started ring, accepted or refused: the ring stays sound and started with the same
-- plan, and no message is added to it; a delivery takes its own off, and its record is good. If it is accepted, less is left to do.
use Prim.Native.Nat.{ℕ, ◌+◌, ◌≤◌}
use mathlib.Core.Path.{◌≡◌, refl, ap}
use mathlib.Core.Bool.{true, false≢true}
use mathlib.Core.List.{[], ◌∷◌, nil≢cons}
use native.Mathlib.Omega.{arith}
use lib.ListN.{length}
use Rattle.batch.specs.Good.{good_record}
use Rattle.numbers.specs.declared.ChannelNo.{ChannelNo}
use Rattle.network.specs.Counting.{one, sum}
use Rattle.network.specs.Network.{Network, channel_no, count_of_channels, channel, moving}
use Rattle.network.specs.Sound.{Limits}
use Rattle.network.specs.Calls.{Delivery, Outcome}
use Rattle.network.specs.Runs.{Call, add_node, add_channel, start, receive, send, enter, move, withdraw, hops_left, waiting_set, call, after, is_accepted, delivered_by}
use Rattle.network.specs.Dispatch.{on_ring, handed_by}
use Rattle.network.proofs.Ground.Counting.{sum-le, sum_ones, one-most}
use Rattle.network.proofs.Theory.State.{Net}
use Rattle.network.proofs.Theory.Todo.{goes, message, turn-did, messages-turn, message-turn, good_turn, todo, todo-falls}
use Rattle.network.proofs.Lists.Tables.{net_of, state_of}
use Rattle.network.proofs.Lists.Clauses.{Started}
use Rattle.network.proofs.Lists.Outcomes.{After, not-done, was-done}
use Rattle.network.proofs.Lists.Accepted.{Stepped, enter-did, move-did}
use Rattle.network.proofs.Lists.Bridge.{stepped-started}

-- a channel has at most one message on the ring
pub on-ring-few : (σ : Network) → on_ring σ ≤ count_of_channels σ
on-ring-few σ =
    let message : ℕ → ℕ = λ k. one (moving (channel σ (channel_no k)).phase) in
    let each : on_ring σ ≤ sum (count_of_channels σ) (λ k. 1) =
    sum-le (count_of_channels σ) message (λ k. 1) (λ k l. one-most (moving (channel σ (channel_no k)).phase)) in
    omega (arith, each, sum_ones (count_of_channels σ))

-- the hops and entries left of all messages
abbrev pub left : Network → ℕ
left σ = todo (net_of σ) (state_of σ)

-- what is known where an outcome is answered on the ring σ
pub record AfterTry (L : Limits) (σ : Network) (o : Outcome Network) : Type 0 where
  pub started : Started L (after σ o)
  pub same-net : net_of (after σ o) ≡ net_of σ
  pub less : one (is_accepted o) + left (after σ o) ≤ left σ
  pub fewer : length (handed_by o) + on_ring (after σ o) ≤ on_ring σ
  pub fewer-on : (k : ChannelNo) →
      length (delivered_by k o) + one (moving (channel (after σ o) k).phase) ≤ one (moving (channel σ k).phase)
  pub good : (d : Delivery) → handed_by o ≡ d ∷ [] → good_record d.«record» ≡ true

module _ (L : Limits) (σ : Network) (s : Started L σ) where
  tried-did : (a : Call) → goes a ≡ true → After (Stepped σ a) (call L a σ)
  tried-did (add_node slots) g = absurd (false≢true g)
  tried-did (add_channel p q) g = absurd (false≢true g)
  tried-did start g = absurd (false≢true g)
  tried-did (receive k) g = absurd (false≢true g)
  tried-did (send k x) g = absurd (false≢true g)
  tried-did (enter p) g = enter-did L σ s p
  tried-did (move p) g = move-did L σ s p
  tried-did (withdraw k) g = absurd (false≢true g)
  tried-did (hops_left k) g = absurd (false≢true g)
  tried-did (waiting_set p) g = absurd (false≢true g)

  went-after : {a : Call} {o : Outcome Network} → goes a ≡ true → After (Stepped σ a) o → AfterTry L σ o
  went-after g not-done =
      record {
        started = s;
        same-net = refl;
        less = omega arith;
        fewer = omega arith;
        fewer-on = λ k. omega arith;
        good = λ d h. absurd (nil≢cons h);
      }
  went-after g (was-done {e = e} {τ = τ} d) =
      let all : on_ring τ ≡ sum (net_of σ).c (message (state_of τ)) = ap (λ (N : Net). sum N.c (message (state_of τ))) d.same-net in
      let turned = turn-did (net_of σ) s.tables g d.did in
      record {
        started = stepped-started L σ τ s d;
        same-net = d.same-net;
        less = omega (arith, ap (λ N. todo N (state_of τ)) d.same-net, todo-falls (net_of σ) s.tables g d.did);
        fewer = omega (arith, all, messages-turn (net_of σ) turned);
        fewer-on = λ k. message-turn (net_of σ) turned k.0;
        good = good_turn (net_of σ) s.tables turned;
      }

  pub went : (a : Call) → goes a ≡ true → AfterTry L σ (call L a σ)
  went a g = went-after g (tried-did a g)
