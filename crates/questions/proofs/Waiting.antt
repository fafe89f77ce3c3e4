-- The waiting set of a node as the code makes it, from the last channel to the first, and how many ones it has: as many as there are
-- channels that wait at the node.
use Prim.Native.Nat.{ℕ, zero, suc, ◌+◌, ◌*◌, ◌^◌, ◌≤◌, ◌<◌}
use mathlib.Core.Path.{◌≡◌, refl, sym, ap, ◌∙◌}
use mathlib.Core.Bool.{Bool, true, false, ◌&&◌, not}
use native.Mathlib.Nat.{pow-suc, mul_assoc, mul-add, mul_comm, add_comm}
use native.Mathlib.Omega.{arith}
use lib.Count.{ones, ones_in, ones_cat}
use lib.Dec.{eqb, ltb}
use borrow.Author.Tests.{lt-ltb}
use Rattle.network.specs.declared.Head.{Head}
use Rattle.network.specs.declared.Ring.{Ring}
use Rattle.network.specs.Counting.{one, sum}
use Rattle.network.specs.Network.{Phase, resting, asking, ready, answering, node_no, channel_no, count_of_nodes, count_of_channels, channel}
use Rattle.network.specs.Sound.{is_resting}
use Rattle.network.specs.Calls.{waiting_are, accepted, waits, waiting_of}
use Rattle.network.specs.Calls
use Rattle.network.specs.Runs
use Rattle.network.specs.Layout.{phase_code, view, sound_ring, call_ring}
use Rattle.network.proofs.Ground.Splits.{by-test}
use Rattle.network.proofs.Ground.Counting.{sum_same, one-most}
use Rattle.network.proofs.Memory.Held.{SoundRing, sound-ring}
use Rattle.updates.specs.Flat.{receiver_at, phase_at}
use Rattle.updates.specs.Known.{AskedAt}
use Rattle.updates.proofs.Openings.{sound-called}
use Rattle.questions.specs.Asked.{waits_at, bits, waiting_in}
use Rattle.questions.specs.Tasks.{OnesAreTasks, TasksSaid}

-- the bits of the channels, by their numbers and as the definitions say

at_rest : (f : Phase) → eqb (phase_code f) 0 ≡ is_resting f
at_rest resting = refl
at_rest asking = refl
at_rest ready = refl
at_rest (answering x) = refl

pub waits-most : (h : Head) (p k : ℕ) → waits_at h p k ≤ 1
waits-most h p k = one-most (eqb (receiver_at h k) p && not (eqb (phase_at h k) 0))

pub no_bits : (b : ℕ → ℕ) → bits b 0 ≡ 0
unfolding sum
no_bits b = refl

-- one channel less below, and the set above moves up by its bit
pub bit_moved : (b : ℕ → ℕ) (set k i : ℕ) {v : ℕ} → k ≡ suc i → v ≡ b i → bits b k + 2 ^ k * set ≡ bits b i + 2 ^ i * (2 * set + v)
unfolding sum
bit_moved b set k i e f =
    rw (e, f, pow-suc 2 i, mul_assoc (2 ^ i) 2 set, mul-add (2 ^ i) (2 * set) (b i)) (omega arith)

pub set-doubled : (m set b : ℕ) → set < 2 ^ m → b ≤ 1 → 2 * set + b < 2 ^ suc m
set-doubled m set b l s = rw (pow-suc 2 m) (omega arith)

-- the call at a node of a sound ring

module _ {ring : Ring} {p : ℕ} (h : AskedAt ring p) where
  known : SoundRing ring
  known = sound-ring ring h.ok

  waits-here : (k : ℕ) → k < count_of_channels (view ring) → one (waits (node_no p) (channel (view ring) (channel_no k))) ≡ waits_at ring.head p k
  waits-here k l =
      let c = known.holds.channels k (omega (arith, known.fits.channels-fit)) in
      rw (c.receiver, c.phase, at_rest (channel (view ring) (channel_no k)).phase)

  waiting-found : waiting_of (view ring) (node_no p) ≡ waiting_in ring.head p
  unfolding waiting_of
  waiting-found =
      sum_same (count_of_channels (view ring)) (λ k. 2 ^ k * one (waits (node_no p) (channel (view ring) (channel_no k))))
      (λ k. 2 ^ k * waits_at ring.head p k) (λ k l. rw (waits-here k l))
      ∙ ap (bits (waits_at ring.head p)) (sym known.holds.channel-count)

  pub waiting-answered : call_ring (Runs.waiting_set (node_no p)) ring ≡ accepted (waiting_are (waiting_in ring.head p)) ring
  unfolding Calls.waiting_set
  waiting-answered =
      let there : p < count_of_nodes (view ring) = omega (arith, known.holds.node-count, h.there) in
      rw (sound-called (Runs.waiting_set (node_no p)) ring h.ok, lt-ltb _ _ there)
      (λ i. accepted (waiting_are (waiting-found i)) (known.laid-out i))

-- the ones of a set of bits are counted one by one

bits_below : (b : ℕ → Bool) (n : ℕ) → bits (λ k. one (b k)) n < 2 ^ n
unfolding sum
bits_below b zero = omega arith
bits_below b (suc n) =
    let rest = bits_below b n in
    rw (pow-suc 2 n) (by-test (b n) (λ t. rw t (omega arith)) (λ t. rw t (omega arith)))

ones-one : (b : Bool) → ones (one b) ≡ one b
unfolding ones ones_in
ones-one true = refl
ones-one false = refl

pub ones-counted : (b : ℕ → Bool) (n : ℕ) → ones (bits (λ k. one (b k)) n) ≡ sum n (λ k. one (b k))
unfolding sum
ones-counted b zero = ones-one false
ones-counted b (suc n) =
    let rest : ℕ = bits (λ k. one (b k)) n in
    let turned : rest + 2 ^ n * one (b n) ≡ one (b n) * 2 ^ n + rest =
    add_comm rest (2 ^ n * one (b n)) ∙ ap (λ x. x + rest) (mul_comm (2 ^ n) (one (b n))) in
    rw (turned, ones_cat n (one (b n)) rest (bits_below b n), ones-one (b n), ones-counted b n)
    (add_comm (one (b n)) (sum n (λ k. one (b k))))

pub ones-are-tasks : OnesAreTasks
unfolding waiting_of
ones-are-tasks σ p = ones-counted (λ k. waits p (channel σ (channel_no k))) (count_of_channels σ)

-- an unsound ring, no such node, or the ones of the set: each is what document 01 says
pub tasks-said : TasksSaid
unfolding call_ring Calls.waiting_set
tasks-said node ring =
    by-test (sound_ring ring) (λ ok.
    by-test (ltb node.0 (count_of_nodes (view ring))) (λ there. rw (ok, there, ones-are-tasks (view ring) node)) (λ none. rw (ok, none)))
    (λ unsound. rw unsound)
