-- What every call opens with: the refusals of document 01 that come first, in their order, by what the call is about.
use Rattle.std.specs.Prelude.{ℕ, Bool, not, ltb, eqb, Ok, Err}
use Rattle.refusal.specs.declared.Refusal.{Refusal}
use Rattle.refusal.specs.declared.Refusal.TheVariants.{UnsoundRing, AlreadyStarted, NotStarted, NoSuchChannel, NoSuchNode}
use Rattle.refusal.specs.Number.{Verdict}
use Rattle.network.specs.declared.Ring.{Ring}
use Rattle.network.specs.Calls.{unless}
use Rattle.network.specs.Runs.{Call, add_node, add_channel, start, receive, send, enter, move, withdraw, hops_left, waiting_set}
use Rattle.network.specs.Layout.{sound_ring}
use Rattle.updates.specs.declared.opening.Subject.{Subject}
use Rattle.updates.specs.declared.opening.Subject.TheVariants.{Plan, Channel, Node, Tasks}

-- what a call is about
abbrev pub subject_of : Call → Subject
subject_of (add_node slots) = Plan
subject_of (add_channel s r) = Plan
subject_of start = Plan
subject_of (receive k) = Channel k
subject_of (send k x) = Channel k
subject_of (enter p) = Node p
subject_of (move p) = Node p
subject_of (withdraw k) = Channel k
subject_of (hops_left k) = Channel k
subject_of (waiting_set p) = Tasks p

-- the tests, on the numbers of the head
abbrev pub begun : ℕ → Bool
begun started = not (eqb started 0)

abbrev pub before_start : ℕ → Verdict
before_start started = unless (not (begun started)) (Err AlreadyStarted) (Ok tt)

abbrev pub in_count : ℕ → ℕ → Refusal → Verdict
in_count count number none = unless (ltb number count) (Err none) (Ok tt)

abbrev pub after_start : ℕ → ℕ → ℕ → Refusal → Verdict
after_start started count number none = unless (begun started) (Err NotStarted) (in_count count number none)

abbrev pub sound_opening : Ring → Subject → Verdict
sound_opening ring Plan = before_start ring.head.started
sound_opening ring (Channel k) = after_start ring.head.started ring.head.channel_count k.0 NoSuchChannel
sound_opening ring (Node p) = after_start ring.head.started ring.head.node_count p.0 NoSuchNode
sound_opening ring (Tasks p) = in_count ring.head.node_count p.0 NoSuchNode

-- an unsound ring is refused before all others
abbrev pub opening_of : Ring → Subject → Verdict
opening_of ring subject = unless (sound_ring ring) (Err UnsoundRing) (sound_opening ring subject)
