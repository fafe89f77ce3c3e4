-- How many tasks of a node wait, document 01, "Refusal by operation": counted on the ring, as the ones of the waiting set, and as the code
-- answers it.
use Rattle.std.specs.Prelude.{ℕ, ◌≡◌, ltb, Result, Ok, Err}
use Rattle.std.specs.Int.Count.{ones}
use Rattle.refusal.specs.declared.Refusal.{Refusal}
use Rattle.refusal.specs.Number.{number_of}
use Rattle.numbers.specs.declared.NodeNo.{NodeNo}
use Rattle.network.specs.declared.Answer.TheVariants.{Done, Delivered, Hops, Waiting}
use Rattle.network.specs.declared.Ring.{Ring}
use Rattle.network.specs.Counting.{one, sum}
use Rattle.network.specs.Network.{Network, channel_no, count_of_nodes, count_of_channels, channel}
use Rattle.network.specs.Calls.{unless, waits, waiting_of}
use Rattle.network.specs.Runs
use Rattle.network.specs.Answers.{Reply}
use Rattle.network.specs.Layout.{view, sound_ring, answer_to}

-- how many tasks of node p wait: the channels of the ring on which one waits, counted one by one
abbrev pub tasks_of : Network → NodeNo → ℕ
tasks_of σ p = sum (count_of_channels σ) (λ k. one (waits p (channel σ (channel_no k))))

-- "How many tasks of a node wait is the number of ones in its 64-bit set": of any ring, whatever number of channels it has
abbrev pub OnesAreTasks : Type 0
OnesAreTasks = (σ : Network) (p : NodeNo) → ones (waiting_of σ p) ≡ tasks_of σ p

-- the answer in code: what the waiting set is answered with, its ones counted; it is answered with a set or a refusal and nothing else
abbrev pub tasks_in : Reply → Result ℕ Refusal
tasks_in (Ok Done) = Ok 0
tasks_in (Ok (Delivered k x)) = Ok 0
tasks_in (Ok (Hops h)) = Ok 0
tasks_in (Ok (Waiting set)) = Ok (ones set)
tasks_in (Err r) = Err r

abbrev pub tasks_to : NodeNo → Ring → Result ℕ Refusal
tasks_to node ring = tasks_in (answer_to (Runs.waiting_set node) ring)

-- document 01's number and value for each case of the answer; a refusal answers its number alone
pub record CountSaid : Type 0 where
  pub number : ℕ
  pub tasks : ℕ

abbrev pub says : ℕ → ℕ → CountSaid
says number tasks = record { number = number; tasks = tasks }

abbrev pub said_in : Result ℕ Refusal → CountSaid
said_in (Ok tasks) = says 0 tasks
said_in (Err r) = says (number_of r) 0

-- what document 01 has answered to the question: 25 on an unsound ring, 16 where there is no such node, or how many tasks wait
abbrev pub tasks_said : NodeNo → Ring → CountSaid
tasks_said node ring =
    unless (sound_ring ring) (says 25 0)
    (unless (ltb node.0 (count_of_nodes (view ring))) (says 16 0)
    (says 0 (tasks_of (view ring) node)))

-- the answer says just that
abbrev pub TasksSaid : Type 0
TasksSaid = (node : NodeNo) (ring : Ring) → said_in (tasks_to node ring) ≡ tasks_said node ring
