-- The loop counts the channels of which it is not so (proofs/Loops).
use Rattle.std.proofs.Common.{ℕ, ◌≡◌, List, get_or, false}
use Rattle.messages.specs.Messages.{Table, has_message}
use Rattle.messages.proofs.Loops.{Counting}
use Rattle.messages.proofs.all_met.Given as goal

abbrev pub MetAt : List ℕ → Table → ℕ → Type 0
MetAt phases met k = get_or met k false ≡ has_message (get_or phases k 0)

abbrev pub invariant-loop-k : goal.invariant-loop-k
invariant-loop-k l = Counting (MetAt l.head.phases l.met) l.head.channel_count l.wrong l.k
