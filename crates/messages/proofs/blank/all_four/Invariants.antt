-- What the loop joined is 0 exactly when every cell passed is (proofs/Loops).
use Rattle.std.proofs.Common.{length}
use Rattle.messages.proofs.Loops.{Judging}
use Rattle.messages.proofs.Zeros.{AllZero}
use Rattle.messages.proofs.blank.all_four.Given as goal

abbrev pub invariant-loop-a : goal.invariant-loop-a
invariant-loop-a l = Judging (AllZero l.front l.back l.other_front l.other_back) (length l.front) l.any (length l.yielded)
