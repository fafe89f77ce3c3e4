-- Where it tests and subtracts, the laws have the closed formula.
use Rattle.std.proofs.Common.{sym, arith}
use Rattle.hops.proofs.Laws.{hops-beyond, between-ahead, between-round}
use Rattle.hops.proofs.hops.Goals as goal

pub returns-then-n-p : goal.returns-then-n-p
returns-then-n-p c = sym (hops-beyond c.args.n c.args.p c.args.q (λ pn qn. omega arith))

pub returns-then-p-q : goal.returns-then-p-q
returns-then-p-q c = sym (between-ahead _ _ _ (omega arith) (omega arith))

pub returns : goal.returns
returns c = sym (between-round _ _ _ (omega arith) (omega arith))
