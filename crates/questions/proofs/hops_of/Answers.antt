-- Two ways of at most a round each fit a byte.
use Rattle.std.proofs.Common.{arith}
use Rattle.hops.proofs.Laws.{hops-most}
use Rattle.questions.proofs.hops_of.Goals as goal

pub overflow_add-result : goal.overflow_add-result
overflow_add-result c =
    omega (arith, c.requires.0.nodes, hops-most _ _ _ c.hops.ensures, hops-most _ _ _ c.hops-back.ensures)
