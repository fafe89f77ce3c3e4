-- After the last node comes node 0.
use Rattle.std.proofs.Common.{arith}
use Rattle.hops.proofs.Laws.{next-cases}
use Rattle.traffic.proofs.next_node.Goals as goal

pub returns-then-after-count : goal.returns-then-after-count
returns-then-after-count c = grind (arith, next-cases c.args.count c.args.p)

pub returns-else-after-count : goal.returns-else-after-count
returns-else-after-count c = grind (arith, next-cases c.args.count c.args.p)
