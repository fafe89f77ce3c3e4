-- The search goes through the phases of the channels that there are.
use Rattle.std.proofs.Common.{rules, ap, not, take}
use Rattle.std.proofs.lemmas.Iterator.{YieldsList-from_slice}
use Rattle.std.proofs.lemmas.Iterator.Search.{any_from_yields_List}
use Rattle.dispatch.specs.Rounds.{is_moving}
use Rattle.dispatch.proofs.is_still.Goals as goal

pub returns : goal.returns
returns c =
    ap not (any_from_yields_List is_moving _ _ c.any.result c.any.ensures.ran (YieldsList-from_slice (take c.args.head.now.channel_count c.args.head.now.phases) cc) (λ x b q k. search rules))
