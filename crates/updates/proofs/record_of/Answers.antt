-- A record reads no further than its own bytes.
use Rattle.std.proofs.Common.{sym, ◌∙◌}
use Rattle.network.specs.Layout.{row}
use Rattle.updates.proofs.Records.{record-front}
use Rattle.updates.proofs.record_of.Goals as goal

pub returns : goal.returns
unfolding row
returns c = c.record_at.ensures ∙ sym (record-front _)
