use Rattle.report.specs.Line.{too_long}
use Rattle.text.proofs.Appends.{from_new}
use Rattle.report.proofs.too_long.Goals as goal

pub returns : goal.returns
unfolding too_long
returns c = from_new c.new-line.ensures c.push_all.ensures
