use Rattle.std.proofs.Common.{rules}
use Rattle.report.specs.Line.{end_of}
use Rattle.text.proofs.Appends.{◌then◌, from_new}
use Rattle.text.proofs.Digits.{decimal_printed}
use Rattle.report.proofs.end_of.Goals as goal

pub returns : goal.returns
unfolding end_of
returns c =
    rw (decimal_printed c.args.accepted (search rules), decimal_printed c.args.refused (search rules))
    (from_new c.new-line.ensures (c.push_all.ensures then c.push_field.ensures then c.push_field-2.ensures then c.push.ensures))
