use Rattle.std.proofs.Common.{rules}
use Rattle.report.specs.Line.{line_of}
use Rattle.text.proofs.Appends.{◌then◌, from_new}
use Rattle.text.proofs.Digits.{decimal_printed}
use Rattle.report.proofs.line_of.Goals as goal

pub returns : goal.returns
unfolding line_of
returns c =
    rw (
      decimal_printed c.args.number (search rules),
      ← c.number_in.ensures,
      decimal_printed c.number_in.result (search rules),
    )
    (from_new c.new-line.ensures (c.push_number.ensures
    then c.push_hex.ensures
    then c.push_field.ensures
    then c.push_delivery.ensures
    then c.push.ensures))
