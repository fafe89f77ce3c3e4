use mir.Facts.{to_z-of_z}
use mir.Syntax.{w16}
use mir.Val.{SFits}
use Rattle.std.proofs.Common.{rules}
use Rattle.report.specs.Line.{record_fields}
use Rattle.text.proofs.Appends.{◌then◌}
use Rattle.text.proofs.Digits.{decimal_printed, signed_printed}
use Rattle.report.proofs.push_record.Goals as goal

pub returns : goal.returns
unfolding record_fields
returns c =
    let delivered = c.args.delivered in
    let fits : SFits w16 delivered.temperature = search rules in
    let temperature = rw (to_z-of_z fits) at c.push_field-4.ensures in
    rw (
      decimal_printed c.args.channel.0 (search rules),
      decimal_printed delivered.batch.0 (search rules),
      decimal_printed delivered.vessel (search rules),
      signed_printed delivered.temperature (search rules),
      decimal_printed delivered.name_length (search rules),
    )
    (c.push_all.ensures
    then (c.push_field.ensures
    then c.push_field-2.ensures
    then c.push_field-3.ensures
    then temperature
    then c.push_field-5.ensures
    then c.push_name.ensures))
