-- Each field goes to the part that begins where the one before it ends.
use Rattle.std.proofs.Common.{◌++◌, ◌∙◌, rules}
use mir.Syntax.{w16}
use mir.Val.{SFits}
use mir.Facts.{to_z-of_z}
use Rattle.wire.specs.Bytes.{little, twos}
use Rattle.wire.specs.Record.{record_bytes}
use Rattle.wire.proofs.Buffer.{next}
use Rattle.wire.proofs.put_fields.Goals as goal

pub returns : goal.returns
unfolding little record_bytes
returns c =
    let r = c.args.sent in
    let fits : SFits w16 r.temperature = search rules in
    let number = little 4 r.batch.0 in
    let vessel = little 1 r.vessel in
    let degrees = little 2 (twos r.temperature) in
    let size = little 1 r.name_length in
    next _ _ _ (number ++ vessel ++ degrees ++ size) r.name
    (next _ _ _ (number ++ vessel ++ degrees) size
    (next _ _ _ (number ++ vessel) degrees
    (next _ _ _ number vessel c.put_u32.ensures c.put_u8.ensures)
    (c.put_i16.ensures ∙ rw (to_z-of_z fits)))
    c.put_u8-2.ensures)
    c.put_name.ensures
