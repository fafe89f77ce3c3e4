-- For each shape, its operands follow the command byte.
use Rattle.std.proofs.Common.{◌++◌, ◌∙◌}
use Rattle.wire.specs.Bytes.{little}
use Rattle.wire.specs.Record.{field_bytes}
use Rattle.wire.proofs.Buffer.{next}
use Rattle.tape.specs.Shape.{bytes_with}
use Rattle.tape.proofs.put_command.Goals as goal

pub returns-in-Bare : goal.returns-in-Bare
unfolding bytes_with
returns-in-Bare c = c.put_u8.ensures ∙ rw c.in-Bare.is

pub returns-in-Byte : goal.returns-in-Byte
unfolding bytes_with
returns-in-Byte c = c.put_pair.ensures ∙ rw c.in-Byte.is

-- a pair of bytes, and an operand or a record after it
pub returns-in-TwoBytes : goal.returns-in-TwoBytes
unfolding little bytes_with
returns-in-TwoBytes c =
    let p = c.args.parts in
    next _ _ _ (little 1 p.code ++ little 1 p.first) (little 1 p.second) c.put_pair-in-TwoBytes.ensures c.put_u8-in-TwoBytes.ensures
    ∙ rw c.in-TwoBytes.is

pub returns-in-ByteAndFields : goal.returns-in-ByteAndFields
unfolding little bytes_with
returns-in-ByteAndFields c =
    let p = c.args.parts in
    next _ _ _ (little 1 p.code ++ little 1 p.first) (field_bytes c.args.sent) c.put_pair-in-ByteAndFields.ensures c.put_fields.ensures
    ∙ rw c.in-ByteAndFields.is
