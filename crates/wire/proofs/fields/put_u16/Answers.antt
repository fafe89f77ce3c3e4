use Rattle.std.proofs.Common.{refl, ◌∙◌}
use Rattle.wire.specs.Bytes.{little}
use Rattle.wire.proofs.Numbers.{little-bytes_low}
use Rattle.wire.proofs.Buffer.{copied_front}
use Rattle.wire.proofs.fields.put_u16.Goals as goal

pub returns : goal.returns
unfolding little
returns c =
    copied_front _ _ _ 2 (c.copy_from_slice.ensures.after ∙ c.to_le_bytes.ensures ∙ little-bytes_low 2 c.args.value) refl
