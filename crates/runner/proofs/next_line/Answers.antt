-- What happened, the tape too long, a command run, the tape ended or a command refused by the reader, is the next line of the session.
use Rattle.std.proofs.Common.{refl}
use Rattle.runner.proofs.Lines.{next-too-long, next-after}
use Rattle.runner.proofs.Put.{placed}
use Rattle.runner.proofs.next_line.Goals as goal

pub returns-then-tape-gt-LONGEST_TAPE : goal.returns-then-tape-gt-LONGEST_TAPE
returns-then-tape-gt-LONGEST_TAPE c =
    let put = c.write_too_long.ensures in
    rw (next-too-long _ _ _ c.if-tape-gt-LONGEST_TAPE.true)
    (record { session = refl; line = placed c.requires put.value put.bytes_after put.within c.unwrap_or.ensures })

pub returns-in-Ok-Some : goal.returns-in-Ok-Some
returns-in-Ok-Some c =
    rw (next-after _ _ _ c.if-tape-gt-LONGEST_TAPE.false, ← c.read.ensures.answer, c.in-Ok-Some.is, c.in-Ok-Some.field-0-is)
    (rw (c.perform-reply.ensures.0, c.perform-reply.ensures.1) at c.told.ensures)

pub returns-in-Ok-None : goal.returns-in-Ok-None
returns-in-Ok-None c =
    let put = c.write_end.ensures in
    rw (next-after _ _ _ c.if-tape-gt-LONGEST_TAPE.false, ← c.read.ensures.answer, c.in-Ok-None.is, c.in-Ok-None.field-0-is)
    (record { session = refl; line = placed c.requires put.value put.bytes_after put.within c.unwrap_or-in-Ok-None.ensures })

pub returns-in-Err : goal.returns-in-Err
returns-in-Err c =
    rw (next-after _ _ _ c.if-tape-gt-LONGEST_TAPE.false, ← c.read.ensures.answer, c.in-Err.is)
    c.told-in-Err.ensures
