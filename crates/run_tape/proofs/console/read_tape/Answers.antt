use Rattle.std.proofs.Common.{◌≤◌, rules, arith, length, take}
use Rattle.std.specs.Io.KnownBytes.{Consumes}
use Rattle.run_tape.proofs.Pieces.{read-on, front-more}
use Rattle.run_tape.proofs.console.read_tape.Goals as goal

pub loop-len-preserved : goal.loop-len-preserved
loop-len-preserved g c =
    let bound : c.in_ok-count.count ≤ length c.read.new.buf = search rules in
    let piece : Consumes (g.R.Read.remaining c.loop-len.input) (g.R.Read.remaining c.read.new.self) (take c.in_ok-count.count c.read.new.buf)
    = search rules in (
      omega arith,
      rw (front-more c.loop-len.tape c.read.new.buf _ c.loop-len.len c.in_ok-count.count c.loop-len.invariant.0 bound)
          (read-on _ _ _ _ _ c.loop-len.invariant.1 piece),
    )
