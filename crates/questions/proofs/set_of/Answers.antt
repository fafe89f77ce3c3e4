-- In a turn the bit is that of the channel, and the set with it fits.
use Rattle.std.proofs.Common.{◌≡◌, ◌-◌, suc, sym, ◌∙◌, arith}
use Rattle.questions.specs.Asked.{waits_at}
use Rattle.questions.proofs.Waiting.{waits-most, no_bits, bit_moved, set-doubled}
use Rattle.questions.proofs.set_of.Goals as goal

pub loop-k-preserved : goal.loop-k-preserved
loop-k-preserved c =
    let head = c.args.head.now in
    let further : head.channel_count - (c.loop-k.k - 1) ≡ suc (head.channel_count - c.loop-k.k) = omega arith in
    record {
      fits = rw (further, c.bit_of.ensures) (set-doubled _ c.loop-k.set _ c.loop-k.invariant.fits (waits-most head c.args.p (c.loop-k.k - 1)));
      bits_are =
          c.loop-k.invariant.bits_are
          ∙ bit_moved (waits_at head c.args.p) c.loop-k.set c.loop-k.k (c.loop-k.k - 1) (omega arith) c.bit_of.ensures;
    }

pub returns : goal.returns
returns c =
    let none : c.loop-k.k ≡ 0 = omega arith in
    let empty = no_bits (waits_at c.args.head.now c.args.p) in
    sym (c.loop-k.invariant.bits_are ∙ rw none (omega arith))
