-- Where the bytes have ended, no bytes are the number 0.
use Rattle.std.proofs.Common.{◌≡◌, ℕ, List, length, get_or, sym, ◌∙◌, rules}
use Rattle.std.proofs.lemmas.List.{get_or_past}
use Rattle.std.proofs.lemmas.Option.{unwrap_or-slice_get}
use lib.ListN.{drop_of_length-le}
use Rattle.numbers.proofs.Splits.{by_less}
use Rattle.wire.specs.Bytes.{number, number_at}
use Rattle.wire.proofs.Numbers.{number-one}
use Rattle.tape.proofs.operand_at.Goals as goal

operand : (bytes : List ℕ) (at : ℕ) → get_or bytes at 0 ≡ number_at at 1 bytes
unfolding number
operand bytes at =
    by_less at (length bytes) (λ h. sym (number-one at bytes h)) λ h.
    get_or_past bytes at 0 h ∙ rw (drop_of_length-le bytes {i = at} h)

pub returns : goal.returns
returns c = search (rules, operand c.args.bytes.now c.args.at, unwrap_or-slice_get)
