use Rattle.std.proofs.Common.{◌≡◌, get_or, rules}
use Rattle.std.proofs.lemmas.Option.{unwrap_or-slice_get}
use Rattle.runner.proofs.Put.{placed}
use Rattle.runner.proofs.told.Goals as goal

pub returns : goal.returns
returns c =
    let code : c.unwrap_or-code.result ≡ get_or c.args.tape.now c.args.session.now.place 0
    = search (rules, ← (unwrap_or-slice_get c.args.tape.now c.args.session.now.place 0)) in
    let put = c.write_line-end.ensures in
    record { session = c.count.ensures; line = rw code at (placed c.requires put.value put.bytes_after put.within c.unwrap_or.ensures) }
