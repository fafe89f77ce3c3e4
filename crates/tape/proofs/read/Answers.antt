-- Each way out by the tests that led there.
use Rattle.std.proofs.Common.{sym, ap, ◌∙◌}
use Rattle.std.proofs.lemmas.Result.{err_from_is_err_and}
use Rattle.tape.specs.Tape.{read_number}
use Rattle.tape.proofs.Cases.{told, missing, there, beyond, ended, unknown, cut, whole}
use Rattle.tape.proofs.RoundTrip.{writes-back}
use Rattle.tape.proofs.read.Goals as goal

pub returns-in_err-rest-clause-answer : goal.returns-in_err-rest-clause-answer
returns-in_err-rest-clause-answer c =
    let none = c.in_err-rest.ensures.ok_part in
    let out = err_from_is_err_and c.from_residual.result c.from_residual.ensures.1 in
    rw (out.1, out.2, told _ c.in_err-rest.ensures.value none)
    (beyond c.args.bytes.now c.args.place (missing _ c.args.bytes.now c.args.place _ c.get.ensures.lookup none))

pub returns-in_err-rest-clause-number : goal.returns-in_err-rest-clause-number
returns-in_err-rest-clause-number c = ap read_number (returns-in_err-rest-clause-answer c)

pub returns-in_default-clause-answer : goal.returns-in_default-clause-answer
returns-in_default-clause-answer c =
    let rest = there _ c.args.bytes.now c.args.place _ _ c.get.ensures.lookup c.in_ok-rest.ensures.ok_part in
    ended c.args.bytes.now c.args.place _ rest.1 rest.0 c.in_default.ensures.value

pub returns-in_default-clause-number : goal.returns-in_default-clause-number
returns-in_default-clause-number c = ap read_number (returns-in_default-clause-answer c)

pub returns-in_err-row-clause-answer : goal.returns-in_err-row-clause-answer
returns-in_err-row-clause-answer c =
    let rest = there _ c.args.bytes.now c.args.place _ _ c.get.ensures.lookup c.in_ok-rest.ensures.ok_part in
    let none = c.in_err-row.ensures.ok_part in
    let out = err_from_is_err_and c.from_residual-in_err-row.result c.from_residual-in_err-row.ensures.1 in
    rw (out.1, out.2, told _ c.in_err-row.ensures.value none)
    (unknown c.args.bytes.now c.args.place _ rest.1 _ c.in-Some.ensures.value (sym none ∙ c.row_in.ensures))

pub returns-in_err-row-clause-number : goal.returns-in_err-row-clause-number
returns-in_err-row-clause-number c = ap read_number (returns-in_err-row-clause-answer c)

pub returns-then-rest-width-clause-answer : goal.returns-then-rest-width-clause-answer
returns-then-rest-width-clause-answer c =
    let rest = there _ c.args.bytes.now c.args.place _ _ c.get.ensures.lookup c.in_ok-rest.ensures.ok_part in
    cut c.args.bytes.now c.args.place _ rest.1 _ c.in-Some.ensures.value (sym c.in_ok-row.ensures.ok_part ∙ c.row_in.ensures)
    c.width_of-width.ensures c.if-rest-width.true

pub returns-then-rest-width-clause-number : goal.returns-then-rest-width-clause-number
returns-then-rest-width-clause-number c = ap read_number (returns-then-rest-width-clause-answer c)

pub returns-clause-answer : goal.returns-clause-answer
returns-clause-answer c =
    let rest = there _ c.args.bytes.now c.args.place _ _ c.get.ensures.lookup c.in_ok-rest.ensures.ok_part in
    whole c.args.bytes.now c.args.place _ rest.1 _ c.in-Some.ensures.value (sym c.in_ok-row.ensures.ok_part ∙ c.row_in.ensures)
    c.width_of-width.ensures c.fields_in.ensures c.if-rest-width.false

pub returns-clause-writes_back : goal.returns-clause-writes_back
returns-clause-writes_back c =
    writes-back c.args.bytes.now c.args.place _ (λ i. (c.type_inv.bytes i).fits) (returns-clause-answer c)

pub returns-clause-number : goal.returns-clause-number
returns-clause-number c = ap read_number (returns-clause-answer c)
