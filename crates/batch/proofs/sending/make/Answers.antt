-- 11, then the temperature in its own unit, then what send asks of the record.
use Rattle.std.proofs.Common.{sym, ap, ◌∙◌, rules, FitsSigned, w16}
use Rattle.std.proofs.lemmas.Int.{to_z-of_z}
use Rattle.std.proofs.lemmas.Result.{err_from_is_err_and}
use Rattle.batch.specs.Good.{send_verdict}
use Rattle.batch.proofs.Temperatures.{sent-zero, sent-far, sent-made}
use Rattle.batch.proofs.sending.make.Goals as goal

pub returns : goal.returns
returns c =
    let fits : FitsSigned w16 c.args.fields.temperature = search rules in
    let given : FitsSigned w16 c.in_ok-temperature.temperature = search rules in
    rw (simp to_z-of_z at c.record_with-record.ensures)
    (sent-made c.args.scale c.args.fields (sym (simp to_z-of_z at c.in_ok-temperature.ensures))
    (ap send_verdict (sym (simp to_z-of_z at c.record_with-record.ensures)) ∙ sym c.in_ok-judge_sent.ensures.value))

pub returns-then-fields-eq0 : goal.returns-then-fields-eq0
returns-then-fields-eq0 c = sent-zero c.args.scale c.args.fields c.if-fields-eq0.true

pub returns-in_err-temperature : goal.returns-in_err-temperature
returns-in_err-temperature c =
    let fits : FitsSigned w16 c.args.fields.temperature = search rules in
    let out = err_from_is_err_and c.from_residual.result c.from_residual.ensures.1 in
    rw (out.1, out.2) (sent-far c.args.scale c.args.fields c.if-fields-eq0.false (sym (simp to_z-of_z at c.in_err-temperature.ensures)))

pub returns-in_err-judge_sent : goal.returns-in_err-judge_sent
returns-in_err-judge_sent c =
    let fits : FitsSigned w16 c.args.fields.temperature = search rules in
    let given : FitsSigned w16 c.in_ok-temperature.temperature = search rules in
    let out = err_from_is_err_and c.from_residual-in_err-judge_sent.result c.from_residual-in_err-judge_sent.ensures.1 in
    rw (out.1, out.2)
    (sent-made c.args.scale c.args.fields (sym (simp to_z-of_z at c.in_ok-temperature.ensures))
    (ap send_verdict (sym (simp to_z-of_z at c.record_with-record.ensures)) ∙ sym c.in_err-judge_sent.ensures.value))
