use Rattle.std.proofs.Common.{◌∙◌}
use Rattle.messages.proofs.RowPass.{says-stopped, rows_start, rows_more, rows-stop, node-stops, node_more}
use Rattle.messages.proofs.Zeros.{part-is-row}
use Rattle.messages.proofs.rows.mark.Goals as goal

pub loop-p-init : goal.loop-p-init
loop-p-init c = rows_start _ _

pub returns-then-not-mark_row : goal.returns-then-not-mark_row
returns-then-not-mark_row c =
    let buffer = rw part-is-row at c.mark_row.ensures in
    says-stopped
    (rows-stop _ _ _ c.loop-p.p c.loop-p-test.true
    (rows_more _ _ c.loop-p.p c.loop-p.invariant (node-stops _ _ _ (buffer.stopped c.if-not-mark_row.true))))

pub returns-then-not-mark_row-2 : goal.returns-then-not-mark_row-2
returns-then-not-mark_row-2 c =
    let buffer = rw part-is-row at c.mark_row.ensures in
    let line = rw part-is-row at c.mark_row-in-loop-p.ensures in
    says-stopped
    (rows-stop _ _ _ c.loop-p.p c.loop-p-test.true
    (rows_more _ _ c.loop-p.p c.loop-p.invariant
    (node_more _ _ _ (buffer.passed c.if-not-mark_row.false) ∙ line.stopped c.if-not-mark_row-2.true)))

pub loop-p-preserved : goal.loop-p-preserved
loop-p-preserved c =
    let buffer = rw part-is-row at c.mark_row.ensures in
    let line = rw part-is-row at c.mark_row-in-loop-p.ensures in
    rows_more _ _ c.loop-p.p c.loop-p.invariant
    (node_more _ _ _ (buffer.passed c.if-not-mark_row.false) ∙ line.passed c.if-not-mark_row-2.false)
