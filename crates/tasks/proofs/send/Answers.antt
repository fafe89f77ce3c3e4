-- `tasks::send` meets its contract: each return carries what the tests showed to the law of its case.
use Rattle.std.proofs.Common.{refl}
use Rattle.network.specs.Runs
use Rattle.updates.proofs.Openings.{passed-on, turns-away, channel-passed, refuses, accepts}
use Rattle.updates.proofs.Reading.{channel-within}
use Rattle.tasks.proofs.Offers.{bad-fields, good-fields, send-bad, send-again, send-offered, send-room, send-responds}
use Rattle.tasks.proofs.send.Goals as goal

pub returns-in_err-open : goal.returns-in_err-open
returns-in_err-open c =
    turns-away (Runs.send _ _) _ c.in_err-open.ensures (passed-on c.from_residual.ensures.1)

pub returns-in_err-record : goal.returns-in_err-record
returns-in_err-record c =
    let h = channel-passed _ c.in_ok-open.ensures in
    refuses _ (send-bad h _ _ (bad-fields _ _ c.in_err-record.ensures)) (passed-on c.from_residual-in_err-record.ensures.1)

pub bounds-ring-k : goal.bounds-ring-k
bounds-ring-k c = channel-within (channel-passed _ c.in_ok-open.ensures)

pub returns-then-ring-k-ne0 : goal.returns-then-ring-k-ne0
returns-then-ring-k-ne0 c =
    let h = channel-passed _ c.in_ok-open.ensures in
    let good = good-fields _ _ c.in_ok-record.ensures in
    refuses _ (send-again h _ good.0 c.if-ring-k-ne0.true) refl

pub bounds-ring-k-2 : goal.bounds-ring-k-2
bounds-ring-k-2 c = channel-within (channel-passed _ c.in_ok-open.ensures)

-- the channel waits for the record, which goes out as the response
pub respond-requires : goal.respond-requires
respond-requires c =
    let h = channel-passed _ c.in_ok-open.ensures in
    let good = good-fields _ _ c.in_ok-record.ensures in
    send-room h _ good.0 c.if-ring-k-ne0.false c.if-ring-k-eq-READY.true

pub returns-then-ring-k-eq-READY : goal.returns-then-ring-k-eq-READY
returns-then-ring-k-eq-READY c =
    let h = channel-passed _ c.in_ok-open.ensures in
    let good = good-fields _ _ c.in_ok-record.ensures in
    rw (c.respond.ensures, good.1) (accepts _ (send-responds h _ good.0 c.if-ring-k-ne0.false c.if-ring-k-eq-READY.true))

-- it does not, and the record is offered
pub set_record-requires : goal.set_record-requires
set_record-requires c = channel-within (channel-passed _ c.in_ok-open.ensures)

pub bounds-ring-k-3 : goal.bounds-ring-k-3
bounds-ring-k-3 c = channel-within (channel-passed _ c.in_ok-open.ensures)

pub returns : goal.returns
returns c =
    let h = channel-passed _ c.in_ok-open.ensures in
    let good = good-fields _ _ c.in_ok-record.ensures in
    rw (c.set_record.ensures, good.1) (accepts _ (send-offered h _ good.0 c.if-ring-k-ne0.false c.if-ring-k-eq-READY.false))
