-- Its tests are the parts of the statement.
use Rattle.std.proofs.Common.{◌≡◌, rules, Some}
use Rattle.messages.specs.Messages.{mark_all}
use Rattle.messages.proofs.Decides.{says-no, restated}
use Rattle.messages.proofs.RowPass.{no_table, same-table}
use Rattle.messages.proofs.messages_fit.Goals as goal

pub returns-then-not-mark : goal.returns-then-not-mark
unfolding mark_all
returns-then-not-mark c = says-no (λ f. no_table (c.mark.ensures.stopped c.if-not-mark.true) f.marked)

pub returns : goal.returns
unfolding mark_all
returns c =
    let all : mark_all c.args.ring.now ≡ Some c.mark.new.met = c.mark.ensures.passed c.if-not-mark.false in
    let beyond = c.from.ensures.holds c.if-not-from.false in
    restated
    (λ right. record {
      slots-whole = search rules;
      lines-whole = search rules;
      slots-beyond = beyond.0;
      lines-beyond = beyond.1;
      met = c.mark.new.met;
      marked = all;
      right = right;
    })
    (λ f. rw (same-table f.marked all) at f.right) c.all_met.ensures
