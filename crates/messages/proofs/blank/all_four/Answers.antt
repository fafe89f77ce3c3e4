use Rattle.std.proofs.Common.{◌≡◌, length, length-append, sym, ◌∙◌}
use Rattle.std.specs.List.{zip}
use Rattle.std.proofs.lemmas.Iterator.{YieldsList-from_slice, YieldsList-from_zip}
use Rattle.std.proofs.lemmas.Iterator.Consumers.{YieldsList-turn, YieldsList-end}
use Rattle.messages.proofs.Loops.{judging-turn}
use Rattle.messages.proofs.Zeros.{four-zero, four-at, length-fours, all-blank}
use Rattle.messages.proofs.blank.all_four.Goals as goal

pub loop-a-preserved : goal.loop-a-preserved
loop-a-preserved c =
    let cells = YieldsList-from_zip (YieldsList-from_slice c.args.front.now cc) (YieldsList-from_slice c.args.back.now cc) in
    let others = YieldsList-from_zip (YieldsList-from_slice c.args.other_front.now cc) (YieldsList-from_slice c.args.other_back.now cc) in
    let turn = YieldsList-turn (YieldsList-from_zip cells others) c.loop-a.yielded c.loop-a.a-iterator c.loop-a.yielded_by _ c.next.new.self _ c.in-Some.is c.next.ensures.steps in
    let here = four-at c.args.front.now c.args.back.now c.args.other_front.now c.args.other_back.now c.requires (length c.loop-a.yielded) turn.0 turn.1 in
    rw (length-append c.loop-a.yielded _, here.1.0, here.1.1, here.2.0, here.2.1)
    (judging-turn c.loop-a.invariant here.0 (four-zero _ _ _ _ _).0 (λ e now. (four-zero _ _ _ _ _).1 (e, now)))

pub returns : goal.returns
returns c =
    let cells = YieldsList-from_zip (YieldsList-from_slice c.args.front.now cc) (YieldsList-from_slice c.args.back.now cc) in
    let others = YieldsList-from_zip (YieldsList-from_slice c.args.other_front.now cc) (YieldsList-from_slice c.args.other_back.now cc) in
    let all : length c.loop-a.yielded ≡ length (zip (zip c.args.front.now c.args.back.now) (zip c.args.other_front.now c.args.other_back.now)) =
    (YieldsList-end (YieldsList-from_zip cells others) c.loop-a.yielded c.loop-a.a-iterator c.loop-a.yielded_by _ c.next.new.self
    c.in-None.is c.next.ensures.steps).1 in
    all-blank c.args.front.now c.args.back.now c.args.other_front.now c.args.other_back.now c.requires
    (sym (length-fours c.args.front.now c.args.back.now c.args.other_front.now c.args.other_back.now c.requires) ∙ sym all) c.loop-a.invariant
