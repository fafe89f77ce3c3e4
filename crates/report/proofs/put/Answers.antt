use Rattle.std.proofs.Common.{◌+◌, Some, ◌∙◌, length, ap, arith}
use Rattle.report.proofs.Room.{no_room, room_for, copied}
use Rattle.report.proofs.put.Goals as goal

pub returns-in_err-room : goal.returns-in_err-room
returns-in_err-room c =
    let size = ap length c.as_bytes-text.ensures.value in
    let none = no_room c.args.bytes.now c.args.place c.args.line.now (omega (arith, c.in_err-room.ensures)) in
    record {
      value = c.from_residual.ensures ∙ none.0;
      bytes_after = none.1;
      within = omega (arith, size, c.as_bytes-text.ensures.within);
    }

pub returns-then-room-text : goal.returns-then-room-text
returns-then-room-text c =
    let size = ap length c.as_bytes-text.ensures.value in
    let none = no_room c.args.bytes.now c.args.place c.args.line.now (omega (arith, size, c.in_ok-room.ensures)) in
    record { value = none.0; bytes_after = none.1; within = omega (arith, size, c.as_bytes-text.ensures.within) }

pub returns : goal.returns
returns c =
    let size = ap length c.as_bytes-text.ensures.value in
    let there = room_for c.args.bytes.now c.args.place c.args.line.now (omega (arith, size, c.in_ok-room.ensures)) in
    let text = c.copy_from_slice.ensures.after ∙ c.as_bytes-text.ensures.value in
    record {
      value = ap (λ n. Some (c.args.place + n)) size ∙ there.0;
      bytes_after = copied _ _ _ _ text (omega (arith, size)) ∙ there.1;
      within = omega (arith, size, c.as_bytes-text.ensures.within);
    }
