-- What a line that was put leaves where there is room for any line.
use Prim.Native.Nat.{ℕ, ◌+◌, ◌≤◌}
use mathlib.Core.Path.{◌≡◌, ◌∙◌}
use mathlib.Core.List.{List}
use native.Mathlib.Omega.{arith}
use lib.ListN.{length}
use borrow.Author.Tests.{le-leb}
use Rattle.std.proofs.Common.{Option, unwrap_or}
use Rattle.wire.specs.Bytes.{overwritten}
use Rattle.report.specs.Line.{line_room}
use Rattle.report.specs.Put.{put_answer, put}
use Rattle.runner.specs.Run.{Placed}

pub placed : {line : List ℕ} {at : ℕ} {before after : List ℕ} {answer : Option ℕ} {end : ℕ} → at + line_room ≤ length before
    → answer ≡ put_answer before at line → after ≡ put before at line → length line ≤ line_room → end ≡ unwrap_or answer at
    → Placed line at before after end
unfolding put_answer put overwritten
placed {line} {at} {before} {end = end} room a b within e =
    let fits = le-leb (at + length line) (length before) (omega arith) in
    let ends : end ≡ at + length line = e ∙ rw (a, fits) in
    record { ends = ends; within = omega arith; buffer = b ∙ rw fits }
