-- What `put` is where the line fits and where it does not.
use Prim.Native.Nat.{ℕ, ◌+◌, ◌≤◌, ◌<◌}
use mathlib.Core.Path.{◌≡◌, refl, sym}
use mathlib.Core.List.{List, append_assoc}
use lib.ListN.{length, take, drop}
use lib.Seq.{drop-drop}
use borrow.Author.Tests.{le-leb, lt-leb}
use borrow.Rule.Slice.PartMut.{put_mid}
use Rattle.std.specs.Prelude.{Some, None}
use Rattle.text.specs.Fields.{laid}
use Rattle.report.specs.Put.{put_answer, put}

module _ (buffer : List ℕ) (place : ℕ) (line : List ℕ) where
  pub no_room : length buffer < place + length line → (None ≡ put_answer buffer place line) × (buffer ≡ put buffer place line)
  unfolding put_answer put
  no_room h = rw (lt-leb _ _ h) (refl, refl)

  pub room_for : place + length line ≤ length buffer
      → (Some (place + length line) ≡ put_answer buffer place line) × (laid buffer place line ≡ put buffer place line)
  unfolding put_answer put
  room_for h = rw (le-leb _ _ h) (refl, refl)

-- a copy into the part of the buffer from a place on lays the line there
pub copied : (buffer : List ℕ) (place size : ℕ) (line : List ℕ) {part : List ℕ} → part ≡ line → size ≡ length line
    → put_mid place size buffer part ≡ laid buffer place line
copied buffer place size line e h =
    rw (e, h, drop-drop (length line) place buffer)
    (sym (append_assoc (take place buffer) line (drop (place + length line) buffer)))
