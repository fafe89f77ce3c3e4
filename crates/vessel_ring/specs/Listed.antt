-- The listing of a tape in a lent buffer.
use Rattle.std.specs.Prelude.{ℕ, ◌+◌, ◌≤◌, ◌≡◌, List, [], ◌++◌, length, take, drop}
use Rattle.report.specs.Line.{line_room}
use Rattle.runner.specs.Listing.{listing_of}

-- The first `written` bytes of the buffer begin the listing, `left` is what had no room, and the rest of the buffer is as it was. Nothing
-- is left where the buffer has room for a line more than was written; so all of the listing is there where the buffer has room for it and
-- a line more.
pub record Listed (tape before after : List ℕ) (written : ℕ) : Type 0 where
  pub within : written ≤ length before
  pub left : List ℕ
  pub text : take written after ++ left ≡ listing_of tape
  pub rest : drop written after ≡ drop written before
  pub full : written + line_room ≤ length before → left ≡ []
  pub whole : length (listing_of tape) + line_room ≤ length before → take written after ≡ listing_of tape
