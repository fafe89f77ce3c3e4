-- The numbers and values of the answers (Said.antt of specs/), test by test.
use mathlib.Core.Path.{◌≡◌, refl, sym, ap}
use mathlib.Core.Bool.{◌&&◌, ◌||◌}
use mathlib.Core.List.{List, [], ◌∷◌}
use Prim.Native.Nat.{ℕ}
use lib.IntN.{ℤ}
use lib.ListN.{get_or}
use borrow.Author.Tests.{eqb-true}
use Rattle.std.specs.Prelude.{Ok}
use Rattle.batch.specs.Good.{is_zero, batch_good, temp_good, name_length_good, name_good, widths_good, verdict_of}
use Rattle.numbers.proofs.Splits.{by-test}
use Rattle.history.specs.Table.{empty_row, readings_of, batches_in, sound_table, has_row, row_of, has_empty}
use Rattle.history.specs.History.{note, close, figures, figures_of, batch_or_none, batch_in}
use Rattle.history.specs.Said.{NoteSaid, CloseSaid, told_in, told_of, FiguresSaid, batch_told_in, tells_batch, BatchSaid}

pub note-said : NoteSaid
unfolding note verdict_of
note-said x t =
    by-test (sound_table t) (λ sound.
    by-test (batch_good x) (λ number.
    by-test (temp_good x) (λ degrees.
    by-test (name_length_good x) (λ short.
    by-test (name_good x && widths_good x) (λ named.
    by-test (has_row x.batch.0 t || has_empty t)
    (λ room. rw (sound, number, degrees, short, named, room))
    (λ full. rw (sound, number, degrees, short, named, full)))
    (λ bad. rw (sound, number, degrees, short, bad)))
    (λ long. rw (sound, number, degrees, long)))
    (λ out. rw (sound, number, out)))
    (λ zero. rw (sound, zero)))
    (λ unsound. rw unsound)

pub close-said : CloseSaid
unfolding close
close-said b t = by-test (sound_table t) (λ e. rw e) (λ e. rw e)

of-readings : (xs : List ℤ) → told_in (Ok (figures_of xs)) ≡ told_of xs
of-readings [] = refl
of-readings (x ∷ xs) = refl

pub figures-said : FiguresSaid
unfolding figures
figures-said b t =
    by-test (sound_table t)
    (λ e. rw e (by-test (has_row b t) (λ has. rw has (of-readings (readings_of (get_or t (row_of b t) empty_row)))) (λ none. rw none)))
    (λ e. rw e)

of-batch : (b : ℕ) → batch_told_in (Ok (batch_or_none b)) ≡ tells_batch 0 b
of-batch b = by-test (is_zero b) (λ z. rw z (ap (tells_batch 0) (sym (eqb-true b 0 z)))) (λ nz. rw nz)

pub batch-said : BatchSaid
unfolding batch_in
batch-said i t = by-test (sound_table t) (λ e. rw e (of-batch (get_or (batches_in t) i 0))) (λ e. rw e)
