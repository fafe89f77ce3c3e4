-- What one pass over a table finds: whether it is sound, the row of the batch that is looked for, and the batch numbers. So what a call makes
-- of the pass is what its definition makes of the table.
use mathlib.Core.Path.{◌≡◌, refl, sym, ap, ◌∙◌}
use mathlib.Core.Logic.{◌≢◌}
use mathlib.Core.Bool.{Bool, true, false, cond, not, ◌&&◌, ◌||◌, false≢true, and-eq-true_iff, and_assoc}
use mathlib.Core.List.{List, [], ◌∷◌, ◌++◌, append-nil}
use Prim.Native.Nat.{ℕ, suc, ◌+◌, ◌<◌}
use native.Mathlib.Nat.{zero-add}
use native.Mathlib.Omega.{arith}
use lib.Dec.{eqb}
use lib.IntN.{ℤ}
use lib.ListN.{length, get_or, take, drop, set, replicate, length-map, length-replicate}
use lib.Seq.{sets, sets-eq, drop-length}
use Rattle.std.specs.Prelude.{min, Option, Some, None, Result, Ok, Err}
use borrow.Author.Tests.{eq-eqb, ne_eqb, ltb-true, eqb-true, eqb-false}
use Rattle.refusal.specs.declared.Refusal.{Refusal}
use Rattle.refusal.specs.declared.Refusal.TheVariants.{NoEmptyRow}
use Rattle.refusal.specs.Number.{Verdict}
use Rattle.batch.specs.declared.BatchNo.{BatchNo}
use Rattle.batch.specs.declared.BatchRecord.{BatchRecord}
use Rattle.batch.specs.Good.{every, is_zero, unless, verdict_of}
use Rattle.batch.proofs.Good.{good-exactly, good-number}
use Rattle.numbers.proofs.Splits.{by-test}
use Rattle.lent.specs.Slices.{fold_rows}
use Rattle.history.specs.declared.Row.{Row}
use Rattle.history.specs.declared.Search.{Search}
use Rattle.history.specs.Table.{row_limit, row_with, empty_row, sound_row, count_good, batches_in, place_of, holds, none_twice, sound_table, has_row, has_empty, readings_of, readings_in}
use Rattle.history.specs.History.{Outcome, note, close, figures, refused, done, judged, joined, with_reading, figures_of, batch_in}
use Rattle.history.specs.Search.{begin_at, seen_at, pass, sound_search, home_in, goes_to, to_note, to_close, to_tell, to_list}
use Rattle.history.proofs.Places.{place-is}
use Rattle.history.proofs.Rewritten.{holds-cons, absent-first, absent-rest, once-absent, first-once, rest-once}

-- the pass from row i on
abbrev pub passed : ℕ → Search → List Row → Search
passed i s t = fold_rows seen_at i s t

fine-passed : (t : List Row) (i : ℕ) (s : Search) → (passed i s t).fine ≡ s.fine && every sound_row t
fine-passed [] i s = by-test s.fine (λ e. rw e) (λ e. rw e)
fine-passed (r ∷ t) i s = fine-passed t (suc i) (seen_at s r i) ∙ and_assoc s.fine (sound_row r) (every sound_row t)

batches-passed : (t : List Row) (i : ℕ) (s : Search) → (passed i s t).batches ≡ sets s.batches i (batches_in t)
batches-passed [] i s = refl
batches-passed (r ∷ t) i s = batches-passed t (suc i) (seen_at s r i)

-- one more than the limit stands for any number over it
abbrev up_to : ℕ → ℕ
up_to n = min n (suc row_limit)

rows-passed : (t : List Row) (i : ℕ) (s : Search) → s.rows ≡ up_to i → (passed i s t).rows ≡ up_to (i + length t)
rows-passed [] i s e = omega (arith, e)
rows-passed (r ∷ t) i s e = omega (arith, rows-passed t (suc i) (seen_at s r i) (omega arith))

up_to-limit : (n : ℕ) → eqb (up_to n) row_limit ≡ eqb n row_limit
up_to-limit n =
    by-test (eqb n row_limit)
    (λ e. rw e (eq-eqb (up_to n) row_limit (omega (arith, eqb-true n row_limit e))))
    (λ e. rw e (ne_eqb (up_to n) row_limit (λ is. eqb-false n row_limit e (omega (arith, is)))))

-- the last row of a batch, or d
abbrev last_for : ℕ → List Row → Row → Row
last_for b [] d = d
last_for b (r ∷ t) d = last_for b t (cond (eqb r.batch.0 b) r d)

found_passed : (t : List Row) (i : ℕ) (s : Search) → (passed i s t).found ≡ last_for s.wanted.0 t s.found
found_passed [] i s = refl
found_passed (r ∷ t) i s = found_passed t (suc i) (seen_at s r i)

-- a batch that no row has was not found; else its one row was
last_for-absent : (t : List Row) (b : ℕ) (d : Row) → holds b (batches_in t) ≡ false → last_for b t d ≡ d
last_for-absent [] b d none = refl
last_for-absent (r ∷ t) b d none =
    rw (absent-first b r.batch.0 (batches_in t) none) (last_for-absent t b d (absent-rest b r.batch.0 (batches_in t) none))

lastFor-held :
    (t : List Row) (b : ℕ) (d : Row) → b ≢ 0 → none_twice (batches_in t) ≡ true → holds b (batches_in t) ≡ true →
    last_for b t d ≡ get_or t (place_of b (batches_in t)) empty_row
lastFor-held [] b d ne once held = absurd (false≢true held)
lastFor-held (r ∷ t) b d ne once held =
    let x : ℕ = r.batch.0 in
    let xs : List ℕ = batches_in t in
    by-test (eqb x b)
    (λ e.
    let x-is = eqb-true x b e in
    rw e (last_for-absent t b r (ap (λ y. holds y xs) (sym x-is) ∙ once-absent x xs (λ z. ne (sym x-is ∙ z)) (first-once x xs once))))
    (λ e. rw e (lastFor-held t b d ne (rest-once x xs once) (sym (holds-cons b x xs ∙ ap (λ h. h || holds b xs) e) ∙ held)))

-- an empty row has no reading
last_for-empty : (t : List Row) (d : Row) → every sound_row t ≡ true → d.count ≡ 0 → (last_for 0 t d).count ≡ 0
unfolding sound_row
last_for-empty [] d sound none = none
last_for-empty (r ∷ t) d sound none =
    let both = (and-eq-true_iff (sound_row r) (every sound_row t)).0 sound in
    let counted = ((and-eq-true_iff (count_good r.batch.0 r.count) _).0 both.0).0 in
    by-test (eqb r.batch.0 0)
    (λ e. ap (λ is. (last_for 0 t (cond is r d)).count) e ∙ last_for-empty t r both.1 (eqb-true r.count 0 (rw e at counted)))
    (λ e. ap (λ is. (last_for 0 t (cond is r d)).count) e ∙ last_for-empty t d both.1 none)

-- ---- the clauses of a sound table
pub record Sound (t : List Row) : Type 0 where
  pub all_there : length t ≡ row_limit
  pub rows-good : every sound_row t ≡ true
  pub one-each : none_twice (batches_in t) ≡ true

pub clauses : (t : List Row) → sound_table t ≡ true → Sound t
unfolding sound_table
clauses t sound =
    let c = (and-eq-true_iff _ (none_twice (batches_in t))).0 sound in
    let d = (and-eq-true_iff (eqb (length t) row_limit) (every sound_row t)).0 c.0 in
    record { all_there = eqb-true (length t) row_limit d.0; rows-good = d.1; one-each = c.1 }

pub together : (t : List Row) → Sound t → sound_table t ≡ true
unfolding sound_table
together t is = rw (eq-eqb (length t) row_limit is.all_there, is.rows-good, is.one-each)

a-number-each : (t : List Row) → Sound t → length (batches_in t) ≡ row_limit
a-number-each t is = length-map t _ ∙ is.all_there

-- ---- the whole table
module _ (b : BatchNo) (t : List Row) where
  pub all-batches : length t ≡ row_limit → (pass b t).batches ≡ batches_in t
  all-batches len =
      let bs : List ℕ = batches_in t in
      let n : length bs ≡ row_limit = length-map t _ ∙ len in
      batches-passed t 0 (begin_at b)
      ∙ sets-eq bs (replicate row_limit 0) 0 (omega (arith, n, length-replicate {A = ℕ} row_limit 0))
      ∙ ap (λ k. bs ++ drop k (replicate row_limit 0)) (zero-add (length bs) ∙ n)
      ∙ ap (λ xs. bs ++ xs) (drop-length (replicate row_limit 0))
      ∙ append-nil bs

  pub sound-pass : sound_search (pass b t) ≡ sound_table t
  unfolding sound_table
  sound-pass =
      let rows : eqb (pass b t).rows row_limit ≡ eqb (length t) row_limit =
      ap (λ n. eqb n row_limit) (rows-passed t 0 (begin_at b) refl ∙ ap up_to (zero-add (length t))) ∙ up_to-limit (length t) in
      by-test (eqb (length t) row_limit)
      (λ e. rw (rows, e, fine-passed t 0 (begin_at b), all-batches (eqb-true (length t) row_limit e)))
      (λ e. rw (rows, e))

  -- the row that was found has the readings of the batch
  pub readings-passed : sound_table t ≡ true → readings_of (pass b t).found ≡ readings_in b.0 t
  readings-passed sound =
      let is = clauses t sound in
      let bs : List ℕ = batches_in t in
      let known : Bool → List ℤ = λ k. cond k (readings_of (get_or t (place_of b.0 bs) empty_row)) [] in
      ap readings_of (found_passed t 0 (begin_at b))
      ∙ by-test (is_zero b.0)
      (λ z.
      let none = eqb-true b.0 0 z in
      ap (λ k. readings_of (last_for k t empty_row)) none
      ∙ ap (λ n. take n (last_for 0 t empty_row).readings) (last_for-empty t empty_row is.rows-good refl)
      ∙ sym (ap known (ap (λ k. not k && holds b.0 bs) z)))
      (λ nz.
      by-test (holds b.0 bs)
      (λ held.
      ap readings_of (lastFor-held t b.0 empty_row (eqb-false b.0 0 nz) is.one-each held)
      ∙ sym (ap known (ap (λ k. not k && holds b.0 bs) nz ∙ held)))
      (λ absent.
      ap readings_of (last_for-absent t b.0 empty_row absent)
      ∙ sym (ap known (ap (λ k. not k && holds b.0 bs) nz ∙ absent))))

-- ---- the calls
-- what is decided, done to the table, is the table after a call and its answer
abbrev pub Does : List Row → Result (ℕ × Row) Refusal → Outcome → Type 0
Does t (Ok (at, r)) n = (at < length t) × (set t at r ≡ n.table) × (Ok tt ≡ n.verdict)
Does t (Err r) n = (t ≡ n.table) × (Err r ≡ n.verdict)

-- and so is the row that a close empties, if there is one
abbrev pub Empties : List Row → Result (Option ℕ) Refusal → Outcome → Type 0
Empties t (Ok (Some at)) n = (at < length t) × (set t at empty_row ≡ n.table) × (Ok tt ≡ n.verdict)
Empties t (Ok None) n = (t ≡ n.table) × (Ok tt ≡ n.verdict)
Empties t (Err r) n = (t ≡ n.table) × (Err r ≡ n.verdict)

module _ (t : List Row) where
  module _ (x : BatchRecord) where
    abbrev b : ℕ
    b = x.batch.0

    abbrev s : Search
    s = pass x.batch t

    abbrev goes : Result (ℕ × Row) Refusal
    goes = goes_to (home_in b s.batches) (row_with b (joined (readings_of s.found) x.temperature))

    abbrev next : Outcome
    next = unless (has_row b t || has_empty t) (refused NoEmptyRow t) (done (with_reading b x.temperature t))

    good-noted : sound_table t ≡ true → b ≢ 0 → Does t goes next
    good-noted sound nz =
        let is = clauses t sound in
        let bs : List ℕ = batches_in t in
        let long = a-number-each t is in
        rw (all-batches x.batch t is.all_there, readings-passed x.batch t sound, ne_eqb b 0 nz, place-is b bs, place-is 0 bs)
        (by-test (holds b bs)
        (λ h. rw h (omega (arith, ltb-true (place_of b bs) (length bs) h, long, is.all_there), refl, refl))
        (λ h.
        by-test (holds 0 bs)
        (λ e. rw (h, e) (omega (arith, ltb-true (place_of 0 bs) (length bs) e, long, is.all_there), refl, refl))
        (λ e. rw (h, e) (refl, refl))))

    by-verdict : sound_table t ≡ true → (v : Verdict) → verdict_of x ≡ v → Does t (judged v Err goes) (judged v (λ r. refused r t) next)
    by-verdict sound (Ok u) e = good-noted sound (good-number x ((good-exactly x).1 e))
    by-verdict sound (Err r) e = (refl, refl)

    pub note-passed : Does t (to_note s x) (note x t)
    unfolding note
    note-passed =
        rw (sound-pass x.batch t)
        (by-test (sound_table t) (λ sound. rw sound (by-verdict sound (verdict_of x) refl)) (λ bad. rw bad (refl, refl)))

  -- of a pass s and what is decided from it
  pub noted : (x : BatchRecord) {s : Search} {d : Result (ℕ × Row) Refusal} → s ≡ pass x.batch t → d ≡ to_note s x → Does t d (note x t)
  noted x is decided = rw (decided, is) (note-passed x)

  pub close_passed : (b : BatchNo) → Empties t (to_close (pass b t) b) (close b.0 t)
  unfolding close
  close_passed b =
      rw (sound-pass b t)
      (by-test (sound_table t)
      (λ sound.
      let is = clauses t sound in
      let bs : List ℕ = batches_in t in
      let long = a-number-each t is in
      rw (sound, all-batches b t is.all_there, place-is b.0 bs)
      (by-test (is_zero b.0)
      (λ z. rw z (refl, refl))
      (λ nz.
      by-test (holds b.0 bs)
      (λ h. rw (nz, h) (omega (arith, ltb-true (place_of b.0 bs) (length bs) h, long, is.all_there), refl, refl))
      (λ h. rw (nz, h) (refl, refl)))))
      (λ bad. rw bad (refl, refl)))

  pub closed : (b : BatchNo) {s : Search} {d : Result (Option ℕ) Refusal} → s ≡ pass b t → d ≡ to_close s b → Empties t d (close b.0 t)
  closed b is decided = rw (decided, is) (close_passed b)

pub tell-passed : (b : BatchNo) (t : List Row) → to_tell (pass b t) ≡ figures b.0 t
unfolding figures
tell-passed b t =
    rw (sound-pass b t)
    (by-test (sound_table t) (λ e. rw e (ap (λ xs. Ok (figures_of xs)) (readings-passed b t e))) (λ e. rw e))

pub list-passed : (i : ℕ) (t : List Row) → to_list (pass (record { 0 = 0 }) t) i ≡ batch_in i t
unfolding batch_in
list-passed i t =
    let none : BatchNo = record { 0 = 0 } in
    rw (sound-pass none t)
    (by-test (sound_table t) (λ e. rw (e, all-batches none t (clauses t e).all_there)) (λ e. rw e))
