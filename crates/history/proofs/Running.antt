-- The promises over a run (Runs.antt): a call on a sound table leaves it sound, changes the readings of its own batch alone, and those as it
-- says; so after every list of calls the readings are the last of those accepted.
use mathlib.Core.Path.{◌≡◌, refl, sym, ap, ◌∙◌, subst}
use mathlib.Core.Logic.{◌≢◌}
use mathlib.Core.Bool.{Bool, true, false, cond, not, ◌&&◌, ◌||◌, false≢true, and-eq-true_iff}
use mathlib.Core.List.{List, [], ◌∷◌, ◌++◌}
use Prim.Native.Nat.{ℕ, zero, suc, ◌+◌, ◌-◌, ◌<◌, ◌≤◌}
use native.Mathlib.Omega.{arith}
use lib.Dec.{eqb, ltb, leb}
use lib.IntN.{ℤ, pos}
use lib.ListN.{length, get_or, take, drop, set, replicate, length-set, length-map, length-append, length-take, length-drop}
use lib.Seq.{get_or-set_same, get_or-set_other, set-get_or, take-append_seam, drop-append_seam, drop-append-le, drop-drop}
use borrow.Author.Tests.{eq-eqb, ne_eqb, le-leb, lt-ltb, leb-true, leb-false, ltb-true, ltb-false, eqb-true, eqb-false}
use Rattle.refusal.specs.declared.Refusal.{Refusal}
use Rattle.refusal.specs.declared.Refusal.TheVariants.{UnsoundRing, NoEmptyRow}
use Rattle.std.specs.Prelude.{Ok, Err}
use Rattle.refusal.specs.Number.{Verdict}
use Rattle.batch.specs.declared.BatchRecord.{BatchRecord}
use Rattle.batch.specs.Good.{every, is_zero, in_range, unless, verdict_of}
use Rattle.batch.proofs.Good.{good-exactly, good-number, good-clauses, temp-tested}
use Rattle.numbers.proofs.Splits.{by-test}
use Rattle.history.specs.declared.Row.{Row}
use Rattle.history.specs.Table.{row_limit, reading_limit, row_with, empty_row, empty_table, is_nought, count_good, sound_row, batches_in, place_of, holds, none_twice, sound_table, has_row, row_of, has_empty, readings_of, readings_in}
use Rattle.history.specs.History.{Outcome, note, close, figures, refused, done, judged, last_of, joined, home, figures_of}
use Rattle.history.specs.Runs.{Call, noting, closing, made, table_after, accepts, accepted, last_readings, batch_of, row_for, StaysSound, LastReadings, FiguresAfresh, FromSound, FromEmpty, OneRow, ItsRow, OthersUntouched}
use Rattle.history.proofs.Rewritten.{place_at, place_set, place_other, twice-set, gone}
use Rattle.history.proofs.Passing.{Sound, clauses, together}

-- ---- the last n of a list
module _ {A : Type 0} where
  pub last-few : (n : ℕ) (xs : List A) → length xs ≤ n → last_of n xs ≡ xs
  last-few n xs few = let none : length xs - n ≡ 0 = omega arith in rw none

  pub length_last : (n : ℕ) (xs : List A) → length (last_of n xs) ≤ n
  length_last n xs = omega (arith, length-drop (length xs - n) xs)

  -- the last n, joined by one: what went before the last n does not matter
  pub last-joined : (n : ℕ) (xs : List A) (x : A) → 1 ≤ n → last_of n (last_of n xs ++ x ∷ []) ≡ last_of n (xs ++ x ∷ [])
  last-joined n xs x some =
      by-test (leb (length xs) n)
      (λ e. ap (λ ys. last_of n (ys ++ x ∷ [])) (last-few n xs (leb-true (length xs) n e)))
      (λ e.
      let k : ℕ = length xs - n in
      let more : n < length xs = leb-false (length xs) n e in
      let kept : length (drop k xs ++ x ∷ []) - n ≡ 1 = omega (arith, length-append (drop k xs) (x ∷ []), length-drop k xs) in
      let all : length (xs ++ x ∷ []) - n ≡ k + 1 = omega (arith, length-append xs (x ∷ [])) in
      ap (λ j. drop j (drop k xs ++ x ∷ [])) kept
      ∙ ap (drop 1) (sym (drop-append-le k xs (x ∷ []) (omega arith)))
      ∙ drop-drop 1 k (xs ++ x ∷ [])
      ∙ sym (ap (λ j. drop j (xs ++ x ∷ [])) all))

-- ---- a test on every element
module _ {A : Type 0} (f : A → Bool) where
  every_drop : (n : ℕ) (xs : List A) → every f xs ≡ true → every f (drop n xs) ≡ true
  every_drop zero xs e = e
  every_drop (suc n) [] e = e
  every_drop (suc n) (x ∷ xs) e = every_drop n xs ((and-eq-true_iff (f x) (every f xs)).0 e).1

  every-snoc : (xs : List A) (x : A) → every f xs ≡ true → f x ≡ true → every f (xs ++ x ∷ []) ≡ true
  every-snoc [] x e h = rw h
  every-snoc (y ∷ xs) x e h =
      let both = (and-eq-true_iff (f y) (every f xs)).0 e in
      rw (both.0, every-snoc xs x both.1 h)

  every-at : (xs : List A) (i : ℕ) (d : A) → i < length xs → every f xs ≡ true → f (get_or xs i d) ≡ true
  every-at [] i d inside e = absurd (omega arith)
  every-at (x ∷ xs) zero d inside e = ((and-eq-true_iff (f x) (every f xs)).0 e).0
  every-at (x ∷ xs) (suc i) d inside e = every-at xs i d (omega arith) ((and-eq-true_iff (f x) (every f xs)).0 e).1

  every_set : (xs : List A) (i : ℕ) (x : A) → f x ≡ true → every f xs ≡ true → every f (set xs i x) ≡ true
  every_set [] i x h e = e
  every_set (y ∷ xs) zero x h e = rw (h, ((and-eq-true_iff (f y) (every f xs)).0 e).1)
  every_set (y ∷ xs) (suc i) x h e =
      let both = (and-eq-true_iff (f y) (every f xs)).0 e in
      rw (both.0, every_set xs i x h both.1)

-- ---- a row of given readings
readings-with : (b : ℕ) (xs : List ℤ) → readings_of (row_with b xs) ≡ xs
readings-with b xs = take-append_seam xs (replicate (reading_limit - length xs) (pos 0))

zeros-nought : (n : ℕ) → every is_nought (replicate n (pos 0)) ≡ true
zeros-nought zero = refl
zeros-nought (suc n) = zeros-nought n

sound-with : (b : ℕ) (xs : List ℤ) → count_good b (length xs) ≡ true → every in_range xs ≡ true → sound_row (row_with b xs) ≡ true
unfolding sound_row
sound-with b xs counted mild =
    let zs : List ℤ = replicate (reading_limit - length xs) (pos 0) in
    rw (counted, take-append_seam xs zs, drop-append_seam xs zs, mild, zeros-nought (reading_limit - length xs))

in_use : (b n : ℕ) → is_zero b ≡ false → 1 ≤ n → n ≤ reading_limit → count_good b n ≡ true
in_use b n nz some few = rw (nz, le-leb 1 n some, le-leb n reading_limit few)

-- the readings of a sound row are in range
mild-readings : (r : Row) → sound_row r ≡ true → every in_range (readings_of r) ≡ true
unfolding sound_row
mild-readings r sound =
    ((and-eq-true_iff (every in_range (take r.count r.readings)) _).0
    ((and-eq-true_iff (count_good r.batch.0 r.count) _).0 sound).1).0

-- ---- a table with one row rewritten
batches-set : (t : List Row) (i : ℕ) (r : Row) → batches_in (set t i r) ≡ set (batches_in t) i r.batch.0
batches-set [] i r = refl
batches-set (x ∷ t) zero r = refl
batches-set (x ∷ t) (suc i) r = ap (λ bs. x.batch.0 ∷ bs) (batches-set t i r)

batch-at : (t : List Row) (i : ℕ) → get_or (batches_in t) i 0 ≡ (get_or t i empty_row).batch.0
batch-at [] i = refl
batch-at (x ∷ t) zero = refl
batch-at (x ∷ t) (suc i) = batch-at t i

no_row : (nonzero held : Bool) (xs ys : List ℤ) → held ≡ false → cond (nonzero && held) xs [] ≡ cond (nonzero && held) ys []
no_row true held xs ys e = rw e
no_row false held xs ys e = refl

module _ (t : List Row) (i : ℕ) (r : Row) where
  abbrev bs : List ℕ
  bs = batches_in t

  abbrev next : List Row
  next = set t i r

  -- a batch that is neither the old one of the row nor the new one keeps its readings
  untouched : (b : ℕ) → get_or bs i 0 ≢ b → r.batch.0 ≢ b → readings_in b next ≡ readings_in b t
  untouched b was is =
      let same : batches_in next ≡ set bs i r.batch.0 = batches-set t i r in
      let place : place_of b (batches_in next) ≡ place_of b bs = ap (place_of b) same ∙ place_other b bs i r.batch.0 was is in
      let long : length (batches_in next) ≡ length bs = ap length same ∙ length-set bs i r.batch.0 in
      let held : holds b (batches_in next) ≡ holds b bs = ap (λ p. ltb p (length (batches_in next))) place ∙ ap (λ n. ltb (place_of b bs) n) long in
      ap (λ h. cond (not (is_zero b) && h) (readings_of (get_or next (place_of b (batches_in next)) empty_row)) []) held
      ∙ by-test (holds b bs)
      (λ h.
      let other : place_of b bs ≢ i = λ e. was (ap (λ j. get_or bs j 0) (sym e) ∙ place_at b bs h) in
      ap (λ p. cond (not (is_zero b) && holds b bs) (readings_of (get_or next p empty_row)) []) place
      ∙ ap (λ q. cond (not (is_zero b) && holds b bs) (readings_of q) []) (get_or-set_other t i (place_of b bs) r empty_row other))
      (λ h. no_row (not (is_zero b)) (holds b bs) (readings_of (get_or next (place_of b (batches_in next)) empty_row)) (readings_of (get_or t (place_of b bs) empty_row)) h)

  sound-set : Sound t → sound_row r ≡ true → none_twice (set bs i r.batch.0) ≡ true → Sound next
  sound-set is good once = record {
    all_there = length-set t i r ∙ is.all_there;
    rows-good = every_set sound_row t i r good is.rows-good;
    one-each = ap none_twice (batches-set t i r) ∙ once;
  }

-- ---- where a batch's next reading goes
record Home (b : ℕ) (t : List Row) (h : ℕ) : Type 0 where
  inside : h < length (batches_in t)
  first : h ≤ place_of b (batches_in t)
  was : (c : ℕ) → b ≢ c → c ≢ 0 → get_or (batches_in t) h 0 ≢ c
  once : none_twice (set (batches_in t) h b) ≡ true

homed : (b : ℕ) (t : List Row) → b ≢ 0 → Sound t → (has_row b t || has_empty t) ≡ true → Home b t (home b t)
homed b t nz is room =
    let bs : List ℕ = batches_in t in
    let has : has_row b t ≡ holds b bs = ap (λ z. not z && holds b bs) (ne_eqb b 0 nz) in
    by-test (holds b bs)
    (λ held.
    let at = place_at b bs held in
    subst (Home b t) (sym (ap (λ k. cond k (place_of b bs) (place_of 0 bs)) (has ∙ held)))
    (record {
      inside = ltb-true (place_of b bs) (length bs) held;
      first = omega arith;
      was = λ c other nonzero e. other (sym at ∙ e);
      once = ap (λ v. none_twice (set bs (place_of b bs) v)) (sym at) ∙ ap none_twice (set-get_or bs (place_of b bs) 0) ∙ is.one-each;
    }))
    (λ absent.
    let empty : holds 0 bs ≡ true = sym (ap (λ k. k || holds 0 bs) (has ∙ absent)) ∙ room in
    let at = place_at 0 bs empty in
    subst (Home b t) (sym (ap (λ k. cond k (place_of b bs) (place_of 0 bs)) (has ∙ absent)))
    (record {
      inside = ltb-true (place_of 0 bs) (length bs) empty;
      first = omega (arith, ltb-true (place_of 0 bs) (length bs) empty, ltb-false (place_of b bs) (length bs) absent);
      was = λ c other nonzero e. nonzero (sym e ∙ at);
      once = twice-set bs (place_of 0 bs) b (λ _. absent) is.one-each;
    }))

-- the row of a batch is in the table
in_table : (b : ℕ) (t : List Row) → has_row b t ≡ true → row_of b t < length t
in_table b t has =
    subst (λ n. row_of b t < n) (length-map t _)
    (ltb-true (row_of b t) (length (batches_in t)) ((and-eq-true_iff (not (is_zero b)) (holds b (batches_in t))).0 has).1)

-- batch number 0 has no readings
zero-none : (b : ℕ) (t : List Row) → is_zero b ≡ true → readings_in b t ≡ []
zero-none b t z = ap (λ k. cond (not k && holds b (batches_in t)) (readings_of (get_or t (row_of b t) empty_row)) []) z

-- ---- the two calls, by what they come to
module _ (x : BatchRecord) (t : List Row) where
  abbrev b : ℕ
  b = x.batch.0

  abbrev xs : List ℤ
  xs = joined (readings_in b t) x.temperature

  abbrev noted : List Row
  noted = set t (home b t) (row_with b xs)

  module _ (P : Outcome → Type 0) (bad : (r : Refusal) → P (refused r t))
      (good : sound_table t ≡ true → verdict_of x ≡ Ok tt → (has_row b t || has_empty t) ≡ true → P (done noted)) where
    by-verdict : sound_table t ≡ true → (v : Verdict) → verdict_of x ≡ v →
        P (judged v (λ r. refused r t) (unless (has_row b t || has_empty t) (refused NoEmptyRow t) (done noted)))
    by-verdict sound (Err r) e = bad r
    by-verdict sound (Ok u) e = by-test (has_row b t || has_empty t) (λ room. rw room (good sound e room)) (λ none. rw none (bad NoEmptyRow))

    note-by : P (note x t)
    unfolding note
    note-by = by-test (sound_table t) (λ sound. rw sound (by-verdict sound (verdict_of x) refl)) (λ e. rw e (bad UnsoundRing))

module _ (b : ℕ) (t : List Row) (P : Outcome → Type 0) where
  close-by : P (refused UnsoundRing t) → (sound_table t ≡ true → has_row b t ≡ true → P (done (set t (row_of b t) empty_row))) →
      (sound_table t ≡ true → has_row b t ≡ false → P (done t)) → P (close b t)
  unfolding close
  close-by bad there absent =
      by-test (sound_table t)
      (λ sound. rw sound (by-test (has_row b t) (λ e. rw e (there sound e)) (λ e. rw e (absent sound e))))
      (λ e. rw e bad)

-- ---- a record that was noted
module _ (x : BatchRecord) (t : List Row) (sound : sound_table t ≡ true) (good : verdict_of x ≡ Ok tt) (room : (has_row (b x t) t || has_empty t) ≡ true) where
  abbrev c : ℕ
  c = b x t

  abbrev is : Sound t
  is = clauses t sound

  nonzero : c ≢ 0
  nonzero = good-number x ((good-exactly x).1 good)

  goes : Home c t (home c t)
  goes = homed c t nonzero is room

  -- its batch has one reading more
  noted-own : readings_in c (noted x t) ≡ xs x t
  noted-own =
      let r : Row = row_with c (xs x t) in
      let same : batches_in (noted x t) ≡ set (batches_in t) (home c t) c = batches-set t (home c t) r in
      let place : place_of c (batches_in (noted x t)) ≡ home c t = ap (place_of c) same ∙ place_set c (batches_in t) (home c t) goes.inside goes.first in
      let there : home c t < length t = subst (λ n. home c t < n) (length-map t _) goes.inside in
      let long : length (batches_in (noted x t)) ≡ length t = length-map (noted x t) _ ∙ length-set t (home c t) r in
      let held : has_row c (noted x t) ≡ true =
      ap (λ z. not z && holds c (batches_in (noted x t))) (ne_eqb c 0 nonzero)
      ∙ lt-ltb (place_of c (batches_in (noted x t))) (length (batches_in (noted x t))) (omega (arith, place, there, long)) in
      ap (λ k. cond k (readings_of (get_or (noted x t) (place_of c (batches_in (noted x t))) empty_row)) []) held
      ∙ ap (λ p. readings_of (get_or (noted x t) p empty_row)) place
      ∙ ap readings_of (get_or-set_same t (home c t) r empty_row there)
      ∙ readings-with c (xs x t)

  noted-others : (d : ℕ) → c ≢ d → readings_in d (noted x t) ≡ readings_in d t
  noted-others d other =
      by-test (is_zero d)
      (λ z. zero-none d (noted x t) z ∙ sym (zero-none d t z))
      (λ nz. untouched t (home c t) (row_with c (xs x t)) d (goes.was d other (eqb-false d 0 nz)) other)

  mild : every in_range (xs x t) ≡ true
  mild =
      let all : List ℤ = readings_in c t ++ x.temperature ∷ [] in
      every_drop in_range (length all - reading_limit) all
      (every-snoc in_range (readings_in c t) x.temperature
      (by-test (has_row c t)
      (λ h. rw h (mild-readings (get_or t (row_of c t) empty_row) (every-at sound_row t (row_of c t) empty_row (in_table c t h) is.rows-good)))
      (λ h. rw h))
      (sym (temp-tested x) ∙ (good-clauses x ((good-exactly x).1 good)).degrees))

  counted : count_good c (length (xs x t)) ≡ true
  counted =
      let all : List ℤ = readings_in c t ++ x.temperature ∷ [] in
      let some : 1 ≤ length (xs x t) = omega (arith, length-drop (length all - reading_limit) all, length-append (readings_in c t) (x.temperature ∷ [])) in
      in_use c (length (xs x t)) (ne_eqb c 0 nonzero) some (length_last reading_limit all)

  noted-sound : sound_table (noted x t) ≡ true
  noted-sound =
      together (noted x t) (sound-set t (home c t) (row_with c (xs x t)) is (sound-with c (xs x t) counted mild) goes.once)

-- ---- a batch that was closed
module _ (b : ℕ) (t : List Row) (sound : sound_table t ≡ true) (has : has_row b t ≡ true) where
  abbrev closed : List Row
  closed = set t (row_of b t) empty_row

  abbrev was : Sound t
  was = clauses t sound

  used : not (is_zero b) ≡ true
  used = ((and-eq-true_iff (not (is_zero b)) (holds b (batches_in t))).0 has).0

  numbered : b ≢ 0
  numbered z = false≢true (sym (ap not (eq-eqb b 0 z)) ∙ used)

  held : holds b (batches_in t) ≡ true
  held = ((and-eq-true_iff (not (is_zero b)) (holds b (batches_in t))).0 has).1

  closed-own : readings_in b closed ≡ []
  closed-own =
      let none : has_row b closed ≡ false =
      ap (λ z. z && holds b (batches_in closed)) used ∙ ap (holds b) (batches-set t (row_of b t) empty_row) ∙ gone b (batches_in t) numbered was.one-each in
      ap (λ k. cond k (readings_of (get_or closed (row_of b closed) empty_row)) []) none

  closed-others : (d : ℕ) → b ≢ d → readings_in d closed ≡ readings_in d t
  closed-others d other =
      by-test (is_zero d)
      (λ z. zero-none d closed z ∙ sym (zero-none d t z))
      (λ nz.
      untouched t (row_of b t) empty_row d (λ e. other (sym (place_at b (batches_in t) held) ∙ e)) (λ e. eqb-false d 0 nz (sym e)))

  closed-sound : sound_table closed ≡ true
  closed-sound =
      together closed (sound-set t (row_of b t) empty_row was (sound-with 0 [] refl refl)
      (twice-set (batches_in t) (row_of b t) 0 (λ ne. absurd (ne refl)) was.one-each))

-- ---- every call
others : (a : Call) (t : List Row) (b : ℕ) → batch_of a ≢ b → readings_in b (made a t).table ≡ readings_in b t
others (noting x) t b other =
    note-by x t (λ n. readings_in b n.table ≡ readings_in b t) (λ r. refl) (λ sound good room. noted-others x t sound good room b other)
others (closing c) t b other =
    close-by c t (λ n. readings_in b n.table ≡ readings_in b t) refl (λ sound has. closed-others c t sound has b other) (λ sound none. refl)

stays : (a : Call) (t : List Row) → sound_table t ≡ true → sound_table (made a t).table ≡ true
stays (noting x) t sound = note-by x t (λ n. sound_table n.table ≡ true) (λ r. sound) (λ _ good room. noted-sound x t sound good room)
stays (closing c) t sound = close-by c t (λ n. sound_table n.table ≡ true) sound (λ _ has. closed-sound c t sound has) (λ _ none. sound)

-- the readings of a batch follow what is accepted for it
abbrev Follows : ℕ → Call → List ℤ → Outcome → Type 0
Follows b a ys n = readings_in b n.table ≡ last_of reading_limit (accepts b a n.verdict ys)

follows : (k : ℕ) (a : Call) (t : List Row) (ys : List ℤ) → readings_in k t ≡ last_of reading_limit ys → Follows k a ys (made a t)
follows k (noting x) t ys e =
    note-by x t (Follows k (noting x) ys) (λ r. e) (λ sound good room.
    by-test (eqb x.batch.0 k)
    (λ same.
    let is-k : x.batch.0 ≡ k = eqb-true x.batch.0 k same in
    rw same (ap (λ j. readings_in j (noted x t)) (sym is-k)
    ∙ noted-own x t sound good room
    ∙ ap (λ zs. joined zs x.temperature) (ap (λ j. readings_in j t) is-k ∙ e)
    ∙ last-joined reading_limit ys x.temperature (omega arith)))
    (λ other. rw other (noted-others x t sound good room k (eqb-false x.batch.0 k other) ∙ e)))
follows k (closing d) t ys e =
    let is-k : eqb d k ≡ true → d ≡ k = eqb-true d k in
    close-by d t (Follows k (closing d) ys) e
    (λ sound has.
    by-test (eqb d k)
    (λ same. rw same (ap (λ j. readings_in j (closed d t sound has)) (sym (is-k same)) ∙ closed-own d t sound has))
    (λ other. rw other (closed-others d t sound has k (eqb-false d k other) ∙ e)))
    (λ sound none.
    by-test (eqb d k)
    (λ same. rw same (ap (λ j. readings_in j t) (sym (is-k same)) ∙ ap (λ h. cond h (readings_of (get_or t (row_of d t) empty_row)) []) none))
    (λ other. rw other e))

-- ---- every list of calls
sound-after : (calls : List Call) (t : List Row) → sound_table t ≡ true → sound_table (table_after calls t) ≡ true
sound-after [] t sound = sound
sound-after (a ∷ calls) t sound = sound-after calls (made a t).table (stays a t sound)

readings-after :
    (calls : List Call) (k : ℕ) (t : List Row) (ys : List ℤ) → readings_in k t ≡ last_of reading_limit ys →
    readings_in k (table_after calls t) ≡ last_of reading_limit (accepted k calls t ys)
readings-after [] k t ys e = e
readings-after (a ∷ calls) k t ys e = readings-after calls k (made a t).table (accepts k a (made a t).verdict ys) (follows k a t ys e)

empty-sound : sound_table empty_table ≡ true
unfolding sound_table sound_row
empty-sound = refl

pub stays-sound : StaysSound
stays-sound calls = sound-after calls empty_table empty-sound

-- wherever a row of the empty table is looked for, it is the empty row
all-empty : (n i : ℕ) → get_or (replicate n empty_row) i empty_row ≡ empty_row
all-empty zero i = refl
all-empty (suc n) zero = refl
all-empty (suc n) (suc i) = all-empty n i

either : (h : Bool) → cond {A = List ℤ} h [] [] ≡ []
either true = refl
either false = refl

no-readings : (k : ℕ) → readings_in k empty_table ≡ []
no-readings k = ap (λ r. cond (has_row k empty_table) (readings_of r) []) (all-empty row_limit (row_of k empty_table)) ∙ either (has_row k empty_table)

pub last-readings : LastReadings
last-readings calls k = readings-after calls k empty_table [] (no-readings k)

pub figures-afresh : FiguresAfresh
unfolding figures
figures-afresh calls k = rw (stays-sound calls) (ap (λ xs. Ok (figures_of xs)) (last-readings calls k))

-- a sound row, and so a batch on a sound table, has at most 24 readings
few-readings : (r : Row) → sound_row r ≡ true → r.count ≤ reading_limit
unfolding sound_row
few-readings r sound =
    let counted : count_good r.batch.0 r.count ≡ true = ((and-eq-true_iff (count_good r.batch.0 r.count) _).0 sound).0 in
    by-test (is_zero r.batch.0)
    (λ z. omega (arith, eqb-true r.count 0 (rw z at counted)))
    (λ nz. leb-true r.count reading_limit ((and-eq-true_iff (leb 1 r.count) _).0 (rw nz at counted)).1)

few-in : (k : ℕ) (t : List Row) → sound_table t ≡ true → length (readings_in k t) ≤ reading_limit
few-in k t sound =
    by-test (has_row k t)
    (λ has.
    let r : Row = get_or t (row_of k t) empty_row in
    let good : sound_row r ≡ true = every-at sound_row t (row_of k t) empty_row (in_table k t has) (clauses t sound).rows-good in
    rw has (omega (arith, few-readings r good, length-take r.count r.readings)))
    (λ none. rw none (omega arith))

last-from : (t : List Row) → sound_table t ≡ true → (calls : List Call) (k : ℕ) → readings_in k (table_after calls t) ≡ last_readings k calls t
last-from t sound calls k =
    readings-after calls k t (readings_in k t) (sym (last-few reading_limit (readings_in k t) (few-in k t sound)))

figures-from :
    (t : List Row) → sound_table t ≡ true → (calls : List Call) (k : ℕ) → figures k (table_after calls t) ≡ Ok (figures_of (last_readings k calls t))
unfolding figures
figures-from t sound calls k = rw (sound-after calls t sound) (ap (λ xs. Ok (figures_of xs)) (last-from t sound calls k))

pub from_sound : FromSound
from_sound = record { stays-sound = λ t sound calls. sound-after calls t sound; last-readings = last-from; figures-afresh = figures-from }

pub from_empty : FromEmpty
from_empty =
    record {
      is-sound = empty-sound;
      no-readings = no-readings;
      accepted-alone = λ calls k. ap (λ xs. last_of reading_limit (accepted k calls empty_table xs)) (no-readings k);
    }

pub others-untouched : OthersUntouched
others-untouched = others

other-rows-stay : (a : Call) (t : List Row) (j : ℕ) → j ≢ row_for a t → get_or (made a t).table j empty_row ≡ get_or t j empty_row
other-rows-stay (noting x) t j other =
    note-by x t (λ n. get_or n.table j empty_row ≡ get_or t j empty_row) (λ r. refl) (λ _ _ _. get_or-set_other t (home x.batch.0 t) j _ empty_row other)
other-rows-stay (closing d) t j other =
    close-by d t (λ n. get_or n.table j empty_row ≡ get_or t j empty_row) refl (λ _ _. get_or-set_other t (row_of d t) j empty_row empty_row other) (λ _ _. refl)

pub one-row : OneRow
one-row a t = (row_for a t, other-rows-stay a t)

as-many-rows : (a : Call) (t : List Row) → length (made a t).table ≡ length t
as-many-rows (noting x) t = note-by x t (λ n. length n.table ≡ length t) (λ r. refl) (λ _ _ _. length-set t (home x.batch.0 t) _)
as-many-rows (closing d) t =
    close-by d t (λ n. length n.table ≡ length t) refl (λ _ _. length-set t (row_of d t) empty_row) (λ _ _. refl)

pub its-row : ItsRow
its-row = record { as_many = as-many-rows; other-rows = other-rows-stay }
