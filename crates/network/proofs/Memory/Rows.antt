-- Memory. Laws of the lists that a layout is made of: numbers by number (`tabulate`), a list made as long as a row (`padded`), and rows of
-- any width one after the other (`row`, `rows`). `put_row` is what a function does that rewrites one row.
use Prim.Native.Nat.{ℕ, zero, suc, pred, ◌+◌, ◌*◌, ◌-◌, ◌≤◌, ◌<◌}
use mathlib.Core.Path.{◌≡◌, refl, sym, ap, ◌∙◌}
use mathlib.Core.Logic.{◌≢◌}
use mathlib.Core.Bool.{cond}
use mathlib.Core.List.{List, [], ◌∷◌, ◌++◌, map, append_assoc, append-nil}
use native.Mathlib.Nat.{not-suc-le-zero, zero-add, suc-add, mul-suc, mul-zero, mul-le-mul_left}
use native.Mathlib.Omega.{arith}
use lib.Dec.{ltb}
use borrow.Author.Tests.{lt-ltb, le-ltb}
use lib.ListN.{length, get_or, take, drop, set, replicate, length-append, length-take, length-drop, length-map, length-set, length-replicate, replicate-append-replicate, take-append-drop, drop_of_length-le, get_or-append}
use lib.Seq.{length-take-le, take_all, take_at, drop_at, take-append-le, drop-append-le, take-append-add, get_or-take, get_or-drop, get_or_at, get_or-set_same, get_or-set_other, set-append_left, take-set-lt, take-add, set_at, ext_get_or}
use Rattle.numbers.specs.declared.ChannelNo.{ChannelNo}
use Rattle.network.specs.Counting.{tabulate}
use Rattle.network.specs.Network.{channel_no}
use Rattle.network.specs.Layout.{row, padded, rows, cells_of, queue_of}
use Rattle.network.proofs.Ground.Splits.{by-same, by_less}
use Rattle.network.proofs.Ground.Numbers.{map-append}

-- lists and maps

module _ {ℓ κ} {A : Type ℓ} {B : Type κ} where
  -- a map that another undoes
  pub map_back : (f : A → B) (g : B → A) → ((x : A) → g (f x) ≡ x) → (xs : List A) → map g (map f xs) ≡ xs
  map_back f g h [] = refl
  map_back f g h (x ∷ xs) = rw (h x, map_back f g h xs)

module _ {ℓ} {A : Type ℓ} where
  -- what is read of blanks is blank, also beyond their end
  pub get_d-blanks : (n i : ℕ) (b : A) → get_or (replicate n b) i b ≡ b
  get_d-blanks zero i b = refl
  get_d-blanks (suc n) zero b = refl
  get_d-blanks (suc n) (suc i) b = get_d-blanks n i b

  pub get_d-append-blanks : (xs : List A) (n i : ℕ) (b : A) → get_or (xs ++ replicate n b) i b ≡ get_or xs i b
  get_d-append-blanks [] n i b = get_d-blanks n i b
  get_d-append-blanks (x ∷ xs) n zero b = refl
  get_d-append-blanks (x ∷ xs) n (suc i) b = get_d-append-blanks xs n i b

  take-blanks : (m n : ℕ) (b : A) → m ≤ n → take m (replicate n b) ≡ replicate m b
  take-blanks zero n b l = refl
  take-blanks (suc m) zero b l = absurd (not-suc-le-zero l)
  take-blanks (suc m) (suc n) b l = ap (λ r. b ∷ r) (take-blanks m n b (omega arith))

  -- a store in the middle part of three
  set-middle : (xs ys zs : List A) (n i : ℕ) (v : A) → length xs ≡ n → i < length ys →
      set (xs ++ ys ++ zs) (n + i) v ≡ xs ++ set ys i v ++ zs
  set-middle [] ys zs n i v e l = rw (← e, zero-add i) (set-append_left ys zs i v l)
  set-middle (x ∷ xs) ys zs n i v e l =
      rw (← e, suc-add (length xs) i) (ap (λ r. x ∷ r) (set-middle xs ys zs (length xs) i v refl l))

  -- one element more, that reads as beyond the end does, changes nothing that is read
  pub getD-snoc-same {κ} : {B : Type κ} (g : A → B) (xs : List A) (y d : A) (i : ℕ) → g y ≡ g d →
      g (get_or (xs ++ (y ∷ [])) i d) ≡ g (get_or xs i d)
  getD-snoc-same g [] y d zero e = e
  getD-snoc-same g [] y d (suc i) e = refl
  getD-snoc-same g (x ∷ xs) y d zero e = refl
  getD-snoc-same g (x ∷ xs) y d (suc i) e = getD-snoc-same g xs y d i e

  -- a table as a list

  pub length-tabulate : (n : ℕ) (f : ℕ → A) → length (tabulate n f) ≡ n
  unfolding tabulate
  length-tabulate zero f = refl
  length-tabulate (suc n) f = omega (arith, length-append (tabulate n f) (f n ∷ []), length-tabulate n f)

  pub get_d_tabulate : (n : ℕ) (f : ℕ → A) (i : ℕ) (d : A) → i < n → get_or (tabulate n f) i d ≡ f i
  unfolding tabulate
  get_d_tabulate zero f i d l = absurd (not-suc-le-zero l)
  get_d_tabulate (suc n) f i d l =
      by-same i n
      (λ e. rw e (get_or_at (tabulate n f) (f n) [] d n (length-tabulate n f)))
      (λ ne. get_or-append (tabulate n f) (f n ∷ []) d i (rw length-tabulate (omega arith)) ∙ get_d_tabulate n f i d (omega arith))

  -- the list that reads like a table below n is the table's
  pub tabulate-is : (n : ℕ) (f : ℕ → A) (d : A) (xs : List A) → length xs ≡ n → ((i : ℕ) → i < n → f i ≡ get_or xs i d) →
      tabulate n f ≡ xs
  tabulate-is n f d xs e h =
      ext_get_or d (tabulate n f) xs (length-tabulate n f ∙ sym e)
      (λ i l. get_d_tabulate n f i d (rw length-tabulate at l) ∙ h i (rw length-tabulate at l))

  pub tabulate-same : (n : ℕ) (f g : ℕ → A) → ((i : ℕ) → i < n → f i ≡ g i) → tabulate n f ≡ tabulate n g
  unfolding tabulate
  tabulate-same zero f g h = refl
  tabulate-same (suc n) f g h = rw (tabulate-same n f g (λ i l. h i (omega arith)), h n (omega arith))

  -- a table that differs at p alone is one store away
  pub tabulate-put : (n : ℕ) (f g : ℕ → A) (p : ℕ) → p < n → ((q : ℕ) → q < n → q ≢ p → g q ≡ f q) →
      tabulate n g ≡ set (tabulate n f) p (g p)
  tabulate-put n f g p l h =
      tabulate-is n g (g p) (set (tabulate n f) p (g p)) (length-set (tabulate n f) p (g p) ∙ length-tabulate n f)
      (λ i m.
      by-same i p
      (λ e. rw e (sym (get_or-set_same (tabulate n f) p (g p) (g p) (rw length-tabulate l))))
      (λ d. h i m d ∙ sym (get_or-set_other (tabulate n f) p i (g p) (g p) d ∙ get_d_tabulate n f i (g p) m)))

  -- a table of blanks that a loop fills from the front: the first i have their values
  pub record FilledTo (n : ℕ) (f : ℕ → A) (d : A) (values : List A) (i : ℕ) : Type ℓ where
    pub whole : length values ≡ n
    pub are : (j : ℕ) → j < i → f j ≡ get_or values j d
    pub blank : (j : ℕ) → i ≤ j → d ≡ get_or values j d

  pub filled_none : (n : ℕ) (f : ℕ → A) (d : A) → FilledTo n f d (replicate n d) 0
  filled_none n f d =
      record { whole = length-replicate n d; are = λ j l. absurd (not-suc-le-zero l); blank = λ j l. sym (get_d-blanks n j d) }

  module _ {n : ℕ} {f : ℕ → A} {d : A} {values : List A} {i : ℕ} (so_far : FilledTo n f d values i) where
    pub filled_on : {x : A} → i < n → x ≡ f i → FilledTo n f d (set values i x) (i + 1)
    filled_on {x} l is =
        record {
          whole = length-set values i x ∙ so_far.whole;
          are = λ j m.
              by-same j i
              (λ e. rw e (sym is ∙ sym (get_or-set_same values i x d (omega (arith, so_far.whole)))))
              (λ apart. so_far.are j (omega arith) ∙ sym (get_or-set_other values i j x d apart));
          blank = λ j m. so_far.blank j (omega arith) ∙ sym (get_or-set_other values i j x d (λ e. absurd (omega arith)));
        }

    pub filled-up : tabulate n (λ j. cond (ltb j i) (f j) d) ≡ values
    filled-up =
        tabulate-is n (λ j. cond (ltb j i) (f j) d) d values so_far.whole
        (λ j l. by_less j i (λ m. rw (lt-ltb j i m) (so_far.are j m)) (λ m. rw (le-ltb j i m) (so_far.blank j m)))

-- a list made as long as a row

pub length-padded : (n : ℕ) (xs : List ℕ) → length (padded n xs) ≡ n
unfolding padded
length-padded n xs = simp (length-take, length-append, length-replicate) (omega arith)

pub get_d-padded : (n : ℕ) (xs : List ℕ) (i : ℕ) → i < n → get_or (padded n xs) i 0 ≡ get_or xs i 0
unfolding padded
get_d-padded n xs i l = get_or-take n (xs ++ replicate n 0) i 0 l ∙ get_d-append-blanks xs n i 0

-- a list of n that reads like xs is xs made n long
pub padded-is : (n : ℕ) (xs ys : List ℕ) → length ys ≡ n → ((i : ℕ) → i < n → get_or xs i 0 ≡ get_or ys i 0) → padded n xs ≡ ys
padded-is n xs ys e h =
    ext_get_or 0 (padded n xs) ys (length-padded n xs ∙ sym e)
    (λ i l. get_d-padded n xs i (rw length-padded at l) ∙ h i (rw length-padded at l))

pub padded-whole : (n : ℕ) (xs : List ℕ) → length xs ≡ n → padded n xs ≡ xs
padded-whole n xs e = padded-is n xs xs e (λ i l. refl)

pub padded-none : (n : ℕ) → padded n [] ≡ replicate n 0
unfolding padded
padded-none n = take-blanks n n 0 (omega arith)

pub padded-more : (n m : ℕ) (xs : List ℕ) → length xs + m ≡ n → padded n xs ≡ xs ++ replicate m 0
unfolding padded
padded-more n m xs e =
    rw (← e)
    (take-append-add xs (replicate (length xs + m) 0) m ∙ ap (λ r. xs ++ r) (take-blanks m (length xs + m) 0 (omega arith)))

-- the first part of a list made n long
pub padded-front : (n m : ℕ) (xs : List ℕ) → length xs ≡ m → m ≤ n → take m (padded n xs) ≡ xs
padded-front n m xs e l = rw (padded-more n (n - m) xs (omega arith)) (take_at xs (replicate (n - m) 0) m e)

padded-set : (n : ℕ) (xs : List ℕ) (i y : ℕ) → i < length xs → length xs ≤ n → padded n (set xs i y) ≡ set (padded n xs) i y
unfolding padded
padded-set n xs i y l fits =
    rw (← set-append_left xs (replicate n 0) i y l) (take-set-lt n (xs ++ replicate n 0) i y (omega arith))

pub padded-snoc : (n : ℕ) (xs : List ℕ) (y : ℕ) → length xs < n → padded n (xs ++ (y ∷ [])) ≡ set (padded n xs) (length xs) y
padded-snoc n xs y l =
    let longer : length (xs ++ (0 ∷ [])) ≡ length xs + 1 = length-append xs (0 ∷ []) in
    let blank : padded n (xs ++ (0 ∷ [])) ≡ padded n xs =
    padded-is n (xs ++ (0 ∷ [])) (padded n xs) (length-padded n xs)
    (λ i m. get_d-append-blanks xs 1 i 0 ∙ sym (get_d-padded n xs i m)) in
    rw (← blank, ← padded-set n (xs ++ (0 ∷ [])) (length xs) y (omega arith) (omega arith), set_at xs 0 [] y (length xs) refl)

-- the cells of a queue

pub length-cells : (ks : List ChannelNo) → length (cells_of ks) ≡ length ks
length-cells ks = length-map ks (λ (k : ChannelNo). suc k.0)

pub cells-append : (js ks : List ChannelNo) → cells_of (js ++ ks) ≡ cells_of js ++ cells_of ks
cells-append js ks = map-append (λ (k : ChannelNo). suc k.0) js ks

-- a queue that fits a row is read off its cells
pub queue-cells : (n : ℕ) (xs : List ChannelNo) → length xs ≤ n → queue_of (length xs) (padded n (cells_of xs)) ≡ xs
queue-cells n xs l =
    rw (padded-front n (length xs) (cells_of xs) (length-cells xs) l)
    (map_back (λ (k : ChannelNo). suc k.0) (λ cell. channel_no (pred cell)) (λ k. refl) xs)

-- one more at the end of the queue is one store, and the first leaves it by a shift of the cells, with a zero at the end
pub cells-push : (n : ℕ) (xs : List ChannelNo) (k : ChannelNo) → length xs < n →
    padded n (cells_of (xs ++ (k ∷ []))) ≡ set (padded n (cells_of xs)) (length xs) (suc k.0)
cells-push n xs k l =
    rw (cells-append xs (k ∷ []), padded-snoc n (cells_of xs) (suc k.0) (rw length-cells l), length-cells xs)

pub cells-pop : (n : ℕ) (k : ChannelNo) (ks : List ChannelNo) → length ks < n →
    padded n (cells_of ks) ≡ drop 1 (padded n (cells_of (k ∷ ks))) ++ (0 ∷ [])
cells-pop n k ks l =
    let m : ℕ = n - (length ks + 1) in
    rw (
      padded-more n (m + 1) (cells_of ks) (omega (arith, length-cells ks)),
      padded-more n m (cells_of (k ∷ ks)) (omega (arith, length-cells ks)),
    )
    (ap (λ r. cells_of ks ++ r) (sym (replicate-append-replicate {A = ℕ} m 1 0))
    ∙ sym (append_assoc (cells_of ks) (replicate m 0) (0 ∷ [])))

-- rows of a width

module _ (w : ℕ) where
  -- where a row ends
  pub row-end : (n p : ℕ) → p < n → w * p + w ≤ w * n
  row-end n p l = rw (mul-suc w p) at (mul-le-mul_left {m = suc p} {n = n} w l)

  pub rows-length : (n : ℕ) (f : ℕ → List ℕ) → length (rows w n f) ≡ w * n
  unfolding rows
  rows-length zero f = sym (mul-zero w)
  rows-length (suc n) f =
      rw mul-suc (omega (arith, length-append (rows w n f) (padded w (f n)), rows-length n f, length-padded w (f n)))

  pub row-length : (cells : List ℕ) (p : ℕ) → w * p + w ≤ length cells → length (row w cells p) ≡ w
  unfolding row
  row-length cells p l = length-take-le w (drop (w * p) cells) (omega (arith, length-drop (w * p) cells))

  pub get_d-row : (cells : List ℕ) (p i : ℕ) → i < w → get_or (row w cells p) i 0 ≡ get_or cells (w * p + i) 0
  unfolding row
  get_d-row cells p i l = get_or-take w (drop (w * p) cells) i 0 l ∙ get_or-drop (w * p) cells i 0

  -- a row stays where more comes after it
  row-append : (cells more : List ℕ) (p : ℕ) → w * p + w ≤ length cells → row w (cells ++ more) p ≡ row w cells p
  unfolding row
  row-append cells more p l =
      rw (drop-append-le (w * p) cells more (omega arith))
      (take-append-le w (drop (w * p) cells) more (omega (arith, length-drop (w * p) cells)))

  -- the last row is what comes after the others
  row_last : (cells : List ℕ) (n : ℕ) → length cells ≤ w * n + w → row w cells n ≡ drop (w * n) cells
  unfolding row
  row_last cells n l = take_all w (drop (w * n) cells) (omega (arith, length-drop (w * n) cells))

  pub row-rows : (n : ℕ) (f : ℕ → List ℕ) (p : ℕ) → p < n → row w (rows w n f) p ≡ padded w (f p)
  unfolding rows row
  row-rows zero f p l = absurd (not-suc-le-zero l)
  row-rows (suc n) f p l =
      by-same p n
      (λ e. rw (e, drop_at (rows w n f) (padded w (f n)) (w * n) (rows-length n f))
      (take_all w (padded w (f n)) (omega (arith, length-padded w (f n)))))
      (λ d.
      row-append (rows w n f) (padded w (f n)) p (omega (arith, rows-length n f, row-end n p (omega arith)))
      ∙ row-rows n f p (omega arith))

  pub rows_same : (n : ℕ) (f g : ℕ → List ℕ) → ((p : ℕ) → p < n → f p ≡ g p) → rows w n f ≡ rows w n g
  unfolding rows
  rows_same zero f g h = refl
  rows_same (suc n) f g h = rw (rows_same n f g (λ p l. h p (omega arith)), h n (omega arith))

  -- cells whose rows are those of a table are the table's rows
  pub rows_is : (n : ℕ) (f : ℕ → List ℕ) (cells : List ℕ) → length cells ≡ w * n →
      ((p : ℕ) → p < n → padded w (f p) ≡ row w cells p) → rows w n f ≡ cells
  unfolding rows
  rows_is zero f cells e h = take_all 0 cells (omega (arith, rw mul-zero at e))
  rows_is (suc n) f cells e h =
      let long : length cells ≡ w * n + w = rw mul-suc at e in
      let front : List ℕ = take (w * n) cells in
      let rest : List ℕ = drop (w * n) cells in
      let whole : length front ≡ w * n = length-take-le (w * n) cells (omega arith) in
      let early : (p : ℕ) → p < n → row w cells p ≡ row w front p =
      λ p l.
      ap (λ r. row w r p) (sym (take-append-drop (w * n) cells))
      ∙ row-append front rest p (omega (arith, row-end n p l)) in
      let last : row w cells n ≡ rest = row_last cells n (omega arith) in
      rw (rows_is n f front whole (λ p l. h p (omega arith) ∙ early p l), h n (omega arith), last)
      (take-append-drop (w * n) cells)

  -- the cells with another row p
  unfoldable pub put_row : List ℕ → ℕ → List ℕ → List ℕ
  put_row cells p xs = take (w * p) cells ++ padded w xs ++ drop (w * p + w) cells

  put-append : (cells more : List ℕ) (p : ℕ) (xs : List ℕ) → w * p + w ≤ length cells →
      put_row (cells ++ more) p xs ≡ put_row cells p xs ++ more
  unfolding put_row
  put-append cells more p xs l =
      rw (take-append-le (w * p) cells more (omega arith), drop-append-le (w * p + w) cells more (omega arith)) (simp append_assoc)

  put_last : (cells more : List ℕ) (p : ℕ) (xs : List ℕ) → length cells ≡ w * p → length more ≡ w →
      put_row (cells ++ more) p xs ≡ cells ++ padded w xs
  unfolding put_row
  put_last cells more p xs e m =
      let whole : length (cells ++ more) ≤ w * p + w = omega (arith, length-append cells more) in
      rw (take_at cells more (w * p) e, drop_of_length-le (cells ++ more) whole) (append-nil _)

  -- a table that differs at p alone has the same rows but for row p
  pub rows-put : (n : ℕ) (f g : ℕ → List ℕ) (p : ℕ) → p < n → ((q : ℕ) → q < n → q ≢ p → g q ≡ f q) →
      rows w n g ≡ put_row (rows w n f) p (g p)
  unfolding rows put_row
  rows-put zero f g p l h = absurd (not-suc-le-zero l)
  rows-put (suc n) f g p l h =
      by-same p n
      (λ e.
      let rest : rows w n g ≡ rows w n f = rows_same n g f (λ q m. h q (omega arith) (omega arith)) in
      rw (e, rest) (sym (put_last (rows w n f) (padded w (f n)) n (g n) (rows-length n f) (length-padded w (f n)))))
      (λ d.
      let rest : rows w n g ≡ put_row (rows w n f) p (g p) = rows-put n f g p (omega arith) (λ q m. h q (omega arith)) in
      rw (rest, h n (omega arith) (λ e. d (sym e)))
      (sym (put-append (rows w n f) (padded w (f n)) p (g p) (omega (arith, rows-length n f, row-end n p (omega arith))))))

  -- a row as a function rewrites it

  put_back : (cells : List ℕ) (p : ℕ) (xs : List ℕ) → row w cells p ≡ padded w xs → put_row cells p xs ≡ cells
  unfolding put_row row
  put_back cells p xs e = rw (← e, ← take-add (w * p) w cells) (take-append-drop (w * p + w) cells)

  -- one more at the end of a queue is one store
  pub put-push : (cells : List ℕ) (p : ℕ) (xs : List ChannelNo) (k : ChannelNo) → w * p + w ≤ length cells →
      row w cells p ≡ padded w (cells_of xs) → length xs < w →
      put_row cells p (cells_of (xs ++ (k ∷ []))) ≡ set cells (w * p + length xs) (suc k.0)
  unfolding put_row
  put-push cells p xs k whole e l =
      let before : List ℕ = take (w * p) cells in
      let behind : List ℕ = drop (w * p + w) cells in
      let front : length before ≡ w * p = length-take-le (w * p) cells (omega arith) in
      let stored : set (before ++ padded w (cells_of xs) ++ behind) (w * p + length xs) (suc k.0)
      ≡ before ++ set (padded w (cells_of xs)) (length xs) (suc k.0) ++ behind =
      set-middle before (padded w (cells_of xs)) behind (w * p) (length xs) (suc k.0) front (omega (arith, length-padded w (cells_of xs))) in
      rw (cells-push w xs k l)
      (sym stored ∙ ap (λ r. set r (w * p + length xs) (suc k.0)) (put_back cells p (cells_of xs) e))
