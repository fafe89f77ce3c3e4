-- The table after the pass over the rows (specs/Messages). A channel was met as many times as it stands in the cells, at most once, and
-- each stands where it may (`Met`, `AllMet`). Back: rows whose cells are used, with channels in use that stand there at most once and where
-- they may, do not stop the pass.
use Prim.Native.Nat.{ℕ, zero, suc, pred, ◌+◌, ◌≤◌, ◌<◌}
use mathlib.Core.Path.{◌≡◌, refl, sym, ap, ◌∙◌}
use mathlib.Core.Bool.{Bool, true, false}
use mathlib.Core.List.{List, [], ◌∷◌}
use native.Mathlib.Nat.{not-suc-le-zero}
use native.Mathlib.Omega.{arith}
use lib.Dec.{eqb}
use lib.ListN.{length, get_or, take, set, replicate, length-set}
use lib.Seq.{get_or-set_same, get_or-set_other}
use Rattle.std.specs.Prelude.{Some}
use Rattle.numbers.specs.declared.ChannelNo.{ChannelNo}
use Rattle.network.specs.declared.Head.{Head}
use Rattle.network.specs.declared.Ring.{Ring}
use Rattle.network.specs.Counting.{one, sum, weigh}
use Rattle.network.specs.Network.{channel_no, times_in}
use Rattle.network.specs.Layout.{channel_room, row_length, row, queue_of}
use Rattle.network.proofs.Ground.Splits.{by-same, by-test}
use Rattle.network.proofs.Ground.Counting.{count_same, count-other}
use Rattle.network.proofs.Memory.Rows.{get_d-blanks}
use Rattle.messages.specs.declared.rows.Place.{Place}
use Rattle.messages.specs.declared.rows.Place.TheVariants.{Buffer, Line}
use Rattle.messages.specs.Messages.{Table, may_stand, fresh, mark, cells_in_use, mark_row, mark_node, mark_rows, mark_all}
use Rattle.messages.proofs.RowPass.{Fresh, decides-fresh, mark-fresh, no_table, same-table, by-table, row-right, row-wrong, buffer_after, node-stops, node_more}
use Rattle.messages.proofs.UsedCells.{channels_in, Used, RowUsed}

-- 1 where a channel was met, else 0
abbrev pub met_at : Table → ℕ → ℕ
met_at met k = one (get_or met k false)

unmet : (b : Bool) → one b ≡ 0 → b ≡ false
unmet true e = absurd (omega arith)
unmet false e = refl

-- the table after the cells of one row

pub record Met (head : Head) (place : Place) (times : ℕ → ℕ) (met after : Table) : Type 0 where
  pub counted : (k : ℕ) → met_at after k ≡ met_at met k + times k
  pub right : (k : ℕ) → 0 < times k → may_stand head k place ≡ true

-- the cells that passed
pub record Passed (head : Head) (place : Place) (xs : List ℕ) (met after : Table) : Type 0 where
  pub used : Used head.channel_count xs
  pub noted : Met head place (λ k. times_in (channels_in xs) (channel_no k)) met after
  pub long : length after ≡ length met

module _ (head : Head) (place : Place) where
  -- one cell more
  module _ (x : ℕ) (xs : List ℕ) (met : Table) (fits : head.channel_count ≤ length met) (f : Fresh head place met x) where
    abbrev next : Table
    next = set met (pred x) true

    met-here : (k : ℕ) → pred x ≡ k → met_at next k ≡ 1
    met-here k same = rw (← same, get_or-set_same met (pred x) true false (omega (arith, f.used, f.known))) refl

    met-other : (k : ℕ) → (pred x ≡ k → ⊥) → met_at next k ≡ met_at met k
    met-other k other = ap one (get_or-set_other met (pred x) k true false (λ e. other (sym e)))

    first-time : (k : ℕ) → pred x ≡ k → met_at met k ≡ 0
    first-time k same = rw (← same, f.first) refl

    met-more : {after : Table} → Met head place (λ k. times_in (channels_in xs) (channel_no k)) next after →
        Met head place (λ k. times_in (channels_in (x ∷ xs)) (channel_no k)) met after
    unfolding weigh
    met-more m =
        record {
          counted = λ k.
              by-same (pred x) k
              (λ same.
              let once : one (eqb (pred x) k) ≡ 1 = rw (← same) (count_same (pred x)) in
              omega (arith, m.counted k, met-here k same, first-time k same))
              (λ other. omega (arith, m.counted k, met-other k other, count-other (pred x) k other));
          right = λ k l.
              by-same (pred x) k (λ same. rw (← same) f.right)
              (λ other. m.right k (omega (arith, count-other (pred x) k other)));
        }

  pub mark-met : (xs : List ℕ) (met : Table) {after : Table} → head.channel_count ≤ length met → mark head place xs met ≡ Some after →
      Passed head place xs met after
  unfolding mark weigh
  mark-met [] met fits e =
      let same : met ≡ _ = same-table refl e in
      rw (← same)
      (record {
        used = tt;
        noted = record { counted = λ k. omega arith; right = λ k l. absurd (not-suc-le-zero l) };
        long = refl;
      })
  mark-met (x ∷ xs) met fits e =
      by-test (fresh head place met x)
      (λ is-fresh.
      let f = (decides-fresh head place met x).holds is-fresh in
      let rest = mark-met xs (set met (pred x) true) (rw length-set fits) (sym (mark-fresh head place x xs met f) ∙ e) in
      record {
        used = (f.used, f.known, rest.used);
        noted = met-more x xs met fits f rest.noted;
        long = rest.long ∙ length-set met (pred x) true;
      })
      (λ stale. absurd (no_table (rw stale refl) e))

  pub mark-passes : (xs : List ℕ) (met : Table) → head.channel_count ≤ length met → Used head.channel_count xs →
      ((k : ℕ) → met_at met k + times_in (channels_in xs) (channel_no k) ≤ 1) →
      ((k : ℕ) → 0 < times_in (channels_in xs) (channel_no k) → may_stand head k place ≡ true) →
      (after : Table) × (mark head place xs met ≡ Some after)
  unfolding mark weigh
  mark-passes [] met fits u once right = (met, refl)
  mark-passes (x ∷ xs) met fits u once right =
      let here = count_same (pred x) in
      let f : Fresh head place met x =
      record {
        used = u.0;
        known = u.1;
        first = unmet _ (omega (arith, once (pred x), here));
        right = right (pred x) (omega (arith, here));
      } in
      let rest =
      mark-passes xs (set met (pred x) true) (rw length-set fits) u.2
      (λ k.
      by-same (pred x) k
      (λ same.
      let again : one (eqb (pred x) k) ≡ 1 = rw (← same) (count_same (pred x)) in
      omega (arith, once k, met-here x xs met fits f k same))
      (λ other. omega (arith, once k, met-other x xs met fits f k other)))
      (λ k l. right k (omega (arith, l))) in
      (rest.0, mark-fresh head place x xs met f ∙ rest.1)

  -- a row

  module _ (used : ℕ) (cells : List ℕ) (met : Table) (fits : head.channel_count ≤ length met) where
    pub row-met : {after : Table} → mark_row head place used cells met ≡ Some after →
        RowUsed head.channel_count used cells × Passed head place (take used cells) met after
    row-met e =
        by-same (cells_in_use cells) used
        (λ in_use.
        let here = mark-met (take used cells) met fits (sym (row-right head place used cells met in_use) ∙ e) in
        (record { in_use = in_use; cells-used = here.used }, here))
        (λ wrong. absurd (no_table (row-wrong head place used cells met wrong) e))

    pub row-passes : RowUsed head.channel_count used cells →
        ((k : ℕ) → met_at met k + times_in (queue_of used cells) (channel_no k) ≤ 1) →
        ((k : ℕ) → 0 < times_in (queue_of used cells) (channel_no k) → may_stand head k place ≡ true) →
        (after : Table) × (mark_row head place used cells met ≡ Some after)
    row-passes u once right =
        let passed = mark-passes (take used cells) met fits u.cells-used once right in
        (passed.0, row-right head place used cells met u.in_use ∙ passed.1)

-- the table after rows

module _ (ring : Ring) where
  abbrev pub buffer_at : ℕ → List ChannelNo
  buffer_at p = queue_of (get_or ring.head.used p 0) (row row_length ring.slots p)

  abbrev pub line_at : ℕ → List ChannelNo
  line_at p = queue_of (get_or ring.head.waiting p 0) (row row_length ring.lines p)

  abbrev pub times_at : ℕ → ℕ → ℕ
  times_at k p = times_in (buffer_at p) (channel_no k) + times_in (line_at p) (channel_no k)

  -- what is so of the rows of each node, whatever was met before
  pub record RowsRight (n : ℕ) : Type 0 where
    pub buffers-used : (p : ℕ) → p < n → RowUsed ring.head.channel_count (get_or ring.head.used p 0) (row row_length ring.slots p)
    pub lines-used : (p : ℕ) → p < n → RowUsed ring.head.channel_count (get_or ring.head.waiting p 0) (row row_length ring.lines p)
    pub in-buffer : (p k : ℕ) → p < n → 0 < times_in (buffer_at p) (channel_no k) → may_stand ring.head k (Buffer p) ≡ true
    pub in-line : (p k : ℕ) → p < n → 0 < times_in (line_at p) (channel_no k) → may_stand ring.head k (Line p) ≡ true

  pub record Rows (n : ℕ) (met after : Table) : Type 0 where
    pub right : RowsRight n
    pub counted : (k : ℕ) → met_at after k ≡ met_at met k + sum n (times_at k)
    pub long : length after ≡ length met

  module _ (met : Table) (fits : ring.head.channel_count ≤ length met) where
    rows-more : (n : ℕ) {before between after : Table} → Rows n met before →
        RowUsed ring.head.channel_count (get_or ring.head.used n 0) (row row_length ring.slots n)
        × Passed ring.head (Buffer n) (take (get_or ring.head.used n 0) (row row_length ring.slots n)) before between →
        RowUsed ring.head.channel_count (get_or ring.head.waiting n 0) (row row_length ring.lines n)
        × Passed ring.head (Line n) (take (get_or ring.head.waiting n 0) (row row_length ring.lines n)) between after →
        Rows (suc n) met after
    unfolding sum
    rows-more n earlier buffer line =
        let r = earlier.right in
        record {
          right = record {
            buffers-used = λ p l. by-same p n (λ same. rw same buffer.0) (λ other. r.buffers-used p (omega arith));
            lines-used = λ p l. by-same p n (λ same. rw same line.0) (λ other. r.lines-used p (omega arith));
            in-buffer = λ p k l stands.
                by-same p n (λ same. rw same (buffer.1.noted.right k (rw same at stands)))
                (λ other. r.in-buffer p k (omega arith) stands);
            in-line = λ p k l stands.
                by-same p n (λ same. rw same (line.1.noted.right k (rw same at stands)))
                (λ other. r.in-line p k (omega arith) stands);
          };
          counted = λ k. omega (arith, earlier.counted k, buffer.1.noted.counted k, line.1.noted.counted k);
          long = line.1.long ∙ buffer.1.long ∙ earlier.long;
        }

    pub rows-met : (n : ℕ) {after : Table} → mark_rows ring n met ≡ Some after → Rows n met after
    unfolding mark_rows sum
    rows-met zero e =
        let same : met ≡ _ = same-table refl e in
        rw (← same)
        (record {
          right = record {
            buffers-used = λ p l. absurd (not-suc-le-zero l);
            lines-used = λ p l. absurd (not-suc-le-zero l);
            in-buffer = λ p k l. absurd (not-suc-le-zero l);
            in-line = λ p k l. absurd (not-suc-le-zero l);
          };
          counted = λ k. omega arith;
          long = refl;
        })
    rows-met (suc n) {after} e =
        by-table (mark_rows ring n met) (λ h. absurd (no_table (rw h refl) e))
        (λ before h.
        let node-passed : mark_node ring n before ≡ Some after = rw h at e in
        let earlier = rows-met n h in
        by-table (buffer_after ring n before) (λ g. absurd (no_table (node-stops ring n before g) node-passed))
        (λ between g.
        let buffer = row-met ring.head (Buffer n) _ _ before (omega (arith, earlier.long)) g in
        let line =
        row-met ring.head (Line n) _ _ between (omega (arith, earlier.long, buffer.1.long))
        (sym (node_more ring n before g) ∙ node-passed) in
        rows-more n earlier buffer line))

    pub rows_pass : (n : ℕ) → RowsRight n → ((k : ℕ) → met_at met k + sum n (times_at k) ≤ 1) →
        (after : Table) × (mark_rows ring n met ≡ Some after)
    unfolding mark_rows sum
    rows_pass zero r once = (met, refl)
    rows_pass (suc n) r once =
        let first : RowsRight n =
        record {
          buffers-used = λ p l. r.buffers-used p (omega arith);
          lines-used = λ p l. r.lines-used p (omega arith);
          in-buffer = λ p k l. r.in-buffer p k (omega arith);
          in-line = λ p k l. r.in-line p k (omega arith);
        } in
        let earlier = rows_pass n first (λ k. omega (arith, once k)) in
        let passed = rows-met n earlier.1 in
        let long : ring.head.channel_count ≤ length earlier.0 = omega (arith, passed.long) in
        let buffer =
        row-passes ring.head (Buffer n) _ _ earlier.0 long (r.buffers-used n (omega arith))
        (λ k. omega (arith, once k, passed.counted k)) (λ k. r.in-buffer n k (omega arith)) in
        let there = (row-met ring.head (Buffer n) _ _ earlier.0 long buffer.1).1 in
        let line =
        row-passes ring.head (Line n) _ _ buffer.0 (omega (arith, passed.long, there.long)) (r.lines-used n (omega arith))
        (λ k. omega (arith, once k, passed.counted k, there.noted.counted k)) (λ k. r.in-line n k (omega arith)) in
        (line.0, rw earlier.1 (node_more ring n earlier.0 buffer.1 ∙ line.1))

  -- the table after all rows

  abbrev pub times_in_rows : ℕ → ℕ
  times_in_rows k = sum ring.head.node_count (times_at k)

  abbrev none-met : Table
  none-met = replicate channel_room false

  none-there : (k : ℕ) → met_at none-met k ≡ 0
  none-there k = ap one (get_d-blanks channel_room k false)

  pub record AllMet (met : Table) : Type 0 where
    pub rows : RowsRight ring.head.node_count
    pub once : (k : ℕ) → met_at met k ≡ times_in_rows k

  module _ (within : ring.head.channel_count ≤ channel_room) where
    pub all-met : (met : Table) → mark_all ring ≡ Some met → AllMet met
    unfolding mark_all
    all-met met e =
        let rows = rows-met none-met within ring.head.node_count e in
        record { rows = rows.right; once = λ k. omega (arith, rows.counted k, none-there k) }

    pub all_pass : RowsRight ring.head.node_count → ((k : ℕ) → times_in_rows k ≤ 1) → (met : Table) × (mark_all ring ≡ Some met)
    unfolding mark_all
    all_pass r once = rows_pass none-met within ring.head.node_count r (λ k. omega (arith, once k, none-there k))
