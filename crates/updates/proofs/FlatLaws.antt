-- Each change of a ring in memory (specs/Flat) is the change of the ring that it holds: laid out before and after, the two agree. A number
-- that is stored is the number of the new node or channel, a row that is rewritten is its row.
use Prim.Native.Nat.{ℕ, suc, ◌+◌, ◌-◌, ◌*◌, ◌≤◌, ◌<◌}
use mathlib.Core.Path.{◌≡◌, refl, sym, ap, ◌∙◌}
use mathlib.Core.Bool.{Bool, true, false, cond, ◌&&◌, ◌||◌}
use mathlib.Core.List.{List, [], ◌∷◌, ◌++◌, append_assoc}
use mathlib.Core.Option.{none, some}
use native.Mathlib.Nat.{add-zero}
use native.Mathlib.Omega.{arith}
use lib.Dec.{ltb}
use lib.ListN.{length, get_or, set, take, drop, replicate, length-append, replicate-append-replicate}
use lib.Seq.{take_at, drop_at, drop-drop}
use borrow.Author.Tests.{lt-ltb}
use Rattle.batch.specs.declared.BatchRecord.{BatchRecord}
use Rattle.numbers.specs.declared.ChannelNo.{ChannelNo}
use Rattle.wire.specs.Record.{record_length, RecordFits}
use Rattle.network.specs.Counting.{one, occupied}
use Rattle.network.specs.Network.{Network, NodeState, ChannelState, Phase, resting, answering, node_no, channel_no, count_of_nodes, count_of_channels, no_node, no_channel, node, channel, with_node, with_channel}
use Rattle.network.specs.Sound.{next_count}
use Rattle.network.specs.Calls.{join_line, leave_line, deliver, leave, pass}
use Rattle.network.specs.Layout.{node_room, channel_room, row_length, cell_room, row, padded, rows, cells_of, phase_code, offered_flag, offer_bytes, carried_bytes, by_node, by_channel, hold_head, hold, with_deliveries, ring_in}
use Rattle.network.proofs.Memory.Rows.{cells-append, get_d-padded, padded-more, length-cells, row-end, get_d-row, put_row, put-push}
use Rattle.network.proofs.Memory.Held.{Fits, HeldNode, HeldChannel, held, held-node, held-channel}
use Rattle.network.proofs.Memory.Changes.{numbers, cells, numbers-set, numbers-left, cells-set, cells_left, hold-with-node, hold-with-channel}
use Rattle.updates.specs.Flat.{appended, cut_row, cut_at, joined, shortened, left, entered, passed, phased, offered, unoffered, answered, rested, handed_out}
use Rattle.updates.proofs.Records.{recorded_row, cleared-row}
use Rattle.updates.proofs.Lines.{SplitAt}

-- rows

-- one message is cut out of the queue of a row: those before it, and those behind it
module _ (n : ℕ) (front : List ChannelNo) (k : ChannelNo) (back : List ChannelNo) (l : length front + length back < n) where
  cells_cut : padded n (cells_of (front ++ back)) ≡ cut_row (padded n (cells_of (front ++ (k ∷ back)))) (length front)
  cells_cut =
      let blanks : ℕ = n - (length front + length back + 1) in
      let rest : List ℕ = cells_of back ++ replicate blanks 0 in
      let fits : length (cells_of (front ++ (k ∷ back))) + blanks ≡ n =
      ap (λ m. m + blanks) (length-cells (front ++ (k ∷ back)) ∙ length-append front (k ∷ back)) ∙ omega arith in
      let fits' : length (cells_of (front ++ back)) + (blanks + 1) ≡ n =
      ap (λ m. m + (blanks + 1)) (length-cells (front ++ back) ∙ length-append front back) ∙ omega arith in
      let before : padded n (cells_of (front ++ (k ∷ back))) ≡ cells_of front ++ (suc k.0 ∷ rest) =
      padded-more n blanks (cells_of (front ++ (k ∷ back))) fits
      ∙ ap (λ xs. xs ++ replicate blanks 0) (cells-append front (k ∷ back))
      ∙ append_assoc (cells_of front) (suc k.0 ∷ cells_of back) (replicate blanks 0) in
      let first_part : take (length front) (cells_of front ++ (suc k.0 ∷ rest)) ≡ cells_of front =
      take_at (cells_of front) (suc k.0 ∷ rest) (length front) (length-cells front) in
      let last-part : drop (length front + 1) (cells_of front ++ (suc k.0 ∷ rest)) ≡ rest =
      sym (drop-drop 1 (length front) (cells_of front ++ (suc k.0 ∷ rest)))
      ∙ ap (drop 1) (drop_at (cells_of front) (suc k.0 ∷ rest) (length front) (length-cells front)) in
      padded-more n (blanks + 1) (cells_of (front ++ back)) fits'
      ∙ ap (λ xs. xs ++ replicate (blanks + 1) 0) (cells-append front back)
      ∙ append_assoc (cells_of front) (cells_of back) (replicate (blanks + 1) 0)
      ∙ ap (λ r. cells_of front ++ (cells_of back ++ r)) (sym (replicate-append-replicate {A = ℕ} blanks 1 0))
      ∙ ap (λ r. cells_of front ++ r) (sym (append_assoc (cells_of back) (replicate blanks 0) (0 ∷ [])))
      ∙ (λ i. sym first_part i ++ (sym last-part i ++ (0 ∷ [])))
      ∙ ap (λ r. cut_row r (length front)) (sym before)

pub cut-put : (rs : List ℕ) (p : ℕ) (front : List ChannelNo) (k : ChannelNo) (back : List ChannelNo) →
    row row_length rs p ≡ padded row_length (cells_of (front ++ (k ∷ back))) → length front + length back < row_length →
    cut_at rs p (length front) ≡ put_row row_length rs p (cells_of (front ++ back))
unfolding put_row
cut-put rs p front k back e l = rw (e, ← cells_cut row_length front k back l)

-- the first cell of a row says the first of its queue
pub first_cell : (rs : List ℕ) (p : ℕ) (k : ChannelNo) (ks : List ChannelNo) → row row_length rs p ≡ padded row_length (cells_of (k ∷ ks)) →
    get_or rs (row_length * p) 0 ≡ suc k.0
first_cell rs p k ks e =
    ap (λ i. get_or rs i 0) (sym (add-zero (row_length * p)))
    ∙ sym (get_d-row row_length rs p 0 (omega arith))
    ∙ ap (λ r. get_or r 0 0) e
    ∙ get_d-padded row_length (cells_of (k ∷ ks)) 0 (omega arith)

one_less : (n : ℕ) → suc n - 1 ≡ n
one_less n = omega arith

-- the mark after a message has passed in
mark-passed : (m : Bool) (ys : List ChannelNo) → one (m || occupied ys) ≡ cond (ltb 0 (length ys)) 1 (one m)
mark-passed true [] = refl
mark-passed false [] = refl
mark-passed true (y ∷ ys) = rw (lt-ltb 0 (suc (length ys)) (omega arith))
mark-passed false (y ∷ ys) = rw (lt-ltb 0 (suc (length ys)) (omega arith))

-- and after one has left a line
mark-left : (m : Bool) (front back : List ChannelNo) →
    one (m && occupied (front ++ back)) ≡ cond (ltb 1 (suc (length (front ++ back)))) (one m) 0
mark-left true [] [] = refl
mark-left false [] [] = refl
mark-left true [] (y ∷ ys) = rw (lt-ltb 1 (suc (suc (length ys))) (omega arith))
mark-left false [] (y ∷ ys) = rw (lt-ltb 1 (suc (suc (length ys))) (omega arith))
mark-left true (x ∷ xs) ys = rw (lt-ltb 1 (suc (suc (length (xs ++ ys)))) (omega arith))
mark-left false (x ∷ xs) ys = rw (lt-ltb 1 (suc (suc (length (xs ++ ys)))) (omega arith))

module _ (σ : Network) (fits : Fits σ) where
  -- one node and its rows are changed

  module _ (p : ℕ) (l : p < count_of_nodes σ) where
    inside : p < node_room
    inside = omega (arith, fits.nodes-fit)

    here : HeldNode (hold σ) σ p
    here = held-node σ p inside

    -- a number of the node, and a row, stored or left
    stored : (s : NodeState) (f : NodeState → ℕ) {v : ℕ} → f s ≡ v →
        numbers no_node node_room σ.nodes f (set σ.nodes p s) ≡ set (by_node σ f) p v
    stored s f e = numbers-set no_node node_room σ.nodes p s l f fits.nodes-fit ∙ ap (set (by_node σ f) p) e

    kept : (s : NodeState) (f : NodeState → ℕ) → f s ≡ f (node σ (node_no p)) →
        numbers no_node node_room σ.nodes f (set σ.nodes p s) ≡ by_node σ f
    kept s f e = numbers-left no_node node_room σ.nodes p s l f e

    put : (s : NodeState) (f : NodeState → List ℕ) {rs : List ℕ} →
        put_row row_length (rows row_length node_room (λ q. f (node σ (node_no q)))) p (f s) ≡ rs →
        cells no_node node_room σ.nodes row_length f (set σ.nodes p s) ≡ rs
    put s f e = cells-set no_node node_room σ.nodes p s l row_length f fits.nodes-fit ∙ e

    same : (s : NodeState) (f : NodeState → List ℕ) → f s ≡ f (node σ (node_no p)) →
        cells no_node node_room σ.nodes row_length f (set σ.nodes p s) ≡ rows row_length node_room (λ q. f (node σ (node_no q)))
    same s f e = cells_left no_node node_room σ.nodes p s l row_length f e

    -- a cell after the used ones
    pushed : (rs : List ℕ) (xs : List ChannelNo) (k : ChannelNo) {used : ℕ} → length rs ≡ cell_room →
        row row_length rs p ≡ padded row_length (cells_of xs) →
        used ≡ length xs → length xs < row_length → put_row row_length rs p (cells_of (xs ++ (k ∷ []))) ≡ appended rs p used (suc k.0)
    pushed rs xs k whole e count room =
        put-push row_length rs p xs k (rw whole (row-end row_length node_room p inside)) e room
        ∙ ap (λ u. appended rs p u (suc k.0)) (sym count)

    pushed-buffer : (k : ChannelNo) → length (node σ (node_no p)).buffer < row_length →
        put_row row_length (hold σ).slots p (cells_of ((node σ (node_no p)).buffer ++ (k ∷ [])))
        ≡ appended (hold σ).slots p (get_or (hold σ).head.used p 0) (suc k.0)
    pushed-buffer k = pushed (hold σ).slots (node σ (node_no p)).buffer k (held σ).slots-whole here.buffer-row here.used

    -- one more, and one less
    more : (xs : List ChannelNo) (k : ChannelNo) {n : ℕ} → n ≡ length xs → length (xs ++ (k ∷ [])) ≡ n + 1
    more xs k e = length-append xs (k ∷ []) ∙ ap (λ m. m + 1) (sym e)

    less : (k : ChannelNo) (ks : List ChannelNo) {n : ℕ} {xs : List ChannelNo} → n ≡ length xs → xs ≡ k ∷ ks → length ks ≡ n - 1
    less k ks e same = sym (ap (λ m. m - 1) (e ∙ ap length same) ∙ one_less (length ks))

    pub joined-held : (k : ChannelNo) → length (node σ (node_no p)).line < row_length →
        joined (hold σ) p (suc k.0) ≡ hold (join_line (node_no p) k σ)
    unfolding hold hold_head
    joined-held k room =
        sym
        (hold-with-node σ fits p _ _ _ l
        (kept _ (λ s. length s.buffer) refl)
        (stored _ (λ s. length s.line) (more (node σ (node_no p)).line k here.waiting))
        (kept _ (λ s. one s.mark) refl)
        (same _ (λ s. cells_of s.buffer) refl)
        (put _ (λ s. cells_of s.line)
        (pushed (hold σ).lines (node σ (node_no p)).line k (held σ).lines-whole here.line_row here.waiting room)))

    -- a channel leaves the line where it stands
    pub shortened-held : (k i : ℕ) → SplitAt k (node σ (node_no p)).line i →
        shortened (hold σ) p i ≡ hold (leave_line (node_no p) (channel_no k) σ)
    unfolding hold hold_head
    shortened-held k i at =
        let xs : List ChannelNo = at.front ++ at.back in
        let fewer : length (node σ (node_no p)).line ≡ suc (length xs) =
        ap length at.whole ∙ length-append at.front (channel_no k ∷ at.back) ∙ omega (arith, length-append at.front at.back) in
        let waits : get_or (hold σ).head.waiting p 0 ≡ suc (length xs) = here.waiting ∙ fewer in
        let room : length at.front + length at.back < row_length =
        omega (arith, fits.line-fits p l, fewer, length-append at.front at.back) in
        ap (λ j. shortened (hold σ) p j) (sym at.place)
        ∙ sym
        (ap (λ ys. hold (with_node (node_no p) (node σ (node_no p)).buffer ys ((node σ (node_no p)).mark && occupied ys) σ)) at.taken_out
        ∙ hold-with-node σ fits p _ xs _ l
        (kept _ (λ s. length s.buffer) refl)
        (stored _ (λ s. length s.line) (sym (ap (λ m. m - 1) waits ∙ one_less (length xs))))
        (stored _ (λ s. one s.mark)
        (mark-left (node σ (node_no p)).mark at.front at.back ∙ (λ i. cond (ltb 1 (sym waits i)) (sym here.mark i) 0)))
        (same _ (λ s. cells_of s.buffer) refl)
        (put _ (λ s. cells_of s.line)
        (sym (cut-put (hold σ).lines p at.front (channel_no k) at.back
        (here.line_row ∙ ap (λ ys. padded row_length (cells_of ys)) at.whole) room))))

    pub left-held : (k : ChannelNo) (ks : List ChannelNo) → (node σ (node_no p)).buffer ≡ k ∷ ks → left (hold σ) p ≡ hold (leave (node_no p) ks σ)
    unfolding hold hold_head
    left-held k ks e =
        let room : length (k ∷ ks) ≤ row_length = rw e at (fits.buffer-fits p l) in
        sym
        (hold-with-node σ fits p ks _ _ l
        (stored _ (λ s. length s.buffer) (less k ks here.used e))
        (kept _ (λ s. length s.line) refl)
        (kept _ (λ s. one s.mark) refl)
        (put _ (λ s. cells_of s.buffer)
        (sym (cut-put (hold σ).slots p [] k ks (here.buffer-row ∙ ap (λ xs. padded row_length (cells_of xs)) e) (omega arith))))
        (same _ (λ s. cells_of s.line) refl))

    pub entered-held : (k : ChannelNo) (ks : List ChannelNo) → (node σ (node_no p)).line ≡ k ∷ ks →
        length (node σ (node_no p)).buffer < row_length →
        entered (hold σ) p ≡ hold (with_node (node_no p) ((node σ (node_no p)).buffer ++ (k ∷ [])) ks false σ)
    unfolding hold hold_head
    entered-held k ks e room =
        let whole : length (k ∷ ks) ≤ row_length = rw e at (fits.line-fits p l) in
        let line_row : row row_length (hold σ).lines p ≡ padded row_length (cells_of (k ∷ ks)) =
        here.line_row ∙ ap (λ xs. padded row_length (cells_of xs)) e in
        rw (first_cell (hold σ).lines p k ks line_row)
        (sym
        (hold-with-node σ fits p _ ks false l
        (stored _ (λ s. length s.buffer) (more (node σ (node_no p)).buffer k here.used))
        (stored _ (λ s. length s.line) (less k ks here.waiting e))
        (stored _ (λ s. one s.mark) refl)
        (put _ (λ s. cells_of s.buffer) (pushed-buffer k room))
        (put _ (λ s. cells_of s.line) (sym (cut-put (hold σ).lines p [] k ks line_row (omega arith))))))

    pub passed-held : (k : ChannelNo) → length (node σ (node_no p)).buffer < row_length →
        passed (hold σ) p (suc k.0) ≡ hold (pass (node_no p) k σ)
    unfolding hold hold_head
    passed-held k room =
        sym
        (hold-with-node σ fits p _ _ _ l
        (stored _ (λ s. length s.buffer) (more (node σ (node_no p)).buffer k here.used))
        (kept _ (λ s. length s.line) refl)
        (stored _ (λ s. one s.mark)
        (mark-passed (node σ (node_no p)).mark (node σ (node_no p)).line ∙ (λ i. cond (ltb 0 (sym here.waiting i)) 1 (sym here.mark i))))
        (put _ (λ s. cells_of s.buffer) (pushed-buffer k room))
        (same _ (λ s. cells_of s.line) refl))

  -- one channel and its records are changed

  module _ (k : ℕ) (l : k < count_of_channels σ) where
    within : k < channel_room
    within = omega (arith, fits.channels-fit)

    there : HeldChannel (hold σ) σ k
    there = held-channel σ k within

    stored-to : (s : ChannelState) (f : ChannelState → ℕ) →
        numbers no_channel channel_room σ.channels f (set σ.channels k s) ≡ set (by_channel σ f) k (f s)
    stored-to s f = numbers-set no_channel channel_room σ.channels k s l f fits.channels-fit

    left_as : (s : ChannelState) (f : ChannelState → ℕ) → f s ≡ f (channel σ (channel_no k)) →
        numbers no_channel channel_room σ.channels f (set σ.channels k s) ≡ by_channel σ f
    left_as s f e = numbers-left no_channel channel_room σ.channels k s l f e

    written : (s : ChannelState) (f : ChannelState → List ℕ) {rs : List ℕ} →
        rs ≡ put_row record_length (rows record_length channel_room (λ j. f (channel σ (channel_no j)))) k (f s) →
        cells no_channel channel_room σ.channels record_length f (set σ.channels k s) ≡ rs
    written s f e = cells-set no_channel channel_room σ.channels k s l record_length f fits.channels-fit ∙ sym e

    unwritten : (s : ChannelState) (f : ChannelState → List ℕ) → f s ≡ f (channel σ (channel_no k)) →
        cells no_channel channel_room σ.channels record_length f (set σ.channels k s)
        ≡ rows record_length channel_room (λ j. f (channel σ (channel_no j)))
    unwritten s f e = cells_left no_channel channel_room σ.channels k s l record_length f e

    -- a phase alone, where neither carries a record
    pub phased-held : (f : Phase) → carried_bytes f ≡ carried_bytes (channel σ (channel_no k)).phase →
        phased (hold σ) k (phase_code f) ≡ hold (with_channel (channel_no k) f (channel σ (channel_no k)).offer σ)
    unfolding hold hold_head
    phased-held f e =
        sym
        (hold-with-channel σ fits k f _ l
        (stored-to _ (λ s. phase_code s.phase))
        (left_as _ (λ s. offered_flag s.offer) refl)
        (unwritten _ (λ s. offer_bytes s.offer) refl)
        (unwritten _ (λ s. carried_bytes s.phase) e))

    pub offered-held : (x : BatchRecord) → RecordFits x →
        offered (hold σ) k x ≡ hold (with_channel (channel_no k) (channel σ (channel_no k)).phase (some x) σ)
    unfolding hold hold_head
    offered-held x f =
        sym
        (hold-with-channel σ fits k _ (some x) l
        (left_as _ (λ s. phase_code s.phase) refl)
        (stored-to _ (λ s. offered_flag s.offer))
        (written _ (λ s. offer_bytes s.offer) (recorded_row (hold σ).offers k x f))
        (unwritten _ (λ s. carried_bytes s.phase) refl))

    pub unoffered-held : unoffered (hold σ) k ≡ hold (with_channel (channel_no k) (channel σ (channel_no k)).phase none σ)
    unfolding hold hold_head
    unoffered-held =
        sym
        (hold-with-channel σ fits k _ none l
        (left_as _ (λ s. phase_code s.phase) refl)
        (stored-to _ (λ s. offered_flag s.offer))
        (written _ (λ s. offer_bytes s.offer) (cleared-row (hold σ).offers k))
        (unwritten _ (λ s. carried_bytes s.phase) refl))

    pub answered-held : (x : BatchRecord) → RecordFits x →
        answered (hold σ) k x ≡ hold (with_channel (channel_no k) (answering x) (channel σ (channel_no k)).offer σ)
    unfolding hold hold_head
    answered-held x f =
        sym
        (hold-with-channel σ fits k (answering x) _ l
        (stored-to _ (λ s. phase_code s.phase))
        (left_as _ (λ s. offered_flag s.offer) refl)
        (unwritten _ (λ s. offer_bytes s.offer) refl)
        (written _ (λ s. carried_bytes s.phase) (recorded_row (hold σ).carried k x f)))

    rested-held : rested (hold σ) k ≡ hold (with_channel (channel_no k) resting (channel σ (channel_no k)).offer σ)
    unfolding hold hold_head
    rested-held =
        sym
        (hold-with-channel σ fits k resting _ l
        (stored-to _ (λ s. phase_code s.phase))
        (left_as _ (λ s. offered_flag s.offer) refl)
        (unwritten _ (λ s. offer_bytes s.offer) refl)
        (written _ (λ s. carried_bytes s.phase) (cleared-row (hold σ).carried k)))

    pub handed-out-held : handed_out (hold σ) k ≡ hold (deliver (channel_no k) σ)
    unfolding hold hold_head
    handed-out-held =
        ap (λ r. ring_in (with_deliveries r.head (next_count σ.deliveries)) r.slots r.lines r.offers r.carried)
        rested-held
