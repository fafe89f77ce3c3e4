-- The changes to a ring in memory that the calls are made of, on its numbers and rows. proofs/ shows each to be a change of the ring that
-- it holds.
use Rattle.std.specs.Prelude.{ℕ, ◌+◌, ◌-◌, ◌*◌, cond, List, [], ◌∷◌, ◌++◌, ltb, eqb, get_or, set, take, drop}
use Rattle.batch.specs.declared.BatchRecord.{BatchRecord}
use Rattle.batch.specs.Blank.{no_record}
use Rattle.wire.specs.Bytes.{overwritten}
use Rattle.wire.specs.Record.{record_length, record_bytes}
use Rattle.network.specs.declared.Head.{Head}
use Rattle.network.specs.declared.Ring.{Ring}
use Rattle.network.specs.Sound.{next_count}
use Rattle.network.specs.Layout.{row, row_length, with_nodes, with_channels, with_deliveries, ring_in, resting_code, asking_code, answering_code}

-- rows

-- the row of node p with a cell after its `used` ones
abbrev pub appended : List ℕ → ℕ → ℕ → ℕ → List ℕ
appended cells p used cell = set cells (row_length * p + used) cell

-- the row of node p without its cell at index i: those after it move up, and the last is zero
abbrev pub cut_row : List ℕ → ℕ → List ℕ
cut_row cells i = take i cells ++ (drop (i + 1) cells ++ (0 ∷ []))

abbrev pub cut_at : List ℕ → ℕ → ℕ → List ℕ
cut_at cells p i = take (row_length * p) cells ++ cut_row (row row_length cells p) i ++ drop (row_length * p + row_length) cells

-- the bytes of channel k's record
abbrev pub recorded : List ℕ → ℕ → BatchRecord → List ℕ
recorded records k x = overwritten records (record_length * k) (record_bytes x)

-- what the head says of a node and of a channel

abbrev pub capacity_at : Head → ℕ → ℕ
capacity_at h p = get_or h.capacity p 0

abbrev pub used_at : Head → ℕ → ℕ
used_at h p = get_or h.used p 0

abbrev pub waiting_at : Head → ℕ → ℕ
waiting_at h p = get_or h.waiting p 0

abbrev pub mark_at : Head → ℕ → ℕ
mark_at h p = get_or h.marks p 0

abbrev pub sender_at : Head → ℕ → ℕ
sender_at h k = get_or h.senders k 0

abbrev pub receiver_at : Head → ℕ → ℕ
receiver_at h k = get_or h.receivers k 0

abbrev pub phase_at : Head → ℕ → ℕ
phase_at h k = get_or h.phases k 0

abbrev pub offered_at : Head → ℕ → ℕ
offered_at h k = get_or h.offered k 0

-- the head after a message joined the line of p; left its buffer; entered from its line, the mark cleared; passed into its buffer, the
-- mark set where a line waits
abbrev pub joined_head : Head → ℕ → Head
joined_head h p = with_nodes h h.used (set h.waiting p (waiting_at h p + 1)) h.marks

abbrev pub left_head : Head → ℕ → Head
left_head h p = with_nodes h (set h.used p (used_at h p - 1)) h.waiting h.marks

abbrev pub entered_head : Head → ℕ → Head
entered_head h p =
    with_nodes h (set h.used p (used_at h p + 1)) (set h.waiting p (waiting_at h p - 1)) (set h.marks p 0)

-- and after one of the messages of its line left, the mark cleared where the line is left empty
abbrev pub mark_left : ℕ → ℕ → ℕ
mark_left waiting mark = cond (ltb 1 waiting) mark 0

abbrev pub shortened_head : Head → ℕ → Head
shortened_head h p =
    with_nodes h h.used (set h.waiting p (waiting_at h p - 1)) (set h.marks p (mark_left (waiting_at h p) (mark_at h p)))

abbrev pub mark_after : ℕ → ℕ → ℕ
mark_after waiting mark = cond (ltb 0 waiting) 1 mark

abbrev pub passed_head : Head → ℕ → Head
passed_head h p =
    with_nodes h (set h.used p (used_at h p + 1)) h.waiting (set h.marks p (mark_after (waiting_at h p) (mark_at h p)))

-- the head with another phase of channel k, and with its offer there or not
abbrev pub phased_head : Head → ℕ → ℕ → Head
phased_head h k phase = with_channels h (set h.phases k phase) h.offered

abbrev pub offered_head : Head → ℕ → ℕ → Head
offered_head h k flag = with_channels h h.phases (set h.offered k flag)

-- the ring after the same changes

abbrev pub joined : Ring → ℕ → ℕ → Ring
joined r p cell =
    ring_in (joined_head r.head p) r.slots (appended r.lines p (waiting_at r.head p) cell) r.offers r.carried

abbrev pub shortened : Ring → ℕ → ℕ → Ring
shortened r p i = ring_in (shortened_head r.head p) r.slots (cut_at r.lines p i) r.offers r.carried

abbrev pub left : Ring → ℕ → Ring
left r p = ring_in (left_head r.head p) (cut_at r.slots p 0) r.lines r.offers r.carried

abbrev pub entered : Ring → ℕ → Ring
entered r p =
    ring_in (entered_head r.head p)
    (appended r.slots p (used_at r.head p) (get_or r.lines (row_length * p) 0))
    (cut_at r.lines p 0)
    r.offers
    r.carried

abbrev pub passed : Ring → ℕ → ℕ → Ring
passed r p cell =
    ring_in (passed_head r.head p) (appended r.slots p (used_at r.head p) cell) r.lines r.offers r.carried

-- another phase alone; the record offered, and no more offered; answering with the record carried; at rest with nothing carried
abbrev pub phased : Ring → ℕ → ℕ → Ring
phased r k phase = ring_in (phased_head r.head k phase) r.slots r.lines r.offers r.carried

abbrev pub offered : Ring → ℕ → BatchRecord → Ring
offered r k x = ring_in (offered_head r.head k 1) r.slots r.lines (recorded r.offers k x) r.carried

abbrev pub unoffered : Ring → ℕ → Ring
unoffered r k = ring_in (offered_head r.head k 0) r.slots r.lines (recorded r.offers k no_record) r.carried

abbrev pub answered : Ring → ℕ → BatchRecord → Ring
answered r k x = ring_in (phased_head r.head k answering_code) r.slots r.lines r.offers (recorded r.carried k x)

abbrev pub rested : Ring → ℕ → Ring
rested r k = ring_in (phased_head r.head k resting_code) r.slots r.lines r.offers (recorded r.carried k no_record)

-- answering, with the response in the sender node's line
abbrev pub responded : Ring → ℕ → BatchRecord → Ring
responded r k x = joined (answered r k x) (sender_at r.head k) (k + 1)

-- at rest, and one delivery more is counted
abbrev pub handed_out : Ring → ℕ → Ring
handed_out r k =
    ring_in (with_deliveries (rested r k).head (next_count r.head.deliveries)) r.slots r.lines r.offers
    (rested r k).carried

-- the node that takes the message of a channel that is asking or answering: its sender or its receiver, by the number of the phase
abbrev pub target_by : ℕ → ℕ → ℕ → ℕ
target_by phase sender receiver = cond (eqb phase asking_code) sender receiver
