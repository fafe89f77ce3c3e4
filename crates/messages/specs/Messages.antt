-- What the tests of this crate decide: cells that hold nothing are zero (`Blank`), and in the rows each message stands once, and where it
-- may, and exactly the channels that have one on the ring have one there (`MessagesFit`).
use Rattle.std.specs.Prelude.{ℕ, zero, suc, pred, ◌*◌, ◌<◌, min, ◌≡◌, Bool, true, false, cond, not, ◌&&◌, ◌||◌, List, [], ◌∷◌, eqb, leb, ltb, length, get_or, set, take, drop, replicate, Option, None, Some}
use Rattle.hops.specs.Hops.{hops_between}
use Rattle.network.specs.declared.Head.{Head}
use Rattle.network.specs.declared.Ring.{Ring}
use Rattle.network.specs.Counting.{sum}
use Rattle.network.specs.Layout.{channel_room, row_length, cell_room, row, resting_code, asking_code, ready_code}
use Rattle.messages.specs.declared.rows.Place.{Place}
use Rattle.messages.specs.declared.rows.Place.TheVariants.{Buffer, Line}

abbrev pub Blank : List ℕ → Type 0
Blank cells = (i : ℕ) → get_or cells i 0 ≡ 0

-- Node p of n is on the way from the node of entry up to the one before the target: no further from the target than the entry is. Only the
-- rows of the n nodes are read, so p is always one of them.
unfoldable pub on_the_way : ℕ → ℕ → ℕ → ℕ → Bool
on_the_way n p entry target = leb (hops_between n p target) (hops_between n entry target)

-- A channel's message enters at its receiver where it asks, else at its sender, and goes to the other. It may stand in the line at its
-- node of entry, or in a buffer on its way.
abbrev pub may_stand_between : ℕ → ℕ → ℕ → Place → Bool
may_stand_between n entry target (Buffer p) = on_the_way n p entry target
may_stand_between n entry target (Line p) = eqb p entry

unfoldable pub may_stand : Head → ℕ → Place → Bool
may_stand head k place =
    let asks = eqb (get_or head.phases k 0) asking_code in
    may_stand_between head.node_count (cond asks (get_or head.receivers k 0) (get_or head.senders k 0))
    (cond asks (get_or head.senders k 0) (get_or head.receivers k 0)) place

-- The pass over the rows of cells notes in a table, by channel, that a channel's message was met. It stops at a cell that isn't used,
-- names no channel in use, names one that was met before, or one whose message may not stand there.

abbrev pub Table : Type 0
Table = List Bool

-- a step that is taken where there is a table
abbrev pub and_then : Option Table → (Table → Option Table) → Option Table
and_then None step = None
and_then (Some met) step = step met

-- a used cell of a channel in use that was met nowhere else, and may stand here
unfoldable pub fresh : Head → Place → Table → ℕ → Bool
fresh head place met cell =
    ltb 0 cell && leb cell head.channel_count && not (get_or met (pred cell) false) && may_stand head (pred cell) place

-- the table after some cells at a place
unfoldable pub mark : Head → Place → List ℕ → Table → Option Table
mark head place [] met = Some met
mark head place (x ∷ xs) met = cond (fresh head place met x) (mark head place xs (set met (pred x) true)) None

-- how many cells of a row are not zero
unfoldable pub cells_in_use : List ℕ → ℕ
cells_in_use cells = sum row_length (λ i. min 1 (get_or cells i 0))

-- the table after a row: as many cells are in use as are said to be, and they are the first
unfoldable pub mark_row : Head → Place → ℕ → List ℕ → Table → Option Table
mark_row head place used cells met = cond (eqb (cells_in_use cells) used) (mark head place (take used cells) met) None

-- the table after the rows of a node, its buffer and its line
unfoldable pub mark_node : Ring → ℕ → Table → Option Table
mark_node ring p met =
    and_then (mark_row ring.head (Buffer p) (get_or ring.head.used p 0) (row row_length ring.slots p) met)
    (mark_row ring.head (Line p) (get_or ring.head.waiting p 0) (row row_length ring.lines p))

-- the table after the rows of n nodes
unfoldable pub mark_rows : Ring → ℕ → Table → Option Table
mark_rows ring zero met = Some met
mark_rows ring (suc p) met = and_then (mark_rows ring p met) (mark_node ring p)

-- the table after all rows
unfoldable pub mark_all : Ring → Option Table
mark_all ring = mark_rows ring ring.head.node_count (replicate channel_room false)

-- what a pass answers and leaves: true and the table, or false
pub record Marked (answer : Bool) (left : Table) (table : Option Table) : Type 0 where
  pub passed : answer ≡ true → table ≡ Some left
  pub stopped : answer ≡ false → table ≡ None

-- whether a channel has a message on the ring, by the code of its phase
abbrev pub has_message : ℕ → Bool
has_message phase = not (eqb phase resting_code || eqb phase ready_code)

pub record MessagesFit (ring : Ring) : Type 0 where
  pub slots-whole : length ring.slots ≡ cell_room
  pub lines-whole : length ring.lines ≡ cell_room
  pub slots-beyond : Blank (drop (row_length * ring.head.node_count) ring.slots)
  pub lines-beyond : Blank (drop (row_length * ring.head.node_count) ring.lines)
  pub met : Table
  pub marked : mark_all ring ≡ Some met
  pub right : (k : ℕ) → k < ring.head.channel_count → get_or met k false ≡ has_message (get_or ring.head.phases k 0)
