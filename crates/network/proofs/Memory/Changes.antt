-- Memory. Each change of a ring that the calls are made of, as it shows in memory: a number of the head is stored to, or a row is
-- rewritten, where the change shows, and what it leaves is left in memory too.
use Prim.Native.Nat.{ℕ, ◌+◌, ◌≤◌, ◌<◌}
use mathlib.Core.Path.{◌≡◌, refl, sym, ap, ◌∙◌}
use mathlib.Core.Bool.{Bool, false}
use mathlib.Core.List.{List, [], ◌∷◌, ◌++◌}
use mathlib.Core.Option.{Option, none}
use native.Mathlib.Omega.{arith}
use lib.ListN.{length, get_or, set, length-append, length-set, get_or-append, get_or-eq_default}
use lib.Seq.{get_or-set_same, get_or-set_other, get_or-append_seam}
use Rattle.batch.specs.declared.BatchRecord.{BatchRecord}
use Rattle.numbers.specs.declared.NodeNo.{NodeNo}
use Rattle.numbers.specs.declared.ChannelNo.{ChannelNo}
use Rattle.wire.specs.Record.{record_length}
use Rattle.network.specs.declared.Ring.{Ring}
use Rattle.network.specs.declared.Head.{Head}
use Rattle.network.specs.Counting.{one, tabulate}
use Rattle.network.specs.Network.{Network, NodeState, ChannelState, Phase, resting, node_no, channel_no, count_of_nodes, count_of_channels, no_node, no_channel, node, channel, with_node, with_channel, with_new_node, with_new_channel, with_started}
use Rattle.network.specs.Layout.{node_room, channel_room, row_length, rows, cells_of, phase_code, offered_flag, offer_bytes, carried_bytes, hold_head, hold, head_of, with_nodes, with_channels, ring_in}
use Rattle.network.proofs.Ground.Splits.{by-same, by_less}
use Rattle.network.proofs.Memory.Rows.{tabulate-same, tabulate-put, rows_same, rows-put, put_row, getD-snoc-same}
use Rattle.network.proofs.Lists.Tables.{set-alike}
use Rattle.network.proofs.Memory.Held.{Fits, OfferFits, CarriedFits}

-- what nodes or channels show in memory, of which there is room for n: numbers, and rows of w cells. One of them is another; one more
-- comes after them, where the numbers and rows beyond the last are those of nothing

module _ {ℓ} {A : Type ℓ} (nothing : A) (n : ℕ) (xs : List A) where
  abbrev pub numbers : (A → ℕ) → List A → List ℕ
  numbers f ys = tabulate n (λ i. f (get_or ys i nothing))

  abbrev pub cells : ℕ → (A → List ℕ) → List A → List ℕ
  cells w f ys = rows w n (λ i. f (get_or ys i nothing))

  module _ (p : ℕ) (s : A) (l : p < length xs) where
    pub numbers-set : (f : A → ℕ) → length xs ≤ n → numbers f (set xs p s) ≡ set (numbers f xs) p (f s)
    numbers-set f fit =
        tabulate-put n (λ i. f (get_or xs i nothing)) (λ i. f (get_or (set xs p s) i nothing)) p (omega arith)
        (λ i m d. ap f (get_or-set_other xs p i s nothing d))
        ∙ ap (λ t. set (numbers f xs) p (f t)) (get_or-set_same xs p s nothing l)

    pub cells-set : (w : ℕ) (f : A → List ℕ) → length xs ≤ n → cells w f (set xs p s) ≡ put_row w (cells w f xs) p (f s)
    cells-set w f fit =
        rows-put w n (λ i. f (get_or xs i nothing)) (λ i. f (get_or (set xs p s) i nothing)) p (omega arith)
        (λ i m d. ap f (get_or-set_other xs p i s nothing d))
        ∙ ap (λ t. put_row w (cells w f xs) p (f t)) (get_or-set_same xs p s nothing l)

    -- one that shows the same leaves what is shown
    shows {κ} : {B : Type κ} (f : A → B) → f s ≡ f (get_or xs p nothing) → (i : ℕ) →
        f (get_or (set xs p s) i nothing) ≡ f (get_or xs i nothing)
    shows f e i = ap (λ table. table i) (set-alike f xs p s nothing l e)

    pub numbers-left : (f : A → ℕ) → f s ≡ f (get_or xs p nothing) → numbers f (set xs p s) ≡ numbers f xs
    numbers-left f e = tabulate-same n _ _ (λ i m. shows f e i)

    pub cells_left : (w : ℕ) (f : A → List ℕ) → f s ≡ f (get_or xs p nothing) → cells w f (set xs p s) ≡ cells w f xs
    cells_left w f e = rows_same w n _ _ (λ i m. shows f e i)

    -- what holds of each still does, where it holds of the new one
    pub each_set {κ} : (P : A → Type κ) → ((i : ℕ) → i < length xs → P (get_or xs i nothing)) → P s →
        (i : ℕ) → i < length (set xs p s) → P (get_or (set xs p s) i nothing)
    each_set P each new i m =
        by-same i p
        (λ here. rw (here, get_or-set_same xs p s nothing l) new)
        (λ other. rw (get_or-set_other xs p i s nothing other) (each i (rw length-set at m)))

  module _ (s : A) where
    pub numbers-snoc : (f : A → ℕ) → length xs < n → numbers f (xs ++ (s ∷ [])) ≡ set (numbers f xs) (length xs) (f s)
    numbers-snoc f fit =
        tabulate-put n (λ i. f (get_or xs i nothing)) (λ i. f (get_or (xs ++ (s ∷ [])) i nothing)) (length xs) fit
        (λ i m d.
        by_less i (length xs)
        (λ in_List. ap f (get_or-append xs (s ∷ []) nothing i in_List))
        (λ beyond.
        ap f
        (get_or-eq_default (xs ++ (s ∷ [])) nothing (omega (arith, length-append xs (s ∷ [])))
        ∙ sym (get_or-eq_default xs nothing beyond))))
        ∙ ap (λ t. set (numbers f xs) (length xs) (f t)) (get_or-append_seam xs s [] nothing)

    pub numbers-snoc-left : (f : A → ℕ) → f s ≡ f nothing → numbers f (xs ++ (s ∷ [])) ≡ numbers f xs
    numbers-snoc-left f e = tabulate-same n _ _ (λ i m. getD-snoc-same f xs s nothing i e)

    pub cells-snoc-left : (w : ℕ) (f : A → List ℕ) → f s ≡ f nothing → cells w f (xs ++ (s ∷ [])) ≡ cells w f xs
    cells-snoc-left w f e = rows_same w n _ _ (λ i m. getD-snoc-same f xs s nothing i e)

module _ (σ : Network) (fits : Fits σ) where
  -- one node is another with the same slots

  module _ (p : ℕ) (xs ys : List ChannelNo) (m : Bool) (l : p < count_of_nodes σ) where
    abbrev another : NodeState
    another = record { slots = (node σ (node_no p)).slots; buffer = xs; line = ys; mark = m }

    pub hold-with-node : {u w t slots lines : List ℕ} →
        numbers no_node node_room σ.nodes (λ s. length s.buffer) (set σ.nodes p another) ≡ u →
        numbers no_node node_room σ.nodes (λ s. length s.line) (set σ.nodes p another) ≡ w →
        numbers no_node node_room σ.nodes (λ s. one s.mark) (set σ.nodes p another) ≡ t →
        cells no_node node_room σ.nodes row_length (λ s. cells_of s.buffer) (set σ.nodes p another) ≡ slots →
        cells no_node node_room σ.nodes row_length (λ s. cells_of s.line) (set σ.nodes p another) ≡ lines →
        hold (with_node (node_no p) xs ys m σ) ≡ ring_in (with_nodes (hold σ).head u w t) slots lines (hold σ).offers (hold σ).carried
    unfolding hold hold_head
    hold-with-node eu ew et es el =
        λ i.
        ring_in
        (head_of σ.deliveries (one σ.started) (length-set σ.nodes p another i) (count_of_channels σ) 0
        (numbers-left no_node node_room σ.nodes p another l (λ s. s.slots) refl i)
        (eu i) (ew i) (et i)
        (hold σ).head.senders (hold σ).head.receivers (hold σ).head.phases (hold σ).head.offered)
        (es i) (el i) (hold σ).offers (hold σ).carried

    pub fits-with-node : length xs ≤ row_length → length ys ≤ row_length → Fits (with_node (node_no p) xs ys m σ)
    fits-with-node lx ly =
        record {
          nodes-fit = rw (length-set σ.nodes p another) fits.nodes-fit;
          channels-fit = fits.channels-fit;
          buffer-fits = each_set no_node node_room σ.nodes p another l (λ s. length s.buffer ≤ row_length) fits.buffer-fits lx;
          line-fits = each_set no_node node_room σ.nodes p another l (λ s. length s.line ≤ row_length) fits.line-fits ly;
          offer-fits = fits.offer-fits;
          carried-fits = fits.carried-fits;
        }

  -- one channel is another with the same ends

  module _ (k : ℕ) (f : Phase) (o : Option BatchRecord) (l : k < count_of_channels σ) where
    abbrev other : ChannelState
    other = record { sender = (channel σ (channel_no k)).sender; receiver = (channel σ (channel_no k)).receiver; phase = f; offer = o }

    pub hold-with-channel : {phases offered offers carried : List ℕ} →
        numbers no_channel channel_room σ.channels (λ s. phase_code s.phase) (set σ.channels k other) ≡ phases →
        numbers no_channel channel_room σ.channels (λ s. offered_flag s.offer) (set σ.channels k other) ≡ offered →
        cells no_channel channel_room σ.channels record_length (λ s. offer_bytes s.offer) (set σ.channels k other) ≡ offers →
        cells no_channel channel_room σ.channels record_length (λ s. carried_bytes s.phase) (set σ.channels k other) ≡ carried →
        hold (with_channel (channel_no k) f o σ)
        ≡ ring_in (with_channels (hold σ).head phases offered) (hold σ).slots (hold σ).lines offers carried
    unfolding hold hold_head
    hold-with-channel ep eo ef ec =
        λ i.
        ring_in
        (head_of σ.deliveries (one σ.started) (count_of_nodes σ) (length-set σ.channels k other i) 0
        (hold σ).head.capacity (hold σ).head.used (hold σ).head.waiting (hold σ).head.marks
        (numbers-left no_channel channel_room σ.channels k other l (λ s. s.sender.0) refl i)
        (numbers-left no_channel channel_room σ.channels k other l (λ s. s.receiver.0) refl i)
        (ep i) (eo i))
        (hold σ).slots (hold σ).lines (ef i) (ec i)

    pub fits-with-channel : OfferFits o → CarriedFits f → Fits (with_channel (channel_no k) f o σ)
    fits-with-channel fo ff =
        record {
          nodes-fit = fits.nodes-fit;
          channels-fit = rw length-set fits.channels-fit;
          buffer-fits = fits.buffer-fits;
          line-fits = fits.line-fits;
          offer-fits = each_set no_channel channel_room σ.channels k other l (λ s. OfferFits s.offer) fits.offer-fits fo;
          carried-fits = each_set no_channel channel_room σ.channels k other l (λ s. CarriedFits s.phase) fits.carried-fits ff;
        }

-- a node or a channel comes after the others; the start and the count of deliveries are a number each

-- the same head but for what the calls of a plan change, and for the count
abbrev pub planned : Head → ℕ → ℕ → ℕ → List ℕ → List ℕ → List ℕ → Head
planned h a n c cap senders receivers =
    head_of h.deliveries a n c h.spare cap h.used h.waiting h.marks senders receivers h.phases h.offered

abbrev pub with_head : Ring → Head → Ring
with_head ring h = ring_in h ring.slots ring.lines ring.offers ring.carried

module _ (σ : Network) where
  pub hold-with-new-node : (slots : ℕ) → count_of_nodes σ < node_room →
      hold (with_new_node slots σ)
      ≡ with_head (hold σ)
      (planned (hold σ).head (hold σ).head.started (count_of_nodes σ + 1) (count_of_channels σ)
      (set (hold σ).head.capacity (count_of_nodes σ) slots)
      (hold σ).head.senders
      (hold σ).head.receivers)
  unfolding hold hold_head
  hold-with-new-node slots l =
      let s : NodeState = record { slots = slots; buffer = []; line = []; mark = false } in
      let ns = σ.nodes in
      λ i.
      ring_in
      (head_of σ.deliveries (one σ.started) (length-append ns (s ∷ []) i) (count_of_channels σ) 0
      (numbers-snoc no_node node_room ns s (λ t. t.slots) l i)
      (numbers-snoc-left no_node node_room ns s (λ t. length t.buffer) refl i)
      (numbers-snoc-left no_node node_room ns s (λ t. length t.line) refl i)
      (numbers-snoc-left no_node node_room ns s (λ t. one t.mark) refl i)
      (hold σ).head.senders (hold σ).head.receivers (hold σ).head.phases (hold σ).head.offered)
      (cells-snoc-left no_node node_room ns s row_length (λ t. cells_of t.buffer) refl i)
      (cells-snoc-left no_node node_room ns s row_length (λ t. cells_of t.line) refl i)
      (hold σ).offers (hold σ).carried

  pub hold-with-new-channel : (sender receiver : NodeNo) → count_of_channels σ < channel_room →
      hold (with_new_channel sender receiver σ)
      ≡ with_head (hold σ)
      (planned (hold σ).head (hold σ).head.started (count_of_nodes σ) (count_of_channels σ + 1) (hold σ).head.capacity
      (set (hold σ).head.senders (count_of_channels σ) sender.0)
      (set (hold σ).head.receivers (count_of_channels σ) receiver.0))
  unfolding hold hold_head
  hold-with-new-channel sender receiver l =
      let s : ChannelState = record { sender = sender; receiver = receiver; phase = resting; offer = none } in
      let cs = σ.channels in
      λ i.
      ring_in
      (head_of σ.deliveries (one σ.started) (count_of_nodes σ) (length-append cs (s ∷ []) i) 0
      (hold σ).head.capacity (hold σ).head.used (hold σ).head.waiting (hold σ).head.marks
      (numbers-snoc no_channel channel_room cs s (λ t. t.sender.0) l i)
      (numbers-snoc no_channel channel_room cs s (λ t. t.receiver.0) l i)
      (numbers-snoc-left no_channel channel_room cs s (λ t. phase_code t.phase) refl i)
      (numbers-snoc-left no_channel channel_room cs s (λ t. offered_flag t.offer) refl i))
      (hold σ).slots (hold σ).lines
      (cells-snoc-left no_channel channel_room cs s record_length (λ t. offer_bytes t.offer) refl i)
      (cells-snoc-left no_channel channel_room cs s record_length (λ t. carried_bytes t.phase) refl i)

  pub hold-with-started : (b : Bool) →
      hold (with_started b σ)
      ≡ with_head (hold σ)
      (planned (hold σ).head (one b) (count_of_nodes σ) (count_of_channels σ) (hold σ).head.capacity (hold σ).head.senders
      (hold σ).head.receivers)
  unfolding hold hold_head
  hold-with-started b = refl
