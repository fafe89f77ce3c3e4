-- Lines of the report that document 01 shows, the delivery in hundredths, and one with a temperature below 0 and no name. Each row has the
-- bytes that a line is to be, and the line as it is defined.
use Rattle.std.specs.Prelude.{ℕ, ◌≡◌, List, [], ◌∷◌, ◌++◌, map, pos, neg_ℤ, replicate, Ok, Err}
use Rattle.refusal.specs.declared.Refusal.TheVariants.{BufferEmpty}
use Rattle.batch.specs.Good.{record_of}
use Rattle.network.specs.declared.Answer.TheVariants.{Delivered}
use Rattle.report.specs.Line.{line_of, end_of}

pub record LineRow : Type 0 where
  pub bytes : List ℕ
  pub line : List ℕ

abbrev row : List ℕ → List ℕ → LineRow
row bytes line = record { bytes = bytes; line = line }

-- `11 23 0 delivered 0 7 3 6120 2 A1`
abbrev delivery_row : LineRow
delivery_row =
    row
    ((0x31 ∷ 0x31 ∷ 0x20 ∷ 0x32 ∷ 0x33 ∷ 0x20 ∷ 0x30 ∷ [])
    ++ (0x20 ∷ 0x64 ∷ 0x65 ∷ 0x6C ∷ 0x69 ∷ 0x76 ∷ 0x65 ∷ 0x72 ∷ 0x65 ∷ 0x64 ∷ [])
    ++ (0x20 ∷ 0x30 ∷ 0x20 ∷ 0x37 ∷ 0x20 ∷ 0x33 ∷ 0x20 ∷ 0x36 ∷ 0x31 ∷ 0x32 ∷ 0x30 ∷ 0x20 ∷ 0x32 ∷ 0x20 ∷ 0x41 ∷ 0x31 ∷ 0x0A ∷ []))
    (line_of 11 0x23
    (Ok (Delivered (record { 0 = 0 }) (record_of 7 3 (pos 6120) 2 (0x41 ∷ 0x31 ∷ replicate 30 0)))))

-- `12 23 19`
abbrev refusal_row : LineRow
refusal_row =
    row (0x31 ∷ 0x32 ∷ 0x20 ∷ 0x32 ∷ 0x33 ∷ 0x20 ∷ 0x31 ∷ 0x39 ∷ 0x0A ∷ [])
    (line_of 12 0x23 (Err BufferEmpty))

-- `end 10 2`
abbrev end_row : LineRow
end_row = row (0x65 ∷ 0x6E ∷ 0x64 ∷ 0x20 ∷ 0x31 ∷ 0x30 ∷ 0x20 ∷ 0x32 ∷ 0x0A ∷ []) (end_of 10 2)

-- `5 af 0 delivered 63 1 255 -4000 0`
abbrev cold_row : LineRow
cold_row =
    row
    ((0x35 ∷ 0x20 ∷ 0x61 ∷ 0x66 ∷ 0x20 ∷ 0x30 ∷ [])
    ++ (0x20 ∷ 0x64 ∷ 0x65 ∷ 0x6C ∷ 0x69 ∷ 0x76 ∷ 0x65 ∷ 0x72 ∷ 0x65 ∷ 0x64 ∷ [])
    ++ (0x20 ∷ 0x36 ∷ 0x33 ∷ 0x20 ∷ 0x31 ∷ 0x20 ∷ 0x32 ∷ 0x35 ∷ 0x35 ∷ 0x20 ∷ 0x2D ∷ 0x34 ∷ 0x30 ∷ 0x30 ∷ 0x30 ∷ 0x20 ∷ 0x30 ∷ 0x0A ∷ []))
    (line_of 5 0xAF
    (Ok (Delivered (record { 0 = 63 }) (record_of 1 255 (neg_ℤ (pos 4000)) 0 (replicate 32 0)))))

-- every row's line has the row's bytes
abbrev rows : List LineRow
rows = delivery_row ∷ refusal_row ∷ end_row ∷ cold_row ∷ []

abbrev pub AsShown : Type 0
AsShown = map (λ r. r.line) rows ≡ map (λ r. r.bytes) rows
