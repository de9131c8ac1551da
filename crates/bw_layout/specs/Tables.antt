-- The `ds64` chunk with a table (ITU-R BS.2088).
use Rattle.std.specs.Prelude.{ℕ, List, ◌++◌, length, slice_range, flat_map}
use Rattle.bw_model.specs.Bytes.{le32, le64, u32_at, u64_at}

-- an entry: the id of a chunk, and its size in eight bytes
abbrev pub entry_bytes : (List ℕ × ℕ) → List ℕ
entry_bytes e = e.0 ++ le64 e.1

-- form and data size, no sample count, the table's length and the table
unfoldable pub ds64_with_table : ℕ → ℕ → List (List ℕ × ℕ) → List ℕ
ds64_with_table form data_size table =
    le64 form ++ le64 data_size ++ le64 0 ++ le32 (length table) ++ flat_map entry_bytes table

-- the entry at the start of these bytes
abbrev pub entry_at : List ℕ → List ℕ × ℕ
entry_at b = (slice_range b 0 4, u64_at b 4)

-- what comes before the table: form size, data size, the table's length
pub record Fixed : Type 0 where
  pub form : ℕ
  pub data_size : ℕ
  pub table_len : ℕ

-- the fixed part at the start of the bytes
abbrev pub fixed_at : List ℕ → Fixed
fixed_at b = record { form = u64_at b 0; data_size = u64_at b 8; table_len = u32_at b 24 }
