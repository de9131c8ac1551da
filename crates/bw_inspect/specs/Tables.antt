-- The `ds64` chunk.
use Rattle.std.specs.Prelude.{◌≡◌, ℕ, ◌||◌, not, Bool, List, [], ◌∷◌, length, codes}
use Rattle.std.specs.Prelude.{Option, Some, None, nat_lt, ◌==◌}
use Rattle.bw_model.specs.Limits.{most_entries}
use Rattle.bw_model.specs.Reading as reading
use Rattle.bw_model.specs.Report.{content_of}
use Rattle.bw_model.specs.Bytes.{first_that_holds, u32_at, u64_at, unsaid}
use Rattle.bw_layout.specs.Tables.{Fixed, fixed_at}
use Rattle.bw_layout.specs.declared.sizes.Ds64.{Ds64}
use Rattle.bw_inspect.specs.Chunks.{counted_faults, sizes_by}
use Rattle.bw_inspect.specs.Contents.{ReadTo, WantsRows}

-- the faults of its head
abbrev pub ds64_head_faults : List ℕ → List (Bool × reading.Fault)
ds64_head_faults b =
    reading.line (nat_lt (length b) 20) reading.NoDs64 12
    ∷ reading.line (not (reading.is_id (reading.id_at b 12) (codes "ds64"))) reading.NoDs64 12
    ∷ reading.line (nat_lt (u32_at b 16) 28 || (u32_at b 16 == unsaid)) reading.BadDs64 12
    ∷ []

-- the chunk that its head gives
abbrev pub ds64_entry : List ℕ → reading.Entry
ds64_entry b = record { id = reading.id_at b 12; place = 12; size = u32_at b 16 }

-- its head was read, and has no fault
pub record IsDs64Head (b : List ℕ) (e : reading.Entry) (left : Option (List ℕ)) : Type 0 where
  pub free : first_that_holds (ds64_head_faults b) ≡ None
  pub entry : e ≡ ds64_entry b
  pub to : ReadTo b e 0 left

-- the faults of its content
abbrev pub table_faults : List ℕ → reading.Entry → List (Bool × reading.Fault)
table_faults b e = counted_faults (length b) e 28 most_entries 12 reading.BadDs64
    (u32_at (content_of b (Some e)) 24)

-- some entries were read, and no fault was met
abbrev pub WantsEntry : List ℕ → reading.Entry → ℕ → Type 0
WantsEntry b e reached =
    WantsRows b e 28 most_entries 12 reading.BadDs64 (u32_at (content_of b (Some e)) 24) reached

-- what comes before the table was read
pub record IsFixed (b : List ℕ) (e : reading.Entry) (x : Fixed)
    (left : Option (List ℕ)) : Type 0 where
  pub reported : x ≡ fixed_at (content_of b (Some e))
  pub to : ReadTo b e 28 left

-- what a content of `ds64` says
abbrev pub sizes_in : List ℕ → reading.Sizes
sizes_in c = record {
  form = u64_at c 0;
  «data» = u64_at c 8;
  table = reading.table_at c 28 (u32_at c 24);
}

-- the content was read, and has no fault
pub record IsDs64Read (b : List ℕ) (e : reading.Entry) (x : Ds64)
    (left : Option (List ℕ)) : Type 0 where
  pub free : first_that_holds (table_faults b e) ≡ None
  pub reported : sizes_by x ≡ sizes_in (content_of b (Some e))
  pub to : ReadTo b e e.size left
