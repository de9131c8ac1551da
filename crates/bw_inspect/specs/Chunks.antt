-- What a chunk's head says, in the parts in which it is found.
use Rattle.std.specs.Prelude.{ℕ, ◌+◌, ◌*◌, ◌≤◌, Bool, true, false, not, ◌&&◌, List, [], ◌∷◌, length}
use Rattle.std.specs.Prelude.{find, codes, Option, option_map, is_none, nat_lt, nat_le}
use Rattle.std.specs.Prelude.{if◌then◌else◌}
use Rattle.bw_model.specs.Limits.{most_chunks, most_cues}
use Rattle.bw_model.specs.Reading as reading
use Rattle.bw_layout.specs.declared.sizes.Ds64.{Ds64}
use Rattle.bw_inspect.specs.declared.chunk.ChunkKind.{ChunkKind}
use Rattle.bw_inspect.specs.declared.chunk.ChunkKind.TheVariants.{Fmt, Bext, Data, Cue, Other}

-- the kind of the chunks with an id
abbrev pub kind_by : List ℕ → ChunkKind
kind_by id =
    if reading.is_id id (codes "fmt ") then Fmt
    else if reading.is_id id (codes "bext") then Bext
    else if reading.is_id id (codes "data") then Data
    else if reading.is_id id (codes "cue ") then Cue
    else Other

-- of `fmt `
abbrev pub is_fmt_kind : ChunkKind → Bool
is_fmt_kind Fmt = true
is_fmt_kind _ = false

-- of `bext`
abbrev pub is_bext_kind : ChunkKind → Bool
is_bext_kind Bext = true
is_bext_kind _ = false

-- of `cue `
abbrev pub is_cue_kind : ChunkKind → Bool
is_cue_kind Cue = true
is_cue_kind _ = false

-- of the chunks that a file may have more than once
abbrev pub is_other_kind : ChunkKind → Bool
is_other_kind Other = true
is_other_kind _ = false

-- the size in the first row with an id
abbrev pub size_by : List (List ℕ × ℕ) → List ℕ → Option ℕ
size_by rows id = option_map (λ row. row.1) (find (λ row. reading.is_id row.0 id) rows)

-- what `ds64` says
abbrev pub sizes_by : Ds64 → reading.Sizes
sizes_by z = record { form = z.form; «data» = z.data_size; table = z.table }

-- the sizes that a `ds64` gave, if there was one
abbrev pub sizes_of : Option Ds64 → Option reading.Sizes
sizes_of = option_map sizes_by

-- the faults before a head
abbrev pub start_faults : ℕ → List reading.Entry → ℕ → List (Bool × reading.Fault)
start_faults len seen p =
    reading.line (nat_le most_chunks (length seen)) reading.TooMany p
    ∷ reading.line (nat_lt len (p + 8)) reading.Truncated p
    ∷ []

-- the faults that can be seen in a head alone
abbrev pub size_faults : ℕ → ℕ → ChunkKind → Bool → Option ℕ → ℕ →
    List (Bool × reading.Fault)
size_faults end p kind seen size c =
    reading.line (is_none size) reading.NoSize p
    ∷ reading.line (nat_lt reading.largest c) reading.TooLarge p
    ∷ reading.line (nat_lt end (p + 8 + c)) reading.Truncated p
    ∷ reading.line (not (is_other_kind kind) && seen) reading.Twice p
    ∷ reading.line (is_fmt_kind kind && nat_lt c 16) reading.BadFmt p
    ∷ reading.line (is_bext_kind kind && nat_lt c 602) reading.BadBext p
    ∷ reading.line (is_cue_kind kind && nat_lt c 4) reading.BadCue p
    ∷ []

-- the faults after a head; `count` is the number that follows it
abbrev pub content_faults : ℕ → ℕ → ChunkKind → ℕ → ℕ → List (Bool × reading.Fault)
content_faults len p kind count c =
    reading.line (is_cue_kind kind && nat_lt len (p + 12)) reading.Truncated p
    ∷ reading.line (is_cue_kind kind && nat_lt most_cues count) reading.TooMany p
    ∷ reading.line (is_cue_kind kind && nat_lt c (4 + 24 * count)) reading.BadCue p
    ∷ reading.line (nat_lt len (p + 8 + c)) reading.Truncated p
    ∷ []

-- The faults of a content that begins with `prefix` bytes, which give the number n of its rows, at
-- most `most`; each row has the same width.
abbrev pub counted_faults : ℕ → reading.Entry → ℕ → ℕ → ℕ → reading.FaultKind → ℕ →
    List (Bool × reading.Fault)
counted_faults len e prefix most width bad n =
    reading.line (nat_lt len (e.place + 8 + prefix)) reading.Truncated e.place
    ∷ reading.line (nat_lt most n) reading.TooMany e.place
    ∷ reading.line (nat_lt e.size (prefix + width * n)) bad e.place
    ∷ reading.line (nat_lt len (e.place + 8 + e.size)) reading.Truncated e.place
    ∷ []

-- the sizes that a kind of chunk may have
abbrev pub Allows : ChunkKind → ℕ → Type 0
Allows Fmt n = 16 ≤ n
Allows Bext n = 602 ≤ n
Allows Cue n = 4 ≤ n
Allows _ n = Unit {0}
