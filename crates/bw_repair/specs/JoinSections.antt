-- The sections of two files that are a take and the chunks that are joined to it.
use Rattle.std.specs.Prelude.{◌≡◌, ℕ, ◌+◌, ◌-◌, true, false, List, [], ◌∷◌, ◌++◌, if◌then◌else◌}
use Rattle.std.specs.List.{filter}
use Rattle.bw_model.specs.Bytes.{le32, le64, unsaid}
use Rattle.bw_model.specs.Reading.{next_place}
use Rattle.bw_inspect.specs.declared.report.Report.{Report}
use Rattle.bw_repair.specs.ChunkSections.{capped, chunk_sections}
use Rattle.bw_repair.specs.Joined.{is_riff_id, largest_of}
use Rattle.bw_repair.specs.LeftOut.{chunks_fit, is_left_chunk, whole_lens}
use Rattle.bw_repair.specs.declared.left_out.section.Section.{Section}

-- a take's file up to a place, with this id and this size of its form
abbrev pub take_sections : List ℕ → ℕ → ℕ → List Section
take_sections id size end =
    if is_riff_id id then record { front = id ++ le32 size; gap = 8; size = end - 8 } ∷ []
    else record { front = id ++ le32 unsaid; gap = 8; size = 12 }
    ∷ record { front = le64 size; gap = 8; size = end - 28 } ∷ []

-- where the chunks of a report end
abbrev pub take_end : Report → ℕ
take_end r = capped (next_place r.chunks)

-- the chunks don't fit into the take's form
abbrev pub IsUnfitToJoin : Report → Report → Type 0
IsUnfitToJoin take left =
    chunks_fit (largest_of take.form) (take_end take - 8) (filter is_left_chunk left.chunks) ≡ false

-- they do, and these sections are the take and they
pub record AreSections (take left : Report) (first second : List Section) : Type 0 where
  pub fit : chunks_fit (largest_of take.form) (take_end take - 8) (filter is_left_chunk left.chunks) ≡ true
  pub first_is : first ≡ take_sections take.form
      (take_end take - 8 + whole_lens (filter is_left_chunk left.chunks)) (take_end take)
  pub second_is : second ≡ chunk_sections 0 (filter is_left_chunk left.chunks)
