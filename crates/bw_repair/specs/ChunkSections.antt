-- The sections of a file that are its chunks, and what keeping and joining them put together.
use Rattle.std.specs.Prelude.{◌≡◌, ℕ, ◌+◌, ◌-◌, ◌^◌, ◌≤◌, ◌||◌, ◌&&◌}
use Rattle.std.specs.Prelude.{Bool, true, List, [], ◌∷◌, ◌++◌, Option, Some, None}
use Rattle.std.specs.Prelude.{codes, min, if◌then◌else◌}
use Rattle.bw_model.specs.Limits.{largest}
use Rattle.bw_model.specs.Bytes.{even_up, le32, zeros}
use Rattle.bw_model.specs.Reading.{Entry, is_id}
use Rattle.bw_inspect.specs.Readings.{HasReading}
use Rattle.bw_repair.specs.Forms.{unnamed}
use Rattle.bw_repair.specs.LeftOut.{chunks_fit, fits_left, is_left_chunk, left_file, whole_lens}
use Rattle.bw_repair.specs.SectionBytes.{assembled}
use Rattle.bw_repair.specs.declared.left_out.section.Section.{Section}

-- a chunk that a take doesn't carry, or the format where that is wanted
abbrev pub is_chosen : Bool → Entry → Bool
is_chosen with_format e = (with_format && is_id e.id (codes "fmt ")) || is_left_chunk e

-- how long these chunks are together with others, if they fit
abbrev pub total_of : ℕ → ℕ → List Entry → Option ℕ
total_of most others es = if chunks_fit most others es then Some (others + whole_lens es) else None

-- a place, as far as 64 bits give it
abbrev pub capped : ℕ → ℕ
capped n = min n (2 ^ 64 - 1)

-- these chunks of a file that was read up to a place, each with a head
abbrev pub chunk_sections : ℕ → List Entry → List Section
chunk_sections place [] = []
chunk_sections place (e ∷ es) =
    record { front = e.id ++ le32 e.size; gap = capped (e.place + 8) - place; size = even_up e.size }
    ∷ chunk_sections (capped (capped (e.place + 8) + even_up e.size)) es

-- LEFT but for its id
abbrev pub left_sections : List Entry → ℕ → List Section
left_sections es size =
    record { front = zeros 4 ++ le32 size; gap = 8; size = 4 }
    ∷ (chunk_sections 12 es ++ record { front = codes "data" ++ le32 0; gap = 0; size = 0 } ∷ [])

-- the recording's chunks fit into LEFT, and these sections are LEFT but for its id
pub record AreLeft (b : List ℕ) (sections : List Section) : Type 0 where
  pub reading_is : HasReading b
  pub small : reading_is.form.size ≤ largest
  pub fits : fits_left reading_is.entries ≡ true
  pub are : assembled sections b ≡ unnamed (left_file b reading_is.entries)
