-- A take with the chunks of another file after its own.
use Rattle.std.specs.Prelude.{ℕ, ◌+◌, ◌-◌, Bool, List, [], ◌∷◌, ◌++◌, codes, slice_range}
use Rattle.std.specs.Prelude.{if◌then◌else◌}
use Rattle.std.specs.List.{filter}
use Rattle.bw_model.specs.Limits.{largest}
use Rattle.bw_model.specs.Bytes.{le32, le64, unsaid}
use Rattle.bw_model.specs.Reading.{Entry, is_id, next_place}
use Rattle.bw_inspect.specs.Readings.{HasReading}
use Rattle.bw_repair.specs.LeftOut.{chunks_fit, is_left_chunk, largest_riff, left_chunks, whole_lens}

-- a form with this id has its size in four bytes at 4; any other has it in eight at 20, in `ds64`
abbrev pub is_riff_id : List ℕ → Bool
is_riff_id id = is_id id (codes "RIFF")

-- t with this id, up to this place and with this size of its form. A byte that t ends without is zero.
abbrev pub resized : List ℕ → ℕ → ℕ → List ℕ → List ℕ
resized id size end t =
    let padded = t ++ 0 ∷ [] in
    if is_riff_id id then id ++ le32 size ++ slice_range padded 8 end
    else id ++ le32 unsaid ++ slice_range padded 8 20 ++ le64 size ++ slice_range padded 28 end

-- the size of the form that has a take's chunks, and after them those that no take carries of others
abbrev pub joined_size : List Entry → List Entry → ℕ
joined_size entries others = next_place entries - 8 + whole_lens (filter is_left_chunk others)

-- the take in t up to the end of the last of its chunks, and the chunks of l that no take carries
abbrev pub joined_take : (t l : List ℕ) → HasReading t → HasReading l → List ℕ
joined_take t l take_reading left_reading =
    resized take_reading.form.id (joined_size take_reading.entries left_reading.entries)
    (next_place take_reading.entries) t
    ++ left_chunks l left_reading.entries

-- the largest size that a form with this id has
abbrev pub largest_of : List ℕ → ℕ
largest_of id = if is_riff_id id then largest_riff else largest

-- the chunks fit into the take's form
abbrev pub fits_take : List ℕ → List Entry → List Entry → Bool
fits_take id entries others =
    chunks_fit (largest_of id) (next_place entries - 8) (filter is_left_chunk others)
