-- The header of a WAVE file whose sizes may not be written yet.
use Rattle.std.specs.Prelude.{⊤, ◌==◌, ◌&&◌, ◌||◌, ℕ, zero, suc, ◌+◌, ◌-◌, ◌^◌, ◌≤◌, Bool, not, nat_le}
use Rattle.std.specs.Prelude.{nat_lt, List, [], ◌++◌, length, drop, take, slice_range, codes, Option, Some}
use Rattle.std.specs.Prelude.{None, if◌then◌else◌}
use Rattle.bw_model.specs.Bytes.{even_up, le32, u32_at, u64_at, unsaid, zeros}
use Rattle.bw_model.specs.Limits.{most_chunks}
use Rattle.bw_model.specs.Reading.{id_at, is_id, is_riff, is_wide}
use Rattle.bw_live.specs.declared.header.DataSearch.{DataSearch}
use Rattle.bw_live.specs.declared.header.DataSearch.TheVariants.{Found, Unwritten, Other}

-- the most bytes that are looked at for where the samples begin
abbrev pub most_header : ℕ
most_header = 1_048_576

-- the first 12 bytes are those of a file of type WAVE
abbrev pub is_wave : List ℕ → Bool
is_wave b = is_id (id_at b 8) (codes "WAVE") && (is_riff b || is_wide b)

-- `ds64` comes first (BS.2088)
abbrev pub has_ds64 : List ℕ → Bool
has_ds64 b = is_id (id_at b 12) (codes "ds64") && is_wide b

-- where the chunk after the one at a place begins
abbrev pub place_past : List ℕ → ℕ → ℕ
place_past b p = p + (8 + even_up (u32_at b (p + 4)))

-- the head of `data`, from this place on, within so many chunks
unfoldable pub search_from : ℕ → List ℕ → ℕ → DataSearch
search_from zero b p = Other
search_from (suc n) b p = if nat_lt (length b) (p + 8) then Unwritten
    else (if is_id (id_at b p) (codes "data") then Found p else search_from n b (place_past b p))

-- .. in the first bytes of a file
unfoldable pub data_search : List ℕ → DataSearch
data_search b = if nat_lt (length b) 12 then Unwritten
    else (if is_wave b then search_from most_chunks b 12 else Other)

-- a head that is found is in the bytes, after the first 12
abbrev pub IsHeadWithin : List ℕ → DataSearch → Type 0
IsHeadWithin b (Found p) = (12 ≤ p) × (p + 8 ≤ length b)
IsHeadWithin b Unwritten = ⊤
IsHeadWithin b Other = ⊤

-- the chunks before the samples, without the sizes that `ds64` says
abbrev pub chunks_to_data : List ℕ → ℕ → List ℕ
chunks_to_data b place = if nat_lt place 16 || not (has_ds64 b)
    then slice_range b 12 place else codes "JUNK" ++ slice_range b 16 place

-- the file of these chunks with no samples
unfoldable pub bare_header : List ℕ → ℕ → List ℕ
bare_header b place = codes "RIFF" ++ le32 place ++ codes "WAVE" ++ chunks_to_data b place
    ++ codes "data" ++ zeros 4

-- a size in `ds64`, once it is written
abbrev pub written_size : ℕ → Option ℕ
written_size s = if (s == 0) || (s == 2 ^ 64 - 1) then None else Some s

abbrev pub wide_size_in : List ℕ → Option ℕ
wide_size_in b = if nat_lt (length b) 36 || not (has_ds64 b) then None else written_size (u64_at b 28)

-- how many bytes of samples a header says, once it says it: the size in the head of `data` is this
abbrev pub said_by : ℕ → List ℕ → Option ℕ
said_by s b = if s == 0 then None else (if s == unsaid then wide_size_in b else Some s)

unfoldable pub said_in : List ℕ → ℕ → Option ℕ
said_in b place = said_by (u32_at b (place + 4)) b

-- the samples of a complete file whose `data` is at a place: as many as its header says; all that come
-- after that head if it says no size, or one past the end
abbrev pub samples_of_size : Option ℕ → List ℕ → List ℕ
samples_of_size None xs = xs
samples_of_size (Some size) xs = if nat_le size (length xs) then take size xs else xs

unfoldable pub samples_in_wave : ℕ → List ℕ → List ℕ
samples_in_wave place b = samples_of_size (said_in b place) (drop (place + 8) b)
