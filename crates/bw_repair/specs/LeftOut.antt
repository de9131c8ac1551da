-- The chunks of a recording that a take doesn't carry, and LEFT, the file that keeps them.
use Rattle.std.specs.Prelude.{ℕ, ◌+◌, not, ◌||◌, ◌&&◌, Bool, List, [], ◌∷◌, ◌++◌, codes, take, drop}
use Rattle.std.specs.Prelude.{flat_map, nat_le}
use Rattle.std.specs.List.{filter, list_any, sum_by}
use Rattle.bw_model.specs.Bytes.{even_up, le32, unsaid}
use Rattle.bw_model.specs.Reading.{Entry, is_id}
use Rattle.bw_plan.specs.Warnings.{is_carried}

-- a chunk that a take doesn't carry
abbrev pub is_left_chunk : Entry → Bool
is_left_chunk e = not (is_carried e.id)

-- a chunk that LEFT has of the recording: its format too, without which no program reads it
abbrev pub is_kept_chunk : Entry → Bool
is_kept_chunk e = is_id e.id (codes "fmt ") || is_left_chunk e

-- how long a chunk is, with its head and its pad byte
abbrev pub whole_len : Entry → ℕ
whole_len e = 8 + even_up e.size

abbrev pub whole_lens : List Entry → ℕ
whole_lens es = sum_by whole_len es

-- a chunk of b whole: its id, its size, and its content with the pad byte, which is zero where b ends
-- without it
abbrev pub chunk_whole : List ℕ → Entry → List ℕ
chunk_whole b e = e.id ++ le32 e.size ++ take (even_up e.size) (drop (e.place + 8) (b ++ 0 ∷ []))

-- the chunks of b that a take doesn't carry, whole, in their order
abbrev pub left_chunks : List ℕ → List Entry → List ℕ
left_chunks b entries = flat_map (chunk_whole b) (filter is_left_chunk entries)

-- the size of LEFT's form: its type, the chunks that it has of the recording, and an empty one
abbrev pub left_size : List Entry → ℕ
left_size entries = 12 + whole_lens (filter is_kept_chunk entries)

-- LEFT is a RIFF WAVE without samples. `data` is its last chunk, since some programs take all that
-- follows an empty one for samples.
abbrev pub left_file : List ℕ → List Entry → List ℕ
left_file b entries =
    codes "RIFF" ++ le32 (left_size entries) ++ codes "WAVE"
    ++ flat_map (chunk_whole b) (filter is_kept_chunk entries) ++ codes "data" ++ le32 0

-- no chunk's head can give this chunk's size
abbrev pub is_too_large : Entry → Bool
is_too_large e = nat_le unsaid e.size

-- these chunks fit into a form of at most this size, so many bytes of which others have
abbrev pub chunks_fit : ℕ → ℕ → List Entry → Bool
chunks_fit most others es = nat_le (others + whole_lens es) most && not (list_any is_too_large es)

-- the largest size that a RIFF form has (RIFF WAVE)
abbrev pub largest_riff : ℕ
largest_riff = 0xFFFF_FFFE

-- a recording's chunks fit into LEFT
abbrev pub fits_left : List Entry → Bool
fits_left entries = chunks_fit largest_riff 12 (filter is_kept_chunk entries)
