-- What a joined file reads as.
use Rattle.std.specs.Prelude.{◌≡◌, ℕ, ◌+◌, ◌≤◌, Bool, not, Some, List, [], ◌∷◌, ◌++◌, length, map}
use Rattle.std.specs.Prelude.{option_map, codes}
use Rattle.std.specs.List.{filter}
use Rattle.bw_model.specs.Limits.{most_chunks}
use Rattle.bw_model.specs.Reading.{Entry, Form, IsPrefix, IsReading, Sizes, entry_of, is_id, next_place}
use Rattle.bw_model.specs.Report.{content_of}
use Rattle.bw_inspect.specs.Readings.{HasReading}
use Rattle.bw_repair.specs.Joined.{joined_size}
use Rattle.bw_repair.specs.Joinings.{Joins}
use Rattle.bw_repair.specs.LeftOut.{is_left_chunk, whole_len}

-- the contents of these chunks of b
abbrev pub contents_in : List ℕ → List Entry → List (List ℕ)
contents_in b entries = map (λ e. content_of b (Some e)) entries

-- the content of the first chunk `data`
abbrev pub read_samples : List ℕ → List Entry → List ℕ
read_samples b entries = content_of b (entry_of (codes "data") entries)

-- a chunk other than `ds64`, which has the form's size
abbrev pub is_no_ds64 : Entry → Bool
is_no_ds64 e = not (is_id e.id (codes "ds64"))

-- the sizes that `ds64` gives, with this size of the form
abbrev pub resized_sizes : ℕ → Sizes → Sizes
resized_sizes size s = record { form = size; «data» = s.«data»; table = s.table }

-- the outer header, with this size of the form
abbrev pub resized_form : ℕ → Form → Form
resized_form size form =
    record { id = form.id; size = size; sizes = option_map (resized_sizes size) form.sizes }

-- these chunks, each after the one before, from a place on
abbrev pub placed_from : ℕ → List Entry → List Entry
placed_from p [] = []
placed_from p (e ∷ es) = record { id = e.id; place = p; size = e.size } ∷ placed_from (p + whole_len e) es

-- where the chunks that no take carries of others are, after a take's
abbrev pub placed_after : List Entry → List Entry → List Entry
placed_after entries others = placed_from (next_place entries) (filter is_left_chunk others)

-- the chunks of a joined file
abbrev pub joined_entries : List Entry → List Entry → List Entry
joined_entries entries others = entries ++ placed_after entries others

-- its outer header
abbrev pub joined_form : Form → List Entry → List Entry → Form
joined_form form entries others = resized_form (joined_size entries others) form

-- It has the take's chunks at their places, each with its content but `ds64`, and then those of l that no
-- take carries, with theirs.
pub record HasChunksOfBoth (t l text : List ℕ) (take : HasReading t) (left : HasReading l) : Type 0 where
  pub prefix : IsPrefix text (joined_form take.form take.entries left.entries) take.entries
  pub kept : contents_in text (filter is_no_ds64 take.entries)
      ≡ contents_in t (filter is_no_ds64 take.entries)
  pub added : contents_in text (placed_after take.entries left.entries)
      ≡ contents_in l (filter is_left_chunk left.entries)

-- It is read as these chunks and as no others, unless they are too many: then it isn't read.
pub record ReadsAsJoined (t l text : List ℕ) (take : HasReading t) (left : HasReading l) : Type 0 where
  pub reads : length (joined_entries take.entries left.entries) ≤ most_chunks →
      IsReading text (joined_form take.form take.entries left.entries)
      (joined_entries take.entries left.entries)
  pub chunks_are : (r : HasReading text) → r.entries ≡ joined_entries take.entries left.entries
  -- so the digest of the samples is the take's
  pub samples : (r : HasReading text) → read_samples text r.entries ≡ read_samples t take.entries

-- what is printed where chunks are joined has the chunks of both
abbrev pub JoinedFilesHaveBoth : Type 0
JoinedFilesHaveBoth = (t l text : List ℕ) (joins : Joins t l text) →
    HasChunksOfBoth t l text joins.take_reading joins.left_reading

-- .. and is read as them
abbrev pub JoinedFilesRead : Type 0
JoinedFilesRead = (t l text : List ℕ) (joins : Joins t l text) →
    ReadsAsJoined t l text joins.take_reading joins.left_reading
