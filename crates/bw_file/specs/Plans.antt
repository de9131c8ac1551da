-- Which calls of the store the calls of a growing file make, in their order.
use Rattle.std.specs.Prelude.{ℕ, ◌+◌, ◌-◌, ◌*◌, ◌%◌, Bool, true, false, not, ◌&&◌, ◌==◌, nat_le}
use Rattle.std.specs.Prelude.{if◌then◌else◌, Option, Some, None, List, [], ◌∷◌, ◌++◌, length}
use Rattle.std.specs.Str.{bytes_eq}
use Rattle.bw_model.specs.Take.{Parts}
use Rattle.bw_model.specs.File.{form_size, data_place}
use Rattle.bw_layout.specs.Places.{field_part, range_of}
use Rattle.bw_store.specs.Calls.{StoreCall, Create, WriteAt, Finish}
use Rattle.bw_file.specs.GrowingFiles.{Growing}

-- a name, unless it is made
abbrev pub name_plan : List ℕ → Bool → List StoreCall
name_plan name made = if made then [] else Create name ∷ []

-- samples, and a pad byte if the file's length would be odd
abbrev pub samples_plan : List ℕ → ℕ → ℕ → List StoreCall
samples_plan name place n =
    (WriteAt name place n ∷ [])
    ++ (if (place + n) % 2 == 1 then WriteAt name (place + n) 1 ∷ [] else [])

-- cue points, if there are any
abbrev pub cues_plan : List ℕ → ℕ → ℕ → List StoreCall
cues_plan name place count = if count == 0 then [] else WriteAt name place (12 + 24 * count) ∷ []

-- a whole header
abbrev pub header_plan : List ℕ → ℕ → List StoreCall
header_plan name place = WriteAt name 0 place ∷ []

-- both sizes: for RIFF the form's and then the data's, for BW64 the two together
abbrev pub sizes_plan : List ℕ → ℕ → Bool → List StoreCall
sizes_plan name place true = (WriteAt name 4 4 ∷ []) ++ WriteAt name (place - 4) 4 ∷ []
sizes_plan name place false = WriteAt name 20 16 ∷ []

-- the form size alone, if there are cue points
abbrev pub form_plan : List ℕ → ℕ → Bool → List StoreCall
form_plan name count is_riff =
    if count == 0 then [] else if is_riff then WriteAt name 4 4 ∷ [] else WriteAt name 20 8 ∷ []

-- both kinds are the same
abbrev pub stays : Bool → Bool → Bool
stays true is_riff = is_riff
stays false is_riff = not is_riff

-- what changed in the header of a clean file that stays of its kind, else the whole header
abbrev pub change_plan : Bool → Bool → Bool → List StoreCall → List StoreCall → List StoreCall
change_plan is_clean was_riff is_riff changed whole =
    if is_clean && stays was_riff is_riff then changed else whole

-- the header of longer data: name, place of the data, whether the file was and is RIFF
abbrev pub grown_plan : Bool → List ℕ → ℕ → Bool → Bool → List StoreCall
grown_plan is_clean name place was_riff is_riff =
    change_plan is_clean was_riff is_riff (sizes_plan name place is_riff) (header_plan name place)

-- the header of data with cue points after them
abbrev pub closed_plan : Bool → List ℕ → ℕ → Bool → Bool → ℕ → List StoreCall
closed_plan is_clean name place was_riff is_riff count =
    change_plan is_clean was_riff is_riff (form_plan name count is_riff) (header_plan name place)

-- a write in a range, if there is one
abbrev pub range_plan : List ℕ → Option (ℕ × ℕ) → List StoreCall
range_plan name None = []
range_plan name (Some range) = WriteAt name range.0 range.1 ∷ []

-- the field under a tag, if bytes change
abbrev pub field_plan : List ℕ → ℕ → List ℕ → List ℕ → List StoreCall
field_plan name tag before after =
    if bytes_eq before after then [] else range_plan name (range_of tag)

-- the header with that field: for a clean file the field alone, else the whole header
abbrev pub set_plan : Bool → List ℕ → ℕ → ℕ → List ℕ → List ℕ → List StoreCall
set_plan is_clean name place tag before after =
    if is_clean then field_plan name tag before after else header_plan name place

-- the file is RIFF with this much data and this many cue points
abbrev pub is_riff_at : Growing → Parts → ℕ → ℕ → Bool
is_riff_at g p data_len count = nat_le (form_size (length p.history) data_len count) g.limit

-- to begin: the name, and the header if the name is this file's
abbrev pub begin_plan : Growing → Bool → ℕ → List StoreCall
begin_plan g is_made history_len =
    name_plan g.name g.made ++ (if is_made then header_plan g.name (data_place history_len) else [])

-- to append: the samples, and then the header
abbrev pub append_plan : Growing → Parts → ℕ → List StoreCall
append_plan g p n =
    let place = data_place (length p.history) in
    let was_riff = is_riff_at g p p.samples_len 0 in
    let is_riff = is_riff_at g p (p.samples_len + n) 0 in
    samples_plan g.name (place + p.samples_len) n
    ++ grown_plan (not g.dirty) g.name place was_riff is_riff

-- to set a field: its bytes if they change, or the whole header
abbrev pub retouch_plan : Growing → Parts → List (List ℕ) → ℕ → List StoreCall
retouch_plan g p set tag =
    let place = data_place (length p.history) in
    set_plan (not g.dirty) g.name place tag (field_part tag p.fields) (field_part tag set)

-- to close: the cue points, then the header, then the mark that the file is complete
abbrev pub close_plan : Growing → Parts → List StoreCall
close_plan g p =
    let place = data_place (length p.history) in
    let count = length p.markers in
    let was_riff = is_riff_at g p p.samples_len 0 in
    let is_riff = is_riff_at g p p.samples_len count in
    cues_plan g.name (place + p.samples_len + p.samples_len % 2) count
    ++ (closed_plan (not g.dirty) g.name place was_riff is_riff count ++ Finish g.name ∷ [])
