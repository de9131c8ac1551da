-- A filter of an exchange's bytes: byte for byte the same, up to the last byte of the first name that
-- is another than the first frame's. That byte is given as 0, which no name has.
use Rattle.std.specs.Prelude.{ℕ, ◌+◌, ◌-◌, Bool, true, false, not, ◌&&◌, ◌||◌, ◌==◌, nat_lt, nat_le}
use Rattle.std.specs.Prelude.{if◌then◌else◌, List, [], ◌∷◌, ◌++◌, length, drop, slice_index}
use Rattle.std.specs.Str.{bytes_eq}
use Rattle.bw_model.specs.Bytes.{u32_at}

-- where a filter is in the bytes of an exchange
pub record Filter : Type 0 where
  -- the name of the first frame; empty until it is known
  pub first : List ℕ
  -- the bytes of a frame up to the end of its name, as far as they came
  pub head : List ℕ
  -- how many bytes of a frame are to come after its name
  pub left : ℕ
  -- whether it gives all bytes as they come
  pub passing : Bool

-- before the first byte: with one name alone, or with any
abbrev pub starting : Bool → Filter
starting one_name = record { first = []; head = []; left = 0; passing = not one_name }

-- these bytes of a frame reach its name's end: 4 of its length, its kind, the name's length, the name
abbrev pub has_name : List ℕ → Bool
has_name head = nat_le (6 + slice_index head 5) (length head)

-- the first name, and each that equals it
abbrev pub allows : List ℕ → List ℕ → Bool
allows first name = (length first == 0) || bytes_eq name first

-- at the end of a frame's name: what follows it in the frame is to come, or all bytes pass from here
abbrev pub at_name : Filter → List ℕ → Filter
at_name f head =
    if allows f.first (drop 6 head)
    then record {
      first = drop 6 head;
      head = [];
      left = u32_at head 0 - (length head - 4);
      passing = false;
    }
    else record { first = f.first; head = []; left = 0; passing = true }

-- with these bytes of a frame
abbrev pub in_head : Filter → List ℕ → Filter
in_head f head =
    if has_name head then at_name f head
    else record { first = f.first; head = head; left = 0; passing = false }

-- after a byte
unfoldable pub after_byte : Filter → ℕ → Filter
after_byte f b =
    if f.passing then f
    else if nat_lt 0 f.left
    then record { first = f.first; head = f.head; left = f.left - 1; passing = false }
    else in_head f (f.head ++ b ∷ [])

-- the byte that is given for one
unfoldable pub passed : Filter → ℕ → ℕ
passed f b = if not f.passing && (after_byte f b).passing then 0 else b

-- what is given for bytes
abbrev pub filtered : Filter → List ℕ → List ℕ
filtered f [] = []
filtered f (b ∷ bs) = passed f b ∷ filtered (after_byte f b) bs

-- where the filter is after them
abbrev pub after_bytes : Filter → List ℕ → Filter
after_bytes f [] = f
after_bytes f (b ∷ bs) = after_bytes (after_byte f b) bs
