-- The outer header, in the parts in which it is read.
use Rattle.std.specs.Prelude.{◌≡◌, ℕ, ◌+◌, ◌||◌, ◌⊎◌, not, Bool, true, false, List, [], ◌∷◌}
use Rattle.std.specs.Prelude.{length, drop, codes, Option, Some, None, Ok, Err, nat_lt}
use Rattle.bw_inspect.specs.ReaderCalls.{longest_end}
use Rattle.bw_model.specs.Limits.{most_entries}
use Rattle.bw_model.specs.Reading as reading
use Rattle.bw_model.specs.Bytes.{first_that_holds, u32_at}
use Rattle.bw_layout.specs.declared.chunk.ChunkHead.{ChunkHead}
use Rattle.bw_inspect.specs.declared.fault.InspectFault.{InspectFault}
use Rattle.bw_inspect.specs.declared.walk.Walk.{Walk}
use Rattle.bw_inspect.specs.declared.walk.Form.{Form}
use Rattle.bw_inspect.specs.Faults.{bytes_fault}
use Rattle.bw_inspect.specs.Places.{Halts, HasGrown}
use Rattle.bw_inspect.specs.Chunks.{counted_faults}
use Rattle.bw_inspect.specs.Tables.{ds64_entry, ds64_head_faults}
use Rattle.bw_inspect.specs.Walks.{StandsInForm, form_by}

-- the ids of the forms that are read
abbrev pub names_form : List ℕ → Bool
names_form id = reading.is_id id (codes "RIFF")
    || (reading.is_id id (codes "BW64") || reading.is_id id (codes "RF64"))

-- the faults of the first 12 bytes
abbrev pub opening_faults : List ℕ → List (Bool × reading.Fault)
opening_faults b =
    reading.line (nat_lt (length b) 12) reading.NotWave 0
    ∷ reading.line (not (reading.is_riff b || reading.is_wide b)) reading.NotWave 0
    ∷ reading.line (not (reading.is_id (reading.id_at b 8) (codes "WAVE"))) reading.NotWave 8
    ∷ []

-- the faults of a form's size
abbrev pub form_faults : ℕ → List (Bool × reading.Fault)
form_faults size =
    reading.line (nat_lt reading.largest size) reading.TooLarge 4
    ∷ reading.line (nat_lt size 4) reading.NotWave 4
    ∷ []

-- the first 12 bytes were read, and have no fault
pub record IsOpened (b : List ℕ) (h : ChunkHead) (left : Option (List ℕ)) : Type 0 where
  pub free : first_that_holds (opening_faults b) ≡ None
  pub spells : h.id ≡ reading.id_at b 0
  pub reports : h.size32 ≡ u32_at b 4
  pub rest : left ≡ Some (drop 12 b)

-- this holds of all the bytes, if their first 12 were read and are not those of RIFF
abbrev pub OnWide : ChunkHead → Option (List ℕ) → (List ℕ → Type 0) → Type 0
OnWide h left holds = (b : List ℕ) → IsOpened b h left → reading.is_riff b ≡ false → holds b

-- the outer header was read
pub record BeginsForm (b : List ℕ) (form : Form) (w : Walk) (left : Option (List ℕ)) : Type 0 where
  pub header : reading.outer b ≡ Ok (form_by form)
  pub stands : StandsInForm b (form_by form) w left

-- the outer header has no fault, and its `ds64` was read to its end
pub record IsDs64Whole (b : List ℕ) (reached : ℕ) : Type 0 where
  pub wide : reading.is_wide b ≡ true
  pub form : reading.Form
  pub header : reading.outer b ≡ Ok form
  pub ends : reached ≡ 20 + u32_at b 16

-- `ds64` has no fault, except that b may end in it, and some of its entries were read
pub record HasReadEntries (b : List ℕ) (reached : ℕ) : Type 0 where
  pub wide : reading.is_wide b ≡ true
  pub opening : first_that_holds (opening_faults b) ≡ None
  pub head : first_that_holds (ds64_head_faults b) ≡ None
  pub free : first_that_holds
      (counted_faults (20 + u32_at b 16) (ds64_entry b) 28 most_entries 12 reading.BadDs64
      (u32_at b 44)) ≡ None
  pub grown : HasGrown b 48 12 (u32_at b 44) reached

-- `ds64`, or an entry of it, is to be listed
abbrev pub WantsDs64 : List ℕ → ℕ → Type 0
WantsDs64 b reached = IsDs64Whole b reached ⊎ HasReadEntries b reached

-- the outer header has a fault, or wasn't read
pub record IsOutside (b : List ℕ) (f : InspectFault) (left : Option (List ℕ)) : Type 0 where
  pub halts : Halts b longest_end 12 (WantsDs64 b) f left
  pub fault : (g : reading.Fault) → bytes_fault f ≡ Some g → reading.outer b ≡ Err g
