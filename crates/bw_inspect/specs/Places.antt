-- What is read at a place, and what is missing there.
use Rattle.std.specs.Prelude.{◌≡◌, ℕ, ◌+◌, ◌*◌, ◌<◌, ◌≤◌, IsTrue, not, List, length, drop}
use Rattle.std.specs.Prelude.{slice_range, Option, Some}
use Rattle.bw_inspect.specs.declared.fault.InspectFault.{InspectFault}
use Rattle.bw_inspect.specs.Faults.{is_failed_read, is_memory}

-- this holds of all the bytes b, if the reader reports those from a place on
abbrev pub AtPlace : Option (List ℕ) → ℕ → (List ℕ → Type 0) → Type 0
AtPlace left place holds = (b : List ℕ) → left ≡ Some (drop place b) → holds b

-- n bytes of b from a place on are read; these are left
pub record IsGiven (b : List ℕ) (place n : ℕ) (got : List ℕ) (left : Option (List ℕ)) : Type 0 where
  pub within : 0 < n → place + n ≤ length b
  pub bytes : got ≡ slice_range b place (place + n)
  pub rest : left ≡ Some (drop (place + n) b)

-- n bytes of b from a place on are passed over
pub record IsPassed (b : List ℕ) (place n : ℕ) (left : Option (List ℕ)) : Type 0 where
  pub within : 0 < n → place + n ≤ length b
  pub rest : left ≡ Some (drop (place + n) b)

-- n bytes of b from a place on aren't read: b ends before, or the reader failed at the next byte
-- that was wanted
pub record IsMissed (b : List ℕ) (place n : ℕ) (cut f : InspectFault)
    (left : Option (List ℕ)) : Type 0 where
  pub taken : ℕ
  pub small : taken ≤ n
  pub there : 0 < taken → place + taken ≤ length b
  pub rest : left ≡ Some (drop (place + taken) b)
  pub fails : IsTrue (is_failed_read f.kind) → f.offset ≡ place + taken
  pub cuts : IsTrue (not (is_failed_read f.kind)) → (f ≡ cut) × (length b < place + n)

-- memory is wanted nowhere
abbrev pub Nowhere : ℕ → Type 0
Nowhere reached = ⊥

-- Rows of this width, from a place on, were read and are to be listed: at least one, and at most
-- `most`; b has them.
pub record HasGrown (b : List ℕ) (from width most reached : ℕ) : Type 0 where
  pub rows : ℕ
  pub some : 0 < rows
  pub few : rows ≤ most
  pub following : reached ≡ from + width * rows
  pub there : reached ≤ length b

-- A call stopped with a fault within b, and at most this far into it: a failed read is reported at
-- the next byte that was wanted, lack of memory at a chunk's place, if a list was to grow by what
-- was read so far.
pub record Halts (b : List ℕ) (most place : ℕ) (wants : ℕ → Type 0) (f : InspectFault)
    (left : Option (List ℕ)) : Type 0 where
  pub reached : ℕ
  pub within : reached ≤ most
  pub there : reached ≤ length b
  pub rest : left ≡ Some (drop reached b)
  pub fails : IsTrue (is_failed_read f.kind) → f.offset ≡ reached
  pub memory : IsTrue (is_memory f.kind) → (f.offset ≡ place) × wants reached
