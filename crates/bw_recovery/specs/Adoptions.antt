-- What is read of a take's file at a start, and what is done with it.
use Rattle.std.specs.Prelude.{◌≡◌, ◌⊎◌, ◌<◌, ◌≤◌, ℕ, ◌+◌, not, Bool, true, false, Option, Some, None}
use Rattle.std.specs.Prelude.{IsSome}
use Rattle.std.specs.Prelude.{IfSome, option_map, List, [], ◌∷◌, ◌++◌, length, take, drop, slice_get}
use Rattle.std.specs.Str.{bytes_eq}
use Rattle.bw_model.specs.Take.{Parts, Format}
use Rattle.bw_model.specs.File.{data_place}
use Rattle.bw_recovery.specs.Files.{data_end, header_by}
use Rattle.bw_recovery.specs.Changes.{KeepsSamples}
use Rattle.bw_recovery.specs.declared.adoption.FileFacts.{FileFacts}
use Rattle.bw_recovery.specs.declared.adoption.Mending.{Mending}
use Rattle.bw_recovery.specs.declared.adoption.Adoption.{Adoption}
use Rattle.bw_recovery.specs.declared.adoption.Adoption.TheVariants.{Keep, SetAside, Mend}

-- these are the bytes of a take's file before its samples
pub record IsFileHeader (limit : ℕ) (p : Parts) (f : Format) (bytes : List ℕ) : Type 0 where
  pub value : bytes ≡ header_by limit p f
  pub len : length bytes ≡ data_place (length p.history)

-- this was read of a take's file
pub record IsSeen (p : Parts) (found : List ℕ) (facts : FileFacts) : Type 0 where
  pub len : facts.len ≡ length found
  pub front : facts.front.now ≡ take (data_place (length p.history)) found
  pub after : facts.after ≡ slice_get found (data_end p)

-- this was read of what is under a take's name, if anything does
abbrev pub Sees : Parts → Option (List ℕ) → Option FileFacts → Type 0
Sees p None None = Unit {0}
Sees p None (Some facts) = ⊥
Sees p (Some found) None = ⊥
Sees p (Some found) (Some facts) = IsSeen p found facts

-- with this header in place of as many bytes, if it is to be written
abbrev pub with_header : Bool → List ℕ → List ℕ → List ℕ
with_header true header found = header ++ drop (length header) found
with_header false header found = found

-- no longer than this, if it is to be cut
abbrev pub shortened : Option ℕ → List ℕ → List ℕ
shortened None found = found
shortened (Some len) found = take len found

-- with a zero byte at its end, if that is to be appended
abbrev pub with_pad : Bool → List ℕ → List ℕ
with_pad true found = found ++ 0 ∷ []
with_pad false found = found

-- a file after this mending
abbrev pub patched : Mending → List ℕ → List ℕ → List ℕ
patched m header found = with_pad m.pad (shortened m.cut (with_header m.header header found))

-- what is under the name after this
abbrev pub adopted : Adoption → List ℕ → Option (List ℕ) → Option (List ℕ)
adopted Keep header found = found
adopted SetAside header found = None
adopted (Mend m) header found = option_map (patched m header) found

-- Only what differs is written: another header, the bytes past an end, and a pad byte that isn't
-- there.
pub record IsLeast (p : Parts) (m : Mending) (header found : List ℕ) : Type 0 where
  pub front : m.header ≡ not (bytes_eq (take (data_place (length p.history)) found) header)
  pub cut : IfSome m.cut (λ len. len < length found)
  pub pad : m.pad ≡ true → slice_get found (data_end p) ≡ Some 0 → ⊥

-- the least is done: a file is set aside only if one is there, and mended as little as it needs
abbrev pub DoesLeast : Parts → Adoption → List ℕ → Option (List ℕ) → Type 0
DoesLeast p Keep header found = Unit {0}
DoesLeast p SetAside header found = IsSome found
DoesLeast p (Mend m) header found = IfSome found (IsLeast p m header)

-- No part of a mending reaches the samples of its take, which is opened.
pub record SparesSamples (p : Parts) (m : Mending) (header : List ℕ) : Type 0 where
  pub opened : IsSome p.format
  pub front : length header ≤ data_place (length p.history)
  pub cut : IfSome m.cut (λ len. data_end p ≤ len)

-- nor does what becomes of its file otherwise
abbrev pub SparesTake : Parts → Adoption → List ℕ → Type 0
SparesTake p Keep header = Unit {0}
SparesTake p SetAside header = Unit {0}
SparesTake p (Mend m) header = SparesSamples p m header

-- The same of so many bytes from a place on in a file that has them: a byte is appended to them alone.
pub record MendsAround (place count : ℕ) (m : Mending) (header found : List ℕ) : Type 0 where
  pub front : length header ≤ place
  pub long : place + count ≤ length found
  pub cut : IfSome m.cut (λ len. place + count ≤ len)
  pub pad : m.pad ≡ true → length (shortened m.cut found) ≤ place + count

-- what a mending leaves of a file, whole or in part
abbrev pub MendsInPart : ℕ → ℕ → Mending → List ℕ → Option (List ℕ) → Option (List ℕ) →
    Type 0
MendsInPart place count m header before after =
    (found : List ℕ) → before ≡ Some found → MendsAround place count m header found →
    KeepsSamples place count found after

-- what is left under the name, whichever call fails
abbrev pub AdoptsInPart : ℕ → ℕ → Adoption → List ℕ → Option (List ℕ) →
    Option (List ℕ) → Type 0
AdoptsInPart place count Keep header before after = after ≡ before
AdoptsInPart place count SetAside header before after = (after ≡ before) ⊎ (after ≡ None)
AdoptsInPart place count (Mend m) header before after = MendsInPart place count m header before after
