-- Other formats of recordings, by the first bytes of a file.
use Rattle.std.specs.Prelude.{◌≡◌, ℕ, ◌==◌, ◌&&◌, ◌||◌, Bool, false, Option, Some, None, Result, List, []}
use Rattle.std.specs.Prelude.{◌∷◌, ◌++◌}
use Rattle.std.specs.Prelude.{length, slice_range, codes, nat_lt, if◌then◌else◌}
use Rattle.std.specs.Str.{bytes_eq}
use Rattle.bw_stream.specs.Readers.{Of}
use Rattle.bw_model.specs.Reading.{is_id, id_at}
use Rattle.bw_inspect.specs.Faults.{stopped}
use Rattle.bw_inspect.specs.declared.fault.InspectFault.{InspectFault}
use Rattle.bw_inspect.specs.declared.other.OtherFormat.{OtherFormat}
use Rattle.bw_inspect.specs.declared.other.OtherFormat.TheVariants.{Flac, Aiff, Wave64}

-- a container of EA IFF 85 of the type AIFF, or AIFC (AIFF-C)
abbrev pub is_aiff : List ℕ → Bool
is_aiff start =
    is_id (id_at start 0) (codes "FORM")
    && (is_id (id_at start 8) (codes "AIFF") || is_id (id_at start 8) (codes "AIFC"))

-- the first 12 bytes of the GUID `riff`, 66666972-912E-11CF-A5D6-28DB04C10000 (Sony Wave64)
abbrev pub wave64_start : List ℕ
wave64_start = 114 ∷ 105 ∷ 102 ∷ 102 ∷ 46 ∷ 145 ∷ 207 ∷ 17 ∷ 165 ∷ 214 ∷ 40 ∷ 219 ∷ []

-- the format that 12 bytes name: the stream marker of FLAC (RFC 9639, 6), AIFF, Wave64, or none
abbrev pub format_named : List ℕ → Option OtherFormat
format_named start =
    if is_id (id_at start 0) (codes "fLaC") then Some Flac
    else if is_aiff start then Some Aiff
    else if bytes_eq start wave64_start then Some Wave64
    else None

-- .. that a file's bytes name
abbrev pub other_format_of : List ℕ → Option OtherFormat
other_format_of b = if nat_lt (length b) 12 then None else format_named (slice_range b 0 12)

-- after a call with this result this is the format that the bytes name, unless the reader failed
abbrev pub NamesFormat : {X : Type 0} → Result X InspectFault → Option (List ℕ) →
    Option OtherFormat → Type 0
NamesFormat result left other = stopped result ≡ false → Of left (λ b. other ≡ other_format_of b)
