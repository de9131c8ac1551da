-- What a start finds of a take's file, what may be wrong with it, and what becomes of it.
use Rattle.std.specs.Prelude.{ℕ, ◌+◌, Bool, not, ◌&&◌, ◌||◌, Option, Some, None}
use Rattle.std.specs.Prelude.{is_some, option_map, List, ◌++◌, length, take, drop, nat_lt, ◌==◌}
use Rattle.std.specs.Prelude.{if◌then◌else◌, [], ◌∷◌}
use Rattle.std.specs.Str.{bytes_eq}
use Rattle.bw_model.specs.Bytes.{first_that_holds}
use Rattle.bw_model.specs.Take.{Format, Parts}
use Rattle.bw_model.specs.File.{header, data_place, form_size, cues}
use Rattle.bw_model.specs.Layout.{pad}
use Rattle.bw_recovery.specs.declared.fault.FileFault.{FileFault}
use Rattle.bw_recovery.specs.declared.fault.FileFault.TheVariants.{Lost, Changed}

-- where the samples end
abbrev pub data_end : Parts → ℕ
data_end p = data_place (length p.history) + p.samples_len

-- the bytes of the file before its samples
abbrev pub header_by : ℕ → Parts → Format → List ℕ
header_by limit p f = header f p.fields p.history p.samples_len (length (cues p.closed p.markers)) limit

-- how many bytes the file has
abbrev pub file_len : Parts → ℕ
file_len p = 8 + form_size (length p.history) p.samples_len (length (cues p.closed p.markers))

-- it has the length and the header of its take
abbrev pub is_unchanged : ℕ → Parts → Format → List ℕ → Bool
is_unchanged limit p f found =
    (length found == file_len p)
    && bytes_eq (take (data_place (length p.history)) found) (header_by limit p f)

-- what is wrong with the file of a take of this format: the first that holds
unfoldable pub opened_fault : ℕ → Parts → Format → List ℕ → Option FileFault
opened_fault limit p f found = first_that_holds (
    (nat_lt (length found) (data_end p), Lost)
    ∷ (p.closed && not (is_unchanged limit p f found), Changed)
    ∷ [])

-- the same of a take that may have no format, and a file that may be missing
abbrev pub fault_by_format : ℕ → Parts → Option Format → Option (List ℕ) → Option FileFault
fault_by_format limit p None found = None
fault_by_format limit p (Some f) None = Some Lost
fault_by_format limit p (Some f) (Some found) = opened_fault limit p f found

-- what is wrong with what is under a name: a file that existed before its journal must still be
-- there, and a take that is opened must have its file
abbrev pub file_fault : ℕ → Parts → Option (List ℕ) → Option FileFault
file_fault limit p found =
    if p.taken then (if is_some found then None else Some Lost)
    else fault_by_format limit p p.format found

-- A mended file: the header of its take, the samples as they are, and a pad byte.
abbrev pub mended : ℕ → Parts → Format → List ℕ → List ℕ
mended limit p f found =
    header_by limit p f
    ++ (take p.samples_len (drop (data_place (length p.history)) found) ++ pad p.samples_len)

-- what is under the name of a take of this format afterwards; a file without one is set aside
abbrev pub mended_by_format : ℕ → Parts → Option Format → Option (List ℕ) → Option (List ℕ)
mended_by_format limit p None found = None
mended_by_format limit p (Some f) found = option_map (mended limit p f) found

-- what is under a name afterwards: a file that existed before its journal, and that of a closed
-- take, is left as it is
abbrev pub file_after : ℕ → Parts → Option (List ℕ) → Option (List ℕ)
file_after limit p found =
    if p.taken || p.closed then found else mended_by_format limit p p.format found
