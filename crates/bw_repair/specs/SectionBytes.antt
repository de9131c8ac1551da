-- Bytes that are put together of others' and of sections of a file.
use Rattle.std.specs.Prelude.{ℕ, ◌+◌, List, [], ◌∷◌, ◌++◌, Option, option_map, take, drop}
use Rattle.bw_repair.specs.declared.left_out.section.Section.{Section}
use Rattle.bw_repair.specs.declared.left_out.sections.Sections.{Sections}
use Rattle.bw_repair.specs.declared.left_out.section_reader.SectionReader.{SectionReader}

-- so many of the bytes after these, of which one more is zero
abbrev pub padded_range : ℕ → ℕ → List ℕ → List ℕ
padded_range gap size b = take size (drop gap (b ++ 0 ∷ []))

-- what these sections of b are one after the other, each with its front before it
abbrev pub assembled : List Section → List ℕ → List ℕ
assembled [] b = []
assembled (s ∷ rest) b = s.front ++ (padded_range s.gap s.size b ++ assembled rest (drop (s.gap + s.size) b))

-- the same with these bytes as the first one's front
abbrev pub assembled_from : List ℕ → ℕ → ℕ → List Section → List ℕ → List ℕ
assembled_from front gap size rest b =
    front ++ (padded_range gap size b ++ assembled rest (drop (gap + size) b))

-- what is still to come of sections, of which the file's reader has this left
abbrev pub sections_left : {R : Type 0} → Sections R → Option (List ℕ) → Option (List ℕ)
sections_left s inner = option_map (assembled_from s.front.now s.gap s.size s.rest.now) inner

-- the file's reader
abbrev pub reader_of : {R : Type 0} → SectionReader R → R
reader_of s = s.sections.inner

-- .. and what is still to come through it
abbrev pub to_come : {R : Type 0} → SectionReader R → Option (List ℕ) → Option (List ℕ)
to_come s inner = sections_left s.sections inner

-- how many bytes were read
abbrev pub moved_of : {R : Type 0} → SectionReader R → ℕ
moved_of s = s.moved

-- how many calls there were
abbrev pub calls_of : {R : Type 0} → SectionReader R → ℕ
calls_of s = s.calls

-- and how many of them failed
abbrev pub section_failures : {R : Type 0} → SectionReader R → ℕ
section_failures s = s.failures
