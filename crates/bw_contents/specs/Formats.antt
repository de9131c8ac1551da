-- What `fmt ` says by numbers: the tag, and of an extensible format the channels and the subformat
-- (Microsoft, WAVEFORMATEX and WAVEFORMATEXTENSIBLE).
use Rattle.std.specs.Prelude.{ℕ, ◌/◌, ◌%◌, ◌==◌, ◌&&◌, nat_lt, nat_le, List, [], ◌∷◌, ◌++◌, codes}
use Rattle.std.specs.Prelude.{length, map, slice_index, slice_range, if◌then◌else◌}
use Rattle.std.specs.Str.{bytes_eq}
use Rattle.hex.specs.Hex.{encode_lower}
use Rattle.bw_model.specs.Bytes.{u16_at, u32_at}
use Rattle.bw_contents.specs.Texts.{Said, one_said}
use Rattle.bw_contents.specs.declared.content.Kind.TheVariants.{Tag, Subformat, Speakers}

-- what follows WAVE_FORMAT_ in the name of a tag; nothing for a tag that isn't named here
abbrev pub tag_name : ℕ → List ℕ
tag_name n =
    if n == 1 then codes "PCM"
    else if n == 3 then codes "IEEE_FLOAT"
    else if n == 6 then codes "ALAW"
    else if n == 7 then codes "MULAW"
    else if n == 0xFFFE then codes "EXTENSIBLE"
    else []

-- a name, if there is one, after what it begins with
abbrev pub prefixed : List ℕ → List ℕ → List ℕ
prefixed prefix [] = []
prefixed prefix (c ∷ cs) = prefix ++ c ∷ cs

-- the bytes at these places, in hexadecimal digits
abbrev pub digits_at : List ℕ → List ℕ → List ℕ
digits_at c places = encode_lower (map (λ p. slice_index c p) places)

-- a hyphen, and the bytes at these places
abbrev pub group_at : List ℕ → List ℕ → List ℕ
group_at c places = codes "-" ++ digits_at c places

-- a GUID: three little-endian numbers, and eight bytes
abbrev pub guid_text : List ℕ → List ℕ
guid_text g =
    digits_at g (3 ∷ 2 ∷ 1 ∷ 0 ∷ []) ++ group_at g (5 ∷ 4 ∷ []) ++ group_at g (7 ∷ 6 ∷ [])
    ++ group_at g (8 ∷ 9 ∷ []) ++ group_at g (10 ∷ 11 ∷ 12 ∷ 13 ∷ 14 ∷ 15 ∷ [])

-- a GUID that stands for a tag has these bytes after the tag's two
abbrev pub tag_guid : List ℕ
tag_guid = 0 ∷ 0 ∷ 0 ∷ 0 ∷ 16 ∷ 0 ∷ 128 ∷ 0 ∷ 0 ∷ 170 ∷ 0 ∷ 56 ∷ 155 ∷ 113 ∷ []

-- the tag's name of a GUID that stands for one
abbrev pub guid_name : List ℕ → List ℕ
guid_name g =
    if bytes_eq (slice_range g 2 16) tag_guid
    then prefixed (codes " KSDATAFORMAT_SUBTYPE_") (tag_name (u16_at g 0)) else []

-- the speakers of a channel mask, from its lowest bit on
abbrev pub speaker_names : List (List ℕ)
speaker_names =
    codes "FL" ∷ codes "FR" ∷ codes "FC" ∷ codes "LFE" ∷ codes "BL" ∷ codes "BR"
    ∷ codes "FLC" ∷ codes "FRC" ∷ codes "BC" ∷ codes "SL" ∷ codes "SR" ∷ codes "TC"
    ∷ codes "TFL" ∷ codes "TFC" ∷ codes "TFR" ∷ codes "TBL" ∷ codes "TBC" ∷ codes "TBR" ∷ []

-- the name of a speaker whose bit is set
abbrev pub speaker_text : List ℕ → ℕ → List ℕ
speaker_text name bit = if bit == 1 then codes " " ++ name else []

-- the names of those that are in a mask, each after a space
abbrev pub speakers_in : List (List ℕ) → ℕ → List ℕ
speakers_in [] mask = []
speakers_in (name ∷ names) mask = speaker_text name (mask % 2) ++ speakers_in names (mask / 2)

-- a channel mask, in hexadecimal digits and by its speakers
abbrev pub mask_text : List ℕ → List ℕ
mask_text c =
    digits_at c (23 ∷ 22 ∷ 21 ∷ 20 ∷ []) ++ speakers_in speaker_names (u32_at c 20)

-- what a `fmt ` chunk says of its tag
abbrev pub tag_says : List ℕ → List Said
tag_says c = one_said Tag (prefixed (codes "WAVE_FORMAT_") (tag_name (u16_at c 0)))

-- .. of its speakers
abbrev pub speakers_says : List ℕ → List Said
speakers_says c = one_said Speakers (mask_text c)

-- .. of its subformat
abbrev pub subformat_says : List ℕ → List Said
subformat_says c =
    one_said Subformat (guid_text (slice_range c 24 40) ++ guid_name (slice_range c 24 40))

-- what the extension of a `fmt ` chunk says, if it has one
abbrev pub extension_says : List ℕ → List Said
extension_says c =
    if (u16_at c 0 == 0xFFFE) && nat_le 40 (length c) then speakers_says c ++ subformat_says c
    else []

-- what a `fmt ` chunk says
abbrev pub format_says : List ℕ → List Said
format_says c = if nat_lt (length c) 16 then [] else tag_says c ++ extension_says c
