-- What a `LIST` says (Microsoft and IBM, Multimedia Programming Interface and Data Specifications).
use Rattle.std.specs.Prelude.{ℕ, zero, suc, ◌+◌, nat_lt, List, [], ◌++◌, codes, length, take, drop}
use Rattle.std.specs.Prelude.{slice_range, if◌then◌else◌}
use Rattle.bw_model.specs.Bytes.{u32_at, even_up}
use Rattle.bw_model.specs.Reading.{is_id}
use Rattle.bw_contents.specs.Texts.{Said, one_said}
use Rattle.bw_contents.specs.declared.content.Kind.TheVariants.{Info, Label, Note}

-- the content of the chunk that these bytes begin with, as far as it is there
abbrev pub part_content : List ℕ → List ℕ
part_content c = take (u32_at c 4) (drop 8 c)

-- what a chunk of `adtl` says: a label or a note of a cue point
abbrev pub point_says : List ℕ → List ℕ → List Said
point_says id c =
    if nat_lt (length c) 4 then []
    else if is_id id (codes "labl") then one_said (Label (u32_at c 0)) (drop 4 c)
    else if is_id id (codes "note") then one_said (Note (u32_at c 0)) (drop 4 c)
    else []

-- what the chunk that these bytes begin with says in a list of this type
abbrev pub part_says : List ℕ → List ℕ → List Said
part_says type c =
    if is_id type (codes "INFO") then one_said (Info (slice_range c 0 4)) (part_content c)
    else if is_id type (codes "adtl") then point_says (slice_range c 0 4) (part_content c)
    else []

-- what the chunks say that follow one another in these bytes, at most n of them
abbrev pub parts_say : ℕ → List ℕ → List ℕ → List Said
parts_say zero type c = []
parts_say (suc n) type c =
    if nat_lt (length c) 8 then []
    else part_says type c ++ parts_say n type (drop (8 + even_up (u32_at c 4)) c)

-- what a `LIST` says: its type, and the chunks after it
abbrev pub list_says : List ℕ → List Said
list_says c =
    if nat_lt (length c) 4 then []
    else parts_say (length (drop 4 c)) (slice_range c 0 4) (drop 4 c)
