-- What a file's chunks say beside the report.
use Rattle.std.specs.Prelude.{ℕ, ◌+◌, ◌||◌, nat_lt, min, List, [], ◌++◌, codes}
use Rattle.std.specs.Prelude.{length, take, drop, flat_map, slice_range, Bool, if◌then◌else◌}
use Rattle.bw_model.specs.Reading.{Entry, is_id}
use Rattle.bw_contents.specs.Texts.{Said, one_said}
use Rattle.bw_contents.specs.Formats.{format_says}
use Rattle.bw_contents.specs.Lists.{list_says}
use Rattle.bw_contents.specs.XmlChunks.{is_other_xml, ixml_says, xml_size_says}
use Rattle.bw_contents.specs.declared.content.Kind.TheVariants.{History, Cut}

-- how many bytes of a chunk are read
abbrev pub most_chunk_bytes : ℕ
most_chunk_bytes = 65536

-- how many chunks of a file are looked at
abbrev pub most_chunks_read : ℕ
most_chunks_read = 64

-- what a `bext` chunk says after its fields: the coding history (EBU Tech 3285)
abbrev pub history_says : List ℕ → List Said
history_says c = if nat_lt 602 (length c) then one_said History (drop 602 c) else []

-- whether chunks with this id are read
abbrev pub is_looked_into : List ℕ → Bool
is_looked_into id = is_id id (codes "fmt ")
    || (is_id id (codes "bext") || (is_id id (codes "iXML") || is_id id (codes "LIST")))

-- what a chunk says whose content begins so
abbrev pub content_says : Entry → List ℕ → List Said
content_says e c =
    if is_id e.id (codes "fmt ") then format_says c
    else if is_id e.id (codes "bext") then history_says c
    else if is_id e.id (codes "iXML") then ixml_says (nat_lt most_chunk_bytes e.size) c
    else list_says c

-- whether there is more of a chunk than is read
abbrev pub cut_says : Entry → List Said
cut_says e = if nat_lt most_chunk_bytes e.size then one_said (Cut e.id) (codes "after 65536 bytes") else []

-- what is read of a chunk
abbrev pub bytes_read : List ℕ → Entry → List ℕ
bytes_read b e = slice_range b (e.place + 8) (e.place + 8 + min e.size most_chunk_bytes)

-- what a chunk of b says
abbrev pub chunk_says : List ℕ → Entry → List Said
chunk_says b e =
    if is_other_xml e.id then xml_size_says e.id e.size
    else if is_looked_into e.id then content_says e (bytes_read b e) ++ cut_says e
    else []

-- what the chunks of b say, in their order
abbrev pub chunks_say : List ℕ → List Entry → List Said
chunks_say b entries = flat_map (chunk_says b) (take most_chunks_read entries)
