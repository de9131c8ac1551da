-- What chunks say beside the report, in lines and as JSON.
use Rattle.std.specs.Prelude.{ℕ, ◌==◌, not, List, [], ◌∷◌, ◌++◌, map, flat_map, take_while, codes}
use Rattle.std.specs.Prelude.{decimal, Option, Some, None}
use Rattle.serde_json.specs.Data.{Data, null, string, array, object, Members, no_members, member, put}
use Rattle.serde_json.specs.View.{items_of}
use Rattle.bw_model.specs.Report.{id_byte}
use Rattle.bw_console.specs.Text.{as_line}
use Rattle.bw_contents.specs.Texts.{Said, kind_id, kind_name, kind_point}
use Rattle.bw_contents.specs.declared.content.Kind.{Kind}
use Rattle.bw_contents.specs.declared.content.Kind.TheVariants.{Tag, Speakers, Subformat, History, Info}
use Rattle.bw_contents.specs.declared.content.Kind.TheVariants.{Label, Note, Cut, Project, Scene, Take, Tape}
use Rattle.bw_contents.specs.declared.content.Kind.TheVariants.{IxmlNote, Track, Function, Channel}
use Rattle.bw_contents.specs.declared.content.Kind.TheVariants.{Malformed, Unread, Xml}
use Rattle.bw_report.specs.ShownTexts.{shown_text}
use Rattle.bw_report.specs.Values.{hex_data, number_or_null, text_data, with_text}

-- a text's bytes before its first zero byte
abbrev pub said_text : Said → List ℕ
said_text x = take_while (λ c. not (c == 0)) x.text

-- an id after a space, a full stop for each byte that isn't visible
abbrev pub id_text : List ℕ → List ℕ
id_text id = codes " " ++ map id_byte id

-- the number of a cue point after a space
abbrev pub point_text : ℕ → List ℕ
point_text point = codes " " ++ decimal point

-- the index of a track after a space, if it has one
abbrev pub index_text : Option ℕ → List ℕ
index_text None = []
index_text (Some index) = point_text index

-- of what a text is: an id, a cue point or a track, where there are several
abbrev pub kind_detail : Kind → List ℕ
kind_detail Tag = []
kind_detail Speakers = []
kind_detail Subformat = []
kind_detail History = []
kind_detail (Info id) = id_text id
kind_detail (Label point) = point_text point
kind_detail (Note point) = point_text point
kind_detail (Cut id) = id_text id
kind_detail Project = []
kind_detail Scene = []
kind_detail Take = []
kind_detail Tape = []
kind_detail IxmlNote = []
kind_detail (Track index) = index_text index
kind_detail (Function index) = index_text index
kind_detail (Channel index) = index_text index
kind_detail (Malformed id) = id_text id
kind_detail (Unread id) = id_text id
kind_detail (Xml id) = id_text id

-- what a text is
abbrev pub said_kind : Kind → List ℕ
said_kind kind = kind_name kind ++ kind_detail kind

-- the line of a text that isn't empty
abbrev pub content_line : Kind → List ℕ → List ℕ
content_line kind [] = []
content_line kind (c ∷ cs) = as_line (said_kind kind ++ codes " " ++ shown_text (c ∷ cs))

-- the line of what is said
abbrev pub said_line : Said → List ℕ
said_line x = content_line x.kind (said_text x)

-- the lines of what is said, if it is known
abbrev pub contents_lines : Option (List Said) → List ℕ
contents_lines None = []
contents_lines (Some all) = flat_map said_line all

-- what is said, as an object
abbrev pub said_data : Said → Data
said_data x = object
    (member (codes "id") (text_data (kind_id x.kind))
    (member (codes "id_hex") (hex_data (kind_id x.kind))
    (member (codes "kind") (string (kind_name x.kind))
    (member (codes "point") (number_or_null (kind_point x.kind))
    (member (codes "text") (text_data (said_text x))
    (member (codes "text_hex") (hex_data (said_text x)) no_members))))))

-- members with those of what a text is
abbrev pub with_kind : Kind → Members → Members
with_kind kind members = put (codes "id") (text_data (kind_id kind))
    (put (codes "id_hex") (hex_data (kind_id kind))
    (put (codes "kind") (string (kind_name kind))
    (put (codes "point") (number_or_null (kind_point kind)) members)))

-- members with those of what is said
abbrev pub with_said : Said → Members → Members
with_said x members =
    with_kind x.kind (with_text (codes "text") (codes "text_hex") (said_text x) members)

-- all that is said, or null
abbrev pub contents_or_null : Option (List Said) → Data
contents_or_null None = null
contents_or_null (Some all) = array (items_of (map said_data all))
