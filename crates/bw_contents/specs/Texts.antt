-- What a text of a file is.
use Rattle.std.specs.Prelude.{ℕ, List, [], ◌∷◌, codes, Option, Some, None}
use Rattle.bw_contents.specs.declared.content.Kind.{Kind}
use Rattle.bw_contents.specs.declared.content.Kind.TheVariants.{Tag, Speakers, Subformat, History, Info}
use Rattle.bw_contents.specs.declared.content.Kind.TheVariants.{Label, Note, Cut, Project, Scene, Take, Tape}
use Rattle.bw_contents.specs.declared.content.Kind.TheVariants.{IxmlNote, Track, Function, Channel}
use Rattle.bw_contents.specs.declared.content.Kind.TheVariants.{Malformed, Unread, Xml}

-- what is said, and as what
pub record Said : Type 0 where
  pub kind : Kind
  pub text : List ℕ

-- this alone
abbrev pub one_said : Kind → List ℕ → List Said
one_said kind text = record { kind = kind; text = text } ∷ []

-- the name of what it is
abbrev pub kind_name : Kind → List ℕ
kind_name Tag = codes "tag"
kind_name Speakers = codes "speakers"
kind_name Subformat = codes "subformat"
kind_name History = codes "history"
kind_name (Info id) = codes "info"
kind_name (Label point) = codes "label"
kind_name (Note point) = codes "note"
kind_name (Cut id) = codes "cut"
kind_name Project = codes "project"
kind_name Scene = codes "scene"
kind_name Take = codes "take"
kind_name Tape = codes "tape"
kind_name IxmlNote = codes "ixml-note"
kind_name (Track index) = codes "track"
kind_name (Function index) = codes "function"
kind_name (Channel index) = codes "channel"
kind_name (Malformed id) = codes "malformed"
kind_name (Unread id) = codes "unread"
kind_name (Xml id) = codes "xml"

-- the id of the chunk that says it
abbrev pub kind_id : Kind → List ℕ
kind_id Tag = codes "fmt "
kind_id Speakers = codes "fmt "
kind_id Subformat = codes "fmt "
kind_id History = codes "bext"
kind_id (Info id) = id
kind_id (Label point) = codes "labl"
kind_id (Note point) = codes "note"
kind_id (Cut id) = id
kind_id Project = codes "iXML"
kind_id Scene = codes "iXML"
kind_id Take = codes "iXML"
kind_id Tape = codes "iXML"
kind_id IxmlNote = codes "iXML"
kind_id (Track index) = codes "iXML"
kind_id (Function index) = codes "iXML"
kind_id (Channel index) = codes "iXML"
kind_id (Malformed id) = id
kind_id (Unread id) = id
kind_id (Xml id) = id

-- the cue point, or the track, that it is about
abbrev pub kind_point : Kind → Option ℕ
kind_point Tag = None
kind_point Speakers = None
kind_point Subformat = None
kind_point History = None
kind_point (Info id) = None
kind_point (Label point) = Some point
kind_point (Note point) = Some point
kind_point (Cut id) = None
kind_point Project = None
kind_point Scene = None
kind_point Take = None
kind_point Tape = None
kind_point IxmlNote = None
kind_point (Track index) = index
kind_point (Function index) = index
kind_point (Channel index) = index
kind_point (Malformed id) = None
kind_point (Unread id) = None
kind_point (Xml id) = None
