-- Worked `iXML` chunks, in the form of the iXML specification 2.10.
use Rattle.std.specs.Prelude.{◌≡◌, ℕ, List, [], ◌∷◌, ◌++◌, codes, Some, false}
use Rattle.bw_contents.specs.Texts.{one_said}
use Rattle.bw_contents.specs.XmlChunks.{ixml_says}
use Rattle.bw_contents.specs.declared.content.Kind.TheVariants.{Project, IxmlNote, Track, Malformed}

-- a document with a declaration, a project, a note with a reference and a CDATA section, and a track
abbrev pub ixml_document : List ℕ
ixml_document =
    codes "<?xml version='1.0'?><BWFXML><PROJECT> Owls </PROJECT><NOTE a='>'>A&amp;<![CDATA[<B>]]></NOTE>"
    ++ codes "<TRACK_LIST><TRACK><NAME>Mid</NAME><INTERLEAVE_INDEX>1</INTERLEAVE_INDEX></TRACK></TRACK_LIST>"
    ++ codes "<!-- - --></BWFXML>"

-- its texts: of the track with its interleave index
abbrev pub IxmlExample : Type 0
IxmlExample = ixml_says false (ixml_document ++ 0 ∷ 0 ∷ [])
    ≡ one_said Project (codes "Owls") ++ one_said IxmlNote (codes "A&<B>")
    ++ one_said (Track (Some 1)) (codes "Mid")

-- an end tag of another name
abbrev pub MalformedIxmlExample : Type 0
MalformedIxmlExample = ixml_says false (codes "<BWFXML><PROJECT>Owls</SCENE></BWFXML>")
    ≡ one_said (Malformed (codes "iXML")) (codes "not well-formed")
