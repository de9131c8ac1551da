-- What chunks of XML say: `iXML` its texts, any other one its size.
use Rattle.std.specs.Prelude.{ℕ, ◌==◌, ◌||◌, not, Bool, List, [], ◌∷◌, ◌++◌, codes, take_while, decimal}
use Rattle.std.specs.Prelude.{Option, Some, None, is_some, if◌then◌else◌}
use Rattle.std.specs.Str.{is_utf8}
use Rattle.bw_model.specs.Reading.{is_id}
use Rattle.bw_contents.specs.Documents.{document_says}
use Rattle.bw_contents.specs.Markup.{begins_with, cut_at_mark}
use Rattle.bw_contents.specs.Texts.{Said, one_said}
use Rattle.bw_contents.specs.declared.content.Kind.TheVariants.{Malformed, Unread, Xml}

-- the bytes before the first zero byte: recorders fill what they reserve for a chunk
abbrev pub before_padding : List ℕ → List ℕ
before_padding c = take_while (λ b. not (b == 0)) c

-- whether XML is in UTF-16: a byte order mark, or `<` as two bytes (W3C, XML 1.0, appendix F)
abbrev pub is_utf16 : List ℕ → Bool
is_utf16 c = (begins_with c (0xFE ∷ 0xFF ∷ []) || begins_with c (0xFF ∷ 0xFE ∷ []))
    || (begins_with c (60 ∷ 0 ∷ []) || begins_with c (0 ∷ 60 ∷ []))

-- why these bytes of an `iXML` chunk are no document that is read
abbrev pub unread_says : List ℕ → List Said
unread_says c =
    if is_utf16 c then one_said (Unread (codes "iXML")) (codes "UTF-16")
    else if not (is_utf8 (before_padding c)) then one_said (Unread (codes "iXML")) (codes "not UTF-8")
    else if is_some (cut_at_mark (codes "<!DOCTYPE") (before_padding c))
    then one_said (Unread (codes "iXML")) (codes "document type declaration")
    else one_said (Malformed (codes "iXML")) (codes "not well-formed")

-- this, or else that
abbrev pub said_or : List Said → Option (List Said) → List Said
said_or other None = other
said_or other (Some said) = said

-- .. where their end isn't there, nothing
abbrev pub fault_says : Bool → List ℕ → List Said
fault_says is_cut c = if is_cut then [] else unread_says c

-- what an `iXML` chunk says that begins so, and is cut off there or is whole
abbrev pub ixml_says : Bool → List ℕ → List Said
ixml_says is_cut c = said_or (fault_says is_cut c) (document_says (before_padding c))

-- whether chunks with this id are XML of which the size alone is said
abbrev pub is_other_xml : List ℕ → Bool
is_other_xml id = is_id id (codes "axml") || is_id id (codes "aXML")

-- the size of such a chunk
abbrev pub xml_size_says : List ℕ → ℕ → List Said
xml_size_says id size = one_said (Xml id) (decimal size ++ codes " bytes")
