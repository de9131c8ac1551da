-- The pieces that an XML document is written in (W3C, Extensible Markup Language 1.0, fifth edition; its
-- sections in brackets). There is no document type declaration among them. It isn't looked at what a
-- processing instruction says (so neither at a declared encoding), which references an attribute's value
-- has, or whether two attributes have one name.
use Rattle.std.specs.Prelude.{ℕ, ◌==◌, ◌||◌, not, nat_lt, Bool, List, [], ◌∷◌, codes, length, take, drop}
use Rattle.std.specs.Prelude.{slice_index, Option, Some, None, is_some, if◌then◌else◌}
use Rattle.std.specs.List.{prefix_len}
use Rattle.bw_contents.specs.Markup.{◌>>=◌, after_white_space, after_word, begins_with, char_named}
use Rattle.bw_contents.specs.Markup.{cut_at_mark}
use Rattle.bw_contents.specs.Markup.{is_white_space, name_at}
use Rattle.bw_contents.specs.declared.piece.Piece.{Piece}
use Rattle.bw_contents.specs.declared.piece.PieceKind.{PieceKind}
use Rattle.bw_contents.specs.declared.piece.PieceKind.TheVariants.{Begin, End, Text, CData, Char, Nothing}

-- a piece: what it is and its text; the name of the element whose start tag goes on after it, or
-- nothing; and the bytes after it
pub record XmlPiece : Type 0 where
  pub kind : PieceKind
  pub text : List ℕ
  pub tag : List ℕ
  pub rest : List ℕ

-- a piece, without where it lies in memory
abbrev pub xml_piece_of : Piece → XmlPiece
xml_piece_of p = record { kind = p.kind; text = p.text.now; tag = p.tag.now; rest = p.rest.now }

-- a piece after which no start tag goes on
abbrev pub whole_piece : PieceKind → List ℕ → List ℕ → XmlPiece
whole_piece kind text rest = record { kind = kind; text = text; tag = []; rest = rest }

-- a piece without text after which a start tag goes on
abbrev pub tag_piece : List ℕ → List ℕ → XmlPiece
tag_piece tag rest = record { kind = Nothing; text = []; tag = tag; rest = rest }

-- a comment after `<!--` [2.5]
unfoldable pub comment_at : List ℕ → Option XmlPiece
comment_at c = do
  p ← cut_at_mark (codes "--") c
  r ← after_word (codes ">") p.1
  Some (whole_piece Nothing [] r)

-- a section after `<![CDATA[` [2.7]
unfoldable pub cdata_at : List ℕ → Option XmlPiece
cdata_at c = do
  p ← cut_at_mark (codes "]]>") c
  Some (whole_piece CData p.0 p.1)

-- a processing instruction, or the declaration of XML, after `<?` [2.6, 2.8]
unfoldable pub instruction_at : List ℕ → Option XmlPiece
instruction_at c = do
  n ← name_at c
  p ← cut_at_mark (codes "?>") n.1
  Some (whole_piece Nothing [] p.1)

-- an end tag after `</` [3.1, ETag]
unfoldable pub end_tag_at : List ℕ → Option XmlPiece
end_tag_at c = do
  n ← name_at c
  r ← after_word (codes ">") (after_white_space n.1)
  Some (whole_piece End n.0 r)

-- the name of a start tag after `<` [3.1, STag]
unfoldable pub begin_at : List ℕ → Option XmlPiece
begin_at c = do
  n ← name_at c
  Some (record { kind = Begin; text = n.0; tag = n.0; rest = n.1 })

-- a reference after `&` [4.1]
unfoldable pub reference_at : List ℕ → Option XmlPiece
reference_at c = do
  p ← cut_at_mark (codes ";") c
  code ← char_named p.0
  Some (whole_piece (Char code) [] p.1)

-- a byte of character data: no `<` and no `&` [2.4]
abbrev pub is_data_byte : ℕ → Bool
is_data_byte c = not ((c == 60) || (c == 38))

-- this text, if the mark isn't in it
abbrev pub text_without : List ℕ → List ℕ → List ℕ → Option XmlPiece
text_without mark text rest =
    if is_some (cut_at_mark mark text) then None else Some (whole_piece Text text rest)

-- character data up to the next `<` or `&`, without `]]>` [2.4, CharData]
unfoldable pub data_at : List ℕ → Option XmlPiece
data_at c =
    text_without (codes "]]>") (take (prefix_len is_data_byte c) c) (drop (prefix_len is_data_byte c) c)

-- what isn't in a start tag
unfoldable pub content_piece_at : List ℕ → Option XmlPiece
content_piece_at c =
    if begins_with c (codes "<!--") then comment_at (drop 4 c)
    else if begins_with c (codes "<![CDATA[") then cdata_at (drop 9 c)
    else if begins_with c (codes "<?") then instruction_at (drop 2 c)
    else if begins_with c (codes "</") then end_tag_at (drop 2 c)
    else if begins_with c (codes "<") then begin_at (drop 1 c)
    else if begins_with c (codes "&") then reference_at (drop 1 c)
    else data_at c

-- what follows an attribute's value after its first quote, up to the next: it has no `<` [2.3, AttValue]
unfoldable pub after_value : List ℕ → List ℕ → Option (List ℕ)
after_value quote c = do
  p ← cut_at_mark quote c
  if is_some (cut_at_mark (codes "<") p.0) then None else Some p.1

-- what follows an attribute's value in quotes
unfoldable pub after_quoted : List ℕ → Option (List ℕ)
after_quoted c =
    if begins_with c (codes "'") then after_value (codes "'") (drop 1 c)
    else if begins_with c (34 ∷ []) then after_value (34 ∷ []) (drop 1 c)
    else None

-- an attribute [3.1, Attribute]
unfoldable pub attribute_at : List ℕ → List ℕ → Option XmlPiece
attribute_at tag c = do
  n ← name_at c
  v ← after_word (codes "=") (after_white_space n.1)
  r ← after_quoted (after_white_space v)
  Some (tag_piece tag r)

-- the end of the start tag of an element with this name, or an attribute after white space [3.1]
unfoldable pub tag_part_at : List ℕ → List ℕ → Option XmlPiece
tag_part_at tag c =
    if begins_with (after_white_space c) (codes ">") then Some (tag_piece [] (drop 1 (after_white_space c)))
    else if begins_with (after_white_space c) (codes "/>")
    then Some (whole_piece End tag (drop 2 (after_white_space c)))
    else if is_white_space (slice_index c 0) then attribute_at tag (after_white_space c)
    else None

-- the next piece, in the start tag of this element if there is a name
unfoldable pub piece_at : List ℕ → List ℕ → Option XmlPiece
piece_at tag c = if nat_lt 0 (length tag) then tag_part_at tag c else content_piece_at c
