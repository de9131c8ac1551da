-- An XML document (W3C, Extensible Markup Language 1.0, fifth edition; its sections in brackets), and
-- what its elements say. At its end an element says the character data since the tag before, without
-- white space around it: all its character data, where no element is in it.
use Rattle.std.specs.Prelude.{ℕ, zero, suc, ◌+◌, ◌-◌, ◌==◌, ◌||◌, ◌&&◌, nat_lt, Bool, false, true}
use Rattle.std.specs.Prelude.{List, [], ◌∷◌, ◌++◌, length, take, drop, reverse}
use Rattle.std.specs.Prelude.{Option, Some, None, if◌then◌else◌}
use Rattle.std.specs.Char.{encode_utf8}
use Rattle.std.specs.List.{list_all}
use Rattle.std.specs.Str.{bytes_eq, is_utf8}
use Rattle.bw_contents.specs.Markup.{◌>>=◌, after_white_space, begins_with, is_white_space}
use Rattle.bw_contents.specs.Pieces.{piece_at}
use Rattle.bw_contents.specs.Ixml.{IxmlTexts, no_track, with_element}
use Rattle.bw_contents.specs.Texts.{Said}
use Rattle.bw_contents.specs.declared.piece.PieceKind.{PieceKind}
use Rattle.bw_contents.specs.declared.piece.PieceKind.TheVariants.{Begin, End, Text, CData, Char, Nothing}

-- a text without white space around it
abbrev pub trimmed : List ℕ → List ℕ
trimmed c = reverse (after_white_space (reverse (after_white_space c)))

-- what is known between two pieces: the names of the open elements, each after a slash; the character
-- data since the last tag; whether the root has begun; and what was said so far
pub record OpenElements : Type 0 where
  pub path : List ℕ
  pub text : List ℕ
  pub begun : Bool
  pub texts : IxmlTexts

-- before the first piece
abbrev pub none_open : OpenElements
none_open = record { path = []; text = []; begun = false; texts = record { track = no_track; said = [] } }

-- a name after a slash
abbrev pub path_step : List ℕ → List ℕ
path_step name = 47 ∷ name

-- the path of the element in which the innermost one is, if that has this name
abbrev pub path_around : List ℕ → List ℕ → Option (List ℕ)
path_around path name =
    if bytes_eq (drop (length path - (length name + 1)) path) (path_step name)
    then Some (take (length path - (length name + 1)) path) else None

-- after a start tag: there is one root [2.1]
abbrev pub element_begun : List ℕ → OpenElements → Option OpenElements
element_begun name e =
    if (length e.path == 0) && e.begun then None
    else Some (record { path = e.path ++ path_step name; text = []; begun = true; texts = e.texts })

-- after the end of an element: it is the innermost one [3, element type match]
abbrev pub element_ended : List ℕ → OpenElements → Option OpenElements
element_ended name e = do
  around ← path_around e.path name
  Some (record e { path = around; text = []; texts = with_element e.path (trimmed e.text) e.texts })

-- after character data: outside the root there is none
abbrev pub text_added : List ℕ → OpenElements → Option OpenElements
text_added text e = if length e.path == 0 then None else Some (record e { text = e.text ++ text })

-- after character data that isn't in a CDATA section: outside the root there is only white space [2.8, Misc]
abbrev pub data_added : List ℕ → OpenElements → Option OpenElements
data_added text e =
    if (length e.path == 0) && list_all is_white_space text then Some e else text_added text e

-- after a piece, if it may follow
abbrev pub after_piece : PieceKind → List ℕ → OpenElements → Option OpenElements
after_piece Begin name e = element_begun name e
after_piece End name e = element_ended name e
after_piece Text text e = data_added text e
after_piece CData text e = text_added text e
after_piece (Char code) text e = text_added (encode_utf8 code) e
after_piece Nothing text e = Some e

-- after all pieces of these bytes, of which there are at most n, in the start tag of `tag` if that has a name
abbrev pub after_pieces : ℕ → OpenElements → List ℕ → List ℕ → Option OpenElements
after_pieces zero e tag c = Some e
after_pieces (suc n) e tag [] = Some e
after_pieces (suc n) e tag (b ∷ bs) = do
  p ← piece_at tag (b ∷ bs)
  next ← after_piece p.kind p.text e
  after_pieces n next p.tag p.rest

-- what was said, if the root has ended
abbrev pub said_at_end : OpenElements → Option (List Said)
said_at_end e = if (length e.path == 0) && e.begun then Some e.texts.said else None

-- what the elements say in these bytes, if the root has ended after them
abbrev pub said_after_pieces : ℕ → OpenElements → List ℕ → List ℕ → Option (List Said)
said_after_pieces n e tag c = after_pieces n e tag c >>= said_at_end

-- a byte that is no control character but white space
abbrev pub is_no_control : ℕ → Bool
is_no_control b = is_white_space b || nat_lt 31 b

-- whether each byte is one
abbrev pub has_no_control : List ℕ → Bool
has_no_control c = list_all is_no_control c

-- whether these bytes may be those of a document [2.2, Char]
abbrev pub is_xml_text : List ℕ → Bool
is_xml_text c = is_utf8 c && has_no_control c

-- without a byte order mark at the front
abbrev pub after_order_mark : List ℕ → List ℕ
after_order_mark c = if begins_with c (0xEF ∷ 0xBB ∷ 0xBF ∷ []) then drop 3 c else c

-- what the elements of a document say, if these bytes are one
abbrev pub document_says : List ℕ → Option (List Said)
document_says c =
    if is_xml_text c
    then said_after_pieces (length c) none_open [] (after_order_mark c) else None
