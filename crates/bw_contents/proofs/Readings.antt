-- A document that is read piece by piece.
use Rattle.std.proofs.Common.{◌≡◌, ℕ, zero, suc, ◌==◌, true, false, List, [], ◌∷◌, length, Some, None, refl, arith}
use Rattle.std.proofs.lemmas.Bool.{eqb-true}
use Rattle.bw_contents.specs.Pieces.{XmlPiece, piece_at}
use Rattle.bw_contents.specs.Documents.{OpenElements, after_piece, said_after_pieces, said_at_end}

-- a piece that may follow
pub piece_taken : (n : ℕ) (e next : OpenElements) (tag c : List ℕ) (p : XmlPiece) → (length c == 0) ≡ false
    → piece_at tag c ≡ Some p → after_piece p.kind p.text e ≡ Some next
    → said_after_pieces (suc n) e tag c ≡ said_after_pieces n next p.tag p.rest
piece_taken n e next tag [] p some is taken = absurd (cc)
piece_taken n e next tag (b ∷ bs) p some is taken = rw (is, taken) refl

-- .. that may not
pub piece_refused : (n : ℕ) (e : OpenElements) (tag c : List ℕ) (p : XmlPiece) → (length c == 0) ≡ false
    → piece_at tag c ≡ Some p → after_piece p.kind p.text e ≡ None → said_after_pieces (suc n) e tag c ≡ None
piece_refused n e tag [] p some is refused = absurd (cc)
piece_refused n e tag (b ∷ bs) p some is refused = rw (is, refused) refl

-- none
pub no_piece : (n : ℕ) (e : OpenElements) (tag c : List ℕ) → (length c == 0) ≡ false → piece_at tag c ≡ None
    → said_after_pieces (suc n) e tag c ≡ None
no_piece n e tag [] some is = absurd (cc)
no_piece n e tag (b ∷ bs) some is = rw is refl

-- no bytes left
pub all_read : (n : ℕ) (e : OpenElements) (tag c : List ℕ) → (length c == 0) ≡ true
    → said_after_pieces n e tag c ≡ said_at_end e
all_read zero e tag c none = refl
all_read (suc n) e tag [] none = refl
all_read (suc n) e tag (b ∷ bs) none = absurd (omega (arith, eqb-true (length (b ∷ bs)) 0 none))
