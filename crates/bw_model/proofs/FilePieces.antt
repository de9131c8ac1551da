-- The chunks of a take's file, as pieces that follow each other.
use Rattle.std.proofs.Common.{◌≡◌, ℕ, ◌+◌, ◌*◌, ◌<◌, ◌≤◌, ◌^◌, false, inl, List, [], ◌∷◌, ◌++◌, length, refl, sym, ◌∙◌}
use Rattle.std.proofs.Common.{ap, arith, append_assoc, length-append}
use Rattle.std.specs.Prelude.{flat_map, codes, map}
use Rattle.std.proofs.lemmas.List.{append-nil}
use Rattle.std.proofs.lemmas.Bool.{false≢true}
use Rattle.std.proofs.lemmas.Nat.{from_le_bytes-to_le_bytes_4}
use Rattle.bw_model.specs.Bytes.{even_up, u32_at}
use Rattle.bw_model.specs.Take.{Format, Take, AreFields}
use Rattle.bw_model.specs.Layout.{Chunk, chunk, chunk_sized, bext_fixed, cue_content}
use Rattle.bw_model.specs.File.{form_of, fmt_chunk, bext_chunk, data_chunk, cue_chunks, chunks_before, chunks_after}
use Rattle.bw_model.specs.File.{cues, data_place}
use Rattle.bw_model.specs.Reading.{Entry, Form, is_id, largest}
use Rattle.bw_model.specs.ReadBack.{read_cues}
use Rattle.bw_model.proofs.BookLemmas.{name_refl}
use Rattle.bw_model.proofs.Widths.{length-bext_fixed, length-cue_content}
use Rattle.bw_model.proofs.StandingChunks.{Piece, piece_bytes, IsPiece, SaysSize, ArePieces, entries_from}

-- a chunk that says its own size
abbrev pub own : Chunk → Piece
own c = (length c.content, c)

abbrev pub pieces : Format → Take → Chunk → ℕ → List Piece
pieces f t first data_size =
    own first ∷ own (fmt_chunk f) ∷ own (bext_chunk t.fields t.history) ∷ (data_size, data_chunk t.samples)
    ∷ map own (chunks_after t)

-- the form is its pieces after `WAVE`
pub form-pieces : (outer : List ℕ) (f : Format) (t : Take) (first : Chunk) (data_size : ℕ) →
    outer ++ form_of f t first data_size
    ≡ (outer ++ codes "WAVE") ++ (flat_map piece_bytes (pieces f t first data_size) ++ [])
unfolding form_of
form-pieces outer f t first data_size =
    ap (λ (z : List ℕ). outer
    ++ (codes "WAVE" ++ chunk first ++ flat_map chunk (chunks_before f t)
    ++ chunk_sized data_size (data_chunk t.samples) ++ z)) (sym (owns (chunks_after t)))
    ∙ joined outer (codes "WAVE") (chunk first) (chunk (fmt_chunk f)) (chunk (bext_chunk t.fields t.history))
    (chunk_sized data_size (data_chunk t.samples)) (flat_map piece_bytes (map own (chunks_after t)))
  where
    owns : (cs : List Chunk) → flat_map piece_bytes (map own cs) ≡ flat_map chunk cs
    owns [] = refl
    owns (c ∷ cs) = ap (λ (z : List ℕ). chunk c ++ z) (owns cs)

    joined : (o w a b c d e : List ℕ) →
        o ++ (w ++ a ++ (b ++ (c ++ [])) ++ d ++ e) ≡ (o ++ w) ++ ((a ++ (b ++ (c ++ (d ++ e)))) ++ [])
    joined o w a b c d e = simp (append_assoc, append-nil)

-- an id is not another
pub other_id : (id want : List ℕ) → is_id id want ≡ false → id ≡ want → ⊥
other_id id want h e = false≢true (sym h ∙ ap (λ (z : List ℕ). is_id z want) e ∙ name_refl want)

-- the `bext` chunk's length
pub length-bext_content : (fields : List (List ℕ)) (history : List ℕ) → AreFields fields →
    length (bext_fixed fields ++ history) ≡ 602 + length history
length-bext_content fields history h =
    length-append (bext_fixed fields) history ∙ ap (λ (k : ℕ). k + length history) (length-bext_fixed fields h)

fmt_piece : (form : Form) (f : Format) → IsPiece form (own (fmt_chunk f))
fmt_piece form f = record {
  id = refl;
  said = inl (refl, omega arith);
  no_larger = omega arith;
  fmt = λ e. omega arith;
  bext = λ e. absurd (other_id (codes "fmt ") (codes "bext") refl e);
  cue = λ e. absurd (other_id (codes "fmt ") (codes "cue ") refl e);
}

bext_piece : (form : Form) (fields : List (List ℕ)) (history : List ℕ) → AreFields fields → length history ≤ 4096 →
    IsPiece form (own (bext_chunk fields history))
bext_piece form fields history h short =
    let n : length (bext_fixed fields ++ history) ≡ 602 + length history = length-bext_content fields history h in
    record {
      id = refl;
      said = inl (refl, omega (arith, n));
      no_larger = omega (arith, n);
      fmt = λ e. absurd (other_id (codes "bext") (codes "fmt ") refl e);
      bext = λ e. omega (arith, n);
      cue = λ e. absurd (other_id (codes "bext") (codes "cue ") refl e);
    }

data_piece : (form : Form) (size : ℕ) (samples : List ℕ) → SaysSize form (size, data_chunk samples) →
    length samples ≤ largest → IsPiece form (size, data_chunk samples)
data_piece form size samples said small = record {
  id = refl;
  said = said;
  no_larger = small;
  fmt = λ e. absurd (other_id (codes "data") (codes "fmt ") refl e);
  bext = λ e. absurd (other_id (codes "data") (codes "bext") refl e);
  cue = λ e. absurd (other_id (codes "data") (codes "cue ") refl e);
}

-- the count of a `cue ` chunk
pub count-cues : (markers : List (ℕ × ℕ)) → length markers < 2 ^ 32 → u32_at (cue_content markers) 0 ≡ length markers
count-cues markers small = from_le_bytes-to_le_bytes_4 (length markers) small

cue_pieces : (form : Form) (markers : List (ℕ × ℕ)) → length markers ≤ 1024 →
    ArePieces form (map own (cue_chunks markers))
cue_pieces form [] few = tt
cue_pieces form (m ∷ ms) few = (
  record {
    id = refl;
    said = inl (refl, omega (arith, n));
    no_larger = omega (arith, n);
    fmt = λ e. absurd (other_id (codes "cue ") (codes "fmt ") refl e);
    bext = λ e. absurd (other_id (codes "cue ") (codes "bext") refl e);
    cue = λ e. record { count = omega (arith, n); few = omega (arith, count); points = omega (arith, count, n) };
  },
  tt,
)
  where
    n : length (cue_content (m ∷ ms)) ≡ 4 + 24 * length (m ∷ ms)
    n = length-cue_content (m ∷ ms)

    count : u32_at (cue_content (m ∷ ms)) 0 ≡ length (m ∷ ms)
    count = count-cues (m ∷ ms) (omega arith)

pub are_pieces : (form : Form) (f : Format) (t : Take) (first : Chunk) (data_size : ℕ) →
    IsPiece form (own first) → AreFields t.fields → length t.history ≤ 4096 →
    SaysSize form (data_size, data_chunk t.samples) → length t.samples ≤ largest →
    length (cues t.closed t.markers) ≤ 1024 → ArePieces form (pieces f t first data_size)
are_pieces form f t first data_size is_first fields history said samples few = (
  is_first,
  (
    fmt_piece form f,
    (
      bext_piece form t.fields t.history fields history,
      (data_piece form data_size t.samples said samples, cue_pieces form (cues t.closed t.markers) few),
    ),
  ),
)

-- the pieces as they are listed
abbrev pub listed : List ℕ → Take → List Entry
listed id t =
    record { id = id; place = 12; size = 28 }
    ∷ record { id = codes "fmt "; place = 48; size = 16 }
    ∷ record { id = codes "bext"; place = 72; size = 602 + length t.history }
    ∷ record { id = codes "data"; place = 682 + even_up (length t.history); size = length t.samples }
    ∷ read_cues (data_place (length t.history) + even_up (length t.samples)) (cues t.closed t.markers)

cue-listed : (p q : ℕ) (markers : List (ℕ × ℕ)) → p ≡ q →
    entries_from p (map own (cue_chunks markers)) ≡ read_cues q markers
cue-listed p q [] e = refl
cue-listed p q (m ∷ ms) e =
    ap (λ (r : ℕ). record { id = codes "cue "; place = r; size = length (cue_content (m ∷ ms)) } ∷ []) e
    ∙ ap (λ (n : ℕ). record { id = codes "cue "; place = q; size = n } ∷ []) (length-cue_content (m ∷ ms))

pub pieces-listed : (f : Format) (t : Take) (first : Chunk) (data_size : ℕ) → length first.content ≡ 28 →
    AreFields t.fields → entries_from 12 (pieces f t first data_size) ≡ listed first.id t
pieces-listed f t first data_size l h =
    ap (λ (a : ℕ). by_lengths a (length (bext_fixed t.fields ++ t.history))) l
    ∙ ap (by_lengths 28) (length-bext_content t.fields t.history h)
    ∙ ap (λ (p : ℕ). prefix ++ record { id = codes "data"; place = p; size = d } ∷ entries_from (p + 8 + even_up d) cue)
    samples
    ∙ ap (λ (es : List Entry). prefix
    ++ record { id = codes "data"; place = 682 + even_up (length t.history); size = d } ∷ es)
    (cue-listed (682 + even_up (length t.history) + 8 + even_up d) (data_place (length t.history) + even_up d)
    (cues t.closed t.markers) (omega arith))
  where
    d : ℕ
    d = length t.samples

    cue : List Piece
    cue = map own (chunks_after t)

    prefix : List Entry
    prefix =
        record { id = first.id; place = 12; size = 28 } ∷ record { id = codes "fmt "; place = 48; size = 16 }
        ∷ record { id = codes "bext"; place = 72; size = 602 + length t.history } ∷ []

    following : ℕ → ℕ → ℕ
    following a n = 12 + 8 + even_up a + 8 + even_up 16 + 8 + even_up n

    by_lengths : ℕ → ℕ → List Entry
    by_lengths a n =
        record { id = first.id; place = 12; size = a }
        ∷ record { id = codes "fmt "; place = 12 + 8 + even_up a; size = 16 }
        ∷ record { id = codes "bext"; place = 12 + 8 + even_up a + 8 + even_up 16; size = n }
        ∷ record { id = codes "data"; place = following a n; size = d } ∷ entries_from (following a n + 8 + even_up d) cue

    samples : following 28 (602 + length t.history) ≡ 682 + even_up (length t.history)
    samples = omega arith
