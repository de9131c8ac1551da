-- A take's file is a form of its chunks, in either kind.
use Rattle.std.proofs.Common.{◌≡◌, ℕ, ◌+◌, ◌≤◌, Bool, true, false, inl, inr, List, [], ◌++◌, length, Some, None, Ok}
use Rattle.std.proofs.Common.{refl, arith, length-append}
use Rattle.std.specs.Prelude.{codes, flat_map}
use Rattle.bw_model.specs.Bytes.{unsaid}
use Rattle.bw_model.specs.Take.{Format, Take}
use Rattle.bw_model.specs.Layout.{Chunk, head, chunk, chunk_sized}
use Rattle.bw_model.specs.File.{form_of, form_len, junk_chunk, ds64_chunk, data_chunk, chunks_before, chunks_after}
use Rattle.bw_model.specs.File.{cues}
use Rattle.bw_model.specs.Reading.{Form, outer, is_id, largest}
use Rattle.bw_model.specs.ReadBack.{IsWithinLimits}
use Rattle.bw_model.proofs.HeaderLaws.{form_len-form_size}
use Rattle.bw_model.proofs.StandingChunks.{IsPiece, ArePieces, SaysSize, AllStand, all-stand}
use Rattle.bw_model.proofs.FilePieces.{own, pieces, form-pieces, are_pieces, other_id}
use Rattle.bw_model.proofs.FileForms.{riff-outer, wide-outer}

-- a first chunk of 28 bytes
first_piece : (form : Form) (first : Chunk) → length first.id ≡ 4 → length first.content ≡ 28 →
    is_id first.id (codes "fmt ") ≡ false → is_id first.id (codes "bext") ≡ false →
    is_id first.id (codes "cue ") ≡ false → IsPiece form (own first)
first_piece form first four long fmt bext cue = record {
  id = four;
  said = inl (refl, omega (arith, long));
  no_larger = omega (arith, long);
  fmt = λ e. absurd (other_id first.id (codes "fmt ") fmt e);
  bext = λ e. absurd (other_id first.id (codes "bext") bext e);
  cue = λ e. absurd (other_id first.id (codes "cue ") cue e);
}

-- the form of a take's chunks after this first chunk, with this as the data chunk's size
pub record IsOwnForm (f : Format) (t : Take) (first : Chunk) (data_size : ℕ) (form : Form) (b : List ℕ) : Type 0 where
  pub header : outer b ≡ Ok form
  pub size : form.size ≡ form_len f t
  pub whole : length b ≡ 8 + form_len f t
  pub piece : IsPiece form (own first)
  pub said : SaysSize form (data_size, data_chunk t.samples)
  pub fmt : is_id first.id (codes "fmt ") ≡ false
  pub bext : is_id first.id (codes "bext") ≡ false
  pub samples : is_id first.id (codes "data") ≡ false
  pub cue : is_id first.id (codes "cue ") ≡ false
  pub long : length first.content ≡ 28

-- the bytes of such a form after an outer header of 8
abbrev pub bytes_of : List ℕ → Format → Take → Chunk → ℕ → List ℕ
bytes_of outer f t first data_size = outer ++ form_of f t first data_size

pub own_pieces : (f : Format) (t : Take) (first : Chunk) (data_size : ℕ) (form : Form) (b : List ℕ) →
    IsWithinLimits f t → IsOwnForm f t first data_size form b → ArePieces form (pieces f t first data_size)
own_pieces f t first data_size form b within h =
    are_pieces form f t first data_size h.piece within.fields within.history h.said small (few t.closed)
  where
    small : length t.samples ≤ largest
    small =
        let sizes = form_len-form_size f t within.fields in
        let limit : form_len f t ≤ largest = within.form in
        omega (arith, sizes, limit)

    few : (closed : Bool) → length (cues closed t.markers) ≤ 1024
    few true = within.markers
    few false = omega arith

pub own_stand : (f : Format) (t : Take) (outer : List ℕ) (first : Chunk) (data_size : ℕ) (form : Form) →
    length outer ≡ 8 → IsWithinLimits f t →
    IsOwnForm f t first data_size form (bytes_of outer f t first data_size) →
    AllStand (bytes_of outer f t first data_size) 12 (pieces f t first data_size)
own_stand f t outer first data_size form eight within h =
    let start : 12 ≡ length (outer ++ codes "WAVE") = omega (arith, length-append outer (codes "WAVE"), eight) in
    all-stand (bytes_of outer f t first data_size) form 12 (pieces f t first data_size) (outer ++ codes "WAVE") []
    (own_pieces f t first data_size form (bytes_of outer f t first data_size) within h) start
    (form-pieces outer f t first data_size)

-- the two forms of a take's file

abbrev pub narrow : Format → Take → Form
narrow f t = record { id = codes "RIFF"; size = form_len f t; sizes = None }

abbrev pub broad : Format → Take → Form
broad f t = record {
  id = codes "BW64";
  size = form_len f t;
  sizes = Some (record { form = form_len f t; «data» = length t.samples; table = [] });
}

abbrev pub narrow_bytes : Format → Take → List ℕ
narrow_bytes f t = bytes_of (head (codes "RIFF") (form_len f t)) f t junk_chunk (length t.samples)

abbrev pub broad_bytes : Format → Take → List ℕ
broad_bytes f t = bytes_of (head (codes "BW64") unsaid) f t (ds64_chunk (form_len f t) (length t.samples)) unsaid

rest : Format → Take → ℕ → List ℕ
rest f t size = flat_map chunk (chunks_before f t) ++ chunk_sized size (data_chunk t.samples)
    ++ flat_map chunk (chunks_after t)

pub narrow-own : (f : Format) (t : Take) → IsWithinLimits f t → form_len f t ≤ 4294967294 →
    length (narrow_bytes f t) ≡ 8 + form_len f t →
    IsOwnForm f t junk_chunk (length t.samples) (narrow f t) (narrow_bytes f t)
unfolding form_of rest
narrow-own f t within fits whole =
    let n = form_len f t in
    let sizes = form_len-form_size f t within.fields in
    record {
      header = riff-outer n (chunk junk_chunk ++ rest f t (length t.samples)) fits (omega (arith, sizes));
      size = refl;
      whole = whole;
      piece = first_piece (narrow f t) junk_chunk refl refl refl refl refl;
      said = inl (refl, omega (arith, sizes));
      fmt = refl;
      bext = refl;
      samples = refl;
      cue = refl;
      long = refl;
    }

pub broad-own : (f : Format) (t : Take) → IsWithinLimits f t → length (broad_bytes f t) ≡ 8 + form_len f t →
    IsOwnForm f t (ds64_chunk (form_len f t) (length t.samples)) unsaid (broad f t) (broad_bytes f t)
unfolding form_of rest
broad-own f t within whole =
    let n = form_len f t in
    let large : n ≤ largest = within.form in
    let sizes = form_len-form_size f t within.fields in
    record {
      header = wide-outer n (length t.samples) (rest f t unsaid) (omega (arith, sizes)) large (omega (arith, sizes));
      size = refl;
      whole = whole;
      piece = first_piece (broad f t) (ds64_chunk n (length t.samples)) refl refl refl refl refl;
      said = inr (refl, inl (refl, refl));
      fmt = refl;
      bext = refl;
      samples = refl;
      cue = refl;
      long = refl;
    }
