-- Chunks that follow each other in bytes are read as they are.
use Rattle.std.proofs.Common.{◌≡◌, ℕ, ◌+◌, ◌-◌, ◌*◌, ◌<◌, ◌≤◌, ◌^◌, ◌⊎◌, inl, inr, List, [], ◌∷◌, ◌++◌, length, take}
use Rattle.std.proofs.Common.{drop, refl, sym, ◌∙◌, ap, subst, arith, append_assoc, length-append}
use Rattle.std.specs.Prelude.{flat_map, codes, slice_range}
use Rattle.std.specs.Int.{w32, from_le_bytes}
use Rattle.std.proofs.lemmas.List.{drop-drop, drop_at, drop-append-le, take_at, take-append-le, take_all, length-drop}
use Rattle.std.proofs.lemmas.Nat.{from_le_bytes-to_le_bytes_4}
use Rattle.bw_model.specs.Bytes.{even_up, u32_at, le32, unsaid}
use Rattle.bw_model.specs.Layout.{Chunk, chunk_sized, pad}
use Rattle.bw_model.specs.Reading.{Entry, Form, id_at, form_end, largest}
use Rattle.bw_model.specs.Prefix.{IsSizeGiven, IsSized, HasRoomForCues, IsChunkAt, StandFrom}
use Rattle.bw_model.proofs.Widths.{length-chunk_sized}

-- n bytes from a place on, of what follows the prefix
pub range-after : (prefix x rest : List ℕ) (p i n : ℕ) → p ≡ length prefix → i + n ≤ length x →
    slice_range (prefix ++ (x ++ rest)) (p + i) (p + i + n) ≡ take n (drop i x)
range-after prefix x rest p i n e l =
    let count : p + i + n - (p + i) ≡ n = omega arith in
    let here : i ≤ length x = omega arith in
    let room : n ≤ length (drop i x) = omega (arith, length-drop i x) in
    ap (λ (k : ℕ). take k (drop (p + i) (prefix ++ (x ++ rest)))) count
    ∙ ap (take n) (sym (drop-drop i p (prefix ++ (x ++ rest))) ∙ ap (drop i) (drop_at prefix (x ++ rest) p (sym e))
    ∙ drop-append-le i x rest here)
    ∙ take-append-le n (drop i x) rest room

-- what follows the prefix, whole
pub range-whole : (prefix x rest : List ℕ) (p n : ℕ) → p ≡ length prefix → n ≡ length x →
    slice_range (prefix ++ (x ++ rest)) p (p + n) ≡ x
range-whole prefix x rest p n e l =
    let count : p + n - p ≡ n = omega arith in
    ap (λ (k : ℕ). take k (drop p (prefix ++ (x ++ rest)))) count
    ∙ ap (take n) (drop_at prefix (x ++ rest) p (sym e))
    ∙ take_at x rest n (sym l)

-- a chunk, and what its head says as its size
abbrev pub Piece : Type 0
Piece = ℕ × Chunk

abbrev pub piece_bytes : Piece → List ℕ
piece_bytes x = chunk_sized x.0 x.1

abbrev pub piece_size : Piece → ℕ
piece_size x = length x.1.content

-- a piece of bytes, after this many others
pub record StandsAt (b : List ℕ) (p : ℕ) (x : Piece) : Type 0 where
  pub prefix : List ℕ
  pub rest : List ℕ
  pub place : p ≡ length prefix
  pub bytes : b ≡ prefix ++ (piece_bytes x ++ rest)

-- the same, part by part
in_parts : (b : List ℕ) (p : ℕ) (x : Piece) (s : StandsAt b p x) →
    b ≡ s.prefix ++ (x.1.id ++ (le32 x.0 ++ (x.1.content ++ (pad (piece_size x) ++ s.rest))))
in_parts b p x s = s.bytes
    ∙ ap (λ (z : List ℕ). s.prefix ++ z) (parts x.1.id (le32 x.0) x.1.content (pad (piece_size x)) s.rest)
  where
    parts : (i n c d r : List ℕ) → (i ++ n ++ (c ++ d)) ++ r ≡ i ++ (n ++ (c ++ (d ++ r)))
    parts i n c d r = simp append_assoc

id-stands : (b : List ℕ) (p : ℕ) (x : Piece) → StandsAt b p x → length x.1.id ≡ 4 → id_at b p ≡ x.1.id
id-stands b p x s l =
    ap (λ (z : List ℕ). slice_range z p (p + 4)) (in_parts b p x s)
    ∙ range-whole s.prefix x.1.id (le32 x.0 ++ (x.1.content ++ (pad (piece_size x) ++ s.rest))) p 4 s.place (sym l)

size-stands : (b : List ℕ) (p : ℕ) (x : Piece) → StandsAt b p x → length x.1.id ≡ 4 → x.0 < 2 ^ 32 →
    u32_at b (p + 4) ≡ x.0
size-stands b p x s l small =
    let rest : List ℕ = x.1.content ++ (pad (piece_size x) ++ s.rest) in
    let place : p + 4 ≡ length (s.prefix ++ x.1.id) = omega (arith, length-append s.prefix x.1.id, s.place) in
    ap (λ (z : List ℕ). u32_at z (p + 4)) (in_parts b p x s ∙ sym (append_assoc s.prefix x.1.id (le32 x.0 ++ rest)))
    ∙ ap (from_le_bytes w32) (range-whole (s.prefix ++ x.1.id) (le32 x.0) rest (p + 4) 4 place refl)
    ∙ from_le_bytes-to_le_bytes_4 x.0 small

-- the bytes of a content, from its start on
pub content-stands : (b : List ℕ) (p : ℕ) (x : Piece) (i n : ℕ) → StandsAt b p x → length x.1.id ≡ 4 →
    i + n ≤ piece_size x →
    slice_range b (p + 8 + i) (p + 8 + i + n) ≡ take n (drop i x.1.content)
content-stands b p x i n s l inside =
    let prefix : List ℕ = s.prefix ++ (x.1.id ++ le32 x.0) in
    let rest : List ℕ = pad (piece_size x) ++ s.rest in
    let place : p + 8 ≡ length prefix =
    omega (arith, length-append s.prefix (x.1.id ++ le32 x.0), length-append x.1.id (le32 x.0), s.place) in
    ap (λ (z : List ℕ). slice_range z (p + 8 + i) (p + 8 + i + n))
    (in_parts b p x s ∙ joined s.prefix x.1.id (le32 x.0) (x.1.content ++ rest))
    ∙ range-after prefix x.1.content rest (p + 8) i n place inside
  where
    joined : (f i n r : List ℕ) → f ++ (i ++ (n ++ r)) ≡ (f ++ (i ++ n)) ++ r
    joined f i n r = simp append_assoc

-- the content, whole
pub content-whole : (b : List ℕ) (p : ℕ) (x : Piece) → StandsAt b p x → length x.1.id ≡ 4 →
    slice_range b (p + 8) (p + 8 + piece_size x) ≡ x.1.content
content-whole b p x s l =
    let start : p + 8 ≡ p + 8 + 0 = omega arith in
    ap (λ (q : ℕ). slice_range b q (q + piece_size x)) start ∙ content-stands b p x 0 (piece_size x) s l (omega arith)
    ∙ take_all (piece_size x) x.1.content (omega arith)

-- what a piece has to be
pub record HasCount (content : List ℕ) : Type 0 where
  pub count : 4 ≤ length content
  pub few : u32_at content 0 ≤ 65536
  pub points : 4 + 24 * u32_at content 0 ≤ length content

abbrev pub SaysSize : Form → Piece → Type 0
SaysSize form x = ((x.0 ≡ piece_size x) × (piece_size x < unsaid))
    ⊎ ((x.0 ≡ unsaid) × IsSizeGiven form.sizes x.1.id (piece_size x))

pub record IsPiece (form : Form) (x : Piece) : Type 0 where
  pub id : length x.1.id ≡ 4
  pub said : SaysSize form x
  pub no_larger : piece_size x ≤ largest
  pub fmt : x.1.id ≡ codes "fmt " → 16 ≤ piece_size x
  pub bext : x.1.id ≡ codes "bext" → 602 ≤ piece_size x
  pub cue : x.1.id ≡ codes "cue " → HasCount x.1.content

abbrev pub entry_for : ℕ → Piece → Entry
entry_for p x = record { id = x.1.id; place = p; size = piece_size x }

length-stands : (b : List ℕ) (p : ℕ) (x : Piece) → StandsAt b p x → length x.1.id ≡ 4 → p + 8 + piece_size x ≤ length b
length-stands b p x s l =
    omega (
      arith,
      ap length s.bytes,
      length-append s.prefix (piece_bytes x ++ s.rest),
      length-append (piece_bytes x) s.rest,
      length-chunk_sized x.0 x.1 l,
      s.place,
    )

sized : (b : List ℕ) (form : Form) (p : ℕ) (x : Piece) → StandsAt b p x → length x.1.id ≡ 4 → SaysSize form x →
    IsSized b form (entry_for p x)
sized b form p x s l (inl h) =
    let below : piece_size x < unsaid = h.1 in
    let stands = size-stands b p x s l (let same : x.0 ≡ piece_size x = h.0 in omega arith) in
    inl (
      (λ e. let said : u32_at b (p + 4) ≡ x.0 = stands in let same : x.0 ≡ piece_size x = h.0 in omega (arith, e)),
      sym (stands ∙ h.0),
    )
sized b form p x s l (inr h) = inr (size-stands b p x s l (let same : x.0 ≡ unsaid = h.0 in omega arith) ∙ h.0, h.1)

-- a piece of bytes is a chunk there
piece-stands : (b : List ℕ) (form : Form) (p : ℕ) (x : Piece) → form_end form ≡ length b → StandsAt b p x →
    IsPiece form x → IsChunkAt b form (entry_for p x)
piece-stands b form p x whole s h =
    let inside = length-stands b p x s h.id in
    record {
      spelled = id-stands b p x s h.id;
      sized = sized b form p x s h.id h.said;
      no_larger = h.no_larger;
      in_form = subst (λ (n : ℕ). p + 8 + piece_size x ≤ n) (sym whole) inside;
      in_bytes = inside;
      fmt = h.fmt;
      bext = h.bext;
      cue = λ e. room (h.cue e);
    }
  where
    room : HasCount x.1.content → HasRoomForCues b (entry_for p x)
    room k =
        let start : p + 8 ≡ p + 8 + 0 = omega arith in
        let same : u32_at b (p + 8) ≡ u32_at x.1.content 0 =
        ap (u32_at b) start ∙ ap (from_le_bytes w32) (content-stands b p x 0 4 s h.id k.count) in
        record {
          count = k.count;
          few = subst (λ (n : ℕ). n ≤ 65536) (sym same) k.few;
          points = subst (λ (n : ℕ). 4 + 24 * n ≤ piece_size x) (sym same) k.points;
        }

-- pieces from a place on
abbrev pub entries_from : ℕ → List Piece → List Entry
entries_from p [] = []
entries_from p (x ∷ xs) = entry_for p x ∷ entries_from (p + 8 + even_up (piece_size x)) xs

abbrev pub ArePieces : Form → List Piece → Type 0
ArePieces form [] = Unit {0}
ArePieces form (x ∷ xs) = IsPiece form x × ArePieces form xs

-- each is at its place
abbrev pub AllStand : List ℕ → ℕ → List Piece → Type 0
AllStand b p [] = Unit {0}
AllStand b p (x ∷ xs) = StandsAt b p x × AllStand b (p + 8 + even_up (piece_size x)) xs

pub all-stand : (b : List ℕ) (form : Form) (p : ℕ) (xs : List Piece) (prefix rest : List ℕ) → ArePieces form xs →
    p ≡ length prefix → b ≡ prefix ++ (flat_map piece_bytes xs ++ rest) → AllStand b p xs
all-stand b form p [] prefix rest h place bytes = tt
all-stand b form p (x ∷ xs) prefix rest h place bytes =
    let split : b ≡ prefix ++ (piece_bytes x ++ (flat_map piece_bytes xs ++ rest)) =
    bytes ∙ ap (λ (z : List ℕ). prefix ++ z) (append_assoc (piece_bytes x) (flat_map piece_bytes xs) rest) in
    let next : p + 8 + even_up (piece_size x) ≡ length (prefix ++ piece_bytes x) =
    omega (arith, length-append prefix (piece_bytes x), length-chunk_sized x.0 x.1 h.0.id, place) in (
      record { prefix = prefix; rest = flat_map piece_bytes xs ++ rest; place = place; bytes = split },
      all-stand b form (p + 8 + even_up (piece_size x)) xs (prefix ++ piece_bytes x) rest h.1 next
          (split ∙ sym (append_assoc prefix (piece_bytes x) (flat_map piece_bytes xs ++ rest))),
    )

-- pieces of bytes are chunks there
pub pieces-stand : (b : List ℕ) (form : Form) (p : ℕ) (xs : List Piece) → form_end form ≡ length b →
    ArePieces form xs → AllStand b p xs → StandFrom b form p (entries_from p xs)
pieces-stand b form p [] whole h s = tt
pieces-stand b form p (x ∷ xs) whole h s =
    (refl, piece-stands b form p x whole s.0 h.0, pieces-stand b form (p + 8 + even_up (piece_size x)) xs whole h.1 s.1)
