-- The chunks of a reading as sections of its bytes.
use Rattle.std.proofs.Common.{◌≡◌, ◌∙◌, ℕ, ◌+◌, ◌-◌, ◌^◌, ◌≤◌, Bool, true, false, cond, List, [], ◌∷◌, ◌++◌}
use Rattle.std.proofs.Common.{length, take, drop, sym, ap, arith}
use Rattle.std.specs.Prelude.{min, flat_map}
use Rattle.std.specs.List.{filter}
use Rattle.std.proofs.lemmas.List.{append_assoc, drop-append-le, drop-drop, length-append, length-take}
use Rattle.std.proofs.lemmas.List.Sums.{sum_by-cons}
use Rattle.bw_model.specs.Bytes.{even_up, le32}
use Rattle.bw_model.specs.Prefix.{StandFrom}
use Rattle.bw_model.specs.Reading.{Entry, Form, form_end}
use Rattle.bw_repair.specs.ChunkSections.{capped, chunk_sections}
use Rattle.bw_repair.specs.LeftOut.{chunk_whole, whole_len, whole_lens}
use Rattle.bw_repair.specs.SectionBytes.{assembled, padded_range}
use Rattle.bw_repair.specs.declared.left_out.section.Section.{Section}

-- chunks that are whole, each after the one before
abbrev pub Apart : List ℕ → ℕ → List Entry → Type 0
Apart b p [] = Unit {0}
Apart b p (e ∷ es) =
    (p ≤ e.place) × (e.place + 8 + e.size ≤ length b) × (e.place + 8 + e.size ≤ 8 + 2 ^ 62) × (length e.id ≤ 4)
    × Apart b (e.place + 8 + even_up e.size) es

-- those of a reading are
pub apart_of : (b : List ℕ) (form : Form) (p : ℕ) (es : List Entry) → form_end form ≤ 8 + 2 ^ 62 →
    StandFrom b form p es → Apart b p es
apart_of b form p [] near s = tt
apart_of b form p (e ∷ es) near s =
    let place : e.place ≡ p = s.0 in
    let inside : e.place + 8 + e.size ≤ form_end form = s.1.in_form in
    let id : length e.id ≡ min (e.place + 4 - e.place) (length (drop e.place b)) =
    ap length (sym s.1.spelled) ∙ length-take (e.place + 4 - e.place) (drop e.place b) in (
      omega (arith, place),
      s.1.in_bytes,
      omega (arith, inside, near),
      omega (arith, id),
      apart_of b form (e.place + 8 + even_up e.size) es near s.2,
    )

-- .. also from an earlier place on
pub earlier : (b : List ℕ) (p q : ℕ) (es : List Entry) → p ≤ q → Apart b q es → Apart b p es
earlier b p q [] h a = tt
earlier b p q (e ∷ es) h a = let first : q ≤ e.place = a.0 in (omega (arith, h, first), a.1, a.2, a.3, a.4)

-- .. and some of them
pub filtered : (t : Entry → Bool) (b : List ℕ) (p : ℕ) (es : List Entry) → Apart b p es → Apart b p (filter t es)
filtered t b p [] a = tt
filtered t b p (e ∷ es) a = go (t e) (filtered t b (e.place + 8 + even_up e.size) es a.4)
  where
    go : (v : Bool) → Apart b (e.place + 8 + even_up e.size) (filter t es) →
        Apart b p (cond v (e ∷ filter t es) (filter t es))
    go true later = (a.0, a.1, a.2, a.3, later)
    go false later =
        let first : p ≤ e.place = a.0 in
        earlier b p (e.place + 8 + even_up e.size) (filter t es) (omega (arith, first)) later

-- a range of what is left after a place
range_after : (b : List ℕ) (p q gap size : ℕ) → p ≤ length b → p + gap ≡ q →
    padded_range gap size (drop p b) ≡ take size (drop q (b ++ 0 ∷ []))
range_after b p q gap size there is =
    ap (λ (z : List ℕ). take size (drop gap z)) (sym (drop-append-le p b (0 ∷ []) there))
    ∙ ap (take size) (drop-drop gap p (b ++ 0 ∷ [])) ∙ ap (λ (k : ℕ). take size (drop k (b ++ 0 ∷ []))) is

-- the sections are the chunks whole, before others that don't depend on the bytes
pub chunks_are : (b : List ℕ) (p : ℕ) (es : List Entry) (ts : List Section) (z : List ℕ) → Apart b p es →
    ((x : List ℕ) → assembled ts x ≡ z) →
    assembled (chunk_sections p es ++ ts) (drop p b) ≡ flat_map (chunk_whole b) es ++ z
chunks_are b p [] ts z a same = same (drop p b)
chunks_are b p (e ∷ es) ts z a same =
    let first : p ≤ e.place = a.0 in
    let inside : e.place + 8 + e.size ≤ length b = a.1 in
    let near : e.place + 8 + e.size ≤ 8 + 2 ^ 62 = a.2 in
    let n = even_up e.size in
    let content = capped (e.place + 8) in
    let at : content ≡ e.place + 8 = omega (arith, near) in
    let to : p + (content - p) ≡ e.place + 8 = omega (arith, at, first) in
    let next : capped (content + n) ≡ e.place + 8 + n = omega (arith, at, near) in
    let past : p + (content - p + n) ≡ e.place + 8 + n = omega (arith, to) in
    let head = e.id ++ le32 e.size in
    let rest = chunk_sections (capped (content + n)) es ++ ts in
    let there : p ≤ length b = omega (arith, first, inside) in
    let range = range_after b p (e.place + 8) (content - p) n there to in
    let tail : assembled rest (drop (content - p + n) (drop p b)) ≡ flat_map (chunk_whole b) es ++ z =
    ap (assembled rest) (drop-drop (content - p + n) p b)
    ∙ ap (λ (k : ℕ). assembled rest (drop k b)) past
    ∙ ap (λ (k : ℕ). assembled (chunk_sections k es ++ ts) (drop (e.place + 8 + n) b)) next
    ∙ chunks_are b (e.place + 8 + n) es ts z a.4 same in
    ap (λ (y : List ℕ). head ++ (y ++ assembled rest (drop (content - p + n) (drop p b)))) range
    ∙ ap (λ (y : List ℕ). head ++ (take n (drop (e.place + 8) (b ++ 0 ∷ [])) ++ y)) tail
    ∙ sym (append_assoc head (take n (drop (e.place + 8) (b ++ 0 ∷ []))) (flat_map (chunk_whole b) es ++ z))
    ∙ sym (append_assoc (chunk_whole b e) (flat_map (chunk_whole b) es) z)

-- what these chunks are together is no longer than their lengths say
pub chunks_length : (b : List ℕ) (p : ℕ) (es : List Entry) → Apart b p es →
    length (flat_map (chunk_whole b) es) ≤ whole_lens es
chunks_length b p [] a = omega arith
chunks_length b p (e ∷ es) a =
    let n = even_up e.size in
    let content = drop (e.place + 8) (b ++ 0 ∷ []) in
    let id : length e.id ≤ 4 = a.3 in
    let cut : length (take n content) ≡ min n (length content) = length-take n content in
    let head : length (e.id ++ le32 e.size) ≡ length e.id + 4 = length-append e.id (le32 e.size) in
    let whole : length (chunk_whole b e) ≡ length (e.id ++ le32 e.size) + length (take n content) =
    length-append (e.id ++ le32 e.size) (take n content) in
    let all : length (flat_map (chunk_whole b) (e ∷ es)) ≡
    length (chunk_whole b e) + length (flat_map (chunk_whole b) es) =
    length-append (chunk_whole b e) (flat_map (chunk_whole b) es) in
    let more : length (flat_map (chunk_whole b) es) ≤ whole_lens es =
    chunks_length b (e.place + 8 + n) es a.4 in
    let sums : whole_lens (e ∷ es) ≡ whole_len e + whole_lens es = sum_by-cons whole_len e es in
    omega (arith, id, cut, head, whole, all, more, sums)
