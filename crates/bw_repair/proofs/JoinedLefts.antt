-- Chunks that no take carries, after a take.
use Rattle.std.proofs.Common.{◌≡◌, ◌∙◌, ℕ, ◌+◌, ◌-◌, ◌≤◌, ◌<◌, Bool, true, false, cond, ◌||◌, List, [], ◌∷◌, ◌++◌}
use Rattle.std.proofs.Common.{length, take, drop, refl, sym, ap, subst, arith, inl}
use Rattle.std.specs.Prelude.{codes, not, flat_map, min, Some}
use Rattle.std.specs.Int.{w32, from_le_bytes}
use Rattle.std.specs.List.{filter, list_any}
use Rattle.std.proofs.lemmas.Bool.{leb-false, or_parts}
use Rattle.std.proofs.lemmas.List.{append_assoc, length-append, length-drop, length-take}
use Rattle.std.proofs.lemmas.List.Sums.{sum_by-cons}
use Rattle.std.proofs.lemmas.Nat.{from_le_bytes-to_le_bytes_4}
use Rattle.bw_model.specs.Bytes.{even_up, le32, u32_at, unsaid}
use Rattle.bw_model.specs.Prefix.{IsChunkAt, StandFrom, count_of}
use Rattle.bw_model.specs.Reading.{Entry, Form, form_end, id_at, is_id, single_ids}
use Rattle.bw_model.specs.Report.{content_of}
use Rattle.bw_model.proofs.BookLemmas.{same_name}
use Rattle.bw_model.proofs.PrefixLaws.{count-cons}
use Rattle.bw_model.proofs.StandingChunks.{range-whole}
use Rattle.bw_repair.specs.JoinLaws.{contents_in, placed_from}
use Rattle.bw_repair.specs.LeftOut.{chunk_whole, is_left_chunk, is_too_large, whole_len, whole_lens}
use Rattle.bw_plan.specs.Warnings.{is_carried}
use Rattle.bw_repair.proofs.JoinedBytes.{moved_range, padded_length}
use Rattle.bw_repair.proofs.JoinedTakes.{end_from}

-- a chunk of l that no take carries
pub record IsLeft (l : List ℕ) (e : Entry) : Type 0 where
  pub there : e.place + 8 + e.size ≤ length l
  pub named : length e.id ≡ 4
  pub other : is_left_chunk e ≡ true

abbrev pub AllLeft : List ℕ → List Entry → Type 0
AllLeft l [] = Unit {0}
AllLeft l (e ∷ es) = IsLeft l e × AllLeft l es

-- those of a file
pub left_of : (l : List ℕ) (form : Form) (p : ℕ) (es : List Entry) → StandFrom l form p es →
    AllLeft l (filter is_left_chunk es)
left_of l form p [] s = tt
left_of l form p (e ∷ es) s = go (is_left_chunk e) refl (left_of l form (e.place + 8 + even_up e.size) es s.2)
  where
    go : (v : Bool) → is_left_chunk e ≡ v → AllLeft l (filter is_left_chunk es) →
        AllLeft l (cond v (e ∷ filter is_left_chunk es) (filter is_left_chunk es))
    go true q rest =
        let inside = s.1.in_bytes in
        let id : length e.id ≡ min (e.place + 4 - e.place) (length (drop e.place l)) =
        ap length (sym s.1.spelled) ∙ length-take (e.place + 4 - e.place) (drop e.place l) in
        let after : length (drop e.place l) ≡ length l - e.place = length-drop e.place l in
        (record { there = inside; named = omega (arith, inside, id, after); other = q }, rest)
    go false q rest = rest

-- an id of a chunk that a file has once is carried
single_carried : (id : List ℕ) → list_any (is_id id) single_ids ≡ true → is_carried id ≡ true
single_carried id e =
    go (is_id id (codes "fmt ")) (is_id id (codes "bext")) (is_id id (codes "data")) (is_id id (codes "cue "))
    (is_id id (codes "ds64")) (is_id id (codes "JUNK")) e
  where
    go : (f b d c s j : Bool) → f || (b || (d || (c || false))) ≡ true → f || b || d || c || s || j ≡ true
    go true b d c s j e = refl
    go false true d c s j e = refl
    go false false true c s j e = refl
    go false false false true s j e = refl
    go false false false false s j e = absurd (cc)

-- so it is none of these
left_single : (e : Entry) → is_left_chunk e ≡ true → list_any (is_id e.id) single_ids ≡ false
left_single e other = go (list_any (is_id e.id) single_ids) refl
  where
    go : (v : Bool) → list_any (is_id e.id) single_ids ≡ v → v ≡ false
    go true q = let bad : true ≡ false = sym other ∙ ap not (single_carried e.id q) in absurd (cc)
    go false q = refl

other_id : (e : Entry) (id : List ℕ) → is_left_chunk e ≡ true → list_any (is_id id) single_ids ≡ true → e.id ≡ id → ⊥
other_id e id other single q =
    let bad : true ≡ false =
    sym single ∙ (ap (λ (z : List ℕ). list_any (is_id z) single_ids) (sym q) ∙ left_single e other) in
    cc

-- no chunk of these ids is among them
pub none_counted : (l : List ℕ) (p : ℕ) (es : List Entry) (id : List ℕ) → AllLeft l es →
    list_any (is_id id) single_ids ≡ true → count_of id (placed_from p es) ≡ 0
none_counted l p [] id a single = refl
none_counted l p (e ∷ es) id a single =
    let d : Entry = record { id = e.id; place = p; size = e.size } in
    count-cons id d (placed_from (p + whole_len e) es)
    ∙ go (is_id e.id id) refl (none_counted l (p + whole_len e) es id a.1 single)
  where
    go : (v : Bool) → is_id e.id id ≡ v → count_of id (placed_from (p + whole_len e) es) ≡ 0 →
        cond v 1 0 + count_of id (placed_from (p + whole_len e) es) ≡ 0
    go true q rest = absurd (other_id e id a.0.other single (same_name e.id id q))
    go false q rest = omega (arith, rest)

-- where they end
pub placed_end : (p : ℕ) (es : List Entry) → end_from p (placed_from p es) ≡ p + whole_lens es
placed_end p [] = omega arith
placed_end p (e ∷ es) =
    let here : p + 8 + even_up e.size ≡ p + whole_len e = omega arith in
    let rest = placed_end (p + whole_len e) es in
    let sums : whole_lens (e ∷ es) ≡ whole_len e + whole_lens es = sum_by-cons whole_len e es in
    let joined : p + whole_len e + whole_lens es ≡ p + whole_lens (e ∷ es) = omega (arith, sums) in
    ap (λ (q : ℕ). end_from q (placed_from (p + whole_len e) es)) here ∙ rest ∙ joined

-- a chunk whole is as long as its head says
whole_length : (l : List ℕ) (e : Entry) → IsLeft l e → length (chunk_whole l e) ≡ whole_len e
whole_length l e a =
    let content = take (even_up e.size) (drop (e.place + 8) (l ++ 0 ∷ [])) in
    let there = a.there in
    let four = a.named in
    let count : e.place + 8 + even_up e.size - (e.place + 8) ≡ even_up e.size = omega arith in
    let long : length content ≡ even_up e.size =
    sym (ap (λ (k : ℕ). length (take k (drop (e.place + 8) (l ++ 0 ∷ [])))) count)
    ∙ padded_length l (e.place + 8) (e.place + 8 + even_up e.size) (omega (arith, there)) ∙ count in
    let head : length (e.id ++ le32 e.size) ≡ length e.id + 4 = length-append e.id (le32 e.size) in
    length-append (e.id ++ le32 e.size) content ∙ omega (arith, long, head, four)

-- so are they together
pub wholes_length : (l : List ℕ) (es : List Entry) → AllLeft l es →
    length (flat_map (chunk_whole l) es) ≡ whole_lens es
wholes_length l [] a = refl
wholes_length l (e ∷ es) a =
    let first = whole_length l e a.0 in
    let rest = wholes_length l es a.1 in
    let sums : whole_lens (e ∷ es) ≡ whole_len e + whole_lens es = sum_by-cons whole_len e es in
    length-append (chunk_whole l e) (flat_map (chunk_whole l) es) ∙ omega (arith, first, rest, sums)

-- one chunk after a prefix
record IsPlaced (text l : List ℕ) (form : Form) (p : ℕ) (e : Entry) : Type 0 where
  chunk : IsChunkAt text form (record { id = e.id; place = p; size = e.size })
  content : content_of text (Some (record { id = e.id; place = p; size = e.size })) ≡ content_of l (Some e)

placed : (text l f r : List ℕ) (form : Form) (p : ℕ) (e : Entry) → IsLeft l e → e.size < 4294967295 → p ≡ length f →
    text ≡ f ++ (chunk_whole l e ++ r) → p + whole_len e ≤ form_end form → p + whole_len e ≤ length text →
    IsPlaced text l form p e
placed text l f r form p e a small at is end long =
    let there = a.there in
    let four = a.named in
    let x = take (even_up e.size) (drop (e.place + 8) (l ++ 0 ∷ [])) in
    let first : text ≡ f ++ (e.id ++ (le32 e.size ++ (x ++ r))) =
    is ∙ parts f e.id (le32 e.size) x r in
    let second : text ≡ (f ++ e.id) ++ (le32 e.size ++ (x ++ r)) =
    first ∙ sym (append_assoc f e.id (le32 e.size ++ (x ++ r))) in
    let third : text ≡ ((f ++ e.id) ++ le32 e.size) ++ (x ++ r) =
    second ∙ sym (append_assoc (f ++ e.id) (le32 e.size) (x ++ r)) in
    let named : length (f ++ e.id) ≡ length f + length e.id = length-append f e.id in
    let sized : length ((f ++ e.id) ++ le32 e.size) ≡ length (f ++ e.id) + 4 =
    length-append (f ++ e.id) (le32 e.size) in
    let number : u32_at text (p + 4) ≡ e.size =
    ap (λ (z : List ℕ). u32_at z (p + 4)) second
    ∙ ap (from_le_bytes w32)
    (range-whole (f ++ e.id) (le32 e.size) (x ++ r) (p + 4) 4 (omega (arith, at, named, four)) refl)
    ∙ from_le_bytes-to_le_bytes_4 e.size (omega (arith, small)) in
    record {
      chunk = record {
        spelled = ap (λ (z : List ℕ). id_at z p) first
            ∙ range-whole f e.id (le32 e.size ++ (x ++ r)) p 4 at (sym four);
        sized = inl ((λ q. omega (arith, q, number, small)), sym number);
        no_larger = omega (arith, small);
        in_form = omega (arith, end);
        in_bytes = omega (arith, long);
        fmt = λ q. absurd (other_id e (codes "fmt ") a.other refl q);
        bext = λ q. absurd (other_id e (codes "bext") a.other refl q);
        cue = λ q. absurd (other_id e (codes "cue ") a.other refl q);
      };
      content = ap (λ (z : List ℕ). content_of z (Some (record { id = e.id; place = p; size = e.size }))) third
          ∙ moved_range ((f ++ e.id) ++ le32 e.size) l r (p + 8) (e.place + 8) e.size (even_up e.size)
          (omega (arith, at, named, sized, four)) (omega arith) there (omega (arith, there));
    }
  where
    parts : (a b c d e : List ℕ) → a ++ (((b ++ c) ++ d) ++ e) ≡ a ++ (b ++ (c ++ (d ++ e)))
    parts a b c d e = simp append_assoc

-- all of them, one after the other
pub record ArePlaced (text l : List ℕ) (form : Form) (p : ℕ) (es : List Entry) : Type 0 where
  pub chunks : StandFrom text form p (placed_from p es)
  pub contents : contents_in text (placed_from p es) ≡ contents_in l es

pub placed_all : (text l f : List ℕ) (form : Form) (p : ℕ) (es : List Entry) → AllLeft l es →
    list_any is_too_large es ≡ false → p ≡ length f → text ≡ f ++ flat_map (chunk_whole l) es →
    p + whole_lens es ≤ form_end form → p + whole_lens es ≤ length text → ArePlaced text l form p es
placed_all text l f form p [] a small at is end long = record { chunks = tt; contents = refl }
placed_all text l f form p (e ∷ es) a small at is end long =
    let one = chunk_whole l e in
    let more = flat_map (chunk_whole l) es in
    let sums : whole_lens (e ∷ es) ≡ whole_len e + whole_lens es = sum_by-cons whole_len e es in
    let said = or_parts (is_too_large e) (list_any is_too_large es) small in
    let small' : e.size < 4294967295 = leb-false unsaid e.size said.0 in
    let first = placed text l f more form p e a.0 small' at is (omega (arith, end, sums)) (omega (arith, long, sums)) in
    let here : p + whole_len e ≡ length (f ++ one) =
    sym (length-append f one ∙ omega (arith, at, whole_length l e a.0)) in
    let rest = placed_all text l (f ++ one) form (p + whole_len e) es a.1
    said.1 here (is ∙ sym (append_assoc f one more))
    (omega (arith, end, sums)) (omega (arith, long, sums)) in
    let next : p + whole_len e ≡ p + 8 + even_up e.size = omega arith in
    record {
      chunks = (
        refl,
        first.chunk,
        subst (λ (q : ℕ). StandFrom text form q (placed_from (p + whole_len e) es)) next rest.chunks,
      );
      contents =
          ap (λ (z : List ℕ). z ∷ contents_in text (placed_from (p + whole_len e) es)) first.content
          ∙ ap (λ (z : List (List ℕ)). content_of l (Some e) ∷ z) rest.contents;
    }
