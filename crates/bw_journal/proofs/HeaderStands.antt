-- If a header is read, its bytes are there.
use Rattle.std.proofs.Common.{◌≡◌, ℕ, zero, suc, ◌<◌, ◌^◌, Bool, true, false, cond, ◌&&◌, Option, Some, None, Result, Ok, Err}
use Rattle.std.proofs.Common.{List, [], ◌∷◌, ◌++◌, length, take, drop, refl, sym, ap, ◌∙◌, arith}
use Rattle.std.specs.Prelude.{slice_index, ◌==◌}
use Rattle.std.specs.Int.{w32}
use Rattle.std.specs.Str.{bytes_eq}
use Rattle.std.proofs.lemmas.Bool.{and_parts, eqb-true}
use Rattle.std.proofs.lemmas.List.{take-append-drop, drop-drop, take_at}
use Rattle.hex.specs.Hex.{decode_of}
use Rattle.hex.specs.declared.error.FromHexError.{FromHexError}
use Rattle.hex.proofs.HexLemmas.{decode_of-ok}
use Rattle.bw_model.specs.Bytes.{le32, u32_at}
use Rattle.bw_model.specs.Wire.{are_bytes}
use Rattle.bw_model.proofs.ByteNumbers.{wide32, written-number_at}
use Rattle.bw_model.proofs.BookLemmas.{same_name}
use Rattle.bw_model.proofs.Elements.{some_inj}
use Rattle.bw_model.proofs.Ranges.{are_bytes_lem}
use Rattle.bw_journal.specs.Seals.{check}
use Rattle.bw_journal.specs.JournalHeaders.{Header, existed_flag, flag_of, header_content, header_line, header_bytes, header_len}
use Rattle.bw_journal.specs.JournalHeaders.{header_with, header_in, header_spelled, first_header}
use Rattle.bw_journal.specs.NotedJournals.{ReadHeadersStand}
use Rattle.bw_journal.proofs.Lengths.{header_content_len}

none_some : {X : Type 0} {x : X} → None ≡ Some x → ⊥
none_some e = cc

flag_stands : (n : ℕ) (existed : Bool) → flag_of n ≡ Some existed → existed_flag existed ≡ n
flag_stands n existed e = go (n == 0) refl (n == 1) refl e
  where
    go : (a : Bool) → (n == 0) ≡ a → (b : Bool) → (n == 1) ≡ b →
        cond a (Some false) (cond b (Some true) None) ≡ Some existed → existed_flag existed ≡ n
    go true t b u e = ap existed_flag (sym (some_inj e)) ∙ sym (eqb-true n 0 t)
    go false t true u e = ap existed_flag (sym (some_inj e)) ∙ sym (eqb-true n 1 u)
    go false t false u e = absurd (none_some e)

with_parts : (limit : ℕ) (o : Option Bool) (digest : List ℕ) (x : Header × List ℕ) →
    header_with limit o digest ≡ Some x →
    (x.0.limit ≡ limit) × (o ≡ Some x.0.existed) × (digest ≡ x.1)
with_parts limit None digest x e = absurd (none_some e)
with_parts limit (Some existed) digest x e = (
  sym (ap (λ (y : Header × List ℕ). y.0.limit) (some_inj e)),
  ap (λ (y : Header × List ℕ). Some y.0.existed) (some_inj e),
  ap (λ (y : Header × List ℕ). y.1) (some_inj e),
)

-- after some of its bytes comes the next
next_left : (n : ℕ) (xs : List ℕ) → n < length xs → drop n xs ≡ slice_index xs n ∷ drop (suc n) xs
next_left zero [] e = absurd (omega (arith, e))
next_left zero (x ∷ xs) e = refl
next_left (suc n) [] e = absurd (omega (arith, e))
next_left (suc n) (x ∷ xs) e = next_left n xs (omega (arith, e))

-- the digits spell the header's bytes
plain_stands : (p name : List ℕ) (h : Header) → are_bytes p ≡ true → header_in p ≡ Some (h, check name) →
    p ≡ header_content name h ++ check (header_content name h)
unfolding header_in header_content
plain_stands p name h fits e =
    go ((length p == 21) && bytes_eq (drop 13 p) (check (take 13 p))) refl e
  where
    c : List ℕ
    c = le32 h.limit ++ existed_flag h.existed ∷ check name

    go : (v : Bool) → ((length p == 21) && bytes_eq (drop 13 p) (check (take 13 p))) ≡ v →
        cond v (header_with (u32_at p 0) (flag_of (slice_index p 4)) (take 8 (drop 5 p))) None ≡ Some (h, check name) →
        p ≡ c ++ check c
    go false t e = absurd (none_some e)
    go true t e =
        let tests = and_parts (length p == 21) (bytes_eq (drop 13 p) (check (take 13 p))) t in
        let long : length p ≡ 21 = eqb-true _ _ tests.0 in
        let w = with_parts (u32_at p 0) (flag_of (slice_index p 4)) (take 8 (drop 5 p)) (h, check name) e in
        let rest = drop 8 (drop 5 p) in
        let number : le32 (u32_at p 0) ++ drop 4 p ≡ p =
        (written-number_at w32 (2 ^ 32) wide32 p 0 fits (omega (arith, long))).0 in
        let next : drop 4 p ≡ slice_index p 4 ∷ (take 8 (drop 5 p) ++ rest) =
        next_left 4 p (omega (arith, long))
        ∙ ap (λ (x : List ℕ). slice_index p 4 ∷ x) (sym (take-append-drop 8 (drop 5 p))) in
        let same : le32 (u32_at p 0) ++ slice_index p 4 ∷ take 8 (drop 5 p) ≡ c =
        ap (λ (n : ℕ). le32 n ++ slice_index p 4 ∷ take 8 (drop 5 p)) (sym w.0)
        ∙ ap (λ (b : ℕ). le32 h.limit ++ b ∷ take 8 (drop 5 p)) (sym (flag_stands _ _ w.1))
        ∙ ap (λ (x : List ℕ). le32 h.limit ++ existed_flag h.existed ∷ x) w.2 in
        let parted : p ≡ c ++ rest =
        sym number ∙ ap (λ (x : List ℕ). le32 (u32_at p 0) ++ x) next ∙ ap (λ (x : List ℕ). x ++ rest) same in
        let first : take 13 p ≡ c = ap (take 13) parted ∙ take_at c rest 13 (header_content_len name h) in
        let last : rest ≡ check c =
        drop-drop 8 5 p ∙ same_name (drop 13 p) (check (take 13 p)) tests.1 ∙ ap check first in
        parted ∙ ap (λ (x : List ℕ). c ++ x) last

pub read_headers_stand : ReadHeadersStand
unfolding first_header
read_headers_stand bytes name h fits e = go (decode_of (take 42 (drop 4 bytes))) refl e
  where
    go : (r : Result (List ℕ) FromHexError) → decode_of (take 42 (drop 4 bytes)) ≡ r →
        header_spelled bytes r ≡ Some (h, check name) → take header_len bytes ≡ header_bytes name h
    go (Err f) d e = absurd (none_some e)
    go (Ok p) d e = there (bytes_eq (take header_len bytes) (header_line p)) refl e
      where
        p_fits : are_bytes p ≡ true
        p_fits = are_bytes_lem p (decode_of-ok (take 42 (drop 4 bytes)) p d).3

        there : (v : Bool) → bytes_eq (take header_len bytes) (header_line p) ≡ v →
            cond v (header_in p) None ≡ Some (h, check name) → take header_len bytes ≡ header_bytes name h
        there false t e = absurd (none_some e)
        there true t e =
            same_name (take header_len bytes) (header_line p) t ∙ ap header_line (plain_stands p name h p_fits e)
