-- How long the parts of a header are.
use Rattle.std.proofs.Common.{◌≡◌, ℕ, ◌+◌, ◌*◌, Bool, true, false, cond, List, [], ◌∷◌, ◌++◌, length, take, drop, refl}
use Rattle.std.proofs.Common.{sym, ◌∙◌, ap, arith, length-append}
use Rattle.std.proofs.Math.ListN.{length-replicate}
use Rattle.std.proofs.lemmas.List.{take-map, drop-map}
use Rattle.std.proofs.lemmas.List.Sums.{sum_by-cons}
use Rattle.std.specs.Prelude.{map, flat_map, ◌%◌}
use Rattle.std.specs.List.{concat, sum}
use Rattle.bw_model.specs.Bytes.{even_up, le16, le32, zeros}
use Rattle.bw_model.specs.Take.{AreFields, width, shapes}
use Rattle.bw_model.specs.Layout.{Chunk, chunk_sized, head, pad, bext_fixed, is_version_1, cue_content, cue_point}

pub length-concat : (xss : List (List ℕ)) → length (concat xss) ≡ sum (map length xss)
length-concat [] = refl
length-concat (xs ∷ xss) =
    length-append xs (concat xss) ∙ ap (λ (n : ℕ). length xs + n) (length-concat xss)
    ∙ sym (sum_by-cons (λ n. n) (length xs) (map length xss))

length-first_fields : (fields : List (List ℕ)) (n : ℕ) → AreFields fields →
    length (concat (take n fields)) ≡ sum (take n (map width shapes))
length-first_fields fields n h = length-concat (take n fields) ∙ ap sum (sym (take-map length n fields) ∙ ap (take n) h)

length-later_fields : (fields : List (List ℕ)) (n k : ℕ) → AreFields fields →
    length (concat (take k (drop n fields))) ≡ sum (take k (drop n (map width shapes)))
length-later_fields fields n k h =
    length-concat (take k (drop n fields))
    ∙ ap sum (sym (take-map length k (drop n fields)) ∙ ap (take k) (sym (drop-map length n fields) ∙ ap (drop n) h))

length-last_fields : (fields : List (List ℕ)) (n : ℕ) → AreFields fields →
    length (concat (drop n fields)) ≡ sum (drop n (map width shapes))
length-last_fields fields n h = length-concat (drop n fields) ∙ ap sum (sym (drop-map length n fields) ∙ ap (drop n) h)

-- the fixed part of `bext` has 602 bytes
pub length-bext_fixed : (fields : List (List ℕ)) → AreFields fields → length (bext_fixed fields) ≡ 602
length-bext_fixed fields h = go (is_version_1 fields)
  where
    texts : List ℕ
    texts = concat (take 6 fields)

    umid : List ℕ
    umid = concat (take 1 (drop 6 fields))

    levels : List ℕ
    levels = concat (drop 7 fields)

    texts-length : length texts ≡ 346
    texts-length = length-first_fields fields 6 h

    umid-length : length umid ≡ 64
    umid-length = length-later_fields fields 6 1 h

    levels-length : length levels ≡ 10
    levels-length = length-last_fields fields 7 h

    go : (v : Bool) → length (texts ++ cond v (le16 1) (le16 2) ++ umid ++ cond v (zeros 10) levels ++ zeros 180) ≡ 602
    go true = simp length-append (omega (arith, texts-length, umid-length))
    go false = simp length-append (omega (arith, texts-length, umid-length, levels-length))

-- a chunk has 8 bytes before its content, and one after it if its length is odd
pub length-chunk_sized : (size : ℕ) (c : Chunk) → length c.id ≡ 4 →
    length (chunk_sized size c) ≡ 8 + even_up (length c.content)
length-chunk_sized size c l =
    length-append (head c.id size) (c.content ++ pad (length c.content))
    ∙ ap (λ (k : ℕ). k + length (c.content ++ pad (length c.content)))
    (length-append c.id (le32 size) ∙ ap (λ (k : ℕ). k + 4) l)
    ∙ ap (λ (k : ℕ). 8 + k)
    (length-append c.content (pad (length c.content))
    ∙ ap (λ (k : ℕ). length c.content + k) (length-replicate (length c.content % 2) 0))

-- a cue point has 24 bytes
pub length-cue_content : (markers : List (ℕ × ℕ)) → length (cue_content markers) ≡ 4 + 24 * length markers
length-cue_content markers =
    length-append (le32 (length markers)) (flat_map cue_point markers) ∙ ap (λ (k : ℕ). 4 + k) (points markers)
  where
    points : (ms : List (ℕ × ℕ)) → length (flat_map cue_point ms) ≡ 24 * length ms
    points [] = refl
    points (m ∷ ms) = length-append (cue_point m) (flat_map cue_point ms)
        ∙ (let rest = points ms in omega (arith, rest))
