-- Chunks that are read one after another.
use Rattle.std.proofs.Common.{◌≡◌, ◌∙◌, ℕ, ◌+◌, ◌<◌, List, [], ◌∷◌, ◌++◌, length, take, drop, get_or, min, Option, Some}
use Rattle.std.proofs.Common.{Bool, false, true, refl, ap, arith, sym}
use Rattle.std.specs.Prelude.{flat_map, slice_range}
use Rattle.std.proofs.Math.Seq.{take-append_seam}
use Rattle.bw_model.specs.Reading.{Entry}
use Rattle.bw_inspect.specs.Places.{IsGiven}
use Rattle.bw_contents.specs.Texts.{Said}
use Rattle.bw_contents.specs.Contents.{bytes_read, chunk_says, content_says, cut_says, is_looked_into}
use Rattle.bw_contents.specs.XmlChunks.{is_other_xml}
use Rattle.std.proofs.lemmas.List.{append-nil, take_more}
use Rattle.std.proofs.lemmas.Grind.{flat_map-append}

-- what one more item gives
pub flat_map_more : {X A : Type 0} (f : X → List A) (xs : List X) (i : ℕ) (x : X) (old new : List A) → i < length xs
    → x ≡ get_or xs i x → old ≡ flat_map f (take i xs) → new ≡ old ++ f x → new ≡ flat_map f (take (i + 1) xs)
flat_map_more {X} {A} f xs i x old new h is before put =
    let last : f x ++ [] ≡ f x = append-nil (f x) in
    put ∙ ap (λ (s : List A). s ++ f x) before
    ∙ ap (λ (s : List A). flat_map f (take i xs) ++ s) (sym last)
    ∙ sym (flat_map-append f (take i xs) (x ∷ []))
    ∙ ap (flat_map f) (ap (λ (y : X). take i xs ++ y ∷ []) is ∙ sym (take_more xs i x h))

-- a buffer that is as long as what is read of a chunk, and was filled
pub chunk_bytes : (b got rest : List ℕ) (e : Entry) (p len m : ℕ) (left : Option (List ℕ)) → p ≡ e.place + 8
    → len ≡ min e.size 65536 → m ≡ len → length got ≡ len → IsGiven b p m got left
    → (left ≡ Some (drop (e.place + 8 + len) b)) × (take len (got ++ rest) ≡ bytes_read b e)
chunk_bytes b got rest e p len m left at is same full given =
    let reached : p + m ≡ e.place + 8 + len = omega (arith, at, same) in
    let end : p + m ≡ e.place + 8 + min e.size 65536 = reached ∙ ap (λ (k : ℕ). e.place + 8 + k) is in (
      given.rest ∙ ap (λ (k : ℕ). Some (drop k b)) reached,
      ap (λ (k : ℕ). take k (got ++ rest)) (sym full) ∙ take-append_seam got rest ∙ given.bytes
          ∙ ap (λ (q : ℕ). slice_range b q (p + m)) at ∙ ap (slice_range b (e.place + 8)) end,
    )

-- what a chunk says that is looked into, after what was read of it was appended
pub chunk_said : (b bytes : List ℕ) (e : Entry) (id : List ℕ) (other looked : Bool) (p len n : ℕ) (old new : List Said)
    {left : Option (List ℕ)}
    → id ≡ e.id → other ≡ is_other_xml id → other ≡ false
    → looked ≡ is_looked_into id → looked ≡ true → p ≡ e.place → n ≡ len → bytes ≡ bytes_read b e
    → left ≡ Some (drop (e.place + 8 + len) b) → new ≡ old ++ (content_says e bytes ++ cut_says e)
    → (left ≡ Some (drop (p + 8 + n) b)) × (new ≡ old ++ chunk_says b e)
chunk_said b bytes e id other looked p len n old new same apart isnt test holds at size read rest put =
    let listed : is_other_xml e.id ≡ false = ap is_other_xml (sym same) ∙ sym apart ∙ isnt in
    let into : is_looked_into e.id ≡ true = ap is_looked_into (sym same) ∙ sym test ∙ holds in (
      rw (at, size) rest,
      put ∙ rw (read, listed, into) refl,
    )
