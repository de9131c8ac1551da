-- A file between two requests is repaired by its header, its length and a pad byte.
use Rattle.std.proofs.Common.{◌≡◌, ℕ, ◌+◌, ◌-◌, ◌≤◌, Bool, false, inl, inr, List, [], ◌∷◌, ◌++◌, length, take, drop}
use Rattle.std.proofs.Common.{Option, Some, refl, sym, ◌∙◌, ap, subst, arith, append_assoc, length-append}
use Rattle.std.specs.Prelude.{slice_range, flat_map}
use Rattle.std.proofs.lemmas.List.{drop-drop, drop-take, take-take, take_at, drop_at}
use Rattle.bw_model.specs.Layout.{pad, chunk}
use Rattle.bw_model.specs.Take.{Take, Format, Request, Open, Block, Mark, SetField, Close, AreFields}
use Rattle.bw_model.specs.File.{file_with, header, data_place, Repairable, cue_chunks, cues}
use Rattle.bw_model.specs.Holds.{IsBetween}
use Rattle.bw_model.proofs.HeaderLaws.{header_of_file, length-header}
use Rattle.bw_journal.specs.Recovery.{IsOnTheWay, IsRepairedBy, FilesAreRepaired}

-- a part of a range
part_of : (xs : List ℕ) (a b p n : ℕ) → a ≤ p → p + n ≤ b →
    take n (drop p xs) ≡ drop (p - a) (take (p - a + n) (slice_range xs a b))
part_of xs a b p n low high =
    let k = p - a in
    let place : a + k ≡ p = omega arith in
    sym (ap (λ (q : ℕ). take n (drop q xs)) place)
    ∙ sym (ap (take n) (drop-drop k a xs))
    ∙ sym (drop-take k n (drop a xs))
    ∙ ap (drop k) (sym (take-take (k + n) (b - a) (drop a xs) (omega arith)))

same_part : (xs ys : List ℕ) (a b p n : ℕ) → slice_range xs a b ≡ slice_range ys a b → a ≤ p → p + n ≤ b →
    take n (drop p xs) ≡ take n (drop p ys)
same_part xs ys a b p n e low high =
    part_of xs a b p n low high ∙ ap (λ (z : List ℕ). drop (p - a) (take (p - a + n) z)) e
    ∙ sym (part_of ys a b p n low high)

-- the samples are in what is between two files
stand : (old new found hd samples rest : List ℕ) (place from to : ℕ) → old ≡ hd ++ (samples ++ rest) →
    length hd ≡ place → from ≤ place → place + length samples ≤ to
    → Repairable old new from to found → (place + length samples ≤ length found)
    × (take (length samples) (drop place found) ≡ samples)
stand old new found hd samples rest place from to e h low high r =
    let least = r.no_shorter in
    let whole : length old ≡ length hd + (length samples + length rest) =
    ap length e ∙ length-append hd (samples ++ rest) ∙ ap (λ (n : ℕ). length hd + n) (length-append samples rest) in (
      omega arith,
      same_part found old from to place (length samples) r.kept low high
          ∙ ap (λ (z : List ℕ). take (length samples) (drop place z)) e
          ∙ ap (take (length samples)) (drop_at hd (samples ++ rest) place h)
          ∙ take_at samples rest (length samples) refl,
    )

pub nothing_more : (xs : List ℕ) → xs ++ [] ≡ xs
nothing_more [] = refl
nothing_more (x ∷ xs) = ap (λ (z : List ℕ). x ∷ z) (nothing_more xs)

-- the file of an open take
pub open_file : (t : Take) (f : Format) (limit : ℕ) → AreFields t.fields → t.closed ≡ false
    → file_with f t limit ≡ header f t.fields t.history (length t.samples) 0 limit ++
    (t.samples ++ pad (length t.samples))
open_file t f limit fields still =
    let none : cues t.closed t.markers ≡ [] = ap (λ (v : Bool). cues v t.markers) still in
    let hd = header f t.fields t.history (length t.samples) 0 limit in
    header_of_file f t limit fields
    ∙ ap (λ (ms : List (ℕ × ℕ)). header f t.fields t.history (length t.samples) (length ms) limit ++ t.samples ++ pad
    (length t.samples) ++ flat_map chunk (cue_chunks ms)) none
    ∙ nothing_more (hd ++ t.samples ++ pad (length t.samples))
    ∙ append_assoc hd t.samples (pad (length t.samples))

-- bytes with the samples at their place are repaired
by_samples : (t : Take) (f : Format) (limit : ℕ) (found : List ℕ) → AreFields t.fields → t.closed ≡ false
    → (data_place (length t.history) + length t.samples ≤ length found)
    × (take (length t.samples) (drop (data_place (length t.history)) found) ≡ t.samples)
    → IsRepairedBy t f limit found
by_samples t f limit found fields still h = record {
  long = h.0;
  whole = ap (λ (z : List ℕ). header f t.fields t.history (length t.samples) 0 limit ++ (z ++ pad (length t.samples)))
      h.1 ∙ sym (open_file t f limit fields still);
}

some_same : {X : Type 0} {x y : X} → Some x ≡ Some y → x ≡ y
some_same e = cc

-- the same of a take whose format is given
repaired : (t : Take) (f : Format) (limit : ℕ) (waits : Option Request) (found : List ℕ) → AreFields t.fields →
    t.closed ≡ false
    → IsOnTheWay (record t { format = Some f }) limit waits (Some found) →
    IsRepairedBy (record t { format = Some f }) f limit found
repaired t f limit waits found fields still way =
    by_samples (record t { format = Some f }) f limit found fields still (go way)
  where
    old : List ℕ
    old = file_with f (record t { format = Some f }) limit

    hd : List ℕ
    hd = header f t.fields t.history (length t.samples) 0 limit

    parted : old ≡ hd ++ (t.samples ++ pad (length t.samples))
    parted = open_file (record t { format = Some f }) f limit fields still

    place : ℕ
    place = data_place (length t.history)

    head_long : length hd ≡ place
    head_long = length-header f t.fields t.history (length t.samples) 0 limit fields

    old_long : place + length t.samples ≤ length old
    old_long =
        let whole : length old ≡ length hd + (length t.samples + length (pad (length t.samples))) =
        ap length parted ∙ length-append hd (t.samples ++ pad (length t.samples))
        ∙ ap (λ (n : ℕ). length hd + n) (length-append t.samples (pad (length t.samples))) in
        omega (arith, head_long, whole)

    between : (r : Request) → IsBetween (record t { format = Some f }) limit r (Some found)
        → (place + length t.samples ≤ length found) × (take (length t.samples) (drop place found) ≡ t.samples)
    between (Open g history) h =
        stand old _ found hd t.samples (pad (length t.samples)) place place (length old) parted head_long (omega arith)
        old_long h
    between (Block bytes) h =
        stand old _ found hd t.samples (pad (length t.samples)) place place (place + length t.samples) parted head_long
        (omega arith) (omega arith) h
    between (Mark id frame) h =
        stand old _ found hd t.samples (pad (length t.samples)) place 0 (length old) parted head_long (omega arith)
        old_long h
    between (SetField tag value) h =
        stand old _ found hd t.samples (pad (length t.samples)) place place (length old) parted head_long (omega arith)
        old_long h
    between (Close total) h =
        stand old _ found hd t.samples (pad (length t.samples)) place place (length old) parted head_long (omega arith)
        old_long h

    go : IsOnTheWay (record t { format = Some f }) limit waits (Some found) → (place + length t.samples ≤ length found)
        × (take (length t.samples) (drop place found) ≡ t.samples)
    go (inl e) =
        stand old old found hd t.samples (pad (length t.samples)) place place (length old) parted head_long
        (omega arith) old_long
        (let same : found ≡ old = some_same e in
        record {
          no_shorter = ap_le same;
          no_longer = ap_ge same;
          kept = ap
              (λ (z : List ℕ). slice_range z place (length old)) same;
        })
      where
        ap_le : found ≡ old → length old ≤ length found
        ap_le s = let l = ap length s in omega (arith, l)

        ap_ge : found ≡ old → length found ≤ length old
        ap_ge s = let l = ap length s in omega (arith, l)
    go (inr m) = between m.request m.between

pub files_are_repaired : FilesAreRepaired
files_are_repaired t f limit waits found fields format still way =
    subst (λ (o : Option Format). IsOnTheWay (record t { format = o }) limit waits (Some found) →
    IsRepairedBy (record t { format = o }) f limit found) (sym format)
    (repaired t f limit waits found fields still) way
