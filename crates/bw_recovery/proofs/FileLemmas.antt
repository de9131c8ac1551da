-- Files that a stop left, and what becomes of them.
use Rattle.std.proofs.Common.{◌≡◌, ℕ, ◌+◌, ◌≤◌, Bool, true, false, not, ◌&&◌, ◌||◌, cond, List, [], ◌∷◌, ◌++◌, length, take, drop}
use Rattle.std.proofs.Common.{Option, Some, None, is_some, option_map, refl, sym, ◌∙◌, ap, arith, append_assoc}
use Rattle.std.proofs.Common.{le-ltb, eq-eqb}
use Rattle.std.specs.Prelude.{flat_map}
use Rattle.std.specs.Bool.{MatchBool}
use Rattle.std.specs.Str.{bytes_eq}
use Rattle.std.proofs.lemmas.List.{take_at, drop_at, append-nil}
use Rattle.bw_model.specs.Bytes.{first_that_holds}
use Rattle.bw_model.specs.Layout.{pad, chunk}
use Rattle.bw_model.specs.Take.{Take, Parts, Format, AreFields, parts}
use Rattle.bw_model.specs.File.{file_of, file_with, data_place, cues, chunks_after, cue_chunks}
use Rattle.bw_model.proofs.HeaderLaws.{header_of_file, length-header, form_len-form_size}
use Rattle.bw_model.proofs.FileLaws.{file_len as length-file}
use Rattle.bw_model.proofs.BookLemmas.{name_refl}
use Rattle.bw_recovery.specs.Files.{data_end, header_by, file_len as whole}
use Rattle.bw_recovery.specs.Files.{is_unchanged, opened_fault, file_fault, fault_by_format}
use Rattle.bw_recovery.specs.Files.{mended, mended_by_format, file_after}
use Rattle.bw_recovery.specs.declared.fault.FileFault.TheVariants.{Lost, Changed}
use Rattle.bw_recovery.specs.Left.{IsMendable, IsLeftOpen, LeftFilesAreMended}

no_line : (a b : Bool) → a ≡ false → b ≡ false → first_that_holds ((a, Lost) ∷ (b, Changed) ∷ []) ≡ None
no_line true b x y = absurd cc
no_line false true x y = absurd cc
no_line false false x y = refl

unchanged : (closed same : Bool) → (closed ≡ true → same ≡ true) → closed && not same ≡ false
unchanged false same h = refl
unchanged true same h = ap not (h refl)

-- nothing is wrong with a file that is long enough, and unchanged if its take is closed
nothing_wrong : (limit : ℕ) (p : Parts) (f : Format) (found : List ℕ) → data_end p ≤ length found →
    (p.closed ≡ true → is_unchanged limit p f found ≡ true) → opened_fault limit p f found ≡ None
unfolding opened_fault
nothing_wrong limit p f found long same =
    no_line _ _ (le-ltb (length found) (data_end p) long) (unchanged p.closed _ same)

-- how many bytes the file of a take has
length-whole : (t : Take) (f : Format) (limit : ℕ) → AreFields t.fields → length (file_with f t limit) ≡ whole (parts t)
length-whole t f limit fields =
    length-file f t limit ∙ ap (λ (n : ℕ). 8 + n) (form_len-form_size f t fields)

from_start : (hd a b c : List ℕ) (n : ℕ) → length hd ≡ n → take n (hd ++ a ++ b ++ c) ≡ hd
from_start hd a b c n h =
    ap (take n) (append_assoc (hd ++ a) b c ∙ append_assoc hd a (b ++ c)) ∙ take_at hd (a ++ (b ++ c)) n h

from_place : (hd a b c : List ℕ) (n : ℕ) → length hd ≡ n → take (length a) (drop n (hd ++ a ++ b ++ c)) ≡ a
from_place hd a b c n h =
    ap (λ (z : List ℕ). take (length a) (drop n z)) (append_assoc (hd ++ a) b c ∙ append_assoc hd a (b ++ c))
    ∙ ap (take (length a)) (drop_at hd (a ++ (b ++ c)) n h) ∙ take_at a (b ++ c) (length a) refl

-- the file begins with its header
header_first : (t : Take) (f : Format) (limit : ℕ) → AreFields t.fields →
    take (data_place (length t.history)) (file_with f t limit) ≡ header_by limit (parts t) f
header_first t f limit fields =
    let hd = header_by limit (parts t) f in
    ap (take (data_place (length t.history))) (header_of_file f t limit fields)
    ∙ from_start hd t.samples (pad (length t.samples)) (flat_map chunk (chunks_after t)) _
    (length-header f t.fields t.history (length t.samples) (length (cues t.closed t.markers)) limit fields)

both : (a b : Bool) → a ≡ true → b ≡ true → a && b ≡ true
both a b x y = rw (x, y) refl

file_unchanged : (t : Take) (f : Format) (limit : ℕ) → AreFields t.fields →
    is_unchanged limit (parts t) f (file_with f t limit) ≡ true
file_unchanged t f limit fields =
    both _ _ (eq-eqb _ _ (length-whole t f limit fields))
    (ap (λ (z : List ℕ). bytes_eq z (header_by limit (parts t) f)) (header_first t f limit fields)
    ∙ name_refl (header_by limit (parts t) f))

-- the file has its samples
file_long : (t : Take) (f : Format) (limit : ℕ) → AreFields t.fields → data_end (parts t) ≤ length (file_with f t limit)
file_long t f limit fields = let e = length-whole t f limit fields in omega (arith, e)

-- and they are at their place
pub whole_mendable : (t : Take) (f : Format) (limit : ℕ) → AreFields t.fields → IsMendable t (file_with f t limit)
whole_mendable t f limit fields = record {
  long = file_long t f limit fields;
  samples = ap (λ (z : List ℕ). take (length t.samples) (drop (data_place (length t.history)) z))
      (header_of_file f t limit fields)
      ∙ from_place (header_by limit (parts t) f) t.samples (pad (length t.samples)) (flat_map chunk (chunks_after t)) _
      (length-header f t.fields t.history (length t.samples) (length (cues t.closed t.markers)) limit fields);
}

-- the file of an open take
open_whole : (t : Take) (f : Format) (limit : ℕ) → AreFields t.fields → t.closed ≡ false →
    file_with f t limit ≡ header_by limit (parts t) f ++ (t.samples ++ pad (length t.samples))
open_whole t f limit fields still =
    let none : cues t.closed t.markers ≡ [] = ap (λ (v : Bool). cues v t.markers) still in
    let hd = header_by limit (parts t) f in
    header_of_file f t limit fields
    ∙ ap (λ (ms : List (ℕ × ℕ)). hd ++ t.samples ++ pad (length t.samples) ++ flat_map chunk (cue_chunks ms)) none
    ∙ append-nil (hd ++ t.samples ++ pad (length t.samples))
    ∙ append_assoc hd t.samples (pad (length t.samples))

-- a mendable file is mended
pub mends : (t : Take) (f : Format) (limit : ℕ) (found : List ℕ) → AreFields t.fields → t.closed ≡ false →
    IsMendable t found → mended limit (parts t) f found ≡ file_with f t limit
mends t f limit found fields still h =
    ap (λ (z : List ℕ). header_by limit (parts t) f ++ (z ++ pad (length t.samples))) h.samples
    ∙ sym (open_whole t f limit fields still)

or_false : (a b : Bool) → a ≡ false → b ≡ false → a || b ≡ false
or_false a b x y = rw (x, y) refl

or_true : (a b : Bool) → b ≡ true → a || b ≡ true
or_true true b e = refl
or_true false b e = e

true_false : true ≡ false → ⊥
true_false h = cc

-- with what stood under the name
stood_stays : (limit : ℕ) (p : Parts) (found : Option (List ℕ)) (stood : List ℕ) → p.taken ≡ true → found ≡ Some stood →
    (file_fault limit p found ≡ None) × (file_after limit p found ≡ Some stood)
stood_stays limit p found stood taken e = (rw (taken, e) refl, rw (taken, e) refl)

-- of a name that was free, by its format
pub fault_fresh : (limit : ℕ) (p : Parts) (o : Option Format) (found : Option (List ℕ)) → p.taken ≡ false → p.format ≡ o →
    file_fault limit p found ≡ fault_by_format limit p o found
fault_fresh limit p o found free e =
    ap (λ (v : Bool). cond v (cond (is_some found) None (Some Lost)) (fault_by_format limit p p.format found)) free
    ∙ ap (λ (x : Option Format). fault_by_format limit p x found) e

pub after_open : (limit : ℕ) (p : Parts) (o : Option Format) (found : Option (List ℕ)) → p.taken ≡ false →
    p.closed ≡ false → p.format ≡ o → file_after limit p found ≡ mended_by_format limit p o found
after_open limit p o found free still e =
    ap (λ (v : Bool). cond v found (mended_by_format limit p p.format found)) (or_false p.taken p.closed free still)
    ∙ ap (λ (x : Option Format). mended_by_format limit p x found) e

after_closed : (limit : ℕ) (p : Parts) (found : Option (List ℕ)) → p.closed ≡ true → file_after limit p found ≡ found
after_closed limit p found closed =
    ap (λ (v : Bool). cond v found (mended_by_format limit p p.format found)) (or_true p.taken p.closed closed)

pub of_format : (t : Take) (o : Option Format) (limit : ℕ) → t.format ≡ o →
    file_of t limit ≡ option_map (λ f. file_with f t limit) o
of_format t o limit e = ap (option_map (λ f. file_with f t limit)) e

-- a name that was free, by the format and the closing of its take
fresh : (limit : ℕ) (t : Take) (closed : Bool) (o : Option Format) (found : Option (List ℕ)) → AreFields t.fields →
    t.taken ≡ false → t.closed ≡ closed → t.format ≡ o →
    (closed ≡ true → is_some o ≡ true) →
    MatchBool closed (found ≡ file_of t limit) (IsLeftOpen t o found) →
    (file_fault limit (parts t) found ≡ None) × (file_after limit (parts t) found ≡ file_of t limit)
fresh limit t true None found fields free c e opened h = absurd (true_false (sym (opened refl)))
fresh limit t true (Some f) found fields free c e opened h =
    let is : found ≡ Some (file_with f t limit) = h ∙ of_format t (Some f) limit e in (
      fault_fresh limit (parts t) (Some f) found free e
          ∙ ap (fault_by_format limit (parts t) (Some f)) is
          ∙ nothing_wrong limit (parts t) f (file_with f t limit) (file_long t f limit fields)
          (λ _. file_unchanged t f limit fields),
      after_closed limit (parts t) found c ∙ h,
    )
fresh limit t false None found fields free c e opened h = (
  fault_fresh limit (parts t) None found free e,
  after_open limit (parts t) None found free c e ∙ sym (of_format t None limit e),
)
fresh limit t false (Some f) None fields free c e opened h = absurd h
fresh limit t false (Some f) (Some found) fields free c e opened h = (
  fault_fresh limit (parts t) (Some f) (Some found) free e
      ∙ nothing_wrong limit (parts t) f found h.long (λ k. absurd (true_false (sym k ∙ c))),
  after_open limit (parts t) (Some f) (Some found) free c e
      ∙ ap Some (mends t f limit found fields c h)
      ∙ sym (of_format t (Some f) limit e),
)

pub left_files_are_mended : LeftFilesAreMended
left_files_are_mended limit (Some stood) t found fields taken opened left =
    let h = stood_stays limit (parts t) found stood taken left in record { fault = h.0; after = h.1 }
left_files_are_mended limit None t found fields taken opened left =
    let h = fresh limit t t.closed t.format found fields taken refl refl opened left in
    record { fault = h.0; after = h.1 }
