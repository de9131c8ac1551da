-- What is judged of a file that was read.
use Rattle.std.proofs.Common.{◌≡◌, ℕ, ◌≤◌, true, false, List, Option, Some, None, is_some, Result, refl, sym, ◌∙◌, ap, subst, arith}
use Rattle.std.specs.Prelude.{IfOk, IfErr, IfSome}
use Rattle.bw_model.specs.Take.{Parts, Format}
use Rattle.bw_recovery.specs.Files.{data_end, opened_fault, file_fault}
use Rattle.bw_recovery.specs.Adoptions.{IsFileHeader, IsSeen, Sees, SparesSamples}
use Rattle.bw_recovery.specs.declared.adoption.Mending.{Mending}
use Rattle.bw_recovery.specs.declared.adoption.FileFacts.{FileFacts}
use Rattle.bw_recovery.specs.declared.fault.FileFault.{FileFault}
use Rattle.bw_recovery.proofs.FileLemmas.{fault_fresh}

one : {X : Type 0} {x y : X} → Some x ≡ Some y → x ≡ y
one e = cc

-- what was read of a file that is there
seen_file : (p : Parts) (file : Option (List ℕ)) (found : Option FileFacts) (facts : FileFacts) → found ≡ Some facts →
    Sees p file found → (bytes : List ℕ) × (file ≡ Some bytes) × IsSeen p bytes facts
seen_file p None None facts e sees = absurd cc
seen_file p None (Some other) facts e sees = absurd sees
seen_file p (Some bytes) None facts e sees = absurd sees
seen_file p (Some bytes) (Some other) facts e sees = (bytes, refl, subst (IsSeen p bytes) (one e) sees)

some_of : {X : Type 0} (o : Option X) → is_some o ≡ true → (x : X) × (o ≡ Some x)
some_of None e = absurd cc
some_of (Some x) e = (x, refl)

-- what is wrong with it is what is wrong with the file of a take of its format
same_fault : (limit : ℕ) (p : Parts) (f : Format) (file : Option (List ℕ)) (bytes : List ℕ) → p.taken ≡ false →
    p.format ≡ Some f → file ≡ Some bytes → opened_fault limit p f bytes ≡ file_fault limit p file
same_fault limit p f file bytes free e is =
    sym (fault_fresh limit p (Some f) (Some bytes) free e) ∙ ap (file_fault limit p) (sym is)

pub judged_ok : {A : Type 0} (limit : ℕ) (p : Parts) (file : Option (List ℕ)) (found : Option FileFacts) (facts : FileFacts)
    (r : Result A FileFault) → p.taken ≡ false → is_some p.format ≡ true → found ≡ Some facts → Sees p file found →
    ((f : Format) (bytes : List ℕ) → p.format ≡ Some f → IsSeen p bytes facts →
    IfOk r (λ _. opened_fault limit p f bytes ≡ None)) →
    IfOk r (λ _. file_fault limit p file ≡ None)
judged_ok limit p file found facts r free opened e sees h =
    let f = some_of p.format opened in
    let b = seen_file p file found facts e sees in
    subst (λ (x : Option FileFault). IfOk r (λ _. x ≡ None)) (same_fault limit p f.0 file b.0 free f.1 b.1) (h f.0 b.0 f.1 b.2)

pub judged_err : {A : Type 0} (limit : ℕ) (p : Parts) (file : Option (List ℕ)) (found : Option FileFacts) (facts : FileFacts)
    (r : Result A FileFault) → p.taken ≡ false → is_some p.format ≡ true → found ≡ Some facts → Sees p file found →
    ((f : Format) (bytes : List ℕ) → p.format ≡ Some f → IsSeen p bytes facts →
    IfErr r (λ e. opened_fault limit p f bytes ≡ Some e)) →
    IfErr r (λ e. file_fault limit p file ≡ Some e)
judged_err limit p file found facts r free opened e sees h =
    let f = some_of p.format opened in
    let b = seen_file p file found facts e sees in
    subst (λ (x : Option FileFault). IfErr r (λ e. x ≡ Some e)) (same_fault limit p f.0 file b.0 free f.1 b.1) (h f.0 b.0 f.1 b.2)

-- a cut to a length that has the samples
pub cut_past : (o : Option ℕ) (kept end : ℕ) → IfSome o (λ n. n ≡ kept) → end ≤ kept → IfSome o (λ n. end ≤ n)
cut_past None kept end h past = tt
cut_past (Some n) kept end h past = omega (arith, h, past)

-- a mending with the header of its take
pub spares_samples : (limit : ℕ) (p : Parts) (m : Mending) (header : List ℕ) → is_some p.format ≡ true →
    ((f : Format) → p.format ≡ Some f → IsFileHeader limit p f header) → IfSome m.cut (λ len. data_end p ≤ len) →
    SparesSamples p m header
spares_samples limit p m header opened of_format cut =
    let f = some_of p.format opened in
    let len = (of_format f.0 f.1).len in
    record { opened = opened; front = omega (arith, len); cut = cut }
