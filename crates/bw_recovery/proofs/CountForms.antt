-- Which calls failed while a name was restored.
use Rattle.std.proofs.Common.{◌≡◌, ◌∙◌, inl, inr, ℕ, Bool, true, false, List, Option, Some, None, Result, is_some, IsSome}
use Rattle.std.proofs.Common.{refl, sym, ap}
use Rattle.std.specs.Prelude.{option_map, if◌then◌else◌}
use Rattle.bw_model.specs.Take.{Parts, Format}
use Rattle.bw_journal.specs.Replays.{Story, JournalFault}
use Rattle.bw_recovery.specs.Adoptions.{DoesLeast, SparesTake}
use Rattle.bw_recovery.specs.CountedFaults.{CountsUnless, CountsOneUnless}
use Rattle.bw_recovery.specs.Files.{file_fault, fault_by_format}
use Rattle.bw_recovery.specs.Findings.{IsBegunAs, keeps_file}
use Rattle.bw_recovery.specs.Names.{OfFile, fault_beside}
use Rattle.bw_recovery.specs.declared.adoption.Adoption.{Adoption}
use Rattle.bw_recovery.specs.declared.adoption.Adoption.TheVariants.{Keep, SetAside, Mend}
use Rattle.bw_recovery.specs.declared.fault.FileFault.{FileFault}
use Rattle.bw_recovery.specs.declared.fault.FileFault.TheVariants.{Lost}
use Rattle.bw_recovery.specs.declared.finding.Begun.{Begun}

-- only the first disk was called
pub only_takes : (Excused : Type 0) (t t' n n' : ℕ) (happens : Bool) → n' ≡ n → CountsUnless Excused t t' happens →
    CountsOneUnless Excused t t' n n' happens
only_takes Excused t t' n n' happens same (inl c) = inl (inl (c, same))
only_takes Excused t t' n n' happens same (inr (e, x)) = inr (e, same, x)

no_fault : (o : Option FileFault) → option_map OfFile o ≡ None → o ≡ None
no_fault None e = refl
no_fault (Some f) e = cc

-- the file of a take that is opened is there
lost : (limit : ℕ) (p : Parts) (t : Bool) (f : Option Format) → IsSome f →
    (if t then (if is_some {T = List ℕ} None then None else Some Lost) else fault_by_format limit p f None) ≡ None → ⊥
lost limit p true f some none = cc
lost limit p false None some none = cc
lost limit p false (Some f) some none = cc

changed : (limit : ℕ) (p : Parts) (a : Adoption) (header : List ℕ) (file : Option (List ℕ)) → DoesLeast p a header file →
    SparesTake p a header → file_fault limit p file ≡ None → keeps_file a ≡ false → IsSome file
changed limit p Keep header file least spares none keeps = cc
changed limit p SetAside header file least spares none keeps = least
changed limit p (Mend m) header None least spares none keeps =
    absurd (lost limit p p.taken p.format spares.opened none)
changed limit p (Mend m) header (Some found) least spares none keeps = refl

-- a file that isn't left as it is is there
pub changed_stands : (limit : ℕ) (name journal : List ℕ) (file : Option (List ℕ)) (b : Begun) →
    IsBegunAs limit name journal file b → SparesTake b.replayed.state.parts b.adoption b.header.items →
    keeps_file b.adoption ≡ false → IsSome file
changed_stands limit name journal file b begun spares =
    changed limit b.replayed.state.parts b.adoption b.header.items file begun.least spares
    (no_fault (file_fault limit b.replayed.state.parts file)
    (ap (λ (x : Result Story JournalFault). fault_beside limit x file) (sym begun.story) ∙ begun.fault))
