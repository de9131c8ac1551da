-- What is made of a name by what was found of it.
use Rattle.std.proofs.Common.{◌≡◌, inl, inr, ◌∙◌, ℕ, Bool, true, false, not, ◌&&◌, ◌||◌, List}
use Rattle.std.proofs.Common.{Option, Some, None, is_some, IsSome, Result, Ok, Err, refl, sym, ap, subst}
use Rattle.std.specs.Prelude.{IfOk, option_map, if◌then◌else◌}
use Rattle.bw_model.specs.Take.{Parts, Format}
use Rattle.bw_store.specs.Stores.{Counts}
use Rattle.bw_disk.specs.ReadFaults.{is_disk_fault}
use Rattle.bw_disk.specs.declared.reading.ReadFault.{ReadFault}
use Rattle.bw_disk.specs.declared.reading.ReadFault.TheVariants.{Disk, Memory}
use Rattle.bw_journal.specs.Replays.{Story, JournalFault, replay}
use Rattle.bw_journal.specs.Stories.{story_of}
use Rattle.bw_recovery.specs.CountedFaults.{CountsOneOf, CountsOneUnless}
use Rattle.bw_recovery.specs.Files.{file_fault, fault_by_format, mended_by_format}
use Rattle.bw_recovery.specs.Names.{OfFile, name_fault, fault_beside, file_beside}
use Rattle.bw_recovery.specs.Findings.{IsRestored}
use Rattle.bw_recovery.specs.declared.fault.FileFault.{FileFault}
use Rattle.bw_recovery.specs.declared.fault.FileFault.TheVariants.{Lost}
use Rattle.bw_recovery.specs.declared.finding.Finding.{Finding}
use Rattle.bw_recovery.specs.declared.finding.Finding.TheVariants.{Refused, Unbegun, Begun as Resumes}
use Rattle.bw_recovery.specs.declared.finding.NameFault.{NameFault as Fault}
use Rattle.bw_kept.specs.RecoveredNames.{FindsName, RestoresName}
use Rattle.bw_kept.specs.Recoveries.{Recovers, MadeOfStory, MadeOfJournal, opened_story, story_in}
use Rattle.bw_kept.specs.KeptFolders.{HasNameFault, HasTooMany}
use Rattle.bw_kept.specs.Recoveries.{is_failed_call, IfUntouched, IfNumbers, IsKeptUnder}
use Rattle.bw_kept.specs.RecoverySteps.{MadeOfFinding, story_found, HasFiles, IsManyDone, fault_of_read}
use Rattle.bw_kept.specs.declared.recovery.RecoverFault.{RecoverFault}
use Rattle.bw_kept.specs.declared.recovery.Recovered.{Recovered}
use Rattle.bw_kept.specs.declared.recovery.Recovered.TheVariants.{New, LeftOut, Kept}

-- the fault of a read and that of a recovery come of the same
pub same_failure : (S T : Type 0) (fault : ReadFault) →
    is_failed_call {T = S} (Err (fault_of_read fault)) ≡ is_disk_fault {T = T} (Err fault)
same_failure S T Disk = refl
same_failure S T Memory = refl

-- it isn't refused
abbrev pub IsGoing : Finding → Type 0
IsGoing finding = (cause : Fault) → finding ≡ Refused cause → ⊥

-- a name without a journal is new
pub new_name : (limit : ℕ) (name : List ℕ) (notes file later_notes later_file : Option (List ℕ)) →
    FindsName limit name notes file None → later_notes ≡ notes → later_file ≡ file →
    Recovers limit name notes file New later_notes later_file
new_name limit name None file later_notes later_file found n f = (n, f)
new_name limit name (Some journal) file later_notes later_file found n f = absurd found

pub new_story : (limit : ℕ) (name : List ℕ) (notes file : Option (List ℕ)) → FindsName limit name notes file None →
    opened_story limit name notes New ≡ None
new_story limit name None file found = refl
new_story limit name (Some journal) file found = absurd found

-- a name that is refused is left out
pub left_out : (limit : ℕ) (name : List ℕ) (notes file : Option (List ℕ)) (cause : Fault) →
    FindsName limit name notes file (Some (Refused cause)) → Recovers limit name notes file (LeftOut cause) notes file
left_out limit name None file cause found = absurd found
left_out limit name (Some journal) file cause found = (found.0, refl, refl)

pub left_out_story : (limit : ℕ) (name : List ℕ) (notes : Option (List ℕ)) (cause : Fault) →
    opened_story limit name notes (LeftOut cause) ≡ None
left_out_story limit name None cause = refl
left_out_story limit name (Some journal) cause = refl

-- what is made of a journal that says this is made of the name
sound : (limit : ℕ) (name journal : List ℕ) (file : Option (List ℕ)) (r : Recovered)
    (later_notes later_file : Option (List ℕ)) → name_fault limit name journal file ≡ None →
    IsRestored limit name journal file later_notes later_file → MadeOfJournal name (replay limit name journal) r →
    Recovers limit name (Some journal) file r later_notes later_file
sound limit name journal file New later_notes later_file none restored made =
    record { sound = none; restored = restored; made = made }
sound limit name journal file (LeftOut cause) later_notes later_file none restored made =
    absurd (go (replay limit name journal) made)
  where
    go : (x : Result Story JournalFault) → MadeOfJournal name x (LeftOut cause) → ⊥
    go (Ok s) m = m
    go (Err f) m = cc
sound limit name journal file (Kept k) later_notes later_file none restored made =
    record { sound = none; restored = restored; made = made }

pub going : (limit : ℕ) (name : List ℕ) (notes file : Option (List ℕ)) (finding : Finding) (r : Recovered)
    (later_notes later_file : Option (List ℕ)) → IsGoing finding → FindsName limit name notes file (Some finding) →
    RestoresName limit name notes file later_notes later_file → MadeOfFinding name finding r →
    Recovers limit name notes file r later_notes later_file
going limit name None file finding r later_notes later_file goes found restores made = absurd found
going limit name (Some journal) file (Refused cause) r later_notes later_file goes found restores made =
    absurd (goes cause refl)
going limit name (Some journal) file Unbegun r later_notes later_file goes found restores made =
    sound limit name journal file r later_notes later_file found.0.1 (restores found.0.1)
    (subst (λ (x : Result Story JournalFault). MadeOfJournal name x r) (sym found.0.0) made)
going limit name (Some journal) file (Resumes b) r later_notes later_file goes found restores made =
    sound limit name journal file r later_notes later_file found.0.fault (restores found.0.fault)
    (subst (λ (x : Result Story JournalFault). MadeOfJournal name x r) (sym found.0.story) made)

-- what is opened is what has the story that was found
opened_of : (limit : ℕ) (name journal : List ℕ) (r : Recovered) (s : Option Story) →
    ((cause : Fault) → r ≡ LeftOut cause → ⊥) → story_in (replay limit name journal) ≡ s →
    opened_story limit name (Some journal) r ≡ s
opened_of limit name journal New s goes e = e
opened_of limit name journal (LeftOut cause) s goes e = absurd (goes cause refl)
opened_of limit name journal (Kept k) s goes e = e

not_left : (name : List ℕ) (s : Story) (r : Recovered) → MadeOfStory name s r → (cause : Fault) → r ≡ LeftOut cause → ⊥
not_left name s New made cause e = cc
not_left name s (LeftOut other) made cause e = made
not_left name s (Kept k) made cause e = cc

new_not_left : (r : Recovered) → r ≡ New → (cause : Fault) → r ≡ LeftOut cause → ⊥
new_not_left r new cause left = apart (sym new ∙ left)
  where
    apart : New ≡ LeftOut cause → ⊥
    apart e = cc

pub going_story : (limit : ℕ) (name : List ℕ) (notes file : Option (List ℕ)) (finding : Finding) (r : Recovered) →
    IsGoing finding → FindsName limit name notes file (Some finding) → MadeOfFinding name finding r →
    opened_story limit name notes r ≡ story_found finding
going_story limit name None file finding r goes found made = absurd found
going_story limit name (Some journal) file (Refused cause) r goes found made = absurd (goes cause refl)
going_story limit name (Some journal) file Unbegun r goes found made =
    opened_of limit name journal r None (new_not_left r made) (ap story_in found.0.0)
going_story limit name (Some journal) file (Resumes b) r goes found made =
    opened_of limit name journal r (Some (story_of b.replayed)) (not_left name (story_of b.replayed) r made)
    (ap story_in found.0.story)

no_fault : (o : Option FileFault) → option_map OfFile o ≡ None → o ≡ None
no_fault None e = refl
no_fault (Some f) e = cc

-- a file that is written to again is there
stands : (limit : ℕ) (p : Parts) (t c : Bool) (f : Option Format) (file : Option (List ℕ)) →
    ((not t && is_some f) && not c) ≡ true →
    (if t then (if is_some file then None else Some Lost) else fault_by_format limit p f file) ≡ None →
    IsSome (if (t || c) then file else mended_by_format limit p f file)
stands limit p true c f file on none = absurd cc
stands limit p false true f file on none = absurd (go (is_some f) on)
  where
    go : (b : Bool) → ((not false && b) && not true) ≡ true → ⊥
    go true e = cc
    go false e = cc
stands limit p false false None file on none = absurd cc
stands limit p false false (Some f) None on none = absurd cc
stands limit p false false (Some f) (Some found) on none = refl

-- so what is opened of a restored name is there
pub has_files : (limit : ℕ) (name : List ℕ) (notes file : Option (List ℕ)) (finding : Finding)
    (later_notes later_file : Option (List ℕ)) → FindsName limit name notes file (Some finding) →
    RestoresName limit name notes file later_notes later_file → HasFiles (story_found finding) later_notes later_file
has_files limit name None file finding later_notes later_file found restores = absurd found
has_files limit name (Some journal) file (Refused cause) later_notes later_file found restores = tt
has_files limit name (Some journal) file Unbegun later_notes later_file found restores = tt
has_files limit name (Some journal) file (Resumes b) later_notes later_file found restores =
    let r = restores found.0.fault in
    let p : Parts = (story_of b.replayed).parts in
    let fault : file_fault limit p file ≡ None =
    no_fault (file_fault limit p file)
    (ap (λ (x : Result Story JournalFault). fault_beside limit x file) (sym found.0.story) ∙ found.0.fault) in (
      ap (λ (o : Option (List ℕ)). is_some o) r.notes,
      λ on. ap (λ (o : Option (List ℕ)). is_some o)
          (r.take ∙ ap (λ (x : Result Story JournalFault). file_beside limit x file) found.0.story)
          ∙ stands limit p p.taken p.closed p.format file on fault,
    )

-- no call failed
pub none_counted : (before : ℕ) → Counts before before false
none_counted before = record { quiet = λ h. refl; rises = λ h. absurd cc; stays = λ h. refl }

pub none_failed : (Excused : Type 0) (t n : ℕ) → CountsOneUnless Excused t t n n false
none_failed Excused t n = inl (inl (none_counted t, refl))

-- no call failed in one step, and perhaps one in the next
pub counts_then : (Excused : Type 0) (t t' t'' n n' n'' : ℕ) (happens : Bool) → CountsOneUnless Excused t t' n n' false →
    CountsOneOf t' t'' n' n'' happens → CountsOneUnless Excused t t'' n n'' happens
counts_then Excused t t' t'' n n' n'' happens first next =
    subst (λ (x : ℕ). CountsOneUnless Excused x t'' n n'' happens) (kept_takes first)
    (subst (λ (x : ℕ). CountsOneUnless Excused t' t'' x n'' happens) (kept_notes first) (inl next))
  where
    kept_takes : CountsOneUnless Excused t t' n n' false → t' ≡ t
    kept_takes (inl (inl (c, e))) = c.quiet refl
    kept_takes (inl (inr (e, c))) = e
    kept_takes (inr (e, f, x)) = e

    kept_notes : CountsOneUnless Excused t t' n n' false → n' ≡ n
    kept_notes (inl (inl (c, e))) = e
    kept_notes (inl (inr (e, c))) = c.quiet refl
    kept_notes (inr (e, f, x)) = f

-- no call failed, so the counts are the same
pub quiet_takes : (t t' n n' : ℕ) → CountsOneOf t t' n n' false → t' ≡ t
quiet_takes t t' n n' (inl (c, e)) = c.quiet refl
quiet_takes t t' n n' (inr (e, c)) = e

pub quiet_notes : (t t' n n' : ℕ) → CountsOneOf t t' n n' false → n' ≡ n
quiet_notes t t' n n' (inl (c, e)) = e
quiet_notes t t' n n' (inr (e, c)) = c.quiet refl

-- a read failed
pub failed_read : (S T Excused : Type 0) (t t' n n' : ℕ) (fault : ReadFault) (e : RecoverFault) → e ≡ fault_of_read fault →
    CountsOneUnless Excused t t' n n' (is_disk_fault {T = T} (Err fault)) →
    CountsOneUnless Excused t t' n n' (is_failed_call {T = S} (Err e))
failed_read S T Excused t t' n n' fault e same counts =
    subst (λ (x : RecoverFault). CountsOneUnless Excused t t' n n' (is_failed_call {T = S} (Err x))) (sym same)
    (subst (λ (b : Bool). CountsOneUnless Excused t t' n n' b) (sym (same_failure S T fault)) counts)

-- what isn't refused, and isn't too much, is changed
pub touched : (name : List ℕ) (finding : Finding) (r : Result Recovered RecoverFault) (Holds : Type 0) → IsGoing finding →
    IfOk r (MadeOfFinding name finding) → IfNumbers r ⊥ → IfUntouched r Holds
touched name finding (Ok New) Holds goes made most = tt
touched name (Refused cause) (Ok (LeftOut other)) Holds goes made most = absurd (goes cause refl)
touched name Unbegun (Ok (LeftOut other)) Holds goes made most = absurd cc
touched name (Resumes b) (Ok (LeftOut other)) Holds goes made most = absurd made
touched name finding (Ok (Kept k)) Holds goes made most = tt
touched name finding (Err RecoverFault.Disk) Holds goes made most = tt
touched name finding (Err RecoverFault.Memory) Holds goes made most = tt
touched name finding (Err RecoverFault.Numbers) Holds goes made most = absurd most

-- after a read that failed, nothing is claimed
pub touched_else : (Holds : Type 0) (fault : ReadFault) (e : RecoverFault) → e ≡ fault_of_read fault → IfUntouched (Err e) Holds
touched_else Holds fault e same = subst (λ (x : RecoverFault). IfUntouched (Err x) Holds) (sym same) (go fault)
  where
    go : (f : ReadFault) → IfUntouched (Err (fault_of_read f)) Holds
    go Disk = tt
    go Memory = tt

pub touched_then : (P Q : Type 0) (r : Result Recovered RecoverFault) → (P → Q) → IfUntouched r P → IfUntouched r Q
touched_then P Q (Ok New) f h = tt
touched_then P Q (Ok (LeftOut cause)) f h = f h
touched_then P Q (Ok (Kept k)) f h = tt
touched_then P Q (Err RecoverFault.Disk) f h = tt
touched_then P Q (Err RecoverFault.Memory) f h = tt
touched_then P Q (Err RecoverFault.Numbers) f h = f h

is_some_none : {A X : Type 0} (o : Option X) → IsSome o → o ≡ None → A
is_some_none None some none = absurd cc
is_some_none (Some x) some none = absurd cc

-- a name that isn't refused has no fault
pub going_sound : {A : Type 0} (limit : ℕ) (name : List ℕ) (notes file : Option (List ℕ)) (finding : Finding) →
    IsGoing finding → FindsName limit name notes file (Some finding) → HasNameFault limit name notes file → A
going_sound limit name None file finding goes found fault = absurd found
going_sound limit name (Some journal) file (Refused cause) goes found fault = absurd (goes cause refl)
going_sound limit name (Some journal) file Unbegun goes found fault =
    is_some_none (name_fault limit name journal file) fault found.0.1
going_sound limit name (Some journal) file (Resumes b) goes found fault =
    is_some_none (name_fault limit name journal file) fault found.0.fault

-- a read fails for another reason than too many numbers
pub read_else : (Holds : Type 0) (fault : ReadFault) (e : RecoverFault) → e ≡ fault_of_read fault →
    IfNumbers {T = Recovered} (Err e) Holds
read_else Holds fault e same =
    subst (λ (x : RecoverFault). IfNumbers {T = Recovered} (Err x) Holds) (sym same) (go fault)
  where
    go : (f : ReadFault) → IfNumbers {T = Recovered} (Err (fault_of_read f)) Holds
    go Disk = tt
    go Memory = tt

-- too many numbers are those of the story that was found
pub too_many : (limit : ℕ) (name : List ℕ) (notes file : Option (List ℕ)) (finding : Finding) →
    FindsName limit name notes file (Some finding) → IsManyDone (story_found finding) → HasTooMany limit name notes file
too_many limit name None file finding found many = absurd found
too_many limit name (Some journal) file (Refused cause) found many = absurd many
too_many limit name (Some journal) file Unbegun found many = absurd many
too_many limit name (Some journal) file (Resumes b) found many =
    record { sound = found.0.fault; story = story_of b.replayed; said = found.0.story; many = many }

-- what holds if there are too many numbers holds of what follows from it
pub numbers_then : (P Q : Type 0) (r : Result Recovered RecoverFault) → (P → Q) → IfNumbers r P → IfNumbers r Q
numbers_then P Q (Ok x) f h = tt
numbers_then P Q (Err RecoverFault.Disk) f h = tt
numbers_then P Q (Err RecoverFault.Memory) f h = tt
numbers_then P Q (Err RecoverFault.Numbers) f h = f h

-- what is made of what was found is of the name
pub made_under : (name : List ℕ) (finding : Finding) (r : Recovered) → MadeOfFinding name finding r → IsKeptUnder name r
made_under name finding New made = tt
made_under name finding (LeftOut cause) made = tt
made_under name (Refused cause) (Kept k) made = absurd cc
made_under name Unbegun (Kept k) made = absurd cc
made_under name (Resumes b) (Kept k) made = made.named
