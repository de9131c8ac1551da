-- What is found and restored of a name, where its two files are in a folder.
use Rattle.std.proofs.Common.{◌≡◌, ℕ, List, Option, Some, None, Ok, Err, refl, sym, ap, ◌∙◌, subst, []}
use Rattle.std.specs.Prelude.{Result, IfOk, OnOk, IfNone, IfSome, IsSome, IsTrue}
use Rattle.bw_disk.specs.declared.reading.ReadFault.{ReadFault}
use Rattle.bw_recovery.specs.Findings.{IsFound, IsRestored, SparesFile, leaves_take}
use Rattle.bw_recovery.specs.Names.{name_fault}
use Rattle.bw_recovery.specs.Paths.{path_with, wave_path, notes_path}
use Rattle.bw_recovery.specs.Restorings.{is_refused}
use Rattle.bw_recovery.specs.declared.finding.Finding.{Finding}
use Rattle.bw_recovery.specs.declared.finding.Finding.TheVariants.{Refused, Unbegun, Begun}
use Rattle.bw_folder.specs.Folders.{take_path}
use Rattle.bw_store.specs.Stores.{KeepsOthers}
use Rattle.bw_disk.specs.Volumes.{KeepsEach}
use Rattle.bw_folder.specs.Journals.{journal_path}
use Rattle.bw_folder.proofs.PendingLaws.{noted_beside}
use Rattle.bw_kept.specs.RecoveredNames.{FindsName, RestoresName}

-- what is at each path of a disk
abbrev Contents : Type 0
Contents = List ℕ → Option (List ℕ)

finds_name : (limit : ℕ) (name : List ℕ) (notes file : Option (List ℕ)) (found : Option Finding) →
    IfNone found (notes ≡ None) → IfSome found (λ _. IsSome notes) →
    ((journal : List ℕ) → notes ≡ Some journal → IfSome found (IsFound limit name journal file)) →
    IfSome found SparesFile → FindsName limit name notes file found
finds_name limit name None file None none some is spares = tt
finds_name limit name None file (Some finding) none some is spares = absurd cc
finds_name limit name (Some journal) file None none some is spares = absurd cc
finds_name limit name (Some journal) file (Some finding) none some is spares = (is journal refl, spares)

finds_all : (limit : ℕ) (name : List ℕ) (notes file : Option (List ℕ)) (r : Result (Option Finding) ReadFault) →
    IfOk r (λ found. IfNone found (notes ≡ None)) → IfOk r (λ found. IfSome found (λ _. IsSome notes)) →
    IfOk r (λ found. (journal : List ℕ) → notes ≡ Some journal → IfSome found (IsFound limit name journal file)) →
    IfOk r (λ found. IfSome found SparesFile) → IfOk r (FindsName limit name notes file)
finds_all limit name notes file (Ok found) none some is spares = finds_name limit name notes file found none some is spares
finds_all limit name notes file (Err fault) none some is spares = tt

-- what was found of a name in a folder
pub found_at : (limit : ℕ) (name inner folder other : List ℕ) (notes takes : Contents)
    (r : Result (Option Finding) ReadFault) → inner ≡ folder → other ≡ folder →
    IfOk r (λ found. IfNone found (notes (notes_path inner name) ≡ None)) →
    IfOk r (λ found. IfSome found (λ _. IsSome (notes (notes_path inner name)))) →
    IfOk r (λ found. (journal : List ℕ) → notes (notes_path inner name) ≡ Some journal →
    IfSome found (IsFound limit name journal (takes (wave_path inner name)))) →
    IfOk r (λ found. IfSome found SparesFile) →
    IfOk r (FindsName limit name (notes (journal_path other name)) (takes (take_path folder name)))
unfolding journal_path take_path path_with
found_at limit name inner folder other notes takes r there same none some is spares =
    subst (λ (f : List ℕ). IfOk r (FindsName limit name (notes (journal_path other name)) (takes (take_path f name)))) there
    (subst (λ (p : List ℕ). IfOk r (FindsName limit name (notes (journal_path p name)) (takes (take_path inner name))))
    (there ∙ sym same)
    (finds_all limit name (notes (notes_path inner name)) (takes (wave_path inner name)) r none some is spares))

-- a name of which something was found has a journal
found_with : (limit : ℕ) (name : List ℕ) (notes file : Option (List ℕ)) (finding : Finding)
    (X : Option (List ℕ) → Type 0) → FindsName limit name notes file (Some finding) →
    ((journal : List ℕ) → notes ≡ Some journal → IsFound limit name journal file finding → SparesFile finding →
    X (Some journal)) → X notes
found_with limit name None file finding X found holds = absurd found
found_with limit name (Some journal) file finding X found holds = holds journal refl found.0 found.1

-- so this holds of it that holds of each name that was found
pub found_then : (limit : ℕ) (name inner folder other : List ℕ) (notes takes : Contents) (finding : Finding)
    (X : List ℕ → List ℕ → Option (List ℕ) → Type 0) → inner ≡ folder → other ≡ folder →
    FindsName limit name (notes (journal_path other name)) (takes (take_path folder name)) (Some finding) →
    ((journal : List ℕ) → notes (notes_path inner name) ≡ Some journal →
    IsFound limit name journal (takes (wave_path inner name)) finding → SparesFile finding →
    X inner inner (Some journal)) → X other folder (notes (journal_path other name))
unfolding journal_path take_path path_with
found_then limit name inner folder other notes takes finding X there same found holds =
    subst (λ (f : List ℕ). X other f (notes (journal_path other name))) there
    (subst (λ (p : List ℕ). X p inner (notes (journal_path p name))) (there ∙ sym same)
    (found_with limit name (notes (notes_path inner name)) (takes (wave_path inner name)) finding (X inner inner)
    (subst (λ (f : List ℕ). FindsName limit name (notes (journal_path inner name)) (takes (take_path f name)) (Some finding))
    (sym there)
    (subst (λ (p : List ℕ). FindsName limit name (notes (journal_path p name)) (takes (take_path folder name)) (Some finding))
    (same ∙ sym there) found))
    holds))

if_sound : {A : Type 0} (r : Result (Unit {0}) ReadFault) (P : Type 0) → (A → OnOk r P) → OnOk r (A → P)
if_sound (Ok x) P f = f
if_sound (Err fault) P f = tt

-- what restoring makes of it
pub restored_at : (limit : ℕ) (name inner folder other : List ℕ) (notes takes later_notes later_takes : Contents)
    (finding : Finding) (r : Result (Unit {0}) ReadFault) → inner ≡ folder → other ≡ folder →
    FindsName limit name (notes (journal_path other name)) (takes (take_path folder name)) (Some finding) →
    ((journal : List ℕ) → notes (notes_path inner name) ≡ Some journal →
    IsFound limit name journal (takes (wave_path inner name)) finding → SparesFile finding →
    name_fault limit name journal (takes (wave_path inner name)) ≡ None →
    OnOk r (IsRestored limit name journal (takes (wave_path inner name)) (later_notes (notes_path inner name))
    (later_takes (wave_path inner name)))) →
    OnOk r (RestoresName limit name (notes (journal_path other name)) (takes (take_path folder name))
    (later_notes (journal_path other name)) (later_takes (take_path folder name)))
unfolding journal_path take_path path_with
restored_at limit name inner folder other notes takes later_notes later_takes finding r there same found restores =
    found_then limit name inner folder other notes takes finding
    (λ (p f : List ℕ) (o : Option (List ℕ)). OnOk r (RestoresName limit name o (takes (take_path f name))
    (later_notes (journal_path p name)) (later_takes (take_path f name))))
    there same found
    (λ journal at is spares. if_sound r
    (IsRestored limit name journal (takes (wave_path inner name)) (later_notes (notes_path inner name))
    (later_takes (wave_path inner name)))
    (restores journal at is spares))

-- a name that is refused keeps its file
pub refused_leaves : (finding : Finding) → IsTrue (is_refused finding) → IsTrue (leaves_take finding)
refused_leaves (Refused cause) e = refl
refused_leaves Unbegun e = absurd cc
refused_leaves (Begun b) e = absurd cc

-- what changes besides a name's journal, at its path in the same folder
pub notes_others : (inner folder name : List ℕ) (before after : Contents) → inner ≡ folder →
    KeepsOthers before after (notes_path inner name) → KeepsOthers before after (journal_path folder name)
unfolding journal_path path_with
notes_others inner folder name before after same others =
    subst (λ (f : List ℕ). KeepsOthers before after (notes_path f name)) same others

-- what holds of both holds of what is equal to them
pub both_are : {A : Type 0} (P : A → A → Type 0) {j k j' k' : A} → j' ≡ j → k' ≡ k → P j k → P j' k'
both_are P {j} {k} {j'} {k'} same also is =
    subst (λ x. P x k') (sym same) (subst (λ y. P j y) (sym also) is)

-- each other name has what it had, where what is noted is what the journals have
pub others_noted : (name inner folder later : List ℕ) (noted noted' before after : Contents) →
    ((n : List ℕ) → noted n ≡ before (journal_path folder n)) → ((n : List ℕ) → noted' n ≡ after (journal_path later n)) →
    inner ≡ folder → later ≡ folder → KeepsOthers before after (notes_path inner name) → KeepsOthers noted noted' name
others_noted name inner folder later noted noted' before after was is same stays others = λ other apart.
    is other ∙ ap (λ (f : List ℕ). after (journal_path f other)) stays
    ∙ noted_beside [] [] folder name before after (λ n. refl) (notes_others inner folder name before after same others)
    other apart ∙ sym (was other)

-- .. and so has each name, if each journal has
pub each_noted : (folder later : List ℕ) (noted noted' before after : Contents) →
    ((n : List ℕ) → noted n ≡ before (journal_path folder n)) → ((n : List ℕ) → noted' n ≡ after (journal_path later n)) →
    later ≡ folder → KeepsEach before after → KeepsEach noted noted'
each_noted folder later noted noted' before after was is stays same = λ n.
    is n ∙ ap (λ (f : List ℕ). after (journal_path f n)) stays ∙ same (journal_path folder n) ∙ sym (was n)
