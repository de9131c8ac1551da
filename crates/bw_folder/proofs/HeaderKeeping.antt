-- Headers stay as names become known.
use Rattle.std.proofs.Common.{◌≡◌, ◌∙◌, List, [], ◌∷◌, ◌++◌, ℕ, Bool, true, false, cond, Option, Some, None, is_some}
use Rattle.std.proofs.Common.{sym, ap, subst, refl, IsTrue}
use Rattle.std.specs.Prelude.{unwrap_or, option_map, if◌then◌else◌}
use Rattle.std.specs.Option.{option_or}
use Rattle.std.specs.List.{find}
use Rattle.std.specs.Str.{bytes_eq}
use Rattle.std.proofs.lemmas.List.Folds.{find-append}
use Rattle.bw_model.proofs.BookLemmas.{same_name}
use Rattle.bw_journal.specs.JournalHeaders.{Header}
use Rattle.bw_store.specs.Stores.{KeepsOthers}
use Rattle.bw_folder.specs.Folders.{take_path}
use Rattle.bw_disk.specs.declared.disk.Disk.{Ghosts}
use Rattle.bw_disk.specs.DiskSteps.{StaysWhole, ChangesAt}
use Rattle.bw_folder.specs.Journals.{journal_path, existence_of, header_at}
use Rattle.bw_folder.proofs.JournalPaths.{paths_apart}

-- a name that becomes known, with whether something stands at its take's path
pub header_pushed : (limit : ℕ) (known : List (List ℕ × Bool)) (before after : List ℕ → Option (List ℕ))
    (folder name : List ℕ) (existed : Bool) → existed ≡ is_some (before (take_path folder name)) →
    ((n : List ℕ) → after (take_path folder n) ≡ before (take_path folder n)) → (n : List ℕ) →
    header_at limit (known ++ (name, existed) ∷ []) after folder n ≡ header_at limit known before folder n
header_pushed limit known before after folder name existed is keeps n =
    ap (λ (x : Bool). header_of x)
    (ap (λ (o : Option (List ℕ × Bool)). unwrap_or (option_map (λ it. it.1) o) (is_some (after (take_path folder n))))
    (find-append (λ it. bytes_eq it.0 n) known ((name, existed) ∷ []))
    ∙ go (find (λ (it : List ℕ × Bool). bytes_eq it.0 n) known) (bytes_eq name n) refl)
  where
    header_of : Bool → Header
    header_of x = record { limit = limit; existed = x }

    go : (o : Option (List ℕ × Bool)) (b : Bool) → bytes_eq name n ≡ b →
        unwrap_or (option_map (λ it. it.1) (option_or o (cond b (Some (name, existed)) None))) (is_some (after (take_path folder n)))
        ≡ unwrap_or (option_map (λ it. it.1) o) (is_some (before (take_path folder n)))
    go (Some it) b e = refl
    go None true e = is ∙ ap (λ (x : List ℕ). is_some (before (take_path folder x))) (same_name name n e)
    go None false e = ap (λ (x : Option (List ℕ)). is_some x) (keeps n)

-- what is known stays, and no take's path changes
pub header_kept : (limit : ℕ) (known : List (List ℕ × Bool)) (before after : List ℕ → Option (List ℕ))
    (folder : List ℕ) → ((n : List ℕ) → after (take_path folder n) ≡ before (take_path folder n)) → (n : List ℕ) →
    header_at limit known after folder n ≡ header_at limit known before folder n
header_kept limit known before after folder keeps n =
    ap (λ (x : Option (List ℕ)). record { limit = limit; existed = unwrap_or (existence_of known n) (is_some x) }) (keeps n)

-- a name that becomes known, with what is said of it
pub header_adopted : (limit : ℕ) (known : List (List ℕ × Bool)) (before after : List ℕ → Option (List ℕ))
    (folder name : List ℕ) (existed : Bool) → is_some (existence_of known name) ≡ false →
    ((n : List ℕ) → after (take_path folder n) ≡ before (take_path folder n)) → (n : List ℕ) →
    header_at limit (known ++ (name, existed) ∷ []) after folder n
    ≡ (if bytes_eq name n then record { limit = limit; existed = existed } else header_at limit known before folder n)
header_adopted limit known before after folder name existed new keeps n =
    ap (λ (o : Option (List ℕ × Bool)). header_of (unwrap_or (option_map (λ it. it.1) o) (is_some (after (take_path folder n)))))
    (find-append (λ it. bytes_eq it.0 n) known ((name, existed) ∷ []))
    ∙ go (find (λ (it : List ℕ × Bool). bytes_eq it.0 n) known) refl (bytes_eq name n) refl
  where
    header_of : Bool → Header
    header_of x = record { limit = limit; existed = x }

    go : (o : Option (List ℕ × Bool)) → find (λ (it : List ℕ × Bool). bytes_eq it.0 n) known ≡ o → (b : Bool) →
        bytes_eq name n ≡ b →
        header_of (unwrap_or (option_map (λ it. it.1) (option_or o (cond b (Some (name, existed)) None)))
        (is_some (after (take_path folder n))))
        ≡ cond b (header_of existed) (header_of (unwrap_or (option_map (λ it. it.1) o) (is_some (before (take_path folder n)))))
    go (Some it) found true e =
        let same : existence_of known name ≡ existence_of known n = ap (λ (x : List ℕ). existence_of known x) (same_name name n e) in
        let some : is_some (existence_of known n) ≡ true =
        ap (λ (o : Option (List ℕ × Bool)). is_some (option_map (λ it. it.1) o)) found in
        let none : is_some (existence_of known n) ≡ false = sym (ap (λ (o : Option Bool). is_some o) same) ∙ new in
        cc
    go (Some it) found false e = refl
    go None found true e = refl
    go None found false e = ap (λ (x : Option (List ℕ)). header_of (is_some x)) (keeps n)

-- a change of a journal changes no take
pub takes_kept : {D F : Type 0} (G : Ghosts D F) (folder name : List ℕ) (old mid new : D) → IsTrue (G.honest old) →
    StaysWhole G old mid → ChangesAt G (journal_path folder name) mid new → (n : List ℕ) →
    G.contents new (take_path folder n) ≡ G.contents old (take_path folder n)
takes_kept G folder name old mid new honest stays changes n =
    changes.others (subst IsTrue (sym stays.honest) honest) (take_path folder n) (paths_apart folder n name)
    ∙ stays.contents honest (take_path folder n)

-- the same where the path is that of a file
pub takes_beside : {D F : Type 0} (G : Ghosts D F) (folder name path : List ℕ) (old new : D) → IsTrue (G.honest old) →
    path ≡ journal_path folder name → ChangesAt G path old new → (n : List ℕ) →
    G.contents new (take_path folder n) ≡ G.contents old (take_path folder n)
takes_beside G folder name path old new honest is changes n =
    changes.others honest (take_path folder n) (λ same. paths_apart folder n name (same ∙ is))

-- after a note
pub header_noted : (limit limit' : ℕ) (known known' : List (List ℕ × Bool)) (before after : List ℕ → Option (List ℕ))
    (folder folder' name : List ℕ) → limit' ≡ limit → known' ≡ known → folder' ≡ folder →
    KeepsOthers before after (journal_path folder name) → (n : List ℕ) →
    header_at limit' known' after folder' n ≡ header_at limit known before folder n
header_noted limit limit' known known' before after folder folder' name el ek ef keeps n =
    ap (λ (x : ℕ). header_at x known' after folder' n) el
    ∙ ap (λ (x : List (List ℕ × Bool)). header_at limit x after folder' n) ek
    ∙ ap (λ (x : List ℕ). header_at limit known after x n) ef
    ∙ header_kept limit known before after folder (λ m. keeps (take_path folder m) (paths_apart folder m name)) n
