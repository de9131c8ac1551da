use Rattle.std.proofs.Common.{rules, ◌≡◌, ◌∙◌, ap, sym, subst, List, [], ◌∷◌, ◌++◌, ℕ, Bool, false, is_some, Option, IsTrue}
use Rattle.std.proofs.Common.{string_bytes, length, Some, ◌<◌}
use Rattle.std.specs.Prelude.{IfNone}
use Rattle.std.specs.List.{All, HoldsAt}
use Rattle.std.proofs.lemmas.List.Elements.{All-push}
use Rattle.bw_disk.specs.DiskSteps.{ChangesAt}
use Rattle.bw_folder.specs.declared.journal.OpenJournal.{OpenJournal}
use Rattle.bw_folder.specs.Journals.{journal_path, existences, existence_of, header_at, IsOpenAt}
use Rattle.bw_folder.proofs.HeaderKeeping.{header_pushed, header_kept, takes_kept}
use Rattle.bw_folder.proofs.JournalNames.{known_pushed, pushed_at}
use Rattle.bw_folder.specs.PendingNotes.{UnwrittenNotes, no_pending, pendings, unwritten_of, waits}
use Rattle.bw_folder.proofs.PendingLaws.{holds_beside, holds_same}
use Rattle.bw_folder.proofs.ChangedJournals.{pending_opened, absent_of, changes_after, unchanged_notes}
use Rattle.bw_folder.proofs.journal.FolderJournal.opened.Goals as goal

pub returns-in_err-file-clause-headers : goal.returns-in_err-file-clause-headers
returns-in_err-file-clause-headers g c = λ honest n.
    let folder : List ℕ = string_bytes c.args.self.now.folder in
    let items : c.reserve.new.self.items ≡ c.args.self.now.journals.items = search rules in
    let changes : ChangesAt g.D.Disk (journal_path folder c.args.name.now) c.exists.new.disk c.open_or_make.new.disk = search rules in
    ap (λ (js : List (OpenJournal g.row.D-File.Denot)). header_at c.args.self.now.limit (existences js)
    (g.D.Disk.contents c.open_or_make.new.disk) folder n)
    items
    ∙ header_kept c.args.self.now.limit (existences c.args.self.now.journals.items) (g.D.Disk.contents c.args.self.now.disk)
    (g.D.Disk.contents c.open_or_make.new.disk) folder
    (takes_kept g.D.Disk folder c.args.name.now c.args.self.now.disk c.exists.new.disk c.open_or_make.new.disk honest
    c.exists.ensures.rest changes) n

pub returns-clause-headers : goal.returns-clause-headers
returns-clause-headers g c = λ honest n.
    let folder : List ℕ = string_bytes c.args.self.now.folder in
    let items : c.push.new.self.items ≡ c.args.self.now.journals.items ++ c.new-journal.result ∷ [] = search rules in
    let changes : ChangesAt g.D.Disk (journal_path folder c.args.name.now) c.exists.new.disk c.open_or_make.new.disk = search rules in
    let known : existences c.push.new.self.items
    ≡ existences c.args.self.now.journals.items ++ (c.args.name.now, c.in_ok-existed.existed) ∷ [] =
    ap existences items
    ∙ known_pushed c.args.self.now.journals.items c.new-journal.result c.args.name.now c.in_ok-existed.existed
    c.new-journal.ensures.name c.new-journal.ensures.existed in
    ap (λ (ks : List (List ℕ × Bool)). header_at c.args.self.now.limit ks (g.D.Disk.contents c.open_or_make.new.disk) folder n)
    known
    ∙ header_pushed c.args.self.now.limit (existences c.args.self.now.journals.items) (g.D.Disk.contents c.args.self.now.disk)
    (g.D.Disk.contents c.open_or_make.new.disk) folder c.args.name.now c.in_ok-existed.existed (search rules)
    (takes_kept g.D.Disk folder c.args.name.now c.args.self.now.disk c.exists.new.disk c.open_or_make.new.disk honest
    c.exists.ensures.rest changes) n

-- at this place is the journal of a name
abbrev IsLast : (F : Type 0) → List ℕ → List (OpenJournal F) → ℕ → Type 0
IsLast F name journals n =
    (n < length journals)
    × HoldsAt (λ (x : OpenJournal F). (x.name ≡ name) × (existence_of (existences journals) name ≡ Some x.existed))
    journals n

pub returns-clause-place : goal.returns-clause-place
returns-clause-place g c =
    let items : c.push.new.self.items ≡ c.args.self.now.journals.items ++ c.new-journal.result ∷ [] = search rules in
    let none : is_some (existence_of (existences c.args.self.now.journals.items) c.args.name.now) ≡ false = search rules in
    let last : c.len-place.result ≡ length c.args.self.now.journals.items = search rules in
    subst (λ (n : ℕ). IsLast g.row.D-File.Denot c.args.name.now c.push.new.self.items n) (sym last)
    (subst (λ (js : List (OpenJournal g.row.D-File.Denot)).
    IsLast g.row.D-File.Denot c.args.name.now js (length c.args.self.now.journals.items)) (sym items)
    (pushed_at c.args.self.now.journals.items c.new-journal.result c.args.name.now c.new-journal.ensures.name none))

pub invariant_of-self-2 : goal.invariant_of-self-2
invariant_of-self-2 g c =
    let self = c.args.self.now in
    let name : List ℕ = c.args.name.now in
    let folder : List ℕ = string_bytes self.folder in
    let items : c.push.new.self.items ≡ self.journals.items ++ c.new-journal.result ∷ [] = search rules in
    let changes : ChangesAt g.D.Disk (journal_path folder name) c.exists.new.disk c.open_or_make.new.disk = search rules in
    let whole = changes_after g.D.Disk (journal_path folder name) self.disk c.exists.new.disk c.open_or_make.new.disk
    c.exists.ensures.rest changes in
    let absent : unwritten_of (pendings self.journals.items) name ≡ no_pending =
    absent_of c.find.result (search rules)
    (subst (λ (js : List (OpenJournal g.row.D-File.Denot)). IfNone c.find.result (unwritten_of (pendings js) name ≡ no_pending))
    c.deref.ensures.value c.find.ensures.none) in
    record {
      paths = λ honest.
          subst (λ (js : List (OpenJournal g.row.D-File.Denot)). All (λ j. g.D.Disk.path_of j.file ≡ journal_path folder j.name) js)
          (sym items)
          (All-push (λ (j : OpenJournal g.row.D-File.Denot). g.D.Disk.path_of j.file ≡ journal_path folder j.name)
          self.journals.items c.new-journal.result
          (self.paths (search rules)) (search rules));
      pending = λ honest.
          let old : IsTrue (g.D.Disk.honest self.disk) = subst IsTrue whole.honest honest in
          holds_beside self.sync (pendings self.journals.items) (pendings c.push.new.self.items) folder name
          (g.D.Disk.contents self.disk) (g.D.Disk.contents c.open_or_make.new.disk)
          (λ n. ap (λ (js : List (OpenJournal g.row.D-File.Denot)). unwritten_of (pendings js) n) items
          ∙ pending_opened self.journals.items c.new-journal.result c.new-journal.ensures.pending n)
          (whole.others old) (ap (λ (p : UnwrittenNotes). waits p.bytes) absent) (self.pending old);
    }

pub returns-clause-pending : goal.returns-clause-pending
returns-clause-pending g c = λ n.
    let items : c.push.new.self.items ≡ c.args.self.now.journals.items ++ c.new-journal.result ∷ [] = search rules in
    ap (λ (js : List (OpenJournal g.row.D-File.Denot)). unwritten_of (pendings js) n) items
    ∙ pending_opened c.args.self.now.journals.items c.new-journal.result c.new-journal.ensures.pending n

pub returns-clause-rest : goal.returns-clause-rest
returns-clause-rest g c =
    let path : List ℕ = journal_path (string_bytes c.args.self.now.folder) c.args.name.now in
    let changes : ChangesAt g.D.Disk path c.exists.new.disk c.open_or_make.new.disk = search rules in
    changes_after g.D.Disk path c.args.self.now.disk c.exists.new.disk c.open_or_make.new.disk c.exists.ensures.rest changes

pub returns-clause-found : goal.returns-clause-found
returns-clause-found g c = λ honest.
    let path : List ℕ = journal_path (string_bytes c.args.self.now.folder) c.args.name.now in
    let still : IsTrue (g.D.Disk.honest c.exists.new.disk) = subst IsTrue (sym c.exists.ensures.rest.honest) honest in
    let opens : IsOpenAt (g.D.Disk.contents c.exists.new.disk path) (g.D.Disk.contents c.open_or_make.new.disk path) = search rules in
    subst (λ (o : Option (List ℕ)). IsOpenAt o (g.D.Disk.contents c.open_or_make.new.disk path))
    (c.exists.ensures.rest.contents honest path) opens

pub invariant_of-self-in-Break-branch-5 : goal.invariant_of-self-in-Break-branch-5
invariant_of-self-in-Break-branch-5 g c =
    let self = c.args.self.now in
    let name : List ℕ = c.args.name.now in
    let folder : List ℕ = string_bytes self.folder in
    let path : List ℕ = journal_path folder name in
    let items : c.reserve.new.self.items ≡ self.journals.items = search rules in
    let changes : ChangesAt g.D.Disk path c.exists.new.disk c.open_or_make.new.disk = search rules in
    let whole = changes_after g.D.Disk path self.disk c.exists.new.disk c.open_or_make.new.disk c.exists.ensures.rest changes in
    record {
      paths = λ honest.
          let old : IsTrue (g.D.Disk.honest self.disk) = subst IsTrue whole.honest honest in
          subst (λ (js : List (OpenJournal g.row.D-File.Denot)). All (λ j. g.D.Disk.path_of j.file ≡ journal_path folder j.name) js)
          (sym items) (self.paths old);
      pending = λ honest.
          let old : IsTrue (g.D.Disk.honest self.disk) = subst IsTrue whole.honest honest in
          let still : IsTrue (g.D.Disk.honest c.exists.new.disk) = subst IsTrue (sym c.exists.ensures.rest.honest) old in
          let same : g.D.Disk.contents c.open_or_make.new.disk path ≡ g.D.Disk.contents c.exists.new.disk path = search rules in
          holds_same self.sync (pendings self.journals.items) (pendings c.reserve.new.self.items) folder
          (g.D.Disk.contents self.disk) (g.D.Disk.contents c.open_or_make.new.disk)
          (λ n. ap (λ (js : List (OpenJournal g.row.D-File.Denot)). unwritten_of (pendings js) n) items)
          (unchanged_notes folder name (g.D.Disk.contents self.disk) (g.D.Disk.contents c.open_or_make.new.disk) (whole.others old)
          (same ∙ c.exists.ensures.rest.contents old path))
          (self.pending old);
    }
