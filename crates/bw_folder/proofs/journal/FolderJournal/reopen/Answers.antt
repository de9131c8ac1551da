use Rattle.std.proofs.Common.{rules, arith, ◌≡◌, ◌∙◌, ◌+◌, ◌≤◌, ap, sym, subst, refl, List, [], ◌∷◌, ◌++◌, ℕ, Bool, false, is_some}
use Rattle.std.proofs.Common.{string_bytes, IsTrue}
use Rattle.bw_folder.specs.Folders.{take_path}
use Rattle.bw_folder.specs.Journals.{existences, existence_of, header_at, journal_path}
use Rattle.bw_folder.proofs.HeaderKeeping.{header_adopted}
use Rattle.bw_folder.proofs.JournalNames.{unknown, known_pushed}
use Rattle.std.specs.Prelude.{Result, Ok, Err, IsOk, IsErr, OnOk, OnErr, IsSome, Option, IfNone, is_err}
use Rattle.std.specs.List.{All}
use Rattle.std.proofs.lemmas.List.Elements.{All-push}
use Rattle.bw_store.specs.Stores.{Counts}
use Rattle.bw_folder.specs.declared.journal.OpenJournal.{OpenJournal}
use Rattle.bw_folder.specs.PendingNotes.{UnwrittenNotes, no_pending, pendings, unwritten_of, waits, KeepsPending}
use Rattle.bw_folder.proofs.PendingLaws.{holds_same, noted_same, noted_idle}
use Rattle.bw_folder.proofs.ChangedJournals.{pending_opened, absent_of}
use Rattle.bw_folder.proofs.journal.FolderJournal.reopen.Given.{Over}
use Rattle.bw_folder.proofs.journal.FolderJournal.reopen.Goals.{After-drop-path-2}
use Rattle.bw_folder.proofs.journal.FolderJournal.reopen.Goals as goal

pushed : (g : Over) (c : After-drop-path-2 g) →
    existences c.push.new.self.items
    ≡ existences c.args.self.now.journals.items ++ (c.args.name.now, c.args.existed) ∷ []
pushed g c =
    let items : c.push.new.self.items ≡ c.args.self.now.journals.items ++ c.new-journal.result ∷ [] = search rules in
    ap existences items
    ∙ known_pushed c.args.self.now.journals.items c.new-journal.result c.args.name.now c.args.existed c.new-journal.ensures.name
    c.new-journal.ensures.existed

pub returns-clause-known : goal.returns-clause-known
returns-clause-known g c = pushed g c

pub returns-clause-headers : goal.returns-clause-headers
returns-clause-headers g c = λ honest other.
    let old : List (List ℕ × Bool) = existences c.args.self.now.journals.items in
    let none : is_some (existence_of old c.args.name.now) ≡ false = unknown c.find.result _ (search rules) (search rules) in
    ap (λ (known : List (List ℕ × Bool)). header_at c.args.self.now.limit known (g.D.Disk.contents c.open.new.self)
    (string_bytes c.args.self.now.folder) other)
    (pushed g c)
    ∙ header_adopted c.args.self.now.limit old (g.D.Disk.contents c.args.self.now.disk) (g.D.Disk.contents c.open.new.self)
    (string_bytes c.args.self.now.folder) c.args.name.now c.args.existed none
    (λ n. c.open.ensures.contents honest (take_path (string_bytes c.args.self.now.folder) n)) other

pub returns-clause-asks : goal.returns-clause-asks
returns-clause-asks g c = λ none. search rules

-- there was room
full_room : {T E U V : Type 0} (r : Result T E) (s : Result U V) (len cap : ℕ) → OnOk r (len + 1 ≤ cap) →
    OnErr s (cap ≤ len) → IsOk r → IsErr s → ⊥
full_room (Ok x) (Err e) len cap room full ok fails = omega arith
full_room (Ok x) (Ok y) len cap room full ok fails = absurd (cc)
full_room (Err e) s len cap room full ok fails = absurd (cc)

pub returns-in_err-map_err-2-clause-asks : goal.returns-in_err-map_err-2-clause-asks
returns-in_err-map_err-2-clause-asks g c =
    let room : IsOk c.reserve.result = search rules in
    let full : IsErr c.push.result = search rules in
    absurd (full_room c.reserve.result c.push.result _ _ c.reserve.ensures.ok c.push.ensures.full room full)

pub returns-in_err-map_err-2-clause-disk_failures : goal.returns-in_err-map_err-2-clause-disk_failures
returns-in_err-map_err-2-clause-disk_failures g c =
    let room : IsOk c.reserve.result = search rules in
    let full : IsErr c.push.result = search rules in
    absurd (full_room c.reserve.result c.push.result _ _ c.reserve.ensures.ok c.push.ensures.full room full)

pub returns-clause-disk_failures : goal.returns-clause-disk_failures
returns-clause-disk_failures g c =
    let ok : is_err c.open.result ≡ false = search rules in
    subst (λ (b : Bool). Counts (g.D.Disk.failures c.args.self.now.disk) (g.D.Disk.failures c.open.new.self) b) ok
    c.open.ensures.call.failed

keeps : (g : Over) (c : After-drop-path-2 g) → KeepsPending (pendings c.args.self.now.journals.items) (pendings c.push.new.self.items)
keeps g c n =
    let items : c.push.new.self.items ≡ c.args.self.now.journals.items ++ c.new-journal.result ∷ [] = search rules in
    ap (λ (js : List (OpenJournal g.row.D-File.Denot)). unwritten_of (pendings js) n) items
    ∙ pending_opened c.args.self.now.journals.items c.new-journal.result c.new-journal.ensures.pending n

pub returns-clause-pending : goal.returns-clause-pending
returns-clause-pending g c = λ n. ap (λ (p : UnwrittenNotes). waits p.bytes) (keeps g c n)

pub returns-clause-noted : goal.returns-clause-noted
returns-clause-noted g c = λ honest n.
    noted_same (pendings c.args.self.now.journals.items) (pendings c.push.new.self.items) (string_bytes c.args.self.now.folder)
    (g.D.Disk.contents c.args.self.now.disk) (g.D.Disk.contents c.open.new.self) (keeps g c)
    (λ m. c.open.ensures.contents honest (journal_path (string_bytes c.args.self.now.folder) m)) n

pub returns-clause-found : goal.returns-clause-found
returns-clause-found g c = λ honest.
    let self = c.args.self.now in
    let name : List ℕ = c.args.name.now in
    let path : List ℕ = journal_path (string_bytes self.folder) name in
    let none : is_some (existence_of (existences self.journals.items) name) ≡ false =
    unknown c.find.result _ (search rules) (search rules) in
    let stands : IsSome (g.D.Disk.contents self.disk path) = search rules in
    let absent : unwritten_of (pendings self.journals.items) name ≡ no_pending =
    absent_of c.find.result (search rules)
    (subst (λ (js : List (OpenJournal g.row.D-File.Denot)). IfNone c.find.result (unwritten_of (pendings js) name ≡ no_pending))
    c.deref.ensures.value c.find.ensures.none) in
    let noted = noted_idle (unwritten_of (pendings self.journals.items) name) (g.D.Disk.contents self.disk path)
    (ap (λ (p : UnwrittenNotes). waits p.bytes) absent) in
    (λ yes. (none, subst (λ (o : Option (List ℕ)). IsSome o) (sym noted) stands), λ both. refl)

pub invariant_of-self-2 : goal.invariant_of-self-2
invariant_of-self-2 g c =
    let self = c.args.self.now in
    let folder : List ℕ = string_bytes self.folder in
    let items : c.push.new.self.items ≡ self.journals.items ++ c.new-journal.result ∷ [] = search rules in
    record {
      paths = λ honest.
          let old : IsTrue (g.D.Disk.honest self.disk) = subst IsTrue c.open.ensures.honest honest in
          let path : g.D.Disk.path_of c.new-journal.result.file ≡ journal_path folder c.new-journal.result.name = search rules in
          subst (λ (js : List (OpenJournal g.row.D-File.Denot)). All (λ j. g.D.Disk.path_of j.file ≡ journal_path folder j.name) js)
          (sym items)
          (All-push (λ (j : OpenJournal g.row.D-File.Denot). g.D.Disk.path_of j.file ≡ journal_path folder j.name)
          self.journals.items c.new-journal.result (self.paths old) path);
      pending = λ honest.
          let old : IsTrue (g.D.Disk.honest self.disk) = subst IsTrue c.open.ensures.honest honest in
          holds_same self.sync (pendings self.journals.items) (pendings c.push.new.self.items) folder
          (g.D.Disk.contents self.disk) (g.D.Disk.contents c.open.new.self)
          (λ n. ap (λ (js : List (OpenJournal g.row.D-File.Denot)). unwritten_of (pendings js) n) items
          ∙ pending_opened self.journals.items c.new-journal.result c.new-journal.ensures.pending n)
          (λ n. c.open.ensures.contents old (journal_path folder n)) (self.pending old);
    }
