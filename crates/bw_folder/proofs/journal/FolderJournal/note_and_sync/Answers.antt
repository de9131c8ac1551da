use Rattle.std.proofs.Common.{rules, ◌≡◌, ◌∙◌, true, false, inl, sym, subst, ap, List, ℕ, Bool, Option, IsTrue, IsSome, OnOk, OnErr, Result}
use Rattle.std.proofs.Common.{Ok, Err}
use Rattle.std.proofs.Common.{string_bytes}
use Rattle.std.specs.Prelude.{IsErr}
use Rattle.bw_folder.specs.Journals.{journal_path, existence_of}
use Rattle.bw_folder.specs.SyncOrders.{IsSyncedAt}
use Rattle.bw_folder.proofs.Appended.{failed_noted}
use Rattle.bw_journal.specs.Notes.{Notes}
use Rattle.bw_folder.specs.PendingNotes.{pendings}
use Rattle.bw_folder.proofs.ChangedJournals.{plain_notes}
use Rattle.bw_folder.proofs.journal.FolderJournal.note_and_sync.Goals as goal

at_error : {T E P : Type 0} (r : Result T E) → IsErr r → OnErr r P → P
at_error (Ok x) fails holds = absurd (cc)
at_error (Err e) fails holds = holds

on_any : {T E P : Type 0} (r : Result T E) → P → OnOk r P
on_any (Ok x) p = p
on_any (Err e) p = tt

pub returns-in_err-note_in_file-clause-notes : goal.returns-in_err-note_in_file-clause-notes
returns-in_err-note_in_file-clause-notes g c = λ honest.
    let self = c.args.self.now in
    let folder : List ℕ = string_bytes self.folder in
    let off : self.sync ≡ false = search rules in
    plain_notes _ self.sync c.args.offset c.args.bytes.now (pendings self.journals.items)
    (pendings c.note_in_file.new.self.journals.items) folder c.args.name.now (g.D.Disk.contents self.disk)
    (g.D.Disk.contents c.note_in_file.new.self.disk) off c.note_in_file.ensures.pending (self.pending honest)
    (search rules) (search rules) (c.note_in_file.ensures.files honest)

pub returns-then-not-closes-clause-notes : goal.returns-then-not-closes-clause-notes
returns-then-not-closes-clause-notes g c = λ honest.
    let self = c.args.self.now in
    let folder : List ℕ = string_bytes self.folder in
    let off : self.sync ≡ false = search rules in
    plain_notes _ self.sync c.args.offset c.args.bytes.now (pendings self.journals.items)
    (pendings c.note_in_file.new.self.journals.items) folder c.args.name.now (g.D.Disk.contents self.disk)
    (g.D.Disk.contents c.note_in_file.new.self.disk) off c.note_in_file.ensures.pending (self.pending honest)
    (c.in_ok-note_in_file.ensures.noted honest) tt (c.note_in_file.ensures.files honest)

pub returns-clause-notes : goal.returns-clause-notes
returns-clause-notes g c = λ honest.
    let self = c.args.self.now in
    let folder : List ℕ = string_bytes self.folder in
    let name : List ℕ = c.args.name.now in
    let off : self.sync ≡ false = search rules in
    let still : IsTrue (g.D.Disk.honest c.note_in_file.new.self.disk) = subst IsTrue (sym c.note_in_file.ensures.honest) honest in
    let same = c.sync_journal.ensures.contents still in
    let noted = c.in_ok-note_in_file.ensures.noted honest in
    plain_notes c.sync_journal.result self.sync c.args.offset c.args.bytes.now (pendings self.journals.items)
    (pendings c.sync_journal.new.self.journals.items) folder name (g.D.Disk.contents self.disk)
    (g.D.Disk.contents c.sync_journal.new.self.disk) off (c.sync_journal.ensures.pending ∙ c.note_in_file.ensures.pending)
    (self.pending honest)
    (on_any c.sync_journal.result (subst (λ (o : Option (List ℕ)). Notes c.args.offset c.args.bytes.now
    (g.D.Disk.contents self.disk (journal_path folder name)) o) (sym (same (journal_path folder name))) noted))
    (failed_noted c.sync_journal.result c.args.offset c.args.bytes.now _ _ _ noted (same (journal_path folder name)))
    (λ p apart. same p ∙ c.note_in_file.ensures.files honest p apart)

pub returns-clause-syncs : goal.returns-clause-syncs
returns-clause-syncs g c =
    let off : c.args.self.now.sync ≡ false = search rules in record {
      plain = λ off none. search rules;
      closed = λ off closes honest.
          let still : IsTrue (g.D.Disk.honest c.note_in_file.new.self.disk) = search rules in
          subst
          (λ (p : List ℕ). OnOk c.sync_journal.result
          (IsSyncedAt (g.D.Disk.contents c.sync_journal.new.self.disk) (g.D.Disk.synced c.sync_journal.new.self.disk) p))
          (ap (λ f. journal_path (string_bytes f) c.args.name.now) c.note_in_file.ensures.settings.2)
          (c.sync_journal.ensures.synced still);
      failed = λ off fails.
          let there = subst (λ (known : List (List ℕ × Bool)). IsSome (existence_of known c.args.name.now))
          (sym c.note_in_file.ensures.known) c.in_ok-note_in_file.ensures.open in
          inl (at_error c.sync_journal.result fails (c.sync_journal.ensures.failed there));
      waits = λ on. absurd (let no : false ≡ true = sym off ∙ on in cc);
    }
