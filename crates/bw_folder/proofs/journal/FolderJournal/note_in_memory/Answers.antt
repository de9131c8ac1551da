use Rattle.std.proofs.Common.{rules, ◌≡◌, ◌∙◌, ap, sym, subst, refl, true, List, ℕ, Bool, Some, IsTrue, OnOk, string_bytes}
use Rattle.std.specs.List.{position}
use Rattle.std.specs.Str.{bytes_eq}
use Rattle.std.proofs.lemmas.Result.{on_ok_weaker}
use Rattle.bw_journal.specs.Notes.{Notes}
use Rattle.bw_folder.specs.declared.journal.OpenJournal.{OpenJournal}
use Rattle.bw_folder.specs.Journals.{journal_path}
use Rattle.bw_folder.specs.PendingNotes.{UnwrittenNotes, unwritten_at, unwritten_of, pendings, noted_with, HoldsPending}
use Rattle.bw_folder.proofs.ChangedJournals.{place_of, path_there, known_set, paths_set}
use Rattle.bw_folder.proofs.ChangedJournals.{now_pending, kept_pending, kept_notes}
use Rattle.bw_folder.proofs.journal.FolderJournal.note_in_memory.Goals as goal

pub returns-clause-known : goal.returns-clause-known
returns-clause-known g c =
    known_set c.args.self.now.journals.items c.in-Some.place c.index_mut.result.now c.keep_note.new.journal
    c.index_mut.ensures.value c.keep_note.ensures.name c.keep_note.ensures.existed

pub returns-clause-notes : goal.returns-clause-notes
returns-clause-notes g c = λ honest.
    let self = c.args.self.now in
    let items = self.journals.items in
    let here = c.index_mut.result.now in
    let later = c.keep_note.new.journal in
    let before = g.D.Disk.contents self.disk in
    let first : position (λ (x : OpenJournal g.row.D-File.Denot). bytes_eq x.name c.args.name.now) items
    ≡ Some c.in-Some.place = search rules in
    let pl = place_of c.args.name.now items c.in-Some.place here c.index_mut.ensures.value first in
    let path = path_there g.D.Disk (string_bytes self.folder) c.args.name.now items c.in-Some.place here pl (self.paths honest) in
    let holds : HoldsPending true (unwritten_at here) (before (g.D.Disk.path_of here.file)) =
    subst (λ (p : List ℕ). HoldsPending true (unwritten_at here) (before p)) (sym path)
    (subst (λ (p : UnwrittenNotes). HoldsPending true p (before (journal_path (string_bytes self.folder) c.args.name.now))) pl.pending
    (subst (λ (s : Bool). HoldsPending s (unwritten_of (pendings items) c.args.name.now)
    (before (journal_path (string_bytes self.folder) c.args.name.now))) c.requires (self.pending honest c.args.name.now))) in
    kept_notes c.keep_note.result c.args.offset c.args.bytes.now items (string_bytes self.folder) c.args.name.now c.in-Some.place
    here later before (g.D.Disk.contents c.keep_note.new.disk) pl c.keep_note.ensures.name (c.keep_note.ensures.disk.contents honest)
    (subst (λ (p : List ℕ). OnOk c.keep_note.result (Notes c.args.offset c.args.bytes.now (noted_with (unwritten_at here) (before p))
    (noted_with (unwritten_at later) (before p)))) path (c.keep_note.ensures.noted honest holds))
    c.keep_note.ensures.failed

pub returns-clause-writes : goal.returns-clause-writes
returns-clause-writes g c = λ writes.
    let self = c.args.self.now in
    let items = self.journals.items in
    let first : position (λ (x : OpenJournal g.row.D-File.Denot). bytes_eq x.name c.args.name.now) items
    ≡ Some c.in-Some.place = search rules in
    let pl = place_of c.args.name.now items c.in-Some.place c.index_mut.result.now c.index_mut.ensures.value first in
    let now = now_pending c.keep_note.result c.args.offset c.args.bytes.now items (string_bytes self.folder) c.args.name.now c.in-Some.place
    c.index_mut.result.now c.keep_note.new.journal (g.D.Disk.contents self.disk) (g.D.Disk.contents self.disk) pl c.keep_note.ensures.name
    (λ p. refl) in
    on_ok_weaker c.keep_note.result (λ w. ap (λ (p : UnwrittenNotes). p.writes) now ∙ w) (c.keep_note.ensures.writes writes)

pub invariant_of-self-2 : goal.invariant_of-self-2
invariant_of-self-2 g c =
    let self = c.args.self.now in
    let items = self.journals.items in
    let here = c.index_mut.result.now in
    let later = c.keep_note.new.journal in
    let first : position (λ (x : OpenJournal g.row.D-File.Denot). bytes_eq x.name c.args.name.now) items
    ≡ Some c.in-Some.place = search rules in
    let pl = place_of c.args.name.now items c.in-Some.place here c.index_mut.ensures.value first in
    record {
      paths = λ honest.
          paths_set g.D.Disk (string_bytes self.folder) items c.in-Some.place here later pl.within c.index_mut.ensures.value
          c.keep_note.ensures.name (ap g.D.Disk.path_of c.keep_note.ensures.file)
          (self.paths (subst IsTrue c.keep_note.ensures.disk.honest honest));
      pending = λ honest.
          let old : IsTrue (g.D.Disk.honest self.disk) = subst IsTrue c.keep_note.ensures.disk.honest honest in
          let before = g.D.Disk.contents self.disk in
          let path = path_there g.D.Disk (string_bytes self.folder) c.args.name.now items c.in-Some.place here pl (self.paths old) in
          kept_pending c.keep_note.result c.args.offset c.args.bytes.now items (string_bytes self.folder) c.args.name.now c.in-Some.place
          here later before (g.D.Disk.contents c.keep_note.new.disk) pl c.keep_note.ensures.name (c.keep_note.ensures.disk.contents old)
          self.sync c.requires (self.pending old)
          (subst (λ (p : List ℕ). HoldsPending true (unwritten_at here) (before p) → HoldsPending true (unwritten_at later) (before p))
          path (c.keep_note.ensures.holds old));
    }
