use Rattle.std.proofs.Common.{rules, ◌≡◌, subst, List, ℕ, Some, refl, IsTrue, string_bytes}
use Rattle.std.specs.List.{position}
use Rattle.std.specs.Str.{bytes_eq}
use Rattle.std.proofs.lemmas.Result.{on_ok_weaker, on_err_weaker}
use Rattle.bw_store.specs.Stores.{Written, KeepsOthers}
use Rattle.bw_disk.specs.Volumes.{WrittenInPart}
use Rattle.bw_folder.specs.declared.journal.OpenJournal.{OpenJournal}
use Rattle.bw_folder.specs.Journals.{notes_at}
use Rattle.bw_folder.specs.PendingNotes.{pendings, unwritten_of}
use Rattle.bw_folder.proofs.Appended.{written_notes, part_notes}
use Rattle.bw_folder.proofs.PendingLaws.{holds_beside}
use Rattle.bw_folder.proofs.NoteKeeping.{plain_idle}
use Rattle.bw_folder.proofs.ChangedJournals.{place_of, path_there, known_set, pendings_set, paths_set}
use Rattle.bw_folder.proofs.ChangedJournals.{keeps_pending}
use Rattle.bw_folder.proofs.journal.FolderJournal.note_in_file.Goals as goal

pub returns-clause-known : goal.returns-clause-known
returns-clause-known g c =
    known_set c.args.self.now.journals.items c.in-Some.place c.index_mut-journal.result.now _
    c.index_mut-journal.ensures.value refl refl

pub returns-clause-pending : goal.returns-clause-pending
returns-clause-pending g c =
    pendings_set c.args.self.now.journals.items c.in-Some.place c.index_mut-journal.result.now _
    c.index_mut-journal.ensures.value refl refl

pub returns-clause-noted : goal.returns-clause-noted
returns-clause-noted g c = λ honest.
    let items = c.args.self.now.journals.items in
    let first : position (λ (x : OpenJournal g.row.D-File.Denot). bytes_eq x.name c.args.name.now) items
    ≡ Some c.in-Some.place = search rules in
    let pl = place_of c.args.name.now items c.in-Some.place c.index_mut-journal.result.now c.index_mut-journal.ensures.value first in
    let path = path_there g.D.Disk (string_bytes c.args.self.now.folder) c.args.name.now items c.in-Some.place
    c.index_mut-journal.result.now pl (c.args.self.now.paths honest) in
    on_ok_weaker c.append.result
    (λ w. written_notes c.args.offset c.args.bytes.now _ _
    (subst (λ (p : List ℕ). Written (g.D.Disk.contents c.args.self.now.disk p) c.args.offset c.args.bytes.now
    (g.D.Disk.contents c.append.new.disk p)) path w))
    (c.append.ensures.written honest)

pub returns-clause-failed : goal.returns-clause-failed
returns-clause-failed g c = λ honest.
    let items = c.args.self.now.journals.items in
    let first : position (λ (x : OpenJournal g.row.D-File.Denot). bytes_eq x.name c.args.name.now) items
    ≡ Some c.in-Some.place = search rules in
    let pl = place_of c.args.name.now items c.in-Some.place c.index_mut-journal.result.now c.index_mut-journal.ensures.value first in
    let path = path_there g.D.Disk (string_bytes c.args.self.now.folder) c.args.name.now items c.in-Some.place
    c.index_mut-journal.result.now pl (c.args.self.now.paths honest) in
    on_err_weaker c.append.result
    (λ w. part_notes c.args.offset c.args.bytes.now _ _
    (subst (λ (p : List ℕ). WrittenInPart (g.D.Disk.contents c.args.self.now.disk p) c.args.offset c.args.bytes.now
    (g.D.Disk.contents c.append.new.disk p)) path w))
    (c.append.ensures.failed honest)

pub invariant_of-self-2 : goal.invariant_of-self-2
invariant_of-self-2 g c =
    let self = c.args.self.now in
    let folder : List ℕ = string_bytes self.folder in
    let items = self.journals.items in
    let first : position (λ (x : OpenJournal g.row.D-File.Denot). bytes_eq x.name c.args.name.now) items
    ≡ Some c.in-Some.place = search rules in
    let pl = place_of c.args.name.now items c.in-Some.place c.index_mut-journal.result.now c.index_mut-journal.ensures.value first in
    record {
      paths = λ honest.
          paths_set g.D.Disk folder items c.in-Some.place c.index_mut-journal.result.now _ pl.within c.index_mut-journal.ensures.value
          refl c.append.ensures.path (self.paths (subst IsTrue c.append.ensures.rest.honest honest));
      pending = λ honest.
          let before : IsTrue (g.D.Disk.honest self.disk) = subst IsTrue c.append.ensures.rest.honest honest in
          let same = pendings_set items c.in-Some.place c.index_mut-journal.result.now _ c.index_mut-journal.ensures.value refl refl in
          holds_beside self.sync (pendings items) _ folder c.args.name.now (g.D.Disk.contents self.disk)
          (g.D.Disk.contents c.append.new.disk) (keeps_pending _ _ same)
          (subst (λ (p : List ℕ). KeepsOthers (g.D.Disk.contents self.disk) (g.D.Disk.contents c.append.new.disk) p)
          (path_there g.D.Disk folder c.args.name.now items c.in-Some.place c.index_mut-journal.result.now pl (self.paths before))
          (c.append.ensures.rest.others before))
          (plain_idle self.sync c.requires (unwritten_of (pendings items) c.args.name.now)
          (notes_at (g.D.Disk.contents self.disk) folder c.args.name.now) (self.pending before c.args.name.now))
          (self.pending before);
    }
