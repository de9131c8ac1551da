use Rattle.std.proofs.Common.{rules, ◌≡◌, ◌∙◌, ap, refl, subst, List, ℕ, Bool, IsTrue, string_bytes}
use Rattle.std.proofs.Math.Seq.{map-set_same}
use Rattle.bw_folder.specs.declared.journal.OpenJournal.{OpenJournal}
use Rattle.bw_folder.specs.Journals.{journal_path, existences, header_at}
use Rattle.bw_folder.proofs.HeaderKeeping.{header_kept, takes_beside}
use Rattle.bw_store.specs.Stores.{KeepsOthers}
use Rattle.bw_folder.specs.PendingNotes.{UnwrittenNotes, pendings, waits}
use Rattle.bw_folder.proofs.JournalNames.{file_at}
use Rattle.bw_folder.proofs.PendingLaws.{holds_beside}
use Rattle.bw_folder.proofs.ChangedJournals.{pendings_set, paths_set, keeps_pending}
use Rattle.bw_folder.proofs.journal.FolderJournal.write_header.Goals as goal

pub returns-clause-headers : goal.returns-clause-headers
returns-clause-headers g c = λ honest n.
    let now = c.opened.new.self in
    let journal = c.index_mut-journal.result.now in
    let folder : List ℕ = string_bytes now.folder in
    let still : IsTrue (g.D.Disk.honest now.disk) = search rules in
    let path : g.D.Disk.path_of journal.file ≡ journal_path folder journal.name = search (rules, now.paths still) in
    ap (λ (known : List (List ℕ × Bool)). header_at now.limit known (g.D.Disk.contents c.put_header.new.disk) folder n)
    (map-set_same (λ (j : OpenJournal g.row.D-File.Denot). (j.name, j.existed)) _ _ _ journal
    (ap (λ (j : OpenJournal g.row.D-File.Denot). (j.name, j.existed)) c.index_mut-journal.ensures.value))
    ∙ header_kept now.limit (existences now.journals.items) (g.D.Disk.contents now.disk)
    (g.D.Disk.contents c.put_header.new.disk) folder
    (takes_beside g.D.Disk folder journal.name (g.D.Disk.path_of journal.file) now.disk c.put_header.new.disk still path
    c.put_header.ensures.rest) n
    ∙ c.opened.ensures.headers honest n

pub returns-clause-pending : goal.returns-clause-pending
returns-clause-pending g c = λ n.
    keeps_pending _ _
    (pendings_set c.opened.new.self.journals.items c.in_ok-place.place c.index_mut-journal.result.now _
    c.index_mut-journal.ensures.value refl refl) n
    ∙ c.opened.ensures.pending n

pub invariant_of-self : goal.invariant_of-self
invariant_of-self g c =
    let now = c.opened.new.self in
    let name : List ℕ = c.args.name.now in
    let folder : List ℕ = string_bytes now.folder in
    let items = now.journals.items in
    let here = c.index_mut-journal.result.now in
    let at = c.in_ok-place.ensures.place in
    let named : here.name ≡ name =
    ap (λ (j : OpenJournal g.row.D-File.Denot). j.name) c.index_mut-journal.ensures.value ∙ (at.1 here).0 in
    record {
      paths = λ honest.
          paths_set g.D.Disk folder items c.in_ok-place.place here _ at.0 c.index_mut-journal.ensures.value refl
          c.put_header.ensures.path (now.paths (subst IsTrue c.put_header.ensures.rest.honest honest));
      pending = λ honest.
          let still : IsTrue (g.D.Disk.honest now.disk) = subst IsTrue c.put_header.ensures.rest.honest honest in
          let path : g.D.Disk.path_of here.file ≡ journal_path folder name =
          file_at g.D.Disk folder name items c.in_ok-place.place here (now.paths still) at.0 c.index_mut-journal.ensures.value named in
          holds_beside now.sync (pendings items) _ folder name (g.D.Disk.contents now.disk) (g.D.Disk.contents c.put_header.new.disk)
          (keeps_pending _ _ (pendings_set items c.in_ok-place.place here _ c.index_mut-journal.ensures.value refl refl))
          (subst (λ (p : List ℕ). KeepsOthers (g.D.Disk.contents now.disk) (g.D.Disk.contents c.put_header.new.disk) p) path
          (c.put_header.ensures.rest.others still))
          (ap (λ (p : UnwrittenNotes). waits p.bytes) (c.opened.ensures.pending name) ∙ c.requires)
          (now.pending still);
    }
