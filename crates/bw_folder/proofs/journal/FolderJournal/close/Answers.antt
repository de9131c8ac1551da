use Rattle.std.proofs.Common.{rules, ◌≡◌, not, sym, subst, List, string_bytes}
use Rattle.std.specs.Str.{bytes_eq}
use Rattle.std.proofs.lemmas.Fn.{filter_same}
use Rattle.bw_folder.specs.declared.journal.OpenJournal.{OpenJournal}
use Rattle.bw_folder.specs.Journals.{notes_at}
use Rattle.bw_folder.specs.PendingNotes.{pendings, unwritten_of, HoldsPending}
use Rattle.bw_folder.proofs.PendingForms.{holds_left, others_of}
use Rattle.bw_folder.proofs.journal.FolderJournal.close.Goals as goal

pub returns-clause-journals : goal.returns-clause-journals
returns-clause-journals g c =
    filter_same _ (λ (j : OpenJournal g.row.D-File.Denot). not (bytes_eq j.name c.args.name.now)) _ (λ x b f r. search rules)
    c.args.self.now.journals.items c.retain.new.self.items c.retain.ensures.filtered

pub invariant_of-self-clause-pending : goal.invariant_of-self-clause-pending
invariant_of-self-clause-pending g c = λ honest n.
    let self = c.args.self.now in
    let found = notes_at (g.D.Disk.contents self.disk) (string_bytes self.folder) n in
    let left : c.retain.new.self.items ≡ others_of c.args.name.now self.journals.items =
    filter_same _ (λ (j : OpenJournal g.row.D-File.Denot). not (bytes_eq j.name c.args.name.now)) _ (λ x b f r. search rules)
    self.journals.items c.retain.new.self.items c.retain.ensures.filtered in
    subst (λ (js : List (OpenJournal g.row.D-File.Denot)). HoldsPending self.sync (unwritten_of (pendings js) n) found)
    (sym left)
    (holds_left self.sync self.journals.items c.args.name.now n found c.requires (self.pending honest n))
