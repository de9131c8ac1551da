use Rattle.std.proofs.Common.{◌≡◌, ◌∙◌, List, false, subst, inl, IsTrue, string_bytes}
use Rattle.std.specs.List.{list_any}
use Rattle.bw_folder.specs.Journals.{notes_at}
use Rattle.bw_folder.specs.PendingNotes.{pendings, unwritten_of, waits}
use Rattle.bw_folder.specs.declared.journal.OpenJournal.{OpenJournal}
use Rattle.bw_folder.proofs.IdleForms.{noted_idly}
use Rattle.bw_folder.proofs.PendingForms.{awaits_any, none_waits}
use Rattle.bw_folder.proofs.PendingLaws.{held, no_bytes}
use Rattle.bw_folder.proofs.lending.lend_disks.Goals as goal

pub returns-clause-noted : goal.returns-clause-noted
returns-clause-noted g c =
    let journal = c.args.journal.now in
    let none : list_any (λ (j : OpenJournal g.row.E-File.Denot). waits j.pending.items) journal.journals.items ≡ false =
    awaits_any journal.journals.items ∙ c.requires.committed in (
      λ name. noted_idly journal.journals.items (g.E.Disk.contents journal.disk) (string_bytes journal.folder) name none,
      λ name. noted_idly journal.journals.items (g.E.Disk.contents c.visit.new.notes) (string_bytes journal.folder) name none,
    )

pub invariant_of-journal : goal.invariant_of-journal
invariant_of-journal g c =
    let journal = c.args.journal.now in
    let none : list_any (λ (j : OpenJournal g.row.E-File.Denot). waits j.pending.items) journal.journals.items ≡ false =
    awaits_any journal.journals.items ∙ c.requires.committed in
    record {
      paths = λ honest. journal.paths (subst IsTrue c.visit.ensures.notes honest);
      pending = λ honest n.
          held journal.sync (unwritten_of (pendings journal.journals.items) n)
          (notes_at (g.E.Disk.contents c.visit.new.notes) (string_bytes journal.folder) n)
          (inl (no_bytes (unwritten_of (pendings journal.journals.items) n).bytes (none_waits journal.journals.items none n)));
    }
