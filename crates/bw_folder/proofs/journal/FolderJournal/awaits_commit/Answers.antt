use Rattle.std.proofs.Common.{◌∙◌}
use Rattle.bw_folder.proofs.PendingForms.{awaits_any}
use Rattle.bw_folder.proofs.journal.FolderJournal.awaits_commit.Goals as goal

pub returns : goal.returns
returns g c = c.has_any_pending.ensures ∙ awaits_any c.args.self.now.journals.items
