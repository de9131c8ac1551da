use Rattle.std.proofs.Common.{◌∙◌, ap}
use Rattle.bw_folder.specs.Journals.{known_but}
use Rattle.bw_folder.specs.JournalFolders.{open_journals}
use Rattle.bw_kept.proofs.OpenLists.{known_one}
use Rattle.bw_kept.proofs.recovery.reopen_begun.Goals as goal

pub returns-in-Ok-clause-apart : goal.returns-in-Ok-clause-apart
returns-in-Ok-clause-apart g c = record {
  takes = c.reopen_take.ensures.apart;
  journals = ap (known_but c.args.name.now) c.in-Ok.ensures.opened
      ∙ known_one c.args.name.now c.is_taken.result (open_journals c.args.journal.now);
}
