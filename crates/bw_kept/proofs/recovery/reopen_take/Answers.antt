use Rattle.std.proofs.Common.{◌∙◌, ap}
use Rattle.bw_folder.specs.Folders.{names_but}
use Rattle.bw_folder.specs.TakeFolders.{open_takes}
use Rattle.bw_folder.specs.declared.folder.FolderStore.{FolderStore}
use Rattle.bw_kept.proofs.OpenLists.{names_one}
use Rattle.bw_kept.proofs.recovery.reopen_take.Goals.{then-made+then-not-is_closed+in_ok-open_take, else-made}
use Rattle.bw_kept.proofs.recovery.reopen_take.Goals as goal

pub returns-clause-apart : goal.returns-clause-apart
returns-clause-apart g c =
    let name = c.args.name.now in
    elim c.if-made.branch [
      | then-made+then-not-is_closed+in_ok-open_take w ↦
          ap (λ (s : FolderStore g.row.D.Denot g.row.D-File.Denot g.D.Disk). names_but name (open_takes s)) w.store-is
          ∙ ap (names_but name) w.in_ok-open_take.ensures.opened ∙ names_one name (open_takes c.args.store.now)
      | else-made w ↦
          ap (λ (s : FolderStore g.row.D.Denot g.row.D-File.Denot g.D.Disk). names_but name (open_takes s)) w.store-is
    ]
