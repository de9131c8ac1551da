-- What is done with the takes of a folder, for a command line.
use Rattle.std.proofs.Common.{◌≡◌, ℕ, List, subst, sym}
use Rattle.std.specs.Prelude.{string_bytes}
use Rattle.bw_args.specs.declared.folders.FolderWork.{FolderWork}
use Rattle.bw_args.specs.declared.folders.TakesFolder.{TakesFolder}
use Rattle.bw_console.specs.declared.exit.Exit.{Exit}
use Rattle.bw_program.specs.TakesCommands.{FolderSide, FolderWorld, WorksOnFolder, WorksOnTakes}
use Rattle.bw_takes.specs.declared.screen.ScreenStyle.{ScreenStyle}

module _ {D DF F L P O E : Type 0} (side : FolderSide D DF F L P O E) where
  -- the folder and the work that a command line names
  pub works_on : {work : FolderWork} {folder : List ℕ} (style : ScreenStyle) (listing : TakesFolder)
      (exit : Exit) (w w' : FolderWorld D F P O E) → listing.work ≡ work →
      folder ≡ string_bytes listing.folder → WorksOnFolder side style work folder exit w w' →
      WorksOnTakes side style listing exit w w'
  works_on {work} {folder} style listing exit w w' is named done =
      subst (λ (k : FolderWork). WorksOnFolder side style k (string_bytes listing.folder) exit w w') (sym is)
      (subst (λ (path : List ℕ). WorksOnFolder side style work path exit w w') named done)
