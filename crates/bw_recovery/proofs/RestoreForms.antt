-- What was found of a name that is restored, in the words of its case.
use Rattle.std.proofs.Common.{◌≡◌, ℕ, List, subst}
use Rattle.bw_disk.specs.declared.disk.Disk.{Ghosts}
use Rattle.bw_recovery.specs.Findings.{IsFound, SparesFile}
use Rattle.bw_recovery.specs.Paths.{wave_path}
use Rattle.bw_recovery.specs.Restorings.{IsFoundOn}
use Rattle.bw_recovery.specs.declared.finding.Finding.{Finding}

-- the same finding, named otherwise
abbrev pub found_as : {D E F H : Type 0} (G : Ghosts D F) (K : Ghosts E H) (limit : ℕ) (folder name : List ℕ) (takes : D)
    (notes : E) (finding other : Finding) → finding ≡ other → IsFoundOn G K limit folder name takes notes finding →
    IsFoundOn G K limit folder name takes notes other
found_as G K limit folder name takes notes finding other same f = record {
  takes_honest = f.takes_honest;
  notes_honest = f.notes_honest;
  journal = f.journal;
  stands = f.stands;
  found = subst (IsFound limit name f.journal (G.contents takes (wave_path folder name))) same f.found;
  spares = subst SparesFile same f.spares;
}
