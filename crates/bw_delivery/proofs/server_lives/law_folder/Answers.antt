use Rattle.bw_delivery.proofs.Folders.{faults_stay_alone, new_folders_are_empty}
use Rattle.bw_delivery.proofs.LifeLemmas.{lives_leave_books}
use Rattle.bw_delivery.proofs.server_lives.law_folder.Goals as goal

pub returns : goal.returns
returns g c = record {
  life = lives_leave_books _ _ _ _ c.law_stops.ensures c.law_begins.ensures.held c.law_begins.ensures.covered;
  new = new_folders_are_empty;
  faults = faults_stay_alone;
}
