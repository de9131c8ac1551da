use Rattle.bw_delivery.proofs.FolderDeliveries.{folder_deliveries_true, stored_folder_whole}
use Rattle.bw_delivery.proofs.FolderFiles.{closed_in_folder}
use Rattle.bw_delivery.proofs.law_delivered_to_folders.Goals as goal

pub returns : goal.returns
returns g c = record {
  heard = folder_deliveries_true;
  whole = stored_folder_whole;
  closed = closed_in_folder g.S.TakeStore g.J.Journal;
}
