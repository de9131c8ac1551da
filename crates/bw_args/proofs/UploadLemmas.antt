-- What of a recording's sender is given says it.
use Rattle.std.proofs.Common.{◌≡◌, List, false, None, codes}
use Rattle.bw_args.specs.Numbers.{default_fruitless, default_timeout, most_fruitless, most_rate, most_seconds}
use Rattle.bw_args.specs.Sources.{GivesSource, is_mixed, path_given}
use Rattle.bw_args.specs.ReceiptOptions.{is_receipt_mixed, receipt_given}
use Rattle.bw_args.specs.PcmSources.{GivesSamples}
use Rattle.bw_args.specs.Lines.{FileUpload, GivesAddress, GivesCount, GivesCountOr, GivesName, GivesUpload, given_on_line}
use Rattle.bw_args.specs.Lines.{is_set}
use Rattle.clap.specs.Words.{Row}

pub upload_by : {options : List Row} {sender : FileUpload}
    → GivesCountOr default_timeout most_seconds (given_on_line options (codes "timeout")) sender.timeout
    → GivesCountOr default_fruitless most_fruitless (given_on_line options (codes "fruitless")) sender.fruitless
    → GivesAddress (is_set (given_on_line options (codes "network"))) (given_on_line options (codes "connect"))
    sender.connect
    → GivesName (given_on_line options (codes "name")) sender.name
    → GivesSource (path_given (given_on_line options)) options sender.source
    → sender.log ≡ is_set (given_on_line options (codes "log")) → sender.state ≡ given_on_line options (codes "state")
    → sender.receipt ≡ receipt_given (given_on_line options) → is_receipt_mixed (given_on_line options) ≡ false
    → GivesCount most_rate (given_on_line options (codes "rate")) sender.rate
    → is_mixed (given_on_line options) ≡ false → GivesSamples (given_on_line options) None → GivesUpload options sender
upload_by waits ends connects named takes reports states receipts receipted paced unmixed unsampled = record {
  connects = connects;
  named = named;
  takes = takes;
  waits = waits;
  ends = ends;
  reports = reports;
  states = states;
  receipts = receipts;
  receipted = receipted;
  paced = paced;
  unmixed = unmixed;
  unsampled = unsampled;
}
