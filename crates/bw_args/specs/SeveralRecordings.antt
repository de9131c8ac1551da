-- Several recordings, as the words and the options of `send` give them.
use Rattle.std.specs.Prelude.{◌≡◌, ◌||◌, ℕ, Bool, true, false, List, Option, Some, codes, is_some}
use Rattle.std.specs.Prelude.{map, option_map}
use Rattle.std.specs.Prelude.{string_bytes}
use Rattle.std.specs.declared.net.socket_addr.SocketAddr.{SocketAddr}
use Rattle.clap.specs.Walk.{Row, Text, all_of}
use Rattle.bw_args.specs.Given.{GivesAddress, GivesCount, GivesCountOr, given_on_line, is_set}
use Rattle.bw_args.specs.Numbers.{default_fruitless, default_timeout, most_fruitless, most_rate, most_seconds}
use Rattle.bw_args.specs.ReceiptOptions.{PlainTarget, is_receipt_mixed, receipt_given, target_in_plain}
use Rattle.bw_args.specs.Sources.{has_files, settings_on_line}
use Rattle.bw_args.specs.declared.recordings.FilesSender.{FilesSender}

-- the sender of several recordings that a command line asks for
pub record FilesUpload : Type 0 where
  pub connect : SocketAddr
  pub paths : List Text
  pub names : Option Text
  pub settings : List Text
  pub strict : Bool
  pub strict_texts : Bool
  pub timeout : ℕ
  pub fruitless : ℕ
  pub log : Bool
  pub states : Option Text
  pub receipt : Option PlainTarget
  pub rate : Option ℕ

-- the same in plain bytes
abbrev pub files_in_plain : FilesSender → FilesUpload
files_in_plain s = record {
  connect = s.connect;
  paths = map string_bytes s.paths.items;
  names = option_map string_bytes s.names;
  settings = map string_bytes s.settings.items;
  strict = s.strict;
  strict_texts = s.strict_texts;
  timeout = s.timeout;
  fruitless = s.fruitless;
  log = s.log;
  states = option_map string_bytes s.states;
  receipt = option_map target_in_plain s.receipt;
  rate = s.rate;
}

-- an option that says where live samples are kept, or what else their take has
abbrev pub is_for_live : (Text → Option Text) → Bool
is_for_live given = is_some (given (codes "spool"))
    || (is_set (given (codes "no-defaults")) || is_some (given (codes "marks")))

-- an option that says something about headerless samples
abbrev pub is_sampled : (Text → Option Text) → Bool
is_sampled given = is_some (given (codes "pcm")) || (is_some (given (codes "skip"))
    || (is_some (given (codes "block")) || (is_set (given (codes "follow"))
    || (is_some (given (codes "until")) || is_for_live given))))

-- an option that is for one recording alone: its exchanges, name, file or samples, or what is kept of it
abbrev pub is_files_mixed : (Text → Option Text) → Bool
is_files_mixed given = is_some (given (codes "rounds")) || (is_some (given (codes "name"))
    || (is_some (given (codes "file")) || (is_some (given (codes "keep-left-out")) || is_sampled given)))

-- what is given is this sender of several recordings, at least one
pub record GivesFiles (options : List Row) (sender : FilesUpload) : Type 0 where
  pub some : has_files (given_on_line options) ≡ true
  pub takes : all_of (codes "files") options ≡ Some sender.paths
  pub unmixed : is_files_mixed (given_on_line options) ≡ false
  pub connects : GivesAddress (is_set (given_on_line options (codes "network")))
      (given_on_line options (codes "connect")) sender.connect
  pub named : sender.names ≡ given_on_line options (codes "names")
  pub sets : sender.settings ≡ settings_on_line options
  pub refuses : sender.strict ≡ is_set (given_on_line options (codes "strict"))
  pub refuses_texts : sender.strict_texts ≡ is_set (given_on_line options (codes "strict-texts"))
  pub waits : GivesCountOr default_timeout most_seconds (given_on_line options (codes "timeout"))
      sender.timeout
  pub ends : GivesCountOr default_fruitless most_fruitless
      (given_on_line options (codes "fruitless")) sender.fruitless
  pub reports : sender.log ≡ is_set (given_on_line options (codes "log"))
  pub keeps : sender.states ≡ given_on_line options (codes "state")
  pub receipts : sender.receipt ≡ receipt_given (given_on_line options)
  pub receipted : is_receipt_mixed (given_on_line options) ≡ false
  pub paced : GivesCount most_rate (given_on_line options (codes "rate")) sender.rate
