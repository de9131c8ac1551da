-- What the forms of all commands result in.
use Rattle.std.specs.Prelude.{List}
use Rattle.clap.specs.Walk.{Text}
use Rattle.bw_args.specs.ConvertForms.{RunsConvert}
use Rattle.bw_args.specs.FileForms.{RefusesFiles, RunsFileSender, RunsPack}
use Rattle.bw_args.specs.FolderForms.{RunsTakes}
use Rattle.bw_args.specs.Forms.{RefusesValues, RunsInspect, RunsRehearsal, RunsReplay}
use Rattle.bw_args.specs.GrowingForms.{RefusesFollower, RunsFollower}
use Rattle.bw_args.specs.JoinForms.{RunsJoin}
use Rattle.bw_args.specs.PcmForms.{RefusesSamples, RunsPcmSender}
use Rattle.bw_args.specs.PeerForms.{RefusesPeers, RunsSender, RunsServer, WantsPeers}
use Rattle.bw_args.specs.PictureForms.{RunsPicture}
use Rattle.bw_args.specs.RepairForms.{RunsRepair}
use Rattle.bw_args.specs.SeveralForms.{RefusesSeveral, RunsFilesSender}
use Rattle.bw_args.specs.declared.CommandLine.{CommandLine}

-- Each command runs, in each of its forms.
pub record RunsCommands (words : List Text) (line : CommandLine) : Type 0 where
  -- `--limit N` and `--fuse K`, joined or in two words; both in two words, or none
  pub replay : RunsReplay words line
  -- `--name NAME`, which may begin with `-`, and `--limit N`; without a name none runs
  pub rehearse : RunsRehearsal words line
  -- a file, `-`, or two files; `--json`, `--human` and `--digest`; what can't be combined
  pub inspect : RunsInspect words line
  -- each option of `serve` alone, beside an address and a folder that isn't empty
  pub serve : RunsServer words line
  -- each option of `send` alone, beside an address and a name
  pub send : RunsSender words line
  -- each option of `send --file` alone, and a receipt in JSON; unless set, 30 seconds and 10 fruitless links
  pub send_file : RunsFileSender words line
  -- `--pcm` with each option; `--follow` and `--spool` never give up unless `--fruitless` is there
  pub send_pcm : RunsPcmSender words line
  -- `--follow` without `--pcm`, alone, with `--until` and with `--fruitless`
  pub follow : RunsFollower words line
  -- `send --connect=ADDR FILE`, two files, and each of its options
  pub send_files : RunsFilesSender words line
  -- one file that doesn't begin with `-`; `--strict`, `--strict-texts`, `--keep-left-out`, which doesn't go
  -- with `--strict`, or settings in their order, unread here
  pub pack : RunsPack words line
  -- one file that doesn't begin with `-`, or `-` itself
  pub picture : RunsPicture words line
  -- one file that doesn't begin with `-`, and `--write`
  pub repair : RunsRepair words line
  -- two files that don't begin with `-`, and one of `--rf64` and `--bw64`, before or after them
  pub convert : RunsConvert words line
  -- two files that don't begin with `-`
  pub join : RunsJoin words line
  -- a folder that isn't empty, each flag of `takes`, and which of them can't be combined
  pub takes : RunsTakes words line

-- Bad values and missing ones are refused, and options that don't go together.
pub record RefusesLines (words : List Text) (line : CommandLine) : Type 0 where
  -- a NAME, N or K of another form is a bad name, limit or fuse, the name first, then the limit
  pub values : RefusesValues words line
  -- a bad address, name or number, and options of `serve` that don't go together
  pub peers : RefusesPeers words line
  -- a missing address, folder or name is a missing argument
  pub wanted : WantsPeers words line
  -- options of `--file` without it, `--rounds` or `--json` alone beside it, what is kept of it beside
  -- `--strict`, and bad numbers of it
  pub files : RefusesFiles words line
  -- bad values of `--pcm`, `--skip` and `--block`, a receipt, chunks to keep, and options that don't go
  -- together
  pub samples : RefusesSamples words line
  -- `--follow` without a file or with what needs a complete one, and `--until` without it
  pub growing : RefusesFollower words line
  -- what is for one recording beside FILE, `--names` without it, `--json` alone, and bad values
  pub several : RefusesSeveral words line
