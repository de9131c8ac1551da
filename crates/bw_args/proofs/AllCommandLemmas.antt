-- The forms of all commands.
use Rattle.std.proofs.Common.{List}
use Rattle.clap.specs.Walk.{Text}
use Rattle.bw_args.specs.CommandForms.{RefusesLines, RunsCommands}
use Rattle.bw_args.specs.Lines.{IsLineOf}
use Rattle.bw_args.specs.declared.CommandLine.{CommandLine}
use Rattle.bw_args.proofs.ConvertLemmas.{runs_convert}
use Rattle.bw_args.proofs.FileLemmas.{refuses_files, runs_file_sender, runs_pack}
use Rattle.bw_args.proofs.FolderLemmas.{runs_takes}
use Rattle.bw_args.proofs.FormLemmas.{runs_replay}
use Rattle.bw_args.proofs.GrowingLemmas.{refuses_follower, runs_follower}
use Rattle.bw_args.proofs.InspectLemmas.{runs_inspect}
use Rattle.bw_args.proofs.JoinLemmas.{runs_join}
use Rattle.bw_args.proofs.PcmLemmas.{refuses_samples, runs_pcm_sender}
use Rattle.bw_args.proofs.PeerValueLemmas.{refuses_peers, wants_peers}
use Rattle.bw_args.proofs.PictureLemmas.{runs_picture}
use Rattle.bw_args.proofs.RehearsalLemmas.{runs_rehearsal}
use Rattle.bw_args.proofs.RepairLemmas.{runs_repair}
use Rattle.bw_args.proofs.SenderLemmas.{runs_sender}
use Rattle.bw_args.proofs.ServerLemmas.{runs_server}
use Rattle.bw_args.proofs.SeveralLemmas.{refuses_several, runs_files_sender}
use Rattle.bw_args.proofs.ValueLemmas.{refuses_values}

pub runs_commands : (words : List Text) (line : CommandLine) → IsLineOf words line → RunsCommands words line
runs_commands words line is = record {
  replay = runs_replay words line is;
  rehearse = runs_rehearsal words line is;
  inspect = runs_inspect words line is;
  serve = runs_server words line is;
  send = runs_sender words line is;
  send_file = runs_file_sender words line is;
  send_pcm = runs_pcm_sender words line is;
  follow = runs_follower words line is;
  send_files = runs_files_sender words line is;
  pack = runs_pack words line is;
  picture = runs_picture words line is;
  repair = runs_repair words line is;
  convert = runs_convert words line is;
  join = runs_join words line is;
  takes = runs_takes words line is;
}

pub refuses_lines : (words : List Text) (line : CommandLine) → IsLineOf words line → RefusesLines words line
refuses_lines words line is = record {
  values = refuses_values words line is;
  peers = refuses_peers words line is;
  wanted = wants_peers words line is;
  files = refuses_files words line is;
  samples = refuses_samples words line is;
  growing = refuses_follower words line is;
  several = refuses_several words line is;
}
