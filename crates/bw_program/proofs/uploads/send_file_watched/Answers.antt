use Rattle.bw_program.proofs.uploads.send_file_watched.Goals as goal

pub returns : goal.returns
returns g c = c.send_file_as-exit.ensures
