use Rattle.bw_program.proofs.samples.send_pcm_watched.Goals as goal

pub returns : goal.returns
returns g c = c.send_pcm_as-exit.ensures
