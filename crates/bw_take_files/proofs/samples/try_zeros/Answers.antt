use Rattle.bw_take_files.proofs.samples.try_zeros.Goals as goal

pub returns : goal.returns
returns c = c.in_ok-zeros.ensures.items_if_clones_equal (λ y e. e)
