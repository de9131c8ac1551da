use Rattle.std.proofs.Common.{ap, ◌∙◌}
use Rattle.sha2.specs.Sha256.{sha256}
use Rattle.bw_take_files.specs.TakeSamples.{samples_digest}
use Rattle.bw_take_files.proofs.block_digests.read_ahead.Goals as goal

pub returns-clause-known : goal.returns-clause-known
unfolding samples_digest
returns-clause-known g c = λ honest found stands keeps j low.
    c.digests-digests.ensures j low
    ∙ ap sha256 (c.bodies_in.ensures j low ∙ c.in_ok-lens.ensures.read honest found stands j low)
