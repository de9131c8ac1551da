use Rattle.std.proofs.Common.{ap}
use Rattle.std.specs.Prelude.{option_map}
use Rattle.bw_serve_status.specs.Takes.{sound_of}
use Rattle.bw_serve_status.proofs.takes.format_of.Goals as goal

pub returns : goal.returns
returns g c = λ first book holds.
    rw (c.rate.ensures.value, c.channels.ensures.value, c.bits.ensures.value)
    (ap (option_map sound_of) (c.in_ok-format.ensures.value first book holds))
