-- How an exchange ended, in the definitions' words.
use Rattle.std.specs.Prelude.{◌≢◌, Option, Some, None}
use Rattle.bw_model.specs.Wire.{Cut}
use Rattle.bw_model.specs.Stream.{End, EndOfInput, SaidBye, BadFrame}
use Rattle.bw_wire.specs.Reasons.{reason_meaning}
use Rattle.bw_exchange.specs.declared.step.StreamEnd.{StreamEnd}
use Rattle.bw_exchange.specs.declared.step.StreamEnd.TheVariants as ends

-- the end, in the definitions' words
abbrev pub end_meaning : StreamEnd → End
end_meaning ends.Bye = SaidBye
end_meaning ends.EndOfInput = EndOfInput
end_meaning (ends.BadFrame fault) = BadFrame (reason_meaning fault.reason) fault.offset

-- the end, if it has come
abbrev pub end_so_far : Option StreamEnd → Option End
end_so_far None = None
end_so_far (Some end) = Some (end_meaning end)

-- an end that no more bytes can change
abbrev pub IsFinal : End → Type 0
IsFinal EndOfInput = ⊥
IsFinal SaidBye = Unit {0}
IsFinal (BadFrame reason place) = reason ≢ Cut
