-- What the end of an exchange is called.
use Rattle.std.specs.Prelude.{ℕ, List, codes}
use Rattle.bw_model.specs.Stream.{End, EndOfInput, SaidBye, BadFrame}
use Rattle.bw_exchange.specs.declared.serving.ExchangeEnd.{ExchangeEnd}
use Rattle.bw_exchange.specs.declared.serving.ExchangeEnd.TheVariants as ends

-- the name of an exchange's end
abbrev pub end_name : End → List ℕ
end_name EndOfInput = codes "EndOfInput"
end_name SaidBye = codes "Bye"
end_name (BadFrame reason place) = codes "BadFrame"

-- the name of an end, also of one that breaks the exchange off
abbrev pub name_of_end : ExchangeEnd → List ℕ
name_of_end ends.Bye = codes "Bye"
name_of_end ends.EndOfInput = codes "EndOfInput"
name_of_end (ends.BadFrame fault) = codes "BadFrame"
name_of_end ends.ReadFault = codes "ReadFault"
name_of_end ends.WriteFault = codes "WriteFault"
name_of_end (ends.NotKept cause) = codes "NotKept"
name_of_end ends.TurnLimit = codes "TurnLimit"
name_of_end ends.Memory = codes "Memory"
