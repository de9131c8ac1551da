-- What admitting a message leaves of a name.
use Rattle.bw_model.specs.Wire.{Message}
use Rattle.bw_model.specs.Book.{Log}
use Rattle.bw_model.specs.Turn.{admitted_after}

-- the log with the message admitted, if it is new in the window
abbrev pub with_message : Log → Message → Log
with_message log m = record log { admitted = admitted_after log m }
