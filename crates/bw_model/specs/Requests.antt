-- What requests mean.
use Rattle.std.specs.Prelude.{ℕ, List, [], length}
use Rattle.bw_model.specs.Take.{Request, Open, Block, Mark, SetField, Close}
use Rattle.bw_model.specs.declared.request.RequestRef.{RequestRef}
use Rattle.bw_model.specs.declared.request.RequestRef.TheVariants.{OpenTake, Block as BlockRef}
use Rattle.bw_model.specs.declared.request.RequestRef.TheVariants.{Mark as MarkRef}
use Rattle.bw_model.specs.declared.request.RequestRef.TheVariants.{SetField as SetFieldRef}
use Rattle.bw_model.specs.declared.request.RequestRef.TheVariants.{CloseTake}

-- what a request says
abbrev pub meaning : RequestRef → Request
meaning (OpenTake rate channels bits history) =
    Open (record { rate = rate; channels = channels; bits = bits }) history.now
meaning (BlockRef bytes) = Block bytes.now
meaning (MarkRef id frame) = Mark id frame
meaning (SetFieldRef tag value) = SetField tag value.now
meaning (CloseTake frames) = Close frames

-- the bytes that a request carries besides its numbers
abbrev pub carried_bytes : Request → List ℕ
carried_bytes (Open f history) = history
carried_bytes (Block bytes) = bytes
carried_bytes (Mark id frame) = []
carried_bytes (SetField tag value) = value
carried_bytes (Close total) = []

-- how many bytes of data a request adds
abbrev pub samples_in : Request → ℕ
samples_in (Block bytes) = length bytes
samples_in _ = 0
