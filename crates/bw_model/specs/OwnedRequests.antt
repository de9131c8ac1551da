-- What owned requests mean.
use Rattle.bw_model.specs.Take.{Request, Open, Block, Mark, SetField, Close}
use Rattle.bw_model.specs.declared.request.Owned.{Owned}
use Rattle.bw_model.specs.declared.request.Owned.TheVariants.{OpenTake, Block as OwnedBlock}
use Rattle.bw_model.specs.declared.request.Owned.TheVariants.{Mark as OwnedMark}
use Rattle.bw_model.specs.declared.request.Owned.TheVariants.{SetField as OwnedSetField, CloseTake}

-- what a request that owns its bytes says
abbrev pub owned_meaning : Owned → Request
owned_meaning (OpenTake rate channels bits history) =
    Open (record { rate = rate; channels = channels; bits = bits }) history.items
owned_meaning (OwnedBlock bytes) = Block bytes.items
owned_meaning (OwnedMark id frame) = Mark id frame
owned_meaning (OwnedSetField tag value) = SetField tag value.items
owned_meaning (CloseTake frames) = Close frames
