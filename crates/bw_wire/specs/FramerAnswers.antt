-- What a framer's answers mean.
use Rattle.std.specs.Prelude.{ℕ, Option, Some, None, Result, Ok, Err}
use Rattle.bw_model.specs.Wire as model
use Rattle.bw_wire.specs.declared.fault.WireFault.{WireFault}
use Rattle.bw_wire.specs.FramerStates.{Reported, Nothing, Gives, Fails}
use Rattle.bw_wire.specs.Reasons.{reason_meaning}

-- what a framer reports by an answer whose values mean this
abbrev pub reported_as : {A X : Type 0} → (A → X) → Result (Option A) WireFault → Reported X
reported_as meaning (Ok None) = Nothing
reported_as meaning (Ok (Some a)) = Gives (meaning a)
reported_as meaning (Err e) = Fails (reason_meaning e.reason) e.offset

-- the fault at the input's end, with its place
abbrev pub end_reported : Result (Unit {0}) WireFault → Option (model.Reason × ℕ)
end_reported (Ok x) = None
end_reported (Err e) = Some (reason_meaning e.reason, e.offset)
