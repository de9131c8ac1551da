-- What reasons mean, their codes, and their text.
use Rattle.std.specs.Prelude.{◌≡◌, ℕ, List, ◌++◌, Some, None, Result, MatchResult, codes, decimal}
use Rattle.bw_model.specs.Wire as model
use Rattle.bw_model.specs.Replies.{reason_of as reason_with_code}
use Rattle.bw_wire.specs.declared.reason.Reason.{Reason}
use Rattle.bw_wire.specs.declared.reason.Reason.TheVariants.{Length, Kind, Name, Number, Payload}
use Rattle.bw_wire.specs.declared.reason.Reason.TheVariants.{Cut}
use Rattle.bw_wire.specs.declared.reason.UnknownCode.{UnknownCode}

-- the reason, in the definitions' words
abbrev pub reason_meaning : Reason → model.Reason
reason_meaning Length = model.Length
reason_meaning Kind = model.Kind
reason_meaning Name = model.Name
reason_meaning Number = model.Number
reason_meaning Payload = model.Payload
reason_meaning Cut = model.Cut

-- the reason with this code, or that there is none
abbrev pub DecodesReason : ℕ → Result Reason UnknownCode → Type 0
DecodesReason code r =
    MatchResult r (λ reason. reason_with_code code ≡ Some (reason_meaning reason))
    (λ e. (reason_with_code code ≡ None) × (e.0 ≡ code))

-- the text for people
abbrev pub reason_text : Reason → List ℕ
reason_text Length = codes "a length that no frame has"
reason_text Kind = codes "a kind that no frame has"
reason_text Name = codes "no name"
reason_text Number = codes "no number"
reason_text Payload = codes "a payload of another kind"
reason_text Cut = codes "cut off"

-- the text for people about a code that no reason has
abbrev pub unknown_code_text : UnknownCode → List ℕ
unknown_code_text u = decimal u.0 ++ codes " is no code"
