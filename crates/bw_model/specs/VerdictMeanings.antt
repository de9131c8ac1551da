-- What verdicts mean, their codes, and the text for a code that no verdict has.
use Rattle.std.specs.Prelude.{◌≡◌, ℕ, List, ◌++◌, codes, decimal, Some, None, Result, MatchResult}
use Rattle.bw_model.specs.Take as model
use Rattle.bw_model.specs.Replies.{verdict_of}
use Rattle.bw_model.specs.declared.verdict.Verdict.{Verdict}
use Rattle.bw_model.specs.declared.verdict.Verdict.TheVariants.{Stored, NameTaken, AlreadyOpen}
use Rattle.bw_model.specs.declared.verdict.Verdict.TheVariants.{NotOpen, Closed, BadFormat, BadBlock}
use Rattle.bw_model.specs.declared.verdict.Verdict.TheVariants.{BadMarker, DuplicateMarker}
use Rattle.bw_model.specs.declared.verdict.Verdict.TheVariants.{TooManyMarkers, BadField, WrongTotal}
use Rattle.bw_model.specs.declared.verdict.UnknownVerdict.{UnknownVerdict}

-- the verdict, in the definitions' words
abbrev pub verdict_meaning : Verdict → model.Verdict
verdict_meaning Stored = model.Stored
verdict_meaning NameTaken = model.NameTaken
verdict_meaning AlreadyOpen = model.AlreadyOpen
verdict_meaning NotOpen = model.NotOpen
verdict_meaning Closed = model.Closed
verdict_meaning BadFormat = model.BadFormat
verdict_meaning BadBlock = model.BadBlock
verdict_meaning BadMarker = model.BadMarker
verdict_meaning DuplicateMarker = model.DuplicateMarker
verdict_meaning TooManyMarkers = model.TooManyMarkers
verdict_meaning BadField = model.BadField
verdict_meaning WrongTotal = model.WrongTotal

-- the verdict with this code, or that there is none
abbrev pub DecodesVerdict : ℕ → Result Verdict UnknownVerdict → Type 0
DecodesVerdict code r =
    MatchResult r (λ v. verdict_of code ≡ Some (verdict_meaning v))
    (λ e. (verdict_of code ≡ None) × (e.0 ≡ code))

-- the text for people about a code that no verdict has
abbrev pub unknown_text : UnknownVerdict → List ℕ
unknown_text u = codes "no verdict has code " ++ decimal u.0
