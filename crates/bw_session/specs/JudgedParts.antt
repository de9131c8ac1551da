-- What a request leaves of what is kept of a take, whatever store there is.
use Rattle.std.specs.Prelude.{◌≡◌, Bool, if◌then◌else◌}
use Rattle.bw_model.specs.Take.{Parts, Request, Verdict, judge, is_stored}
use Rattle.bw_take.specs.States.{parts_with}

-- the judgement of a request, where this is known of the name
abbrev pub judged_in : Parts → Request → Bool → Verdict
judged_in p r taken = judge (record p { taken = taken }) r

-- the parts after a request with this verdict
abbrev pub parts_under : Verdict → Parts → Request → Parts
parts_under v p r = if is_stored v then parts_with p r else p

-- A judged request is kept: all but what is known of the name follows from the parts before it.
abbrev pub KeepsJudged : Parts → Request → Parts → Type 0
KeepsJudged p r q = q ≡ parts_under (judged_in p r q.taken) (record p { taken = q.taken }) r
