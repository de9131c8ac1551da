-- What a sender offered, with the verdicts.
use Rattle.std.specs.Prelude.{ℕ, zero, suc, Bool, true, ◌&&◌, Option, Some, None, is_some, List}
use Rattle.std.specs.Prelude.{[], ◌∷◌, slice_get, option_and_then, if◌then◌else◌}
use Rattle.bw_model.specs.Take.{Request, Verdict, is_stored}
use Rattle.bw_model.specs.World.{is_close}

-- an offered request, with its first verdict if that came
pub record SenderEntry : Type 0 where
  pub request : Request
  pub verdict : Option Verdict

-- a request whose verdict hasn't come
abbrev pub unjudged : Request → SenderEntry
unjudged r = record { request = r; verdict = None }

-- the offered requests, each with its verdict
abbrev pub entries : List Request → List (Option Verdict) → List SenderEntry
entries [] vs = []
entries (r ∷ rs) [] = unjudged r ∷ entries rs []
entries (r ∷ rs) (v ∷ vs) = record { request = r; verdict = v } ∷ entries rs vs

-- the verdict of the one at a place has come
abbrev pub judged : List SenderEntry → ℕ → Verdict → List SenderEntry
judged [] n v = []
judged (e ∷ es) zero v = record { request = e.request; verdict = Some v } ∷ es
judged (e ∷ es) (suc n) v = e ∷ judged es n v

-- a verdict that isn't there, or is Stored
abbrev pub may_be_stored : Option Verdict → Bool
may_be_stored None = true
may_be_stored (Some v) = is_stored v

-- a CLOSE that has no verdict yet, or is stored: nothing may be offered after it
abbrev pub closes : SenderEntry → Bool
closes e = is_close e.request && may_be_stored e.verdict

-- the entries without a verdict, each with its number; the first entry has this number
abbrev pub pending_entries : ℕ → List SenderEntry → List (ℕ × Request)
pending_entries n [] = []
pending_entries n (e ∷ es) =
    if is_some e.verdict then pending_entries (suc n) es
    else (n, e.request) ∷ pending_entries (suc n) es

-- the request at a place, if it has no verdict
abbrev pub pending_at : List SenderEntry → ℕ → Option Request
pending_at es i =
    option_and_then (λ e. if is_some e.verdict then None else Some e.request) (slice_get es i)

-- the request at a place has its verdict
abbrev pub is_judged_at : List SenderEntry → ℕ → Bool
is_judged_at es i = is_some (option_and_then (λ e. e.verdict) (slice_get es i))
