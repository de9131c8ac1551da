-- What a sender keeps of the settled requests that aren't stored.
use Rattle.std.specs.Prelude.{ℕ, List, length, max}
use Rattle.bw_model.specs.Take as model
use Rattle.bw_model.specs.VerdictMeanings.{verdict_meaning}
use Rattle.bw_model.specs.declared.verdict.Verdict.{Verdict}

-- a number with its verdict, in the definitions' words
abbrev pub refusal_of : ℕ × Verdict → ℕ × model.Verdict
refusal_of x = (x.0, verdict_meaning x.1)

-- the refused numbers, and the room for more
pub record Refused : Type 0 where
  pub numbers : List (ℕ × model.Verdict)
  pub room : ℕ

-- the most room that there is after room for this many was asked for: what there was, or what was
-- asked for, or that for sixteen, or for as many as are there
abbrev pub most_room : Refused → ℕ → ℕ
most_room r count = max r.room (max count (max 16 (length r.numbers)))
