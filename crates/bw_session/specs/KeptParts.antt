-- What is kept and held of a name.
use Rattle.std.specs.Prelude.{ℕ, Option, List}
use Rattle.bw_model.specs.Take.{Parts, Verdict}
use Rattle.bw_file.specs.GrowingFiles.{Growing}

-- what is kept and held of a name
pub record Part : Type 0 where
  pub parts : Parts
  pub outcomes : List (List ℕ × Verdict)
  pub window : List (Option (List ℕ))
  pub growing : Growing

-- from its pieces
abbrev pub part : Parts → List (List ℕ × Verdict) → List (Option (List ℕ)) → Growing → Part
part p outcomes window g = record {
  parts = p;
  outcomes = outcomes;
  window = window;
  growing = g;
}
