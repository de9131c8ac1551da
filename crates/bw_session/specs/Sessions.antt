-- How a session relates to its name's log.
use Rattle.std.specs.Prelude.{◌≡◌, ◌≤◌, ◌+◌, ◌*◌, ℕ, Bool, Option, List, length, if◌then◌else◌}
use Rattle.bw_model.specs.Book.{Log}
use Rattle.bw_session.specs.RequestWrites.{IsSameFile}
use Rattle.bw_session.specs.Drains.{Fits, HoldsPart}
pub use Rattle.bw_session.specs.KeptParts.{Part}
use Rattle.bw_session.specs.declared.numbering.Progress.{Progress}
use Rattle.bw_session.specs.declared.session.Session.{Session}

-- what is kept and held of a name, with this window
abbrev pub kept_with : Progress → List (Option (List ℕ)) → Part
kept_with p window = record {
  parts = p.state.parts;
  outcomes = p.ledger.outcomes;
  window = window;
  growing = p.growing;
}

-- these parts of a name fit one another
abbrev pub FitsWith : Progress → List (Option (List ℕ)) → Type 0
FitsWith p window =
    Fits p.growing p.state.parts (length p.ledger.outcomes) p.state.room p.ledger.room window

-- a session's part
abbrev pub part_of : Session → Part
part_of s = record {
  parts = s.progress.state.parts;
  outcomes = s.progress.ledger.outcomes;
  window = s.window;
  growing = s.progress.growing;
}

-- What is kept and held of the name is what this log says, and so is its file.
abbrev pub HoldsLog : Option (List ℕ) → Log → Part → Option (List ℕ) → Type 0
HoldsLog first log p found = HoldsPart first log p.parts p.outcomes p.window p.growing found

-- It is a session of the same take, in a file with the same limit.
pub record KeepsTake (old new : Session) : Type 0 where
  pub name : new.progress.name ≡ old.progress.name
  pub growing : IsSameFile old.progress.growing new.progress.growing

-- What is kept of the done numbers is the same, but for the room that there is for more.
pub record KeepsProgress (old new : Progress) : Type 0 where
  pub name : new.name ≡ old.name
  pub growing : new.growing ≡ old.growing
  pub parts : new.state.parts ≡ old.state.parts
  pub outcomes : new.ledger.outcomes ≡ old.ledger.outcomes
  pub noted : new.noted ≡ old.noted

-- The store was called four times at most for each number that was done, and for one more where a
-- fault stopped.
abbrev pub CallsFew : ℕ → ℕ → ℕ → ℕ → Bool → Type 0
CallsFew before after done later stopped =
    after + 4 * done ≤ before + 4 * later + (if stopped then 4 else 0)
