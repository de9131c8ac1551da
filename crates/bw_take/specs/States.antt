-- What is kept of a take in memory.
use Rattle.std.specs.Prelude.{◌≡◌, ℕ, ◌+◌, ◌≤◌, Some, None, IfSome, IsTrue, true, [], ◌∷◌}
use Rattle.std.specs.Prelude.{◌++◌, length}
use Rattle.bw_model.specs.Limits.{longest_history, most_markers, largest}
use Rattle.bw_model.specs.Take.{Take, Parts, Request, Open, Block, Mark, SetField, Close, new_take}
use Rattle.bw_model.specs.Take.{parts, after, is_format, with_field, AreFields}

-- a take without its data, and the room for more requests
pub record State : Type 0 where
  -- the take without its data
  pub parts : Parts
  -- how many more requests can be stored without allocating memory
  pub room : ℕ

-- what holds of each take that is kept
pub record IsSound (p : Parts) : Type 0 where
  pub format : IfSome p.format (λ f. IsTrue (is_format f))
  pub fields : AreFields p.fields
  pub history : length p.history ≤ longest_history
  pub samples : p.samples_len ≤ largest
  pub markers : length p.markers ≤ most_markers
  pub unopened : p.format ≡ None → p ≡ parts (new_take p.taken)

-- the parts after the request
abbrev pub parts_with : Parts → Request → Parts
parts_with p (Open f history) = record p { format = Some f; history = history }
parts_with p (Block bytes) = record p { samples_len = p.samples_len + length bytes }
parts_with p (Mark id frame) = record p { markers = p.markers ++ (id, frame) ∷ [] }
parts_with p (SetField tag value) = record p { fields = with_field p.fields tag value }
parts_with p (Close total) = record p { closed = true }

-- each take of the old parts has the new ones after the request
abbrev pub FollowsTakes : Parts → Request → Parts → Type 0
FollowsTakes old r new = (t : Take) → parts t ≡ old → parts (after t r) ≡ new
