-- In which order names were used.
use Rattle.std.specs.Prelude.{◌≡◌, ◌==◌, ℕ, Bool, false, not, Option, Some, None, List, [], ◌∷◌, ◌++◌}
use Rattle.std.specs.Prelude.{◌-◌, length, drop, position, slice_get, if◌then◌else◌}
use Rattle.std.specs.List.{filter, HoldsAt}
use Rattle.std.specs.Option.{option_map_or}
use Rattle.std.specs.Str.{bytes_eq}
use Rattle.bw_session.specs.declared.session.Session.{Session}

-- the names but for the least recently used, if they are too many
abbrev pub with_place : List (List ℕ) → List (List ℕ)
with_place names = if length names == 512 then drop 1 names else names

-- this name was used last
abbrev pub is_last : List ℕ → List (List ℕ) → Bool
is_last name names = option_map_or (λ other. bytes_eq other name) (slice_get names (length names - 1)) false

-- the names, once this one was used
abbrev pub with_use : List ℕ → List (List ℕ) → List (List ℕ)
with_use name names = if is_last name names then names
    else with_place (filter (λ other. not (bytes_eq other name)) names) ++ name ∷ []

-- the same, if its use counts
abbrev pub with_use_if : Bool → List ℕ → List (List ℕ) → List (List ℕ)
with_use_if counts name names = if counts then with_use name names else names

-- of these names the first one that might leave the table has left it
abbrev pub FirstHasLeft : (List ℕ → Bool) → List (List ℕ) → (List ℕ → Option Session) → Type 0
FirstHasLeft may_leave names kept = (place : ℕ) × (position may_leave names ≡ Some place)
    × HoldsAt (λ name. kept name ≡ None) names place
