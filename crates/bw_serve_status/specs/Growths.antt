-- When each name grew last.
use Rattle.std.specs.Prelude.{◌≡◌, ◌≤◌, ℕ, ◌==◌, ◌&&◌, Option, Some, None, List, [], ◌∷◌, length, slice_get}
use Rattle.std.specs.Prelude.{if◌then◌else◌, replicate}
use Rattle.std.specs.Str.{bytes_eq}
use Rattle.bw_serve_status.specs.declared.growth.Growth.{Growth}
use Rattle.bw_serve_status.specs.declared.name_tally.NameTally.{NameTally}
use Rattle.bw_serve_status.specs.Names.{most_name_tallies}

-- a name of which no message is stored hasn't grown; another has at this time
abbrev pub grown_by : ℕ → ℕ → Option ℕ
grown_by now stored = if stored == 0 then None else Some now

-- a name with these counts at this time: it has grown if another number was stored before; if another
-- name was at its place, it has grown if any was stored
abbrev pub growth_noted : ℕ → NameTally → Growth → Growth
growth_noted now t g = if (g.first == t.first) && (g.stored == t.stored) then g
    else record { first = t.first; stored = t.stored; at = grown_by now t.stored }

-- each name's growth is noted at the place of its counts, and the others are as they were
pub record NotesGrowth (now : ℕ) (names : List NameTally) (old new : List Growth) : Type 0 where
  pub counted : (place : ℕ) (t : NameTally) (g : Growth) → slice_get names place ≡ Some t →
      slice_get old place ≡ Some g → slice_get new place ≡ Some (growth_noted now t g)
  pub others : (place : ℕ) → length names ≤ place → slice_get new place ≡ slice_get old place
  pub count : length new ≡ length old

-- no name has grown yet
abbrev pub no_growth : List Growth
no_growth = replicate most_name_tallies (record { first = 0; stored = 0; at = None })

-- when a name grew last, if it did
abbrev pub grown_at : List ℕ → List NameTally → List Growth → Option ℕ
grown_at name [] gs = None
grown_at name (t ∷ ts) [] = None
grown_at name (t ∷ ts) (g ∷ gs) = if bytes_eq t.name name then g.at else grown_at name ts gs
