-- A server's table of sessions.
use Rattle.std.specs.Prelude.{◌≡◌, ◌+◌, ◌≤◌, ℕ, Option, Some, List}
use Rattle.std.specs.Str.{bytes_eq}
use Rattle.std.specs.HashMap.{HashMap, get, hash_map_len, spare}
use Rattle.bw_model.specs.Turn.{most_takes}
use Rattle.bw_session.specs.declared.session.Session.{Session}

-- a server's table
abbrev pub Table : Type 0 → Type 0
Table H = HashMap (List ℕ) Session H

-- the session of a name
abbrev pub session_in : {H : Type 0} → Table H → List ℕ → Option Session
session_in sessions name = get bytes_eq sessions name

-- There are no more sessions than names that a server takes, and room for as many; each is under
-- its name, and has the server's limit.
pub record IsTable {H : Type 0} (sessions : Table H) (limit : ℕ) : Type 0 where
  pub few : hash_map_len sessions ≤ most_takes
  pub room : most_takes ≤ hash_map_len sessions + spare sessions
  pub names : (name : List ℕ) (s : Session) → session_in sessions name ≡ Some s →
      s.progress.name ≡ name
  pub limits : (name : List ℕ) (s : Session) → session_in sessions name ≡ Some s →
      s.progress.growing.limit ≡ limit
