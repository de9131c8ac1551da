-- What a server knows of its names.
use Rattle.std.specs.Prelude.{◌≡◌, ◌<◌, ◌↔◌, ℕ, Bool, false, Option, None, IsTrue, is_some}
use Rattle.std.specs.Prelude.{List}
use Rattle.std.specs.List.{Contains, IsDistinct}
use Rattle.std.specs.Option.{option_map_or}
use Rattle.std.specs.Str.{bytes_eq}
use Rattle.bw_model.specs.Take.{Format, NameTaken}
use Rattle.bw_model.specs.Book.{Log, verdict_at}
use Rattle.bw_session.specs.Tables.{Table, session_in}
use Rattle.bw_session.specs.Servers.{kept_in}

-- the format that is kept of a name's take, none for an unknown name
abbrev pub format_in : {H : Type 0} → Table H → List ℕ → Option Format
format_in sessions name =
    option_map_or (λ s. s.progress.state.parts.format) (session_in sessions name) None

-- whether a server found that a file of the name existed before its own
abbrev pub is_taken_in : {H : Type 0} → Table H → List ℕ → Bool
is_taken_in sessions name =
    option_map_or (λ s. s.progress.state.parts.taken) (session_in sessions name) false

-- whether a server keeps anything of the name
abbrev pub is_known_in : {H : Type 0} → Table H → List ℕ → Bool
is_known_in sessions name = is_some (kept_in sessions name)

-- It is known only of names that existed, and from the first verdict NameTaken on.
pub record KnowsTaken (existed : Bool) (log : Log) (is_taken : Bool) : Type 0 where
  pub only : IsTrue is_taken → IsTrue existed
  pub reported : (n : ℕ) → n < log.done → verdict_at existed log.admitted n ≡ NameTaken →
      IsTrue is_taken

-- these are the names for which this holds, each once
pub record ListsNames (is_listed : List ℕ → Bool) (names : List (List ℕ)) : Type 0 where
  pub each : (name : List ℕ) → IsTrue (is_listed name) ↔ Contains names name
  pub once : IsDistinct bytes_eq names
