-- The slots of a window.
use Rattle.std.specs.Prelude.{ℕ, List, Option, is_some, count_by}

-- how many slots have a body
abbrev pub count_held : List (Option (List ℕ)) → ℕ
count_held slots = count_by is_some slots
