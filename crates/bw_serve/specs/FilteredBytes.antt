-- What links and readers give through a filter.
use Rattle.std.specs.Prelude.{◌≡◌, ℕ, Bool, Option, Some, None, List}
use Rattle.bw_serve.specs.Filters.{Filter, starting, after_bytes, filtered}

-- what a link gave through a filter, which is here now, of what it gave itself
pub record GivesFiltered (given : List ℕ → Type 0) (one_name : Bool) (filter : Filter) (bytes : List ℕ)
    : Type 0 where
  pub came : List ℕ
  pub by_link : given came
  pub now : filter ≡ after_bytes (starting one_name) came
  pub through : bytes ≡ filtered (starting one_name) came

-- what a reader gives through a filter, of what it has left
abbrev pub left_through : Filter → Option (List ℕ) → Option (List ℕ)
left_through filter None = None
left_through filter (Some bytes) = Some (filtered filter bytes)
