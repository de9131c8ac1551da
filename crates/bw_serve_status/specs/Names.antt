-- What is counted of each name.
use Rattle.std.specs.Prelude.{ℕ, ◌+◌, ◌-◌, ◌^◌, Bool, true, false, not, if◌then◌else◌, nat_lt}
use Rattle.std.specs.Prelude.{List, [], ◌∷◌, ◌++◌, length, min, fold, slice_set}
use Rattle.std.specs.List.{list_any, prefix_len}
use Rattle.std.specs.Str.{bytes_eq}
use Rattle.bw_exchange.specs.LinkCounts.{up_to_last}
use Rattle.bw_serve_status.specs.declared.name_tally.Change.{Change}
use Rattle.bw_serve_status.specs.declared.name_tally.Change.TheVariants.{Stored, Refused, Delayed}
use Rattle.bw_serve_status.specs.declared.name_tally.NameTally.{NameTally}

-- of this many names counts are kept
abbrev pub most_name_tallies : ℕ
most_name_tallies = 256

-- a name of which nothing is counted yet, at this one of all changes
abbrev pub uncounted : ℕ → List ℕ → NameTally
uncounted at name = record {
  name = name;
  stored = 0;
  refused = 0;
  delayed = 0;
  first = at;
  last = at;
}

-- the counts of a name after one change more, which is this one of all
abbrev pub change_of : Change → ℕ → NameTally → NameTally
change_of Stored at t = record t { stored = up_to_last (t.stored + 1); last = at }
change_of Refused at t = record t { refused = up_to_last (t.refused + 1); last = at }
change_of Delayed at t = record t { delayed = up_to_last (t.delayed + 1); last = at }

-- the counts of another name
abbrev pub is_other : List ℕ → NameTally → Bool
is_other name t = not (bytes_eq t.name name)

-- the counts of all names after a change of one that is there
abbrev pub on_first : Change → ℕ → List ℕ → List NameTally → List NameTally
on_first change at name [] = []
on_first change at name (t ∷ ts) =
    if is_other name t then t ∷ on_first change at name ts else change_of change at t ∷ ts

-- the number of the last change of the one that was counted least recently
abbrev pub least_last : List NameTally → ℕ
least_last ts = fold (λ least t. min least t.last) (2 ^ 64 - 1) ts

-- the place of the first such
abbrev pub oldest_place : List NameTally → ℕ
oldest_place ts = prefix_len (λ t. nat_lt (least_last ts) t.last) ts

-- the counts with those of a new name: if there are as many as may be, in the place of the one that was
-- counted least recently
abbrev pub with_new : ℕ → List ℕ → List NameTally → List NameTally
with_new at name ts = if nat_lt (length ts) most_name_tallies then ts ++ uncounted at name ∷ []
    else slice_set ts (oldest_place ts) (uncounted at name)

-- the counts with those of a name, unless they are there
abbrev pub with_tally : ℕ → List ℕ → List NameTally → List NameTally
with_tally at name ts = if list_any (λ t. bytes_eq t.name name) ts then ts else with_new at name ts

-- the counts of all names after a change of one
abbrev pub on_name : Change → ℕ → List ℕ → List NameTally → List NameTally
on_name change at name ts = on_first change at name (with_tally at name ts)
