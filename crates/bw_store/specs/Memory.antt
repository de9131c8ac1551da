-- What a map of files has under a name.
use Rattle.std.specs.Prelude.{ℕ, List, Option, Vec}
use Rattle.std.specs.Option.{option_map}
use Rattle.std.specs.Ordering.{nat_cmp}
use Rattle.std.specs.Cmp.Lexicographic.{slice_cmp}
use Rattle.std.specs.BTreeMap.{BTreeMap, get}
use Rattle.std.specs.declared.alloc.Global.{Global}

-- what the files have under a name
abbrev pub content_under : BTreeMap (List ℕ) (Vec ℕ Global) → List ℕ → Option (List ℕ)
content_under files name = option_map (λ v. v.items) (get (slice_cmp nat_cmp) files name)
