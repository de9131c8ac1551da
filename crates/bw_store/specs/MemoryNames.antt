-- What is seen of a store in memory.
use Rattle.std.specs.Prelude.{ℕ, List, Option, IsSome, ◌↔◌}
use Rattle.std.specs.Ordering.{nat_cmp}
use Rattle.std.specs.Cmp.Lexicographic.{slice_cmp}
use Rattle.std.specs.List.{Contains}
use Rattle.std.specs.List.Sorted.{IsStrictlySortedBy}
use Rattle.std.specs.BTreeMap.{keys}
use Rattle.bw_store.specs.Memory.{content_under}
use Rattle.bw_store.specs.declared.memory.MemoryStore.{MemoryStore}

-- what the store has under a name
abbrev pub memory_content : MemoryStore → List ℕ → Option (List ℕ)
memory_content s name = content_under s.files name

-- how many calls it has got
abbrev pub memory_calls : MemoryStore → ℕ
memory_calls s = s.call_counter.calls

-- and how many of them have failed
abbrev pub memory_failures : MemoryStore → ℕ
memory_failures s = s.call_counter.failures

-- the names of the files, in their order
abbrev pub names_of : MemoryStore → List (List ℕ)
names_of s = keys s.files

-- these are the names that are in the store, each once, in the order of their bytes
pub record AreNames (names : List (List ℕ)) (contents : List ℕ → Option (List ℕ)) : Type 0 where
  pub ordered : IsStrictlySortedBy (slice_cmp nat_cmp) names
  pub each : (name : List ℕ) → IsSome (contents name) ↔ Contains names name
