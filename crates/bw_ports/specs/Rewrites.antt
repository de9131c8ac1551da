-- What a write into a file that is there does to its bytes.
use Rattle.std.specs.Prelude.{◌≡◌, ◌≢◌, ℕ, List, Option, Some, take}
use Rattle.bw_store.specs.Stores.{overwritten}

-- bytes that are reported have these from a place on
abbrev pub Rewrites : Option (List ℕ) → ℕ → List ℕ → Option (List ℕ) → Type 0
Rewrites before place bytes after =
    (xs : List ℕ) → before ≡ Some xs → after ≡ Some (overwritten xs place bytes)

-- .. or a prefix of these, or none of them
abbrev pub RewritesInPart : Option (List ℕ) → ℕ → List ℕ → Option (List ℕ) → Type 0
RewritesInPart before place bytes after =
    (xs : List ℕ) → before ≡ Some xs →
    (count : ℕ) × (after ≡ Some (overwritten xs place (take count bytes)))

-- each other path has what it had
abbrev pub KeepsOtherPaths : List ℕ → (List ℕ → Option (List ℕ)) →
    (List ℕ → Option (List ℕ)) → Type 0
KeepsOtherPaths path before after = (other : List ℕ) → other ≢ path → after other ≡ before other
