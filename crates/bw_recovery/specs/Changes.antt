-- What calls at a start leave of files.
use Rattle.std.specs.Prelude.{◌≡◌, ◌≢◌, ◌⊎◌, ◌==◌, ◌<◌, ℕ, ◌+◌, ◌++◌, ◌≤◌, Option, Some, None, IsSome, List}
use Rattle.std.specs.Prelude.{codes, decimal, length, take, drop, if◌then◌else◌}
use Rattle.bw_disk.specs.Volumes.{KeepsEach}
use Rattle.bw_store.specs.Stores.{KeepsOthers}
use Rattle.bw_recovery.specs.Paths.{path_with, wave_path}

-- a file that is there has become this
abbrev pub Becomes : (List ℕ → List ℕ) → Option (List ℕ) → Option (List ℕ) → Type 0
Becomes f before after = (found : List ℕ) → before ≡ Some found → after ≡ Some (f found)

-- no take's file is at this path
abbrev pub IsNoWave : List ℕ → List ℕ → Type 0
IsNoWave folder path = (other : List ℕ) → path ≢ wave_path folder other

-- what follows a name of which a file was set aside, by how many were tried before
abbrev pub torn_text : ℕ → List ℕ
torn_text attempt = if attempt == 0 then codes ".torn" else codes ".torn" ++ decimal attempt

-- something is at each path to which the file of a take may be moved
abbrev pub IsCrowded : List ℕ → List ℕ → (List ℕ → Option (List ℕ)) → Type 0
IsCrowded folder name before =
    (attempt : ℕ) → attempt < 256 → IsSome (before (path_with folder (torn_text attempt) name))

-- The file of a take was moved to a path of its name where nothing was, which ends in `.torn` and
-- what follows that; all else is as it was.
pub record IsAside (folder name : List ℕ) (before after : List ℕ → Option (List ℕ)) : Type 0 where
  pub ending : List ℕ
  pub torn : take 5 ending ≡ codes ".torn"
  pub apart : IsNoWave folder (path_with folder ending name)
  pub free : before (path_with folder ending name) ≡ None
  pub arrived : after (path_with folder ending name) ≡ before (wave_path folder name)
  pub left : after (wave_path folder name) ≡ None
  pub others : (other : List ℕ) → other ≢ wave_path folder name →
      other ≢ path_with folder ending name → after other ≡ before other

-- each other path than that of a take has what it had, or the take's file was moved
abbrev pub ChangesTake : List ℕ → List ℕ → (List ℕ → Option (List ℕ)) →
    (List ℕ → Option (List ℕ)) → Type 0
ChangesTake folder name before after =
    KeepsOthers before after (wave_path folder name) ⊎ IsAside folder name before after

-- What is under a name has become this. A file that is set aside or mended was there.
abbrev pub BecomesAs : (Option (List ℕ) → Option (List ℕ)) → Option (List ℕ) →
    Option (List ℕ) → Type 0
BecomesAs f before after = after ≡ f before

-- the take's file was moved, or nothing was changed
abbrev pub MayMove : List ℕ → List ℕ → (List ℕ → Option (List ℕ)) →
    (List ℕ → Option (List ℕ)) → Type 0
MayMove folder name before after = KeepsEach before after ⊎ IsAside folder name before after

-- A file keeps so many bytes from a place on, and is no longer than it was, or than one byte past them.
pub record KeepsSamples (place count : ℕ) (found : List ℕ) (after : Option (List ℕ)) : Type 0 where
  pub later : List ℕ
  pub stands : after ≡ Some later
  pub long : place + count ≤ length later
  pub samples : take count (drop place later) ≡ take count (drop place found)
  pub short : (length later ≤ length found) ⊎ (length later ≤ place + count + 1)
