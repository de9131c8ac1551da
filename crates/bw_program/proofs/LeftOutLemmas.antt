-- Chunks that are kept, and files that are joined, where the paths are named in two ways.
use Rattle.std.proofs.Common.{◌≡◌, Bool, List, ℕ, Option, Result, subst}
use Rattle.bw_stream.specs.declared.sink.Sink.{Ghosts as Writer}
use Rattle.bw_console.specs.Outcomes.{Outcome}
use Rattle.bw_console.specs.declared.exit.Exit.{Exit}
use Rattle.bw_disk.specs.declared.disk.Disk.{Ghosts}
use Rattle.bw_repair.specs.Joinings.{IsJoining}
use Rattle.bw_repair.specs.Keepings.{IsKeeping}

-- what was kept of the file at a path is kept of the one at the same path, at the same one
pub keeping_named : {D F E : Type 0} (G : Ghosts D F) (reported : Writer E) (file_at : List ℕ → Option (List ℕ))
    (path path' to to' : List ℕ) (result : Result (Unit {0}) Exit) (old new : D) (gives_all : Bool) (e e' : E) →
    path ≡ path' → to ≡ to' → IsKeeping G (file_at path) path to reported result old new gives_all e e' →
    IsKeeping G (file_at path') path' to' reported result old new gives_all e e'
keeping_named G reported file_at path path' to to' result old new gives_all e e' same_path same_to is =
    subst (λ (t : List ℕ). IsKeeping G (file_at path') path' t reported result old new gives_all e e') same_to
    (subst (λ (p : List ℕ). IsKeeping G (file_at p) p to reported result old new gives_all e e') same_path is)

-- the files at these paths are joined as those at the same paths are
pub joining_named : (file_at : List ℕ → Option (List ℕ)) (path path' left left' : List ℕ) (gives_all : Bool)
    (did : Outcome) → path ≡ path' → left ≡ left' →
    IsJoining (file_at path) (file_at left) path left gives_all did →
    IsJoining (file_at path') (file_at left') path' left' gives_all did
joining_named file_at path path' left left' gives_all did same_path same_left is =
    subst (λ (l : List ℕ). IsJoining (file_at path') (file_at l) path' l gives_all did) same_left
    (subst (λ (p : List ℕ). IsJoining (file_at p) (file_at left) p left gives_all did) same_path is)
