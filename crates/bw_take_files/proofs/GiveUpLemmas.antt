-- The paths of a take's files, and where they go if it is given up.
use Rattle.std.proofs.Common.{◌≢◌, ℕ, List, ◌++◌, length, ap, arith, length-append}
use Rattle.std.specs.Prelude.{codes}
use Rattle.bw_recovery.specs.Paths.{path_with}
use Rattle.bw_take_files.specs.GivenUp.{paths_in, AreTakePathsApart}

-- endings of other lengths make other paths
ending_apart : (folder a b name : List ℕ) → length a ≢ length b → path_with folder a name ≢ path_with folder b name
unfolding path_with
ending_apart folder a b name other same =
    other (omega (arith, ap length same, length-append (folder ++ codes "/" ++ name) a, length-append (folder ++ codes "/" ++ name) b))

-- no two of the four endings have the same length
pub paths_apart : (folder name : List ℕ) → AreTakePathsApart (paths_in folder name)
paths_apart folder name =
    let notes = codes ".journal" in
    let notes_to = codes ".journal.given-up" in
    let wave_to = codes ".wav.given-up" in
    record {
      files = ending_apart folder notes (codes ".wav") name (λ e. omega (arith, e));
      journal = ending_apart folder notes notes_to name (λ e. omega (arith, e));
      crossed = ending_apart folder notes wave_to name (λ e. omega (arith, e));
      other = ending_apart folder (codes ".wav") notes_to name (λ e. omega (arith, e));
      take = ending_apart folder (codes ".wav") wave_to name (λ e. omega (arith, e));
      asides = ending_apart folder notes_to wave_to name (λ e. omega (arith, e));
    }
