use Rattle.std.proofs.Common.{◌≡◌, List, ℕ, refl}
use Rattle.bw_take_files.specs.GivenUp.{TakePaths}
use Rattle.bw_take_files.proofs.giving_up.places_of.Goals as goal

paths : List ℕ → List ℕ → List ℕ → List ℕ → TakePaths
paths a b c d = record { notes = a; wave = b; notes_to = c; wave_to = d }

same_paths : (a b c d a' b' c' d' : List ℕ) → a ≡ a' → b ≡ b' → c ≡ c' → d ≡ d' → paths a b c d ≡ paths a' b' c' d'
same_paths a b c d a' b' c' d' p q r s = rw (p, q, r, s) refl

pub returns : goal.returns
unfolding paths
returns c = same_paths _ _ _ _ _ _ _ _ c.in_ok-path_in.ensures.path c.in_ok-path_in-2.ensures.path
    c.in_ok-path_in-3.ensures.path c.in_ok-path_in-4.ensures.path
