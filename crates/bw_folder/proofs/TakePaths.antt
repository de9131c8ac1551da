-- The paths of takes in a folder.
use Rattle.std.proofs.Common.{◌≡◌, List, ℕ, ◌++◌, codes}
use Rattle.std.proofs.lemmas.List.{append_cancel_left, append_cancel_right}
use Rattle.bw_folder.specs.Folders.{take_path}

joined : (folder slash a b end : List ℕ) → folder ++ slash ++ a ++ end ≡ folder ++ slash ++ b ++ end → a ≡ b
joined folder slash a b end e =
    let prefix = folder ++ slash in
    append_cancel_left prefix a b (append_cancel_right (prefix ++ a) (prefix ++ b) end e)

-- distinct names have distinct paths
pub take_path_injective : (folder a b : List ℕ) → take_path folder a ≡ take_path folder b → a ≡ b
unfolding take_path
take_path_injective folder a b e = joined folder (codes "/") a b (codes ".wav") e
