-- Where the files of a name are in a folder.
use Rattle.std.specs.Prelude.{ℕ, List, ◌++◌, codes}

-- the path of a name's file with this ending
unfoldable pub path_with : List ℕ → List ℕ → List ℕ → List ℕ
path_with folder ending name = folder ++ codes "/" ++ name ++ ending

-- the path of a name's take
abbrev pub wave_path : List ℕ → List ℕ → List ℕ
wave_path folder name = path_with folder (codes ".wav") name

-- the path of a name's journal
abbrev pub notes_path : List ℕ → List ℕ → List ℕ
notes_path folder name = path_with folder (codes ".journal") name
