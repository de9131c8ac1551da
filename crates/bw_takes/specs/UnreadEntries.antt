-- Files of takes that can't be read.
use Rattle.std.specs.Prelude.{ℕ, List, ◌++◌, codes}
use Rattle.bw_recovery.specs.Paths.{path_with}
use Rattle.bw_takes.specs.declared.unread.TakeEntry.{TakeEntry}
use Rattle.bw_takes.specs.declared.unread.TakeEntry.TheVariants.{Wave, Journal}

-- what is reported of a path that can't be read
abbrev pub unread_text : List ℕ → List ℕ
unread_text path = path ++ codes " can't be read\n"

-- how the name of a take's file ends
abbrev pub entry_ending : TakeEntry → List ℕ
entry_ending Wave = codes ".wav"
entry_ending Journal = codes ".journal"

-- where a take's file is in a folder
abbrev pub entry_path : TakeEntry → List ℕ → List ℕ → List ℕ
entry_path entry folder name = path_with folder (entry_ending entry) name
