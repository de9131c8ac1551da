-- The words of a command line as `clap` reads them. A word that begins with a hyphen isn't taken
-- after an option, so a name, or a folder, is in the word of its option.
use Rattle.std.specs.Prelude.{Bool, true, false, List, [], ◌∷◌, ◌++◌, Option, Some, None, codes}
use Rattle.std.specs.Prelude.{bytes_eq, ◌||◌, if◌then◌else◌}
use Rattle.std.specs.Option.{option_map_or}
use Rattle.clap.specs.Walk.{Text}

-- each such option and the word after it as one, where the word before these is the option or not
abbrev pub joined : Text → Bool → List Text → List Text
joined option false [] = []
joined option true [] = option ∷ []
joined option true (word ∷ rest) = (option ++ codes "=" ++ word) ∷ joined option false rest
joined option false (word ∷ rest) =
    if bytes_eq word option then joined option true rest else word ∷ joined option false rest

-- the option of a command that is joined, if it has one
abbrev pub option_joined : Text → Option Text
option_joined command =
    if bytes_eq command (codes "rehearse") || bytes_eq command (codes "send")
    then Some (codes "--name")
    else (if bytes_eq command (codes "serve") || bytes_eq command (codes "takes")
    then Some (codes "--folder") else None)

-- that of the command that the words begin with
abbrev pub first_joined : List Text → Option Text
first_joined [] = None
first_joined (command ∷ rest) = option_joined command

-- the words with the command's name or folder joined to its option, and all others unchanged
abbrev pub as_read : List Text → List Text
as_read [] = []
as_read (program ∷ rest) =
    program ∷ option_map_or (λ option. joined option false rest) (first_joined rest) rest
