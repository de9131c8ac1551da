-- Where the takes of a folder are on a disk.
use Rattle.std.specs.Prelude.{ℕ, List, [], ◌∷◌, ◌++◌, codes, map, Option, Result, Ok, Err, Bool, true}
use Rattle.std.specs.Prelude.{false}
use Rattle.std.specs.Prelude.{filter, not}
use Rattle.std.specs.Str.{bytes_eq}
use Rattle.bw_store.specs.declared.store.Created.{Created}
use Rattle.bw_store.specs.declared.store.Created.TheVariants.{New, Exists}
use Rattle.bw_folder.specs.declared.folder.OpenTake.{OpenTake}

-- the path of a take's file in a folder
unfoldable pub take_path : List ℕ → List ℕ → List ℕ
take_path folder name = folder ++ codes "/" ++ name ++ codes ".wav"

-- the content of a take's name, by the content of each path
abbrev pub take_content : (List ℕ → Option (List ℕ)) → List ℕ → List ℕ → Option (List ℕ)
take_content contents folder name = contents (take_path folder name)

-- the names of open takes
abbrev pub open_names : {F : Type 0} → List (OpenTake F) → List (List ℕ)
open_names takes = map (λ take. take.name) takes

-- the names of open takes after a `create`: a name that is made is open
abbrev pub opened_by : {E : Type 0} → Result Created E → List ℕ → List (List ℕ) → List (List ℕ)
opened_by (Ok New) name names = names ++ name ∷ []
opened_by (Ok Exists) name names = names
opened_by (Err fault) name names = names

-- the names of open takes after an `adopt`: a name that is found is open
abbrev pub found_by : {E : Type 0} → Result Bool E → List ℕ → List (List ℕ) → List (List ℕ)
found_by (Ok true) name names = names ++ name ∷ []
found_by (Ok false) name names = names
found_by (Err fault) name names = names

-- these names without one of them
abbrev pub names_but : List ℕ → List (List ℕ) → List (List ℕ)
names_but name names = filter (λ other. not (bytes_eq other name)) names

-- the names of open takes after a `finish`: a name that is finished is open no more
abbrev pub closed_by : {T E : Type 0} → Result T E → List ℕ → List (List ℕ) → List (List ℕ)
closed_by (Ok done) name names = filter (λ other. not (bytes_eq other name)) names
closed_by (Err fault) name names = names
