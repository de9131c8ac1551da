-- What a start that fails leaves of a folder: what a stop left there, from the very same book.
use Rattle.std.specs.Prelude.{ℕ, ◌<◌, ◌^◌, Option, List}
use Rattle.bw_model.specs.Book.{Log, Book}
use Rattle.bw_journal.specs.NotedJournals.{AdmitsDone}
use Rattle.bw_recovery.specs.Paths.{wave_path, notes_path}
use Rattle.bw_recovery.specs.LeftNames.{IsLeftName, IsLeft}

-- What a stop left of a name, journal and file, is changed to what a stop may leave of the same log.
abbrev pub StaysLeft : ℕ → List ℕ → Option (List ℕ) → Option (List ℕ) → Option (List ℕ) →
    Option (List ℕ) → Type 0
StaysLeft limit name journal file later_journal later_file =
    limit < 2 ^ 32 → (first : Option (List ℕ)) (log : Log) → AdmitsDone log →
    IsLeftName limit first name log journal file →
    IsLeftName limit first name log later_journal later_file

-- the same of each name of a folder
abbrev pub NamesStayLeft : ℕ → List ℕ → (List ℕ → Option (List ℕ)) →
    (List ℕ → Option (List ℕ)) →
    (List ℕ → Option (List ℕ)) → (List ℕ → Option (List ℕ)) → Type 0
NamesStayLeft limit folder notes takes later_notes later_takes = (name : List ℕ) →
    StaysLeft limit name (notes (notes_path folder name)) (takes (wave_path folder name))
    (later_notes (notes_path folder name)) (later_takes (wave_path folder name))

-- a server over this book and these files left this in a folder
abbrev pub IsLeftOf : ℕ → List ℕ → (List ℕ → Option (List ℕ)) → Book →
    (List ℕ → Option (List ℕ)) → (List ℕ → Option (List ℕ)) → Type 0
IsLeftOf limit folder first book notes takes =
    IsLeft limit first book (λ name. notes (notes_path folder name))
    (λ name. takes (wave_path folder name))

-- Whatever book an earlier server left in a folder, it is left there still.
abbrev pub BooksStayLeft : ℕ → List ℕ → (List ℕ → Option (List ℕ)) →
    (List ℕ → Option (List ℕ)) →
    (List ℕ → Option (List ℕ)) → (List ℕ → Option (List ℕ)) → Type 0
BooksStayLeft limit folder notes takes later_notes later_takes =
    (first : List ℕ → Option (List ℕ)) (book : Book) →
    IsLeftOf limit folder first book notes takes →
    IsLeftOf limit folder first book later_notes later_takes
