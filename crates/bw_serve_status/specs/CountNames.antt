-- Counts under their names.
use Rattle.std.specs.Prelude.{ℕ, List, [], ◌∷◌, codes, slice_index_or}
use Rattle.bw_status.specs.declared.snapshot.Count.{Count}

-- what was counted, and how often it happened
abbrev pub kind_and_count : Count → List ℕ × ℕ
kind_and_count c = (c.kind.now, c.count)

-- the count at a place, under its name
abbrev pub named : List ℕ → List ℕ → ℕ → List ℕ × ℕ
named name numbers place = (name, slice_index_or numbers place 0)

-- messages and asks by their kind
abbrev pub message_counts : List ℕ → List (List ℕ × ℕ)
message_counts ns =
    named (codes "OPEN") ns 0 ∷ named (codes "BLOCK") ns 1 ∷ named (codes "MARK") ns 2
    ∷ named (codes "BEXT") ns 3 ∷ named (codes "CLOSE") ns 4 ∷ named (codes "ASK") ns 5 ∷ []

-- verdicts by their names
abbrev pub verdict_counts : List ℕ → List (List ℕ × ℕ)
verdict_counts ns =
    named (codes "Stored") ns 0 ∷ named (codes "NameTaken") ns 1
    ∷ named (codes "AlreadyOpen") ns 2 ∷ named (codes "NotOpen") ns 3
    ∷ named (codes "Closed") ns 4 ∷ named (codes "BadFormat") ns 5
    ∷ named (codes "BadBlock") ns 6 ∷ named (codes "BadMarker") ns 7
    ∷ named (codes "DuplicateMarker") ns 8 ∷ named (codes "TooManyMarkers") ns 9
    ∷ named (codes "BadField") ns 10 ∷ named (codes "WrongTotal") ns 11 ∷ []

-- notices by their names; no notice has the code 38
abbrev pub notice_counts : List ℕ → List (List ℕ × ℕ)
notice_counts ns =
    named (codes "Held") ns 0 ∷ named (codes "TooFar") ns 1 ∷ named (codes "Conflict") ns 2
    ∷ named (codes "TableFull") ns 3 ∷ named (codes "NoRoom") ns 4
    ∷ named (codes "DelayedStore") ns 5 ∷ named (codes "Next") ns 7 ∷ []
