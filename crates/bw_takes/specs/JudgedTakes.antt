-- What a take is judged to be, by its journal and its file.
use Rattle.std.specs.Prelude.{ℕ, Bool, Option, Some, None, Result, Ok, Err, List, if◌then◌else◌}
use Rattle.bw_model.specs.Take.{Parts}
use Rattle.bw_journal.specs.Replays.{Story, JournalFault, replay}
use Rattle.bw_journal.specs.Rows.{row_count}
use Rattle.bw_recovery.specs.Names.{NameFault, name_fault}
use Rattle.bw_take_files.specs.TakeSamples.{changed_in}
use Rattle.bw_takes.specs.TakeLines.{own_limit, take_fault_text}

-- What a take is judged to be.
pub data JudgedTake : Type 0 where
  -- it has no journal: only a file of its name is there
  Lone : JudgedTake
  -- its journal isn't begun
  Blank : JudgedTake
  -- this is wrong with its journal or its file
  Wrong : List ℕ → JudgedTake
  -- nothing is wrong: its journal says this of it, and so many numbers are done
  Noted : Parts → ℕ → JudgedTake
  -- the samples of this number aren't those that the journal has the digest of
  Altered : ℕ → JudgedTake

-- a take whose journal says this, unless samples of a number are others
abbrev pub noted_unless : Option ℕ → Parts → ℕ → JudgedTake
noted_unless None p next = Noted p next
noted_unless (Some number) p next = Altered number

-- a take whose journal says this, with which this is wrong, and whose samples of this number are
-- others
abbrev pub take_judged_by : Result Story JournalFault → Option NameFault → Option ℕ → JudgedTake
take_judged_by reported (Some fault) changed = Wrong (take_fault_text fault)
take_judged_by (Ok s) None changed = noted_unless changed s.parts (row_count s.table)
take_judged_by (Err f) None changed = Blank

-- the first number whose samples aren't in the file of a take, by its journal, if it has one
abbrev pub changed_beside : List ℕ → Parts → Option (List ℕ) → Option (List ℕ) → Option ℕ
changed_beside name p None file = None
changed_beside name p (Some journal) file = changed_in name p journal file

-- the same by what the journal says
abbrev pub changed_by : List ℕ → List ℕ → Result Story JournalFault → Option (List ℕ) →
    Option ℕ
changed_by name journal (Err f) file = None
changed_by name journal (Ok s) file = changed_in name s.parts journal file

-- and where samples are compared
abbrev pub changed_if : Bool → List ℕ → List ℕ → Result Story JournalFault → Option (List ℕ) →
    Option ℕ
changed_if deep name journal reported file =
    if deep then changed_by name journal reported file else None

-- a take with this journal, if it has one, and this file; its samples are compared with the journal,
-- or not
abbrev pub judged_take : Bool → List ℕ → Option (List ℕ) → Option (List ℕ) → JudgedTake
judged_take deep name None file = Lone
judged_take deep name (Some journal) file = take_judged_by
    (replay (own_limit journal) name journal) (name_fault (own_limit journal) name journal file)
    (changed_if deep name journal (replay (own_limit journal) name journal) file)
