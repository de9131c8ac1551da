-- What recovery makes of a name that a stop left, in the words of its log.
use Rattle.std.specs.Prelude.{◌≡◌, ℕ, ◌<◌, ◌^◌, Option, Some, IfSome, is_some, List}
use Rattle.bw_model.specs.Book.{Log, made}
use Rattle.bw_journal.specs.JournalHeaders.{header_bytes}
use Rattle.bw_journal.specs.Notes.{IsPrefixOf}
use Rattle.bw_journal.specs.NotedJournals.{AdmitsDone, journal_of, story_of_log}
use Rattle.bw_journal.specs.Stories.{story_of}
use Rattle.bw_recovery.specs.Left.{wanted_file}
use Rattle.bw_recovery.specs.LeftNames.{header_beside, IsLeftName}
use Rattle.bw_session.specs.declared.kept_take.KeptTake.{KeptTake}
use Rattle.bw_kept.specs.Recoveries.{makes_file, Recovers, opened_story}
use Rattle.bw_kept.specs.declared.recovery.Recovered.{Recovered}
use Rattle.bw_kept.specs.declared.recovery.Recovered.TheVariants.{New, LeftOut, Kept}

-- A name with done numbers is kept: its story is that of its log, and its journal has these alone.
pub record IsKeptLog (limit : ℕ) (first : Option (List ℕ)) (name : List ℕ) (log : Log) (k : KeptTake)
    (journal : Option (List ℕ)) : Type 0 where
  pub done : 0 < log.done
  pub named : k.name ≡ name
  pub story : story_of k.replayed ≡ story_of_log (header_beside limit first) name log
  pub made_file : k.made ≡ makes_file (story_of k.replayed).parts
  pub notes : journal ≡ Some (journal_of (header_beside limit first) name log)

-- any other is new: its journal has no more than its header
pub record IsNewLog (limit : ℕ) (first : Option (List ℕ)) (name : List ℕ) (log : Log)
    (journal : Option (List ℕ)) : Type 0 where
  pub none : log.done ≡ 0
  pub notes : IsPrefixOf (header_bytes name (header_beside limit first)) journal

-- this is made of a name with this log, and none is left out
abbrev pub MadeOfLog : ℕ → Option (List ℕ) → List ℕ → Log → Recovered → Option (List ℕ) →
    Type 0
MadeOfLog limit first name log New journal = IsNewLog limit first name log journal
MadeOfLog limit first name log (LeftOut cause) journal = ⊥
MadeOfLog limit first name log (Kept k) journal = IsKeptLog limit first name log k journal

-- A name is recovered: its file is that of its log, and a journal that is open says whether a file
-- was there at first.
pub record IsRecoveredLog (limit : ℕ) (first : Option (List ℕ)) (name : List ℕ) (log : Log)
    (journal : Option (List ℕ)) (r : Recovered)
    (later_journal later_file : Option (List ℕ)) : Type 0 where
  pub made_of : MadeOfLog limit first name log r later_journal
  pub file : later_file ≡ wanted_file first (made (is_some first) log.admitted log.done) limit
  pub existed : IfSome (opened_story limit name journal r) (λ s. s.parts.taken ≡ is_some first)

-- this holds of every name that a stop leaves, and of every limit of four bytes
abbrev pub LeftNamesAreRecovered : Type 0
LeftNamesAreRecovered = (limit : ℕ) (first : Option (List ℕ)) (name : List ℕ) (log : Log)
    (journal file : Option (List ℕ)) (r : Recovered) (later_journal later_file : Option (List ℕ)) →
    limit < 2 ^ 32 → AdmitsDone log → IsLeftName limit first name log journal file →
    Recovers limit name journal file r later_journal later_file →
    IsRecoveredLog limit first name log journal r later_journal later_file
