-- What the journal that a stop left of a name says.
use Rattle.std.proofs.Common.{◌≡◌, ℕ, ◌<◌, ◌^◌, List, Option, Ok, Err, sym, ◌∙◌, ap}
use Rattle.std.specs.Prelude.{Result}
use Rattle.bw_model.specs.Book.{Log}
use Rattle.bw_journal.specs.NotedJournals.{AdmitsDone, story_of_log}
use Rattle.bw_journal.specs.Replays.{Story, JournalFault, NotBegun, replay}
use Rattle.bw_journal.proofs.HeaderReads.{cut_headers_are_not_begun}
use Rattle.bw_journal.proofs.ReportLaws.{journals_report_logs}
use Rattle.bw_recovery.specs.LeftNames.{header_beside, IsLeftBegun, IsLeftTorn}

pub ok_no_err : {A : Type 0} (s : Story) (e : JournalFault) (r : Result Story JournalFault) → r ≡ Ok s → r ≡ Err e → A
ok_no_err s e r a b = absurd (apart (sym a ∙ b))
  where
    apart : Ok s ≡ Err e → ⊥
    apart x = cc

abbrev the_ok : Story → Result Story JournalFault
the_ok s = Ok s

pub same_story : (s t : Story) (r : Result Story JournalFault) → r ≡ Ok s → r ≡ Ok t → s ≡ t
same_story s t r a b = same (sym a ∙ b)
  where
    same : the_ok s ≡ the_ok t → s ≡ t
    same x = cc

-- what a journal that a stop left begun says
pub begun_story : (limit : ℕ) (first : Option (List ℕ)) (name : List ℕ) (log : Log) (journal : List ℕ)
    (file : Option (List ℕ)) → limit < 2 ^ 32 → AdmitsDone log → IsLeftBegun limit first name log journal file →
    replay limit name journal ≡ Ok (story_of_log (header_beside limit first) name log)
begun_story limit first name log journal file small whole left =
    ap (replay limit name) left.notes
    ∙ journals_report_logs (header_beside limit first) name log left.tail small whole left.cut

-- one that isn't begun says nothing
pub torn_story : (limit : ℕ) (first : Option (List ℕ)) (name : List ℕ) (log : Log) (journal : List ℕ) (file : Option (List ℕ)) →
    limit < 2 ^ 32 → IsLeftTorn limit first name log journal file → replay limit name journal ≡ Err NotBegun
torn_story limit first name log journal file small left =
    ap (replay limit name) left.notes
    ∙ cut_headers_are_not_begun name (header_beside limit first) left.count small left.short
