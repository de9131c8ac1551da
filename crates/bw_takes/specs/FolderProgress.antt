-- How far the takes of a folder are, as a reading of their journals shows it.
use Rattle.std.specs.Prelude.{◌≡◌, ℕ, List, map, codes, Option, IsTrue}
use Rattle.std.specs.List.{All}
use Rattle.bw_disk.specs.DiskSteps.{StaysWhole}
use Rattle.bw_disk.specs.declared.disk.Disk.{Ghosts}
use Rattle.bw_disk.specs.declared.reading.ReadFault.{ReadFault}
use Rattle.bw_takes.specs.TakeLines.{state_word}
use Rattle.bw_takes.specs.TakeNames.{ListsTakes, AreNamesInOrder}
use Rattle.bw_takes.specs.ReadCounts.{CountsFault}
use Rattle.bw_takes.specs.TakeReports.{cause_word, summary_in}
use Rattle.bw_takes.specs.TakeSummaries.{TakeSummary, Stands, Unopened, Opened, Faulty, Changed}
use Rattle.bw_takes.specs.declared.comparing.Depth.TheVariants.{Journals}
use Rattle.bw_takes.specs.declared.progress.ProgressState.{ProgressState}
use Rattle.bw_takes.specs.declared.progress.ProgressState.TheVariants as states
use Rattle.bw_takes.specs.declared.progress.TakeProgress.{TakeProgress}

-- the word for a state: the same as in the line of the take
abbrev pub progress_word : ProgressState → List ℕ
progress_word states.Open = codes "open"
progress_word states.Closed = codes "closed"
progress_word states.Unopened = codes "unopened"
progress_word states.Stood = codes "stood"
progress_word (states.Faulty fault) = cause_word fault
progress_word states.Changed = codes "ChangedBlock"

-- the word for the state of a take of which this is reported
abbrev pub summary_word : TakeSummary → List ℕ
summary_word (Stands next) = codes "stood"
summary_word (Unopened next) = codes "unopened"
summary_word (Opened closed count rate next) = state_word closed
summary_word (Faulty cause) = cause
summary_word (Changed number) = codes "ChangedBlock"

-- its whole frames, or none
abbrev pub summary_frames : TakeSummary → ℕ
summary_frames (Opened closed count rate next) = count
summary_frames _ = 0

-- their rate; 0 where there are none
abbrev pub summary_rate : TakeSummary → ℕ
summary_rate (Opened closed count rate next) = rate
summary_rate _ = 0

-- how many of its numbers are done
abbrev pub summary_next : TakeSummary → ℕ
summary_next (Stands next) = next
summary_next (Unopened next) = next
summary_next (Opened closed count rate next) = next
summary_next (Faulty cause) = 0
summary_next (Changed number) = 0

-- a take is as far as is reported of it
pub record ShowsSummary (summary : TakeSummary) (take : TakeProgress) : Type 0 where
  pub word : progress_word take.state ≡ summary_word summary
  pub frames : take.frames ≡ summary_frames summary
  pub rate : take.rate ≡ summary_rate summary
  pub next : take.next ≡ summary_next summary

-- These are the takes of a folder, in the order of their names' bytes, each as far as `takes` reports
-- of it without its samples.
pub record AreTakesOf (folder : List ℕ) (contents : List ℕ → Option (List ℕ))
    (takes : List TakeProgress) : Type 0 where
  pub ordered : AreNamesInOrder (map (λ take. take.name) takes)
  pub lists : ListsTakes folder contents (map (λ take. take.name) takes)
  pub each : All (λ take. ShowsSummary (summary_in Journals folder contents take.name) take) takes

-- a disk is read, of which no call fails, and stays as it is: these are its folder's takes
pub record ReadsFolder {D F : Type 0} (G : Ghosts D F) (d : D) (folder : List ℕ)
    (takes : List TakeProgress) (d' : D) : Type 0 where
  pub disk : StaysWhole G d d'
  pub quiet : G.failures d' ≡ G.failures d
  pub are : IsTrue (G.honest d) → AreTakesOf folder (G.contents d) takes

-- the same as what a reader of a disk may read
abbrev pub reads_folder : {D F : Type 0} → Ghosts D F → D → List ℕ → List TakeProgress → D →
    Type 0
reads_folder G d folder takes d' = ReadsFolder G d folder takes d'

-- a disk that can't be read stays as it is, and counts what failed
pub record FailsFolder {D F : Type 0} (G : Ghosts D F) (d : D) (fault : ReadFault) (d' : D) : Type 0 where
  pub disk : StaysWhole G d d'
  pub counted : CountsFault (G.failures d) (G.failures d') fault

-- the same as how a reader of a disk may fail
abbrev pub fails_folder : {D F : Type 0} → Ghosts D F → D → List ℕ → ReadFault → D → Type 0
fails_folder G d folder fault d' = FailsFolder G d fault d'
