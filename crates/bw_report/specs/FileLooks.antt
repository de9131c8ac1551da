-- What is done for files, one after another.
use Rattle.std.specs.Prelude.{◌≡◌, ◌⊎◌, ℕ, Bool, true, false, List, [], ◌∷◌, ◌++◌, map, fold, All}
use Rattle.std.specs.Prelude.{Option, Some, Err, nat_lt}
use Rattle.std.specs.declared.io.ErrorKind.{ErrorKind}
use Rattle.bw_ports.specs.declared.recording_files.FileStamp.{FileStamp}
use Rattle.bw_stream.specs.Readers.{Of}
use Rattle.bw_stream.specs.declared.sink.Sink.{Ghosts as Writer}
use Rattle.bw_commands.specs.Inspections.{IsPrintOfText}
use Rattle.bw_console.specs.Faults.{exit_on, input_fault_text}
use Rattle.bw_console.specs.FailedOpenings.{IsUnopened}
use Rattle.bw_console.specs.Outcomes.{IsOutOfMemory, Outcome}
use Rattle.bw_console.specs.Prints.{IsOf, IsPrint, Nothing, Print, Whole, failures_if}
use Rattle.bw_console.specs.Text.{as_line}
use Rattle.bw_console.specs.declared.exit.Exit.{Exit}
use Rattle.bw_console.specs.declared.exit.Exit.TheVariants.{Done}
use Rattle.bw_console.specs.declared.fault.Fault.{Fault}
use Rattle.bw_report.specs.Entries.{entry_text}
use Rattle.bw_report.specs.FileFindings.{IsFoundInBytes, exit_of_found, worse}
use Rattle.bw_report.specs.declared.entry.Style.{Style}
use Rattle.bw_report.specs.declared.entry.Style.TheVariants.{Plain, Human, Json}
use Rattle.bw_report.specs.declared.entry.Wanted.{Wanted}
use Rattle.bw_report.specs.declared.found.Found.{Found}
use Rattle.bw_report.specs.declared.found.Found.TheVariants.{Read, Faulty, Unopened}

-- one file was looked at: what was found at its path, whether it was opened, and what was reported
-- of that
pub record Look : Type 0 where
  pub path : List ℕ
  pub found : Found
  pub is_opened : Bool
  pub reported : Print

-- the file can't be opened, which is reported
abbrev pub IsReportedUnopened : List ℕ → Outcome → Type 0
IsReportedUnopened path did = ((kind : ErrorKind) × IsUnopened path kind did) ⊎ IsOutOfMemory did

-- whether a file was opened, and what was reported, by what was found
abbrev pub IsOpening : Found → Look → Type 0
IsOpening (Read r digest contents) l = (l.is_opened ≡ true) × (l.reported ≡ Nothing)
IsOpening (Faulty f) l = (l.is_opened ≡ true) × (l.reported ≡ Nothing)
IsOpening (Unopened exit) l = (l.is_opened ≡ false) × ((did : Outcome) × ((did.exit ≡ exit)
    × ((did.faults ≡ l.reported) × IsReportedUnopened l.path did)))

-- what is reported of the files at paths: their bytes and their stamps
pub record FilesThere : Type 0 where
  pub bytes_at : List ℕ → Option (List ℕ)
  pub stamp_at : List ℕ → Option FileStamp

abbrev pub files_there : (List ℕ → Option (List ℕ)) → (List ℕ → Option FileStamp) → FilesThere
files_there bytes_at stamp_at = record { bytes_at = bytes_at; stamp_at = stamp_at }

-- whether what chunks say is printed
abbrev pub shows_contents : Style → Bool
shows_contents Plain = false
shows_contents Human = true
shows_contents Json = true

-- chunks are read if that is printed, of a file that has a length, unlike a pipe
abbrev pub AreChunksRead : Bool → Option FileStamp → Bool → Type 0
AreChunksRead false stamp read = read ≡ false
AreChunksRead true stamp read = (s : FileStamp) → stamp ≡ Some s → read ≡ nat_lt 0 s.len

-- the look is right, where the paths have these bytes, digests are asked for or not, and chunks are
-- read or not
pub record IsLookIn (bytes_at : List ℕ → Option (List ℕ)) (digest read : Bool) (l : Look) : Type 0 where
  pub right : Of (bytes_at l.path) (λ b. IsFoundInBytes b digest read l.found)
  pub opening : IsOpening l.found l

-- .. where the paths have these files, and this is wanted
pub record IsLookAt (there : FilesThere) (wanted : Wanted) (l : Look) : Type 0 where
  pub read : Bool
  pub reads : AreChunksRead (shows_contents wanted.style) (there.stamp_at l.path) read
  pub is : IsLookIn there.bytes_at wanted.digest read l

-- these were printed, one after another
abbrev pub ArePrints : {S : Type 0} → Writer S → List Print → S → S → Type 0
ArePrints w [] old new = new ≡ old
ArePrints {S} w (p ∷ ps) old new = (mid : S) × (IsPrint w p old mid × ArePrints w ps mid new)

-- the system's failures after these looks
abbrev pub failures_after_looks : List Look → ℕ → ℕ
failures_after_looks looks n = fold (λ m l. failures_if l.is_opened m) n looks

-- how a command ends by these looks: as the one of the highest status
abbrev pub worst : List Look → Exit
worst looks = fold (λ exit l. worse exit (exit_of_found l.found)) Done looks

-- the entry of a look
abbrev pub look_entry : Wanted → Look → List ℕ
look_entry wanted l = entry_text wanted.style wanted.named l.path l.found

-- this was found at a path and reported by a look of this kind, and the system's failures are these
pub record IsFoundByLook {E : Type 0} (reported : Writer E) (is_look : Look → Type 0) (path : List ℕ)
    (found : Found) (n n' : ℕ) (e e' : E) : Type 0 where
  pub look : Look
  pub at : look.path ≡ path
  pub has : look.found ≡ found
  pub is : is_look look
  pub failures : n' ≡ failures_if look.is_opened n
  pub reports : IsPrint reported look.reported e e'

module _ {W E : Type 0} (out : Writer W) (reported : Writer E) where
  -- each file was looked at, and its entry printed
  pub record IsShown (there : FilesThere) (paths : List (List ℕ)) (wanted : Wanted) (exit : Exit)
      (n n' : ℕ) (o o' : W) (e e' : E) : Type 0 where
    pub looks : List Look
    pub at : map (λ l. l.path) looks ≡ paths
    pub are : All (IsLookAt there wanted) looks
    pub ends : exit ≡ worst looks
    pub failures : n' ≡ failures_after_looks looks n
    pub prints : ArePrints out (map (λ l. Whole (look_entry wanted l)) looks) o o'
    pub reports : ArePrints reported (map (λ l. l.reported) looks) e e'

  -- an entry wasn't made or printed, for a fault that was reported, and no later file was looked at
  pub record IsStoppedEarly (there : FilesThere) (paths : List (List ℕ)) (wanted : Wanted)
      (exit : Exit) (n n' : ℕ) (o o' : W) (e e' : E) : Type 0 where
    pub looks : List Look
    pub last : Look
    pub later : List (List ℕ)
    pub at : map (λ l. l.path) (looks ++ last ∷ []) ++ later ≡ paths
    pub are : All (IsLookAt there wanted) (looks ++ last ∷ [])
    pub fault : Fault
    pub ends : exit ≡ worse (worst (looks ++ last ∷ [])) (exit_on fault)
    pub failures : n' ≡ failures_after_looks (looks ++ last ∷ []) n
    pub part : Print
    pub part_is : IsPrintOfText (look_entry wanted last) (Err fault) part
    pub prints : ArePrints out (map (λ l. Whole (look_entry wanted l)) looks ++ part ∷ []) o o'
    pub line : Print
    pub line_is : IsOf (as_line (input_fault_text fault)) line
    pub reports : ArePrints reported (map (λ l. l.reported) (looks ++ last ∷ []) ++ line ∷ []) e e'

  -- the files at these paths were inspected
  abbrev pub AreInspected : FilesThere → List (List ℕ) → Wanted → Exit →
      ℕ → ℕ → W → W → E → E → Type 0
  AreInspected there paths wanted exit n n' o o' e e' =
      IsShown there paths wanted exit n n' o o' e e'
      ⊎ IsStoppedEarly there paths wanted exit n n' o o' e e'
