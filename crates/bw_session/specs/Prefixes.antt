-- What a server keeps of a name whose next number is to be done.
use Rattle.std.specs.Prelude.{◌≡◌, ℕ, true, false, IsTrue, Option, Some, None, is_some, List}
use Rattle.std.specs.Prelude.{Result, MatchResult}
use Rattle.bw_model.specs.Bytes.{at}
use Rattle.bw_model.specs.Take.{Take, Parts, Request, Verdict, verdict, after}
use Rattle.bw_model.specs.File.{file_of}
use Rattle.bw_model.specs.Book.{Log, made}
use Rattle.bw_model.specs.VerdictMeanings.{verdict_meaning}
use Rattle.bw_model.specs.declared.verdict.Verdict.{Verdict as Judgement}
use Rattle.bw_file.specs.GrowingFiles.{Growing}
use Rattle.bw_store.specs.declared.store.StoreFault.{StoreFault}
use Rattle.bw_session.specs.RequestWrites.{HasOwnFile, HasWholeFile}
use Rattle.bw_session.specs.DoneNumbers.{KeepsDone}

-- the take that a log's done numbers make, under a name with these contents at the start
abbrev pub take_done : Option (List ℕ) → Log → Take
take_done first log = made (is_some first) log.admitted log.done

-- What an honest store has while this request waits: of a name that existed what was there, else
-- the take's file, or what an earlier try may have left.
abbrev pub FileStands : Option (List ℕ) → Take → Request → Growing → Option (List ℕ) → Type 0
FileStands None t waits g found = HasOwnFile t waits g found
FileStands (Some bytes) t waits g found =
    (found ≡ Some bytes) × (g.made ≡ false) × (g.ahead ≡ false)

-- once it is done: what was there, else the take's file
abbrev pub FileFollows : Option (List ℕ) → Take → Growing → Option (List ℕ) → Type 0
FileFollows None t g found = HasWholeFile t g found
FileFollows (Some bytes) t g found =
    (found ≡ Some bytes) × (g.made ≡ false) × (g.ahead ≡ false)

-- A store has the file of the take with the request that waits.
pub record HasNextRequest (log : Log) (g : Growing) (found : Option (List ℕ)) : Type 0 where
  pub request : Request
  pub waits : at log.admitted log.done ≡ Some request
  pub dirty : g.dirty ≡ true
  pub file : found ≡ file_of (after (take_done None log) request) g.limit

-- A file that is ahead has the request that waits; the file of a name that existed never is.
abbrev pub StandsAhead : Option (List ℕ) → Log → Growing → Option (List ℕ) → Type 0
StandsAhead None log g found = IsTrue g.ahead → HasNextRequest log g found
StandsAhead (Some bytes) log g found = g.ahead ≡ false

-- State, table and file are those of the log's done numbers, and this request is the next.
pub record HoldsPrefix (first : Option (List ℕ)) (log : Log) (p : Parts)
    (finished : List (List ℕ × Verdict)) (r : Request) (g : Growing)
    (found : Option (List ℕ)) : Type 0 where
  pub memory : KeepsDone (is_some first) g.name log p finished
  pub file : FileStands first (take_done first log) r g found

-- The next request has its verdict, and the file is that of the take after it.
pub record Carried (first : Option (List ℕ)) (log : Log) (v : Verdict) (p : Parts)
    (finished : List (List ℕ × Verdict)) (r : Request) (g : Growing)
    (found : Option (List ℕ)) : Type 0 where
  pub verdict_is : v ≡ verdict (take_done first log) r
  pub memory : KeepsDone (is_some first) g.name log p finished
  pub file : FileFollows first (after (take_done first log) r) g found

-- It is carried out, or still waits.
abbrev pub CarriesPrefix : Result Judgement StoreFault → Option (List ℕ) → Log → Parts →
    List (List ℕ × Verdict) → Request → Growing → Option (List ℕ) → Type 0
CarriesPrefix answer first log p finished r g found =
    MatchResult answer
    (λ v. Carried first log (verdict_meaning v) p finished r g found)
    (λ _. HoldsPrefix first log p finished r g found)

-- For each log whose next number the request is, it is carried out, or still waits.
abbrev pub CarriesNext : Result Judgement StoreFault → Request → Parts → Parts → Growing →
    Growing → Option (List ℕ) → Option (List ℕ) → Type 0
CarriesNext answer r p q g g' before found =
    (first : Option (List ℕ)) (log : Log) (finished : List (List ℕ × Verdict)) →
    HoldsPrefix first log p finished r g before →
    CarriesPrefix answer first log q finished r g' found
