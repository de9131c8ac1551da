-- What reading a file returns.
use Rattle.std.specs.Prelude.{◌≡◌, ℕ, ◌+◌, ◌<◌, ◌≤◌, ◌⊎◌, IsTrue, List, length, drop, Option}
use Rattle.std.specs.Prelude.{Some, None}
use Rattle.bw_inspect.specs.ReaderCalls.{longest_end}
use Rattle.bw_model.specs.Limits.{largest, most_chunks, most_cues}
use Rattle.bw_model.specs.Bytes.{first_that_holds}
use Rattle.bw_model.specs.Reading as reading
use Rattle.bw_model.specs.Report as report
use Rattle.bw_inspect.specs.declared.fault.InspectFault.{InspectFault}
use Rattle.bw_inspect.specs.declared.report.Report.{Report}
use Rattle.bw_inspect.specs.declared.walk.Walk.{Walk}
use Rattle.bw_inspect.specs.Faults.{bytes_fault, is_memory, is_failed_read}
use Rattle.bw_inspect.specs.Known.{facts_of, facts_in}
use Rattle.bw_inspect.specs.Walks.{WantsChunk, seen_by}
use Rattle.bw_inspect.specs.Outers.{WantsDs64}
use Rattle.bw_inspect.specs.Reports.{reported_by, reserved_by, reserved_in}

-- this holds of all the bytes, if the walk knows what its chunks say
abbrev pub OnFacts : Walk → (List ℕ → Type 0) → Type 0
OnFacts w holds = (b : List ℕ) → facts_of w.known ≡ facts_in b (seen_by w) → holds b

-- the chunks have no fault at the form's end, and this is their report
pub record IsReported (b : List ℕ) (form : reading.Form) (seen : List reading.Entry)
    (r : Report) : Type 0 where
  pub reports : reported_by r ≡ report.report_of b form seen
  pub reserved : reserved_by r ≡ reserved_in b seen
  pub free : first_that_holds (reading.end_faults (reading.form_end form) seen) ≡ None

-- at most this much of all the bytes was read
pub record IsReadWithin (b : List ℕ) (most : ℕ) (left : Option (List ℕ)) : Type 0 where
  pub reached : ℕ
  pub within : reached ≤ most
  pub rest : left ≡ Some (drop reached b)

-- the bytes have a reading
pub record HasReading (b : List ℕ) : Type 0 where
  pub form : reading.Form
  pub entries : List reading.Entry
  pub reads : reading.IsReading b form entries

-- the bytes have a reading, and this is its report; no byte after the form was read
pub record GivesReport (b : List ℕ) (r : Report) (left : Option (List ℕ)) : Type 0 where
  pub reading_is : HasReading b
  pub reports : reported_by r ≡ report.report_of b reading_is.form reading_is.entries
  -- these are the reserved bytes of its `bext`
  pub reserved : reserved_by r ≡ reserved_in b reading_is.entries
  pub within : IsReadWithin b (reading.form_end reading_is.form) left
  pub small : reading_is.form.size ≤ largest

-- `ds64` is at this place, and it or an entry of it is to be listed
pub record ListsDs64 (b : List ℕ) (place reached : ℕ) : Type 0 where
  pub place_is : place ≡ 12
  pub wants : WantsDs64 b reached

-- a further chunk is at this place, and it or a point of it is to be listed
pub record ListsChunk (b : List ℕ) (place reached : ℕ) : Type 0 where
  pub form : reading.Form
  -- the chunks before it
  pub entries : List reading.Entry
  pub prefix : reading.IsPrefix b form entries
  pub place_is : place ≡ reading.next_place entries
  pub wants : WantsChunk b form entries reached

-- the next head is wanted here, one byte after the end of b: the pad byte of the last chunk is
-- absent
pub record IsPadAbsent (b : List ℕ) (reached : ℕ) : Type 0 where
  pub form : reading.Form
  -- the chunks before it
  pub entries : List reading.Entry
  pub prefix : reading.IsPrefix b form entries
  pub wanted : reached ≡ reading.next_place entries
  pub one : reached ≡ length b + 1

-- the bytes have this fault, or weren't read
pub record Refuses (b : List ℕ) (f : InspectFault) (left : Option (List ℕ)) : Type 0 where
  pub fault : (g : reading.Fault) → bytes_fault f ≡ Some g → reading.IsFault b g
  pub within : IsReadWithin b longest_end left
  -- no byte past the end of b, except the pad byte of its last chunk
  pub there : length b < within.reached → IsPadAbsent b within.reached
  -- a failed read is reported at the next byte that was wanted
  pub fails : IsTrue (is_failed_read f.kind) → f.offset ≡ within.reached
  -- lack of memory is reported at the place of a chunk without fault that is to be listed, or a
  -- part of it: `ds64` or a further one
  pub memory : IsTrue (is_memory f.kind) →
      ListsDs64 b f.offset within.reached ⊎ ListsChunk b f.offset within.reached

-- the lists are no longer than allowed, whatever the reader gave
pub record IsBounded (r : Report) : Type 0 where
  pub chunks : length r.chunks ≤ most_chunks
  pub cues : length r.cues ≤ most_cues
