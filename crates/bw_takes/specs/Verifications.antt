-- What is reported of takes that there are receipts of: of each that isn't as its receipt says, what is
-- wrong with it.
use Rattle.std.specs.Prelude.{◌≡◌, ◌==◌, ◌+◌, ◌++◌, ◌&&◌, ℕ, Bool, true, false, Option, Some, None, List, []}
use Rattle.std.specs.Prelude.{codes, decimal, fold, length, map, if◌then◌else◌}
use Rattle.std.specs.Str.{bytes_eq}
use Rattle.bw_take_files.specs.declared.receipts.receipt.Receipt.{Receipt}
use Rattle.bw_recovery.specs.Paths.{wave_path, notes_path}
use Rattle.bw_takes.specs.JudgedTakes.{JudgedTake, Lone, Blank, Wrong, Noted, Altered}
use Rattle.bw_takes.specs.TakeLines.{word_line}
use Rattle.bw_takes.specs.TakeReports.{Told, digest_in, take_judged_in}
use Rattle.bw_takes.specs.TakeSummaries.{TakeSummary, Stands, Unopened, Opened, Faulty, Changed}
use Rattle.bw_takes.specs.TakeSummaries.{story_summary}
use Rattle.bw_takes.specs.UnreadEntries.{entry_path, unread_text}
use Rattle.bw_takes.specs.declared.comparing.Depth.TheVariants.{Journals}
use Rattle.bw_takes.specs.declared.hashing.SampleDigest.{SampleDigest}
use Rattle.bw_takes.specs.declared.hashing.SampleDigest.TheVariants.{Unasked, Missing, Known}
use Rattle.bw_takes.specs.declared.listing.LineStyle.TheVariants.{Words}
use Rattle.bw_takes.specs.declared.listing.ReportForm.{ReportForm}
use Rattle.bw_takes.specs.declared.unread.TakeEntry.{TakeEntry}

-- samples of so many frames, with this digest, are those of a receipt
abbrev pub is_received : Receipt → ℕ → SampleDigest → Bool
is_received r count Unasked = false
is_received r count Missing = false
is_received r count (Known digest) = (count == r.frames) && bytes_eq digest r.digest

-- a closed take with these is as its receipt says, or it differs
abbrev pub wrong_closed : Receipt → ℕ → SampleDigest → Option (List ℕ)
wrong_closed r count digest = if is_received r count digest then None else Some (codes "differs")

-- the same of one that may be open
abbrev pub wrong_opened : Receipt → Bool → ℕ → SampleDigest → Option (List ℕ)
wrong_opened r closed count digest =
    if closed then wrong_closed r count digest else Some (codes "open")

-- what is wrong with a take by what is reported of it, in a word
abbrev pub wrong_summary : Receipt → TakeSummary → SampleDigest → Option (List ℕ)
wrong_summary r (Stands next) digest = Some (codes "stood")
wrong_summary r (Unopened next) digest = Some (codes "unopened")
wrong_summary r (Opened closed count rate next) digest = wrong_opened r closed count digest
wrong_summary r (Faulty cause) digest = Some cause
wrong_summary r (Changed number) digest = Some (codes "ChangedBlock")

-- a name without a journal: a file stands there, or nothing
abbrev pub lone_word : Option (List ℕ) → List ℕ
lone_word None = codes "missing"
lone_word (Some file) = codes "stood"

-- what is wrong with a take that is judged to be this, and has this file; none if it is closed, and its
-- samples are those of the receipt
abbrev pub wrong_judged : Receipt → JudgedTake → Option (List ℕ) → SampleDigest → Option (List ℕ)
wrong_judged r Lone file digest = Some (lone_word file)
wrong_judged r Blank file digest = Some (codes "unopened")
wrong_judged r (Wrong cause) file digest = Some cause
wrong_judged r (Noted p next) file digest = wrong_summary r (story_summary p next) digest
wrong_judged r (Altered number) file digest = Some (codes "ChangedBlock")

-- takes are looked at by their journals, and closed ones are hashed
abbrev pub verified_form : ReportForm
verified_form = record { style = Words; depth = Journals; digest = true }

-- the same of a take in a folder
abbrev pub wrong_in : List ℕ → (List ℕ → Option (List ℕ)) → Receipt → Option (List ℕ)
wrong_in folder contents r = wrong_judged r (take_judged_in Journals folder contents r.name)
    (contents (wave_path folder r.name)) (digest_in verified_form folder contents r.name)

-- what is reported of receipts so far, and how many takes were as theirs say
pub record Verified : Type 0 where
  pub lines : List ℕ
  pub unread : List ℕ
  pub matched : ℕ

abbrev pub nothing_verified : Verified
nothing_verified = record { lines = []; unread = []; matched = 0 }

-- after a take with which this is wrong, if something is
abbrev pub verified_word : Verified → List ℕ → Option (List ℕ) → Verified
verified_word v name None =
    record { lines = v.lines; unread = v.unread; matched = v.matched + 1 }
verified_word v name (Some word) =
    record { lines = v.lines ++ word_line name word; unread = v.unread; matched = v.matched }

-- after one more receipt, of whose take a file may be one that can't be read
abbrev pub verified_after : List ℕ → (List ℕ → Option (List ℕ)) → Verified →
    Receipt × Option TakeEntry → Verified
verified_after folder contents v (r, None) = verified_word v r.name (wrong_in folder contents r)
verified_after folder contents v (r, Some entry) = record {
  lines = v.lines;
  unread = v.unread ++ unread_text (entry_path entry folder r.name);
  matched = v.matched;
}

-- the last line: how many of so many takes are as their receipts say
unfoldable pub matched_line : ℕ → ℕ → List ℕ
matched_line matched all =
    codes "matched " ++ decimal matched ++ codes " of " ++ decimal all ++ codes "\n"

-- what is told in the end
abbrev pub verified_told : ℕ → Verified → Told
verified_told all v = record {
  lines = v.lines ++ matched_line v.matched all;
  unread = v.unread;
  sound = v.matched == all;
}

-- This is reported of the takes of a folder by these receipts, in their order.
pub record VerifiesTakes (receipts : List Receipt) (folder : List ℕ)
    (contents : List ℕ → Option (List ℕ)) (told : Told) : Type 0 where
  pub takes : List (Receipt × Option TakeEntry)
  pub of : map (λ take. take.0) takes ≡ receipts
  pub tells : told ≡ verified_told (length receipts)
      (fold (verified_after folder contents) nothing_verified takes)
