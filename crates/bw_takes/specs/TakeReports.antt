-- What is reported of the takes of a folder.
use Rattle.std.specs.Prelude.{◌≡◌, ℕ, Bool, true, false, ◌&&◌, Option, Some, None, List, [], ◌++◌, map}
use Rattle.std.specs.Prelude.{fold}
use Rattle.std.specs.Prelude.{codes}
use Rattle.serde_json.specs.Written.{compact_text}
use Rattle.bw_console.specs.Text.{as_line}
use Rattle.bw_journal.specs.Rows.{row_count}
use Rattle.bw_takes.specs.declared.listing.LineStyle.{LineStyle}
use Rattle.bw_takes.specs.declared.listing.ReportForm.{ReportForm}
use Rattle.bw_takes.specs.declared.listing.TakesReport.{TakesReport}
use Rattle.bw_takes.specs.declared.listing.LineStyle.TheVariants.{Words, Json}
use Rattle.bw_recovery.specs.Causes.{journal_text, file_cause_text}
use Rattle.bw_recovery.specs.Paths.{wave_path, notes_path}
use Rattle.bw_recovery.specs.declared.finding.NameFault.{NameFault as Fault}
use Rattle.bw_recovery.specs.declared.finding.NameFault.TheVariants.{Journal, OtherLimit, File}
use Rattle.bw_takes.specs.TakeLines.{next_line, numbered_line, opened_line, state_word, word_line}
use Rattle.bw_takes.specs.TakeNames.{ListsTakes, AreNamesInOrder}
use Rattle.bw_takes.specs.TakeObjects.{summary_with_digest}
use Rattle.bw_takes.specs.JudgedTakes.{JudgedTake, Lone, Blank, Wrong, Noted, Altered, judged_take}
use Rattle.bw_takes.specs.TakeDigests.{closed_judged, digest_said}
use Rattle.bw_takes.specs.TakeSummaries.{TakeSummary, Stands, Unopened, Opened, Faulty, Changed}
use Rattle.bw_takes.specs.TakeSummaries.{is_sound_summary, summary_of}
use Rattle.bw_takes.specs.declared.comparing.Depth.{Depth}
use Rattle.bw_takes.specs.declared.comparing.Depth.TheVariants.{Journals, Samples}
use Rattle.bw_takes.specs.UnreadEntries.{entry_path, unread_text}
use Rattle.bw_takes.specs.declared.finding.TakeFinding.{TakeFinding}
use Rattle.bw_takes.specs.declared.finding.TakeFinding.TheVariants.{Stood, Unbegun, Refused, Begun}
use Rattle.bw_takes.specs.declared.finding.TakeFinding.TheVariants.{Changed as HasChanged}
use Rattle.bw_takes.specs.declared.hashing.SampleDigest.{SampleDigest}
use Rattle.bw_takes.specs.declared.unread.TakeEntry.{TakeEntry}

-- a cause in one word
abbrev pub cause_word : Fault → List ℕ
cause_word (Journal fault) = journal_text fault
cause_word (OtherLimit limit) = codes "OtherLimit"
cause_word (File fault) = file_cause_text fault

-- what a take is judged to be of which this is found
abbrev pub judged_finding : TakeFinding → JudgedTake
judged_finding Stood = Lone
judged_finding Unbegun = Blank
judged_finding (Refused cause) = Wrong (cause_word cause)
judged_finding (Begun r) = Noted r.state.parts (row_count r.table.items)
judged_finding (HasChanged number) = Altered number

-- what is reported of it
abbrev pub finding_summary : TakeFinding → TakeSummary
finding_summary found = summary_of (judged_finding found)

-- its line of words, with what is said of its samples' digest
abbrev pub summary_line : List ℕ → TakeSummary → SampleDigest → List ℕ
summary_line name (Stands next) digest = next_line name (codes "stood") next
summary_line name (Unopened next) digest = next_line name (codes "unopened") next
summary_line name (Opened closed count rate next) digest =
    opened_line name (state_word closed) count rate next digest
summary_line name (Faulty cause) digest = word_line name cause
summary_line name (Changed number) digest = numbered_line name (codes "ChangedBlock") number

-- its line in this style
abbrev pub styled_line : LineStyle → List ℕ → TakeSummary → SampleDigest → List ℕ
styled_line Words name summary digest = summary_line name summary digest
styled_line Json name summary digest = as_line (compact_text (summary_with_digest name summary digest))

-- whether samples are compared
abbrev pub is_deep : Depth → Bool
is_deep Journals = false
is_deep Samples = true

-- what a take in a folder is judged to be
abbrev pub take_judged_in : Depth → List ℕ → (List ℕ → Option (List ℕ)) → List ℕ →
    JudgedTake
take_judged_in depth folder contents name = judged_take (is_deep depth) name
    (contents (notes_path folder name)) (contents (wave_path folder name))

-- what is reported of it
abbrev pub summary_in : Depth → List ℕ → (List ℕ → Option (List ℕ)) → List ℕ → TakeSummary
summary_in depth folder contents name = summary_of (take_judged_in depth folder contents name)

-- what is said of the digest of its samples
abbrev pub digest_in : ReportForm → List ℕ → (List ℕ → Option (List ℕ)) → List ℕ →
    SampleDigest
digest_in form folder contents name = digest_said form.digest
    (closed_judged (take_judged_in form.depth folder contents name)) (contents (wave_path folder name))

-- its line
abbrev pub line_in : ReportForm → List ℕ → (List ℕ → Option (List ℕ)) → List ℕ → List ℕ
line_in form folder contents name = styled_line form.style name
    (summary_in form.depth folder contents name) (digest_in form folder contents name)

-- nothing is wrong with it
abbrev pub is_sound_in : Depth → List ℕ → (List ℕ → Option (List ℕ)) → List ℕ → Bool
is_sound_in depth folder contents name = is_sound_summary (summary_in depth folder contents name)

-- what is reported of takes: a line for each that can be read, one for each file that can't, and whether
-- nothing is wrong with any that can
pub record Told : Type 0 where
  pub lines : List ℕ
  pub unread : List ℕ
  pub sound : Bool

-- what a report says
abbrev pub told_by : TakesReport → Told
told_by r = record { lines = r.lines.items; unread = r.unread.items; sound = r.sound }

-- nothing yet
abbrev pub nothing_told : Told
nothing_told = record { lines = []; unread = []; sound = true }

-- what is reported after one more take, of which a file may be one that can't be read
abbrev pub told_after : ReportForm → List ℕ → (List ℕ → Option (List ℕ)) → Told →
    List ℕ × Option TakeEntry → Told
told_after form folder contents told (name, None) = record {
  lines = told.lines ++ line_in form folder contents name;
  unread = told.unread;
  sound = told.sound && is_sound_in form.depth folder contents name;
}
told_after form folder contents told (name, Some entry) = record {
  lines = told.lines;
  unread = told.unread ++ unread_text (entry_path entry folder name);
  sound = told.sound;
}

-- one more take is reported
abbrev pub TellsTake : ReportForm → List ℕ → (List ℕ → Option (List ℕ)) → List ℕ →
    Told → Told →
    Type 0
TellsTake form folder contents name before after = (unread : Option TakeEntry)
    × (after ≡ told_after form folder contents before (name, unread))

-- the line on a file of a take is added
abbrev pub TellsUnreadEntry : List ℕ → List ℕ → List ℕ → List ℕ → Type 0
TellsUnreadEntry folder name before after =
    (entry : TakeEntry) × (after ≡ before ++ unread_text (entry_path entry folder name))

-- This is reported of the takes of a folder, in the order of their names' bytes.
pub record ReportsTakes (form : ReportForm) (folder : List ℕ)
    (contents : List ℕ → Option (List ℕ)) (told : Told) : Type 0 where
  pub takes : List (List ℕ × Option TakeEntry)
  pub ordered : AreNamesInOrder (map (λ take. take.0) takes)
  pub lists : ListsTakes folder contents (map (λ take. take.0) takes)
  pub tells : told ≡ fold (told_after form folder contents) nothing_told takes
