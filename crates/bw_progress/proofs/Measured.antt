-- The recording of a file, by what is read of it.
use Rattle.std.proofs.Common.{◌≡◌, ◌∙◌, ℕ, List, Ok, refl, sym, ap}
use Rattle.std.specs.Prelude.{codes}
use Rattle.bw_inspect.specs.declared.report.Report.{Report}
use Rattle.bw_model.specs.Reading.{Entry, entry_of}
use Rattle.bw_model.specs.Report as report
use Rattle.bw_model.specs.Report.{report_of}
use Rattle.bw_plan.proofs.Openings.{recorded_as}
use Rattle.bw_plan.specs.Notes.{notes_by}
use Rattle.bw_plan.specs.Recordings.{FileNotes, Options, Outline, extension_at, history_at, notes_of, outline_of}
use Rattle.bw_plan.specs.Recordings.{samples_of}
use Rattle.bw_progress.specs.Files.{HasOutline}
use Rattle.bw_recorder.proofs.OpeningSteps.{chunks_are, reads_so}
use Rattle.bw_recorder.specs.FileReports.{HasReport}

-- notes of these parts
abbrev notes_with : List ℕ → List ℕ → report.Report → FileNotes
notes_with extension history r = record { report = r; extension = extension; history = history }

-- what is read is what the reading has
notes_are : (b : List ℕ) (r : Report) (extension history : List ℕ) (h : HasReport b r) →
    extension ≡ extension_at b (entry_of (codes "fmt ") r.chunks) →
    history ≡ history_at b (entry_of (codes "bext") r.chunks) →
    notes_by r extension history ≡ notes_of b h.1.reading_is.form h.1.reading_is.entries
notes_are b r extension history h more says =
    let form = h.1.reading_is.form in
    let es : List Entry = h.1.reading_is.entries in
    let chunks : r.chunks ≡ es = chunks_are b r h in
    let e : extension ≡ extension_at b (entry_of (codes "fmt ") es) =
    more ∙ ap (λ (z : List Entry). extension_at b (entry_of (codes "fmt ") z)) chunks in
    let t : history ≡ history_at b (entry_of (codes "bext") es) =
    says ∙ ap (λ (z : List Entry). history_at b (entry_of (codes "bext") z)) chunks in
    ap (notes_with extension history) h.1.reports
    ∙ ap (λ (z : List ℕ). notes_with z history (report_of b form es)) e
    ∙ ap (λ (z : List ℕ). notes_with (extension_at b (entry_of (codes "fmt ") es)) z (report_of b form es)) t

pub measured : (b : List ℕ) (o : Options) (r : Report) (extension history : List ℕ) (outline : Outline) →
    HasReport b r → extension ≡ extension_at b (entry_of (codes "fmt ") r.chunks) →
    history ≡ history_at b (entry_of (codes "bext") r.chunks) →
    outline_of o (notes_by r extension history) ≡ Ok outline → HasOutline b o outline
measured b o r extension history outline h more says made =
    let form = h.1.reading_is.form in
    let es : List Entry = h.1.reading_is.entries in (
      record { outline = outline; samples = samples_of b (report_of b form es) },
      recorded_as b o form es outline (reads_so b r h)
          (ap (outline_of o) (sym (notes_are b r extension history h more says)) ∙ made),
      refl,
    )
