-- The recording of a file, of which the coding history isn't read.
use Rattle.std.proofs.Common.{◌≡◌, ℕ, List, [], Option, Some, None, Result, Ok, Err, refl, sym, ◌∙◌, ap}
use Rattle.std.specs.Prelude.{codes}
use Rattle.bw_model.specs.Bytes.{first_that_holds, unless}
use Rattle.bw_model.specs.Reading.{Entry, entry_of}
use Rattle.bw_model.specs.Report as report
use Rattle.bw_inspect.specs.Reports.{reported_by}
use Rattle.bw_inspect.specs.declared.report.Report.{Report}
use Rattle.bw_plan.specs.Notes.{FaultOf, notes_by}
use Rattle.bw_plan.specs.Recordings.{FaultAt, FileNotes, Options, Outline, extension_at, no_options, notes_of}
use Rattle.bw_plan.specs.Recordings.{outline_of}
use Rattle.bw_plan.specs.Recordings.{recording_faults, set_outline}
use Rattle.bw_plan.specs.declared.fault.RecordingFault.{RecordingFault}
use Rattle.bw_plan.proofs.Openings.{recorded_as, refused_as}
use Rattle.bw_plan.proofs.WholeRecordings.{outlines}
use Rattle.bw_recorder.specs.FileReports.{HasReport}
use Rattle.bw_recorder.specs.Openings.{IsFaultOf}
use Rattle.bw_recorder.proofs.OpeningSteps.{chunks_are, reads_so}
use Rattle.bw_picture.specs.Pictures.{HasRecording}

abbrev notes_with : List ℕ → List ℕ → report.Report → FileNotes
notes_with history extension r = record { report = r; extension = extension; history = history }

abbrev first_fault : FileNotes → Option FaultAt
first_fault n = first_that_holds (recording_faults no_options n)

-- where nothing is asked for, the history has no fault
same_faults : (r : report.Report) (extension h k : List ℕ) →
    first_fault (notes_with h extension r) ≡ first_fault (notes_with k extension r)
same_faults r extension h k = refl

outlined_again : (n m : FileNotes) → first_fault n ≡ first_fault m → (x : Outline) → outline_of no_options n ≡ Ok x →
    outline_of no_options m ≡ Ok (set_outline no_options m)
unfolding outline_of
outlined_again n m same x e =
    ap (λ (f : Option FaultAt). unless f (set_outline no_options m)) (sym same ∙ (outlines no_options n x e).free)

abbrev whole : Outline → Result Outline FaultAt
whole x = Ok x

no_fault : {x : Outline} {g : FaultAt} → whole x ≡ Err g → ⊥
no_fault e = cc

faulty_again : (n m : FileNotes) → first_fault n ≡ first_fault m → (g : FaultAt) → outline_of no_options n ≡ Err g →
    outline_of no_options m ≡ Err g
unfolding outline_of
faulty_again n m same g e = go (first_fault n) same e
  where
    go : (x : Option FaultAt) → x ≡ first_fault m → unless x (set_outline no_options n) ≡ Err g →
        unless (first_fault m) (set_outline no_options m) ≡ Err g
    go None q e = absurd (no_fault e)
    go (Some f) q e = ap (λ (z : Option FaultAt). unless z (set_outline no_options m)) (sym q) ∙ e

-- what is read is what the reading has, with its history
notes_are : (b : List ℕ) (r : Report) (extension : List ℕ) (h : HasReport b r) →
    extension ≡ extension_at b (entry_of (codes "fmt ") r.chunks) →
    notes_with (notes_of b h.1.reading_is.form h.1.reading_is.entries).history extension (reported_by r)
    ≡ notes_of b h.1.reading_is.form h.1.reading_is.entries
notes_are b r extension h is =
    let n : FileNotes = notes_of b h.1.reading_is.form h.1.reading_is.entries in
    let all : extension ≡ n.extension =
    is ∙ ap (λ (z : List Entry). extension_at b (entry_of (codes "fmt ") z)) (chunks_are b r h) in
    ap (notes_with n.history extension) h.1.reports
    ∙ ap (λ (z : List ℕ). notes_with n.history z n.report) all

-- a recording that is reported without its history
pub recorded : (b : List ℕ) (r : Report) (extension : List ℕ) (x : Outline) → HasReport b r →
    extension ≡ extension_at b (entry_of (codes "fmt ") r.chunks) →
    outline_of no_options (notes_by r extension []) ≡ Ok x → HasRecording b
recorded b r extension x h is made =
    let n : FileNotes = notes_of b h.1.reading_is.form h.1.reading_is.entries in
    let m : FileNotes = notes_with n.history extension (reported_by r) in
    let again = outlined_again (notes_by r extension []) m
    (same_faults (reported_by r) extension [] n.history) x made in (
      _,
      recorded_as b no_options h.1.reading_is.form h.1.reading_is.entries _ (reads_so b r h)
          (ap (outline_of no_options) (sym (notes_are b r extension h is)) ∙ again),
    )

-- .. and a fault
pub refused : (b : List ℕ) (r : Report) (extension : List ℕ) (f : RecordingFault) → HasReport b r →
    extension ≡ extension_at b (entry_of (codes "fmt ") r.chunks) →
    FaultOf no_options (notes_by r extension []) f → IsFaultOf b no_options f
refused b r extension f h is right = λ g same.
    let n : FileNotes = notes_of b h.1.reading_is.form h.1.reading_is.entries in
    let m : FileNotes = notes_with n.history extension (reported_by r) in
    refused_as b no_options h.1.reading_is.form h.1.reading_is.entries g (reads_so b r h)
    (ap (outline_of no_options) (sym (notes_are b r extension h is))
    ∙ faulty_again (notes_by r extension []) m (same_faults (reported_by r) extension [] n.history) g (right g same))

-- the same, by what the steps say
told_so : (r : Report) (o : Options) (extension got history : List ℕ) → o ≡ no_options → got ≡ extension →
    history ≡ [] → outline_of no_options (notes_by r extension []) ≡ outline_of o (notes_by r got history)
told_so r o extension got history none all empty =
    ap (λ (z : List ℕ). outline_of no_options (notes_by r extension z)) (sym empty)
    ∙ ap (λ (z : List ℕ). outline_of no_options (notes_by r z history)) (sym all)
    ∙ ap (λ (z : Options). outline_of z (notes_by r got history)) (sym none)

pub recorded_by : (b : List ℕ) (r : Report) (o : Options) (extension got history : List ℕ) (x : Outline)
    → HasReport b r →
    o ≡ no_options → got ≡ extension → history ≡ [] → extension ≡ extension_at b (entry_of (codes "fmt ") r.chunks) →
    outline_of o (notes_by r got history) ≡ Ok x → HasRecording b
recorded_by b r o extension got history x h none all empty is made =
    recorded b r extension x h is (told_so r o extension got history none all empty ∙ made)

pub refused_by : (b : List ℕ) (r : Report) (o : Options) (extension got history : List ℕ) (f : RecordingFault) →
    HasReport b r → o ≡ no_options → got ≡ extension → history ≡ [] →
    extension ≡ extension_at b (entry_of (codes "fmt ") r.chunks) → FaultOf o (notes_by r got history) f →
    IsFaultOf b no_options f
refused_by b r o extension got history f h none all empty is right =
    refused b r extension f h is (λ g same. told_so r o extension got history none all empty ∙ right g same)
