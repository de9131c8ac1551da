-- A recording from what is read of its file.
use Rattle.std.proofs.Common.{◌≡◌, ℕ, ◌+◌, List, [], ◌∷◌, Option, Some, None, Result, Ok, Err, refl, sym, ◌∙◌, ap, inl, inr, arith}
use Rattle.std.specs.Prelude.{◌≤◌, codes, length, fold, option_map, unwrap_or}
use Rattle.bw_model.specs.Reading as reading
use Rattle.bw_model.specs.Limits.{largest}
use Rattle.bw_model.specs.Reading.{Form, Entry, IsReading, IsFault, entry_of, read}
use Rattle.bw_model.specs.Report.{report_of}
use Rattle.bw_model.proofs.EndLaws.{reads}
use Rattle.bw_model.proofs.ReadingLaws.{readings_agree, faults_agree, no_fault}
use Rattle.bw_plan.specs.Recordings.{Setting, Field, History, Options, Outline, Recording, FaultAt, FileNotes, kind_unread}
use Rattle.bw_inspect.specs.OtherFormats.{other_format_of}
use Rattle.bw_plan.specs.Recordings.{recording_of, recorded, notes_of, outline_of, outline, with_setting, samples_of}
use Rattle.bw_plan.specs.Outside.{IsOutOfBytes, HasNoHistory}
use Rattle.bw_plan.proofs.WholeRecordings.{Stands, found_stands, outlines, chunks_of, data_there}

abbrev whole : Form × List Entry → Result (Form × List Entry) reading.Fault
whole z = Ok z

-- a reading is the one that reading finds
pub reads_as : (b : List ℕ) (form : Form) (es : List Entry) → IsReading b form es → read b ≡ Ok (form, es)
reads_as b form es r = go (read b) refl
  where
    go : (x : Result (Form × List Entry) reading.Fault) → read b ≡ x → read b ≡ Ok (form, es)
    go (Ok z) q =
        let same = readings_agree b z.0 form z.1 es ((reads b).reading z.0 z.1 q) r in
        q ∙ (ap (λ (f : Form). whole (f, z.1)) same.0 ∙ ap (λ (x : List Entry). whole (form, x)) same.1)
    go (Err f) q = absurd (no_fault b form es f r ((reads b).fault f q))

-- .. and so is a fault
pub faults_as : (b : List ℕ) (f : reading.Fault) → IsFault b f → read b ≡ Err f
faults_as b f h = go (read b) refl
  where
    go : (x : Result (Form × List Entry) reading.Fault) → read b ≡ x → read b ≡ Err f
    go (Ok z) q = absurd (no_fault b z.0 z.1 f ((reads b).reading z.0 z.1 q) h)
    go (Err g) q = q ∙ ap (λ (x : reading.Fault). Err x) (faults_agree b g f ((reads b).fault g q) h)

abbrev after_outline : List ℕ → Form → List Entry → Result Outline FaultAt → Result Recording FaultAt
after_outline b form es x = elim x [
  | Err fault ↦ Err fault
  | Ok r ↦ Ok (record { outline = r; samples = samples_of b (report_of b form es) })
]

abbrev after_reading : List ℕ → Options → Result (Form × List Entry) reading.Fault → Result Recording FaultAt
after_reading b o x = elim x [
  | Err fault ↦ Err (record { kind = kind_unread fault.kind (other_format_of b); offset = fault.offset })
  | Ok z ↦ recorded b o z.0 z.1
]

by_reading : (b : List ℕ) (o : Options) → recording_of b o ≡ after_reading b o (read b)
unfolding recording_of
by_reading b o = refl

pub unread_as : (b : List ℕ) (o : Options) (f : reading.Fault) → read b ≡ Err f →
    recording_of b o ≡ Err (record { kind = kind_unread f.kind (other_format_of b); offset = f.offset })
unread_as b o f q = by_reading b o ∙ ap (after_reading b o) q

pub recorded_as : (b : List ℕ) (o : Options) (form : Form) (es : List Entry) (r : Outline) → read b ≡ Ok (form, es) →
    outline_of o (notes_of b form es) ≡ Ok r →
    recording_of b o ≡ Ok (record { outline = r; samples = samples_of b (report_of b form es) })
recorded_as b o form es r q e = by_reading b o ∙ ap (after_reading b o) q ∙ ap (after_outline b form es) e

pub refused_as : (b : List ℕ) (o : Options) (form : Form) (es : List Entry) (f : FaultAt) → read b ≡ Ok (form, es) →
    outline_of o (notes_of b form es) ≡ Err f → recording_of b o ≡ Err f
refused_as b o form es f q e = by_reading b o ∙ ap (after_reading b o) q ∙ ap (after_outline b form es) e

-- settings change nothing of how many bytes of samples there are
setting_keeps_len : (r : Outline) (s : Setting) → (with_setting r s).samples_len ≡ r.samples_len
setting_keeps_len r (Field tag v) = refl
setting_keeps_len r (History v) = refl

settings_keep_len : (ss : List Setting) (r : Outline) → (fold with_setting r ss).samples_len ≡ r.samples_len
settings_keep_len [] r = refl
settings_keep_len (s ∷ ss) r = settings_keep_len ss (with_setting r s) ∙ setting_keeps_len r s

-- an outline has the length of the data that the report gives
pub samples_len_is : (b : List ℕ) (o : Options) (form : Form) (es : List Entry) (r : Outline) →
    outline_of o (notes_of b form es) ≡ Ok r → r.samples_len ≡ (report_of b form es).data_size
samples_len_is b o form es r e =
    let n : FileNotes = notes_of b form es in
    ap (λ (x : Outline). x.samples_len) (sym (outlines o n r e).is) ∙ settings_keep_len o.settings (outline n)

-- the samples of a recording are all there
pub samples_there : (b : List ℕ) (o : Options) (form : Form) (es : List Entry) (r : Outline) → read b ≡ Ok (form, es) →
    outline_of o (notes_of b form es) ≡ Ok r → r.samples_len ≡ length (samples_of b (report_of b form es))
samples_there b o form es r q e = samples_len_is b o form es r e ∙ sym (data_there b form es (chunks_of b form es q))

-- a chunk of a reading is in the bytes
pub not_outside : (b : List ℕ) (form : Form) (es : List Entry) (id : List ℕ) (e : Entry) → read b ≡ Ok (form, es) →
    form.size ≤ largest → entry_of id es ≡ Some e → IsOutOfBytes b e → ⊥
not_outside b form es id e q small found h =
    let s : Stands b form id e = found_stands b form id es e (chunks_of b form es q) found in
    let bytes = s.chunk.in_bytes in
    let ends = s.chunk.in_form in
    elim h [ inl short ↦ omega (arith, bytes, short) | inr far ↦ omega (arith, ends, small, far) ]

pub has_history : (b : List ℕ) (form : Form) (es : List Entry) (e : Entry) → read b ≡ Ok (form, es) →
    form.size ≤ largest → entry_of (codes "bext") es ≡ Some e → HasNoHistory b e → ⊥
has_history b form es e q small found h =
    let s : Stands b form (codes "bext") e = found_stands b form (codes "bext") es e (chunks_of b form es q) found in
    let large = s.chunk.bext s.named in
    elim h [ inl out ↦ not_outside b form es (codes "bext") e q small found out | inr short ↦ omega (arith, large, short) ]

-- the data that a report gives are in the bytes, and in the largest form
pub record DataEnd (b : List ℕ) (data_at data_size : ℕ) : Type 0 where
  pub in_bytes : data_at + data_size ≤ length b
  pub in_form : data_at + data_size ≤ largest + 8

pub data_end : (b : List ℕ) (form : Form) (es : List Entry) → read b ≡ Ok (form, es) → form.size ≤ largest →
    DataEnd b (report_of b form es).data_at (report_of b form es).data_size
unfolding report_of
data_end b form es q small = go (entry_of (codes "data") es) refl
  where
    go : (x : Option Entry) → entry_of (codes "data") es ≡ x →
        DataEnd b (unwrap_or (option_map (λ (e : Entry). e.place + 8) x) 0)
        (unwrap_or (option_map (λ (e : Entry). e.size) x) 0)
    go None h = record { in_bytes = omega arith; in_form = omega arith }
    go (Some e) h =
        let s : Stands b form (codes "data") e =
        found_stands b form (codes "data") es e (chunks_of b form es q) h in
        let ends = s.chunk.in_form in
        record { in_bytes = s.chunk.in_bytes; in_form = omega (arith, ends, small) }
