-- What is made, or isn't, of a recording that was read.
use Rattle.std.proofs.Common.{◌≡◌, ◌≢◌, ◌∙◌, ◌⊎◌, ℕ, ◌<◌, ◌≤◌, ◌^◌, false, true, List, [], ◌∷◌, Option, Some, length}
use Rattle.std.proofs.Common.{refl, sym, ap, subst, arith, inl, inr}
use Rattle.std.specs.Prelude.{IsTrue, codes}
use Rattle.std.specs.List.{filter}
use Rattle.bw_stream.specs.Readers.{Of}
use Rattle.bw_model.specs.Reading.{Entry}
use Rattle.bw_model.specs.Report as report
use Rattle.bw_model.specs.Report.{report_of}
use Rattle.bw_model.proofs.ReadingLaws.{readings_agree}
use Rattle.bw_disk.specs.declared.disk.Disk.{Ghosts}
use Rattle.bw_inspect.specs.Readings.{GivesReport}
use Rattle.bw_inspect.specs.declared.fault.InspectKind.{InspectKind}
use Rattle.bw_inspect.specs.declared.fault.InspectKind.TheVariants.{Memory}
use Rattle.bw_inspect.specs.declared.report.Report.{Report}
use Rattle.bw_store.specs.Stores.{overwritten}
use Rattle.bw_repair.specs.ChunkSections.{AreLeft, left_sections}
use Rattle.bw_repair.specs.ConvertFaults.{IsFaultOfFile, is_write_fault}
use Rattle.bw_repair.specs.Copies.{IsCopyFault}
use Rattle.bw_repair.specs.Forms.{unnamed}
use Rattle.bw_repair.specs.Keepings.{IsKeepRefusal, HasLeftFile, LeavesKeep, LeavesOfLeft, RefusesKeep}
use Rattle.bw_repair.specs.LeftOut.{fits_left, is_kept_chunk, left_file, left_size}
use Rattle.bw_repair.specs.Makings.{IsMakeFault, LeavesOut}
use Rattle.bw_repair.specs.Puttings.{IsPut, IsThere}
use Rattle.bw_repair.specs.ReadReports.{HasChunkReport, IsUnfit, IsNotRead, IsUnreadAt}
use Rattle.bw_repair.specs.SectionBytes.{assembled}
use Rattle.bw_repair.specs.declared.left_out.section.Section.{Section}
use Rattle.bw_repair.specs.declared.conversions.fault.ConvertError.{ConvertError}
use Rattle.bw_repair.specs.declared.conversions.fault.ConvertError.TheVariants.{Unopened, Refused}
use Rattle.bw_repair.specs.declared.conversions.fault.ConvertFault.{ConvertFault}
use Rattle.bw_repair.specs.declared.conversions.fault.ConvertKind.{ConvertKind}
use Rattle.bw_repair.specs.declared.conversions.fault.ConvertKind.TheVariants.{Unread, Riff, SameForm, TooLong, Exists, Unwritten}
use Rattle.bw_repair.proofs.Checked.{reported_id}
use Rattle.bw_repair.proofs.Converted.{unread_leaves}
use Rattle.bw_repair.proofs.LeftFiles.{left_are, left_length}
use Rattle.bw_repair.proofs.OutWrites.{written_first}

-- a report is that of a reading
pub has_report : (b : List ℕ) (r : Report) (left : Option (List ℕ)) → GivesReport b r left → HasChunkReport b r
unfolding report_of
has_report b r left gives = record {
  reading_is = gives.reading_is;
  form_is = reported_id b r left gives;
  chunks_are = ap (λ (x : report.Report). x.chunks) gives.reports;
  small = gives.small;
}

-- its chunks are LEFT
pub report_left : (b : List ℕ) (r : Report) (sections : List Section) → HasChunkReport b r → fits_left r.chunks ≡ true →
    sections ≡ left_sections (filter is_kept_chunk r.chunks) (left_size r.chunks) → AreLeft b sections
report_left b r sections has fit is =
    subst (AreLeft b) (sym is)
    (left_are b has.reading_is (filter is_kept_chunk r.chunks) (left_size r.chunks) has.small
    (ap (filter is_kept_chunk) has.chunks_are) (ap left_size has.chunks_are) (ap fits_left (sym has.chunks_are) ∙ fit))

-- the id over LEFT without one
named_left : (b : List ℕ) (es : List Entry) → overwritten (unnamed (left_file b es)) 0 (codes "RIFF") ≡ left_file b es
named_left b es = written_first (unnamed (left_file b es)) 82 (73 ∷ 70 ∷ 70 ∷ [])

-- .. as it is put together
named_sections : (b : List ℕ) (sections : List Section) (is : AreLeft b sections) →
    overwritten (assembled sections b) 0 (codes "RIFF") ≡ left_file b is.reading_is.entries
named_sections b sections is =
    ap (λ (w : List ℕ). overwritten w 0 (codes "RIFF")) is.are ∙ named_left b is.reading_is.entries

-- LEFT is long enough for its id
pub has_room : (b : List ℕ) (sections : List Section) → AreLeft b sections → 4 ≤ length (assembled sections b)
has_room b sections is =
    let x = unnamed (left_file b is.reading_is.entries) in
    let four : 4 ≤ length x = omega arith in
    let same : length (assembled sections b) ≡ length x = ap length is.are in omega (arith, four, same)

-- LEFT is made, or was there
pub kept_whole : {D F : Type 0} (G : Ghosts D F) (b to : List ℕ) (sections : List Section) (old new : D)
    (left : Option (List ℕ)) → AreLeft b sections → left ≡ Some (assembled sections b) →
    Of left (λ w. 4 ≤ length w → IsPut G to w (codes "RIFF") old new) → HasLeftFile G b to old new
kept_whole G b to sections old new left is e put = record {
  reading_is = is.reading_is;
  fits = is.fits;
  makes = λ h.
      subst (λ (z : List ℕ). IsThere G to z old new) (named_sections b sections is)
      (put (assembled sections b) e (has_room b sections is) h);
}

-- why it isn't made is why nothing is kept
refusal_at : (b : List ℕ) (sections : List Section) (kind : ConvertKind) (offset : ℕ) → AreLeft b sections →
    ((kind ≡ Exists) × (offset ≡ 0)) ⊎ IsCopyFault (assembled sections b) kind → IsKeepRefusal b kind offset
refusal_at b sections (Unread k) offset is (inl e) = let bad : Unread k ≡ Exists = e.0 in absurd (cc)
refusal_at b sections (Unread k) offset is (inr e) =
    subst (λ (x : InspectKind). IsFaultOfFile b (record { kind = x; offset = offset })) (sym e) (λ g none. absurd (cc))
refusal_at b sections Riff offset is (inl e) = let bad : Riff ≡ Exists = e.0 in absurd (cc)
refusal_at b sections Riff offset is (inr e) = absurd e
refusal_at b sections SameForm offset is (inl e) = let bad : SameForm ≡ Exists = e.0 in absurd (cc)
refusal_at b sections SameForm offset is (inr e) = absurd e
refusal_at b sections TooLong offset is (inl e) = let bad : TooLong ≡ Exists = e.0 in absurd (cc)
refusal_at b sections TooLong offset is (inr e) =
    let long : length (assembled sections b) ≡ length (unnamed (left_file b is.reading_is.entries)) =
    ap length is.are in
    let short : length (unnamed (left_file b is.reading_is.entries)) ≤ 2 ^ 62 =
    left_length b is.reading_is is.small is.fits in
    let over : 2 ^ 62 < length (assembled sections b) = e in
    absurd (omega (arith, long, short, over))
refusal_at b sections Exists offset is (inl e) = (is.reading_is, e.1)
refusal_at b sections Exists offset is (inr e) = absurd e
refusal_at b sections Unwritten offset is e = is.reading_is

pub keep_refusal : (b : List ℕ) (sections : List Section) (f : ConvertFault) → AreLeft b sections →
    IsMakeFault (assembled sections b) f → RefusesKeep b (Refused f)
keep_refusal b sections f is reason = refusal_at b sections f.kind f.offset is reason

-- what is left of it then
pub keep_leaves : {D F : Type 0} (G : Ghosts D F) (b to : List ℕ) (sections : List Section) (kind : ConvertKind)
    (old new : D) → AreLeft b sections →
    (IsTrue (G.honest old) →
    LeavesOut (codes "RIFF") (assembled sections b) kind (G.contents old to) (G.contents new to)) →
    (IsTrue (G.honest old) → kind ≡ Exists →
    G.contents old to ≢ Some (overwritten (assembled sections b) 0 (codes "RIFF"))) → LeavesOfLeft G b to kind old new
keep_leaves G b to sections kind old new is leaves other r h =
    let x = is.reading_is in
    let same : x.entries ≡ r.entries = (readings_agree b x.form r.form x.entries r.entries x.reads r.reads).1 in (
      subst (λ (w : List ℕ). LeavesOut (codes "RIFF") w kind (G.contents old to) (G.contents new to))
          (is.are ∙ ap (λ (es : List Entry). unnamed (left_file b es)) same) (leaves h),
      λ exists at. other h exists (at ∙ ap (λ (z : List ℕ). Some z)
          (ap (left_file b) (sym same) ∙ sym (named_sections b sections is))),
    )

-- the recording isn't read
unread_at : (b : List ℕ) (kind : ConvertKind) (offset : ℕ) → IsUnreadAt b kind offset → IsKeepRefusal b kind offset
unread_at b (Unread kind) offset is = is
unread_at b Riff offset is = absurd is
unread_at b SameForm offset is = absurd is
unread_at b TooLong offset is = absurd is
unread_at b Exists offset is = absurd is
unread_at b Unwritten offset is = absurd is

pub unread_refuses : (b : List ℕ) (e : ConvertError) → IsNotRead b e → RefusesKeep b e
unread_refuses b (Unopened error) is = tt
unread_refuses b (Refused f) is = unread_at b f.kind f.offset is

unread_keeps : (w : List ℕ) (b : List ℕ) (kind : ConvertKind) (offset : ℕ) (x : Option (List ℕ)) →
    IsUnreadAt b kind offset → LeavesOut (codes "RIFF") w kind x x
unread_keeps w b (Unread kind) offset x is = unread_leaves (codes "RIFF") w kind x
unread_keeps w b Riff offset x is = absurd is
unread_keeps w b SameForm offset x is = absurd is
unread_keeps w b TooLong offset x is = absurd is
unread_keeps w b Exists offset x is = absurd is
unread_keeps w b Unwritten offset x is = absurd is

pub unread_leaves_it : {D F : Type 0} (G : Ghosts D F) (file : Option (List ℕ)) (to : List ℕ) (e : ConvertError)
    (d : D) → Of file (λ b. IsNotRead b e) → LeavesKeep G file to e d d
unread_leaves_it G file to (Unopened error) d is = refl
unread_leaves_it G file to (Refused f) d is = λ b e r h. (
  unread_keeps (unnamed (left_file b r.entries)) b f.kind f.offset (G.contents d to) (is b e),
  λ exists at. absurd (subst (λ (k : ConvertKind). IsUnreadAt b k f.offset) exists (is b e)),
)

-- its chunks don't fit, or there is no memory for them
pub unfit_refuses : (b : List ℕ) (r : Report) (f : ConvertFault) → HasChunkReport b r →
    IsUnfit (fits_left r.chunks ≡ false) f → RefusesKeep b (Refused f)
unfit_refuses b r f has (inl e) =
    subst (λ (x : ConvertFault). IsKeepRefusal b x.kind x.offset) (sym e) (λ g none. absurd (cc))
unfit_refuses b r f has (inr e) =
    subst (λ (x : ConvertFault). IsKeepRefusal b x.kind x.offset) (sym e.1) (
      record { reading_is = has.reading_is; unfit = ap fits_left (sym has.chunks_are) ∙ e.0 },
      refl,
    )

pub unfit_leaves : {D F : Type 0} (G : Ghosts D F) (unfit : Type 0) (b to : List ℕ) (f : ConvertFault) (d : D) →
    IsUnfit unfit f → LeavesOfLeft G b to f.kind d d
unfit_leaves G unfit b to f d (inl e) =
    subst (λ (x : ConvertFault). LeavesOfLeft G b to x.kind d d) (sym e)
    (λ r h. (refl, λ exists at. (let bad : Unread Memory ≡ Exists = exists in cc)))
unfit_leaves G unfit b to f d (inr e) =
    subst (λ (x : ConvertFault). LeavesOfLeft G b to x.kind d d) (sym e.1)
    (λ r h. (inl refl, λ exists at. (let bad : TooLong ≡ Exists = exists in cc)))

pub unfit_calls : (unfit : Type 0) (f : ConvertFault) → IsUnfit unfit f → is_write_fault f.kind ≡ false
unfit_calls unfit f (inl e) = ap (λ (x : ConvertFault). is_write_fault x.kind) e
unfit_calls unfit f (inr e) = ap (λ (x : ConvertFault). is_write_fault x.kind) e.1
