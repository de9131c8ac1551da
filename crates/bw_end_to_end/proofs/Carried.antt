-- What each recording has, so that a file can carry it.
use Rattle.std.proofs.Common.{◌≡◌, ℕ, zero, suc, ◌-◌, ◌≤◌, true, List, [], ◌∷◌, length, Result, Ok, Err, refl, ◌∙◌, ap}
use Rattle.std.proofs.Common.{subst, arith}
use Rattle.std.specs.Prelude.{fold, slice_set, nat_le}
use Rattle.std.specs.List.{list_all}
use Rattle.std.proofs.lemmas.Bool.{and_parts, ltb-false, leb-true}
use Rattle.bw_model.specs.Limits.{longest_history}
use Rattle.bw_model.specs.Take.{Shape, shapes, is_history_byte}
use Rattle.bw_model.specs.Reading as reading
use Rattle.bw_model.specs.Reading.{Form, Entry, entry_of, read}
use Rattle.bw_model.specs.Report.{report_of}
use Rattle.bw_inspect.specs.OtherFormats.{other_format_of}
use Rattle.bw_plan.specs.AllowedSettings.{is_setting, are_settings}
use Rattle.bw_plan.specs.CleanedContents.{values_of}
use Rattle.bw_plan.specs.PlanLaws.{IsWhole}
use Rattle.bw_plan.specs.PcmRecordings.{pcm_recording_of, pcm_faults, set_pcm_outline, pcm_format}
use Rattle.bw_plan.specs.declared.pcm.Pcm.{Pcm}
use Rattle.bw_plan.specs.Recordings.{Setting, Field, History, Options, Outline, Recording, FaultAt, FileNotes}
use Rattle.bw_plan.specs.Recordings.{recording_of, kind_unread, recorded, notes_of, outline_of, set_outline, outline}
use Rattle.bw_plan.specs.Recordings.{with_setting, with_value, raw_fields, recording_faults, samples_of, block_frames}
use Rattle.bw_plan.specs.Recordings.{no_options, request_count}
use Rattle.bw_plan.proofs.FaultLists.{none_hold}
use Rattle.bw_plan.proofs.PcmRecordings.{pcm_comes, pcm_recordings_are_whole}
use Rattle.bw_plan.proofs.WholeRecordings.{outlines, not_ok, ok_inj, recordings_are_whole}
use Rattle.bw_end_to_end.proofs.Cleaned.{history_short}

-- What a recording is made of.

pub record Comes (b : List ℕ) (o : Options) (r : Recording) : Type 0 where
  pub form : Form
  pub entries : List Entry
  pub outlined : outline_of o (notes_of b form entries) ≡ Ok r.outline
  pub samples : samples_of b (report_of b form entries) ≡ r.samples

pub comes : (b : List ℕ) (o : Options) (r : Recording) → recording_of b o ≡ Ok r → Comes b o r
unfolding recording_of
comes b o r h = go (read b) h
  where
    inner : (form : Form) (entries : List Entry) (x : Result Outline FaultAt) →
        outline_of o (notes_of b form entries) ≡ x →
        ◌≡◌ {A = Result Recording FaultAt} (elim x [
          | Err fault ↦ Err fault
          | Ok z ↦ Ok (record { outline = z; samples = samples_of b (report_of b form entries) })
        ]) (Ok r) → Comes b o r
    inner form entries (Err fault) e h = absurd (not_ok h)
    inner form entries (Ok z) e h = let same = ok_inj h in record {
      form = form;
      entries = entries;
      outlined = e ∙ ap (λ (x : Recording). Ok x.outline) same;
      samples = ap (λ (x : Recording). x.samples) same;
    }

    go : (x : Result (Form × List Entry) reading.Fault) →
        ◌≡◌ {A = Result Recording FaultAt} (elim x [
          | Err fault ↦ Err (record { kind = kind_unread fault.kind (other_format_of b); offset = fault.offset })
          | Ok z ↦ recorded b o z.0 z.1
        ]) (Ok r) → Comes b o r
    go (Err fault) h = absurd (not_ok h)
    go (Ok z) h = inner z.0 z.1 (outline_of o (notes_of b z.0 z.1)) refl h

-- Lengths.

-- what a file has room for
pub record HasRoom (r : Outline) : Type 0 where
  pub history : length r.history ≤ 4096
  pub values : length r.values ≡ 12

length-set : {X : Type 0} (xs : List X) (n : ℕ) (x : X) → length (slice_set xs n x) ≡ length xs
length-set [] n x = refl
length-set (y ∷ ys) zero x = refl
length-set (y ∷ ys) (suc n) x = ap suc (length-set ys n x)

length-values : (ss : List Shape) (fields : List (List ℕ)) → length (values_of ss fields) ≡ length ss
length-values [] fields = refl
length-values (s ∷ ss) [] = ap suc (length-values ss [])
length-values (s ∷ ss) (bytes ∷ fields) = ap suc (length-values ss fields)

length-with : (values : List (List ℕ)) (tag : ℕ) (v : List ℕ) → length (with_value values tag v) ≡ length values
length-with values zero v = refl
length-with values (suc n) v = length-set values n v

setting_fits : (r : Outline) (s : Setting) → is_setting s ≡ true → HasRoom r → HasRoom (with_setting r s)
setting_fits r (Field tag v) h k = record {
  history = k.history;
  values = length-with r.values tag v ∙ k.values;
}
setting_fits r (History v) h k = record {
  history = leb-true (length v) 4096 (and_parts (nat_le (length v) longest_history) (list_all is_history_byte v) h).0;
  values = k.values;
}

pub settings_fit : (r : Outline) (ss : List Setting) → are_settings ss ≡ true → HasRoom r →
    HasRoom (fold with_setting r ss)
settings_fit r [] h k = k
settings_fit r (s ∷ ss) h k =
    let both = and_parts (is_setting s) (are_settings ss) h in
    settings_fit (with_setting r s) ss both.1 (setting_fits r s both.0 k)

-- What is known of a recording: all of it may be stored, a file has room for it, and a sender for its requests.
pub record IsCarried (o : Options) (r : Recording) : Type 0 where
  pub whole : IsWhole r
  pub room : HasRoom r.outline
  pub few : request_count (block_frames o r.outline.format) r.outline ≤ 16777216

pub file_carried : (b : List ℕ) (o : Options) (r : Recording) → are_settings o.settings ≡ true →
    recording_of b o ≡ Ok r → IsCarried o r
file_carried b o r allowed h =
    let c = comes b o r h in
    let n : FileNotes = notes_of b c.form c.entries in
    let out = outlines o n r.outline c.outlined in
    let free = none_hold (recording_faults o n) out.free in
    let base : HasRoom (outline n) = record {
      history = history_short n.history;
      values = length-values shapes (raw_fields n.report.bext);
    } in
    record {
      whole = recordings_are_whole b o r allowed h;
      room = subst HasRoom out.is (settings_fit (outline n) o.settings allowed base);
      few = subst (λ (x : Outline). request_count (block_frames o x.format) x ≤ 16777216) out.is
          (ltb-false 16777216 (request_count (block_frames o (set_outline o n).format) (set_outline o n))
          free.1.1.1.1.1.1.1.1.1.0);
    }

pub pcm_carried : (b : List ℕ) (o : Options) (p : Pcm) (r : Recording) → are_settings o.settings ≡ true →
    pcm_recording_of b o p ≡ Ok r → IsCarried o r
pcm_carried b o p r allowed h =
    let c = pcm_comes b o p r h in
    let size : ℕ = length b - p.skip in
    let out : Outline = set_pcm_outline o (pcm_format p) size in
    let free = none_hold (pcm_faults o p (length b)) c.free in
    let bare : Outline = set_pcm_outline no_options (pcm_format p) size in
    let base : HasRoom bare = record { history = omega arith; values = refl } in
    record {
      whole = pcm_recordings_are_whole b o p r allowed h;
      room = subst HasRoom c.outline (settings_fit bare o.settings allowed base);
      few = subst (λ (x : Outline). request_count (block_frames o x.format) x ≤ 16777216) c.outline
          (ltb-false 16777216 (request_count (block_frames o out.format) out) free.1.1.1.1.1.0);
    }
