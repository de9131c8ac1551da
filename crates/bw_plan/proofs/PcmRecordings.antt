-- Recordings of headerless samples may be stored.
use Rattle.std.proofs.Common.{◌≡◌, ℕ, ◌-◌, true, ◌&&◌, List, []}
use Rattle.std.proofs.Common.{length, drop, Option, Some, None, Result, Ok, Err, refl, sym, ◌∙◌, ap, subst}
use Rattle.std.proofs.Common.{length-drop}
use Rattle.std.specs.Prelude.{◌/◌, ◌%◌, ◌||◌, ◌==◌}
use Rattle.std.proofs.lemmas.Bool.{and_from, eqb-true, not-false}
use Rattle.bw_model.specs.Bytes.{first_that_holds, unless, is_within}
use Rattle.bw_model.specs.Take.{Format, shapes, is_format, block_align}
use Rattle.bw_plan.specs.Recordings.{Options, Outline, Recording, FaultAt, no_options}
use Rattle.bw_plan.specs.PcmRecordings.{PcmRecordingsAreWhole, pcm_format, pcm_format_faults, pcm_content_faults, pcm_faults}
use Rattle.bw_plan.specs.PcmRecordings.{set_pcm_outline, pcm_outline_of, pcm_recording_of}
use Rattle.bw_plan.specs.declared.pcm.Pcm.{Pcm}
use Rattle.bw_plan.specs.PlanLaws.{are_markers}
use Rattle.bw_plan.proofs.CleanParts.{values_clean}
use Rattle.bw_plan.proofs.FaultLists.{free-append, fault-append, none_hold}
use Rattle.bw_plan.proofs.WholeRecordings.{Keeps, settings_keep, not_ok, ok_inj}

-- a format without a fault is allowed
pub free_pcm_format : (p : Pcm) → first_that_holds (pcm_format_faults p) ≡ None → is_format (pcm_format p) ≡ true
free_pcm_format p h =
    let r = is_within 1 768000 p.rate in
    let c = is_within 1 64 p.channels in
    let d = (p.bits == 16) || (p.bits == 24) || (p.bits == 32) in
    let e = none_hold (pcm_format_faults p) h in
    and_from (r && c) d (and_from r c (not-false r e.1.0) (not-false c e.1.1.0)) (not-false d e.0)

-- neither the format nor the samples have a fault
pub pcm_outlined : (o : Options) (p : Pcm) (len : ℕ) (r : Outline) → first_that_holds (pcm_format_faults p) ≡ None →
    r ≡ set_pcm_outline o (pcm_format p) (len - p.skip) → first_that_holds (pcm_content_faults o p len r) ≡ None →
    pcm_outline_of o p len ≡ Ok r
unfolding pcm_outline_of
pcm_outlined o p len r h e k =
    let out : Outline = set_pcm_outline o (pcm_format p) (len - p.skip) in
    ap (λ (x : Option FaultAt). unless x out)
    (free-append (pcm_format_faults p) (pcm_content_faults o p len out) h
    ∙ ap (λ (z : Outline). first_that_holds (pcm_content_faults o p len z)) (sym e) ∙ k)
    ∙ ap Ok (sym e)

-- the format has a fault
pub wrong_pcm_format : (o : Options) (p : Pcm) (len : ℕ) (f : FaultAt) →
    first_that_holds (pcm_format_faults p) ≡ Some f → pcm_outline_of o p len ≡ Err f
unfolding pcm_outline_of
wrong_pcm_format o p len f h =
    let out : Outline = set_pcm_outline o (pcm_format p) (len - p.skip) in
    ap (λ (x : Option FaultAt). unless x out)
    (fault-append (pcm_format_faults p) (pcm_content_faults o p len out) f h)

-- the samples have a fault
pub wrong_pcm_content : (o : Options) (p : Pcm) (len : ℕ) (r : Outline) (f : FaultAt) →
    first_that_holds (pcm_format_faults p) ≡ None → r ≡ set_pcm_outline o (pcm_format p) (len - p.skip) →
    first_that_holds (pcm_content_faults o p len r) ≡ Some f → pcm_outline_of o p len ≡ Err f
unfolding pcm_outline_of
wrong_pcm_content o p len r f h e k =
    let out : Outline = set_pcm_outline o (pcm_format p) (len - p.skip) in
    ap (λ (x : Option FaultAt). unless x out)
    (free-append (pcm_format_faults p) (pcm_content_faults o p len out) h
    ∙ ap (λ (z : Outline). first_that_holds (pcm_content_faults o p len z)) (sym e) ∙ k)

-- What a recording of headerless samples is made of.

pub record PcmComes (b : List ℕ) (o : Options) (p : Pcm) (r : Recording) : Type 0 where
  pub free : first_that_holds (pcm_faults o p (length b)) ≡ None
  pub outline : set_pcm_outline o (pcm_format p) (length b - p.skip) ≡ r.outline
  pub samples : drop p.skip b ≡ r.samples

pub pcm_comes : (b : List ℕ) (o : Options) (p : Pcm) (r : Recording) → pcm_recording_of b o p ≡ Ok r → PcmComes b o p r
unfolding pcm_recording_of pcm_outline_of
pcm_comes b o p r h = go (first_that_holds (pcm_faults o p (length b))) refl h
  where
    out : Outline
    out = set_pcm_outline o (pcm_format p) (length b - p.skip)

    go : (x : Option FaultAt) → first_that_holds (pcm_faults o p (length b)) ≡ x →
        ◌≡◌ {A = Result Recording FaultAt} (elim (unless x (set_pcm_outline o (pcm_format p) (length b - p.skip))) [
          | Err fault ↦ Err fault
          | Ok z ↦ Ok (record { outline = z; samples = drop p.skip b })
        ]) (Ok r) → PcmComes b o p r
    go None e h = let same = ok_inj h in record {
      free = e;
      outline = ap (λ (x : Recording). x.outline) same;
      samples = ap (λ (x : Recording). x.samples) same;
    }
    go (Some f) e h = absurd (not_ok h)

pub pcm_recordings_are_whole : PcmRecordingsAreWhole
pcm_recordings_are_whole b o p r allowed h =
    let c = pcm_comes b o p r h in
    let f : Format = pcm_format p in
    let size : ℕ = length b - p.skip in
    let base : Outline = set_pcm_outline no_options f size in
    let free = none_hold (pcm_faults o p (length b)) c.free in
    let kept : Keeps f [] size base = record {
      format = refl;
      markers = refl;
      samples_len = refl;
      history = refl;
      values = values_clean shapes [] tt;
    } in
    let all : Keeps f [] size r.outline = subst (Keeps f [] size) c.outline (settings_keep f [] size base o.settings allowed kept) in
    let rate = is_within 1 768000 p.rate in
    let channels = is_within 1 64 p.channels in
    let bits = (p.bits == 16) || (p.bits == 24) || (p.bits == 32) in
    let format : is_format f ≡ true =
    and_from (rate && channels) bits
    (and_from rate channels (not-false rate free.1.0) (not-false channels free.1.1.0)) (not-false bits free.0) in
    let long : length r.samples ≡ size = ap length (sym c.samples) ∙ length-drop p.skip b in
    let out : Outline = set_pcm_outline o f size in
    let whole : out.samples_len % block_align out.format ≡ 0 =
    eqb-true (out.samples_len % block_align out.format) 0 (not-false _ free.1.1.1.1.0) in
    let frames : r.outline.samples_len % block_align r.outline.format ≡ 0 =
    subst (λ (x : Outline). x.samples_len % block_align x.format ≡ 0) c.outline whole in
    record {
      clean = record {
        format = subst (λ (x : Format). is_format x ≡ true) (sym all.format) format;
        history = all.history;
        values = all.values;
        whole = ap (λ (k : ℕ). k % block_align r.outline.format) (long ∙ sym all.samples_len) ∙ frames;
        markers = ap (are_markers (length r.samples / block_align r.outline.format) []) all.markers;
      };
      samples = all.samples_len ∙ sym long;
    }
