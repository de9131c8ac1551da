-- What is read of a file that is still written.
use Rattle.std.proofs.Common.{◌≡◌, ℕ, List, [], ◌++◌, length, take, Option, Some, Result, Ok, Err, IfErr, refl, sym, ◌∙◌, ap, subst}
use Rattle.std.proofs.Math.Seq.{take-append_seam}
use Rattle.std.specs.Prelude.{codes}
use Rattle.bw_console.specs.Prints.{Print}
use Rattle.bw_console.specs.declared.exit.Exit.{Exit}
use Rattle.bw_live.specs.WaveHeaders.{bare_header, samples_in_wave}
use Rattle.bw_model.specs.Take.{Request}
use Rattle.bw_plan.specs.Plans.{plan}
use Rattle.bw_plan.specs.Recordings.{Options, Outline, block_frames}
use Rattle.bw_recorder.specs.FileReports.{warnings_in}
use Rattle.bw_recorder.specs.WarningTexts.{warning_lines}
use Rattle.bw_recorder.specs.Packs.{IsOpenReport}
use Rattle.bw_recorder.specs.declared.fault.OpenFault.{OpenFault}
use Rattle.bw_recorder.proofs.PackSteps.{unopened}
use Rattle.bw_send_file.specs.GrowingSendings.{FeedsGrowing, IsGrowingRefused, IsHeaderIn, IsHeaderWithin, RefusesHeader, RefusesIn}
use Rattle.bw_send_file.specs.FramedSamples.{HasWholeFrames, recording_with}
use Rattle.bw_send_file.specs.Samples.{HeldSamples, HoldsMore}
use Rattle.bw_send_file.specs.declared.growing_header.GrowingHeader.{GrowingHeader}
use Rattle.bw_stream.specs.Readers.{Of}

-- what is held was read from the start
pub held_first : (old new : HeldSamples) (xs : List ℕ) (left : Option (List ℕ)) → old.held ≡ [] →
    (m : HoldsMore old xs new left) → take (length new.held) xs ≡ new.held
held_first old new xs left none m =
    ap (take (length new.held)) (sym (m.together ∙ ap (λ (z : List ℕ). z ++ xs) none))
    ∙ take-append_seam new.held m.rest

-- more is held after that
pub holds_on : (a b c : HeldSamples) (xs : List ℕ) (left left' : Option (List ℕ)) → (m : HoldsMore a xs b left) →
    ((ys : List ℕ) → left ≡ Some ys → HoldsMore b ys c left') → HoldsMore a xs c left'
holds_on a b c xs left left' m next =
    let n = next m.rest m.left_is in
    record { rest = n.rest; left_is = n.left_is; together = n.together ∙ m.together }

pub holds_same : (a : HeldSamples) (xs : List ℕ) (left : Option (List ℕ)) → left ≡ Some xs → HoldsMore a xs a left
holds_same a xs left e = record { rest = xs; left_is = e; together = refl }

pub header_read : (old new : HeldSamples) (xs : List ℕ) (left : Option (List ℕ)) (o : Options) (h : GrowingHeader) →
    old.held ≡ [] → HoldsMore old xs new left → IsHeaderWithin new.held o h → IsHeaderIn xs o h
header_read old new xs left o h none m is =
    (length new.held, subst (λ (b : List ℕ). IsHeaderWithin b o h) (sym (held_first old new xs left none m)) is)

pub header_refused : (old new : HeldSamples) (xs : List ℕ) (left : Option (List ℕ)) (o : Options) (fault : OpenFault) →
    old.held ≡ [] → HoldsMore old xs new left → RefusesIn new.held o fault → RefusesHeader xs o fault
header_refused old new xs left o fault none m is =
    (length new.held, subst (λ (b : List ℕ). RefusesIn b o fault) (sym (held_first old new xs left none m)) is)

-- the file isn't sent, which is reported
pub growing_refused : (file : Option (List ℕ)) (path : List ℕ) (o : Options) (fault : OpenFault) (exit : Exit)
    (print : Print) → Of file (λ b. RefusesHeader b o fault) → IsOpenReport (codes "send") path fault exit print →
    IsGrowingRefused file path o (unopened fault exit print)
growing_refused file path o fault exit print right r = record {
  fault = fault;
  right = right;
  well = refl;
  warned = refl;
  prints = refl;
  reports = r;
}

-- the feed of a file whose header was read gives all requests of its samples
pub feeds_growing : (b : List ℕ) (o : Options) (h : GrowingHeader) (to_come : List Request → Type 0) → IsHeaderIn b o h →
    ((s : List ℕ) → s ≡ samples_in_wave h.place b → HasWholeFrames h.header.outline s →
    to_come (plan (block_frames o h.header.outline.format) (recording_with h.header.outline s))) →
    FeedsGrowing b o to_come h.header.warnings.items
feeds_growing b o h to_come is gives =
    let x = is.1.header in
    let s : List ℕ = samples_in_wave h.place b in
    record {
      read = is.0;
      place = h.place;
      found = is.1.found;
      recording = x.recording;
      is = x.is;
      says = x.says
          ∙ ap (λ (r : Outline). warning_lines (warnings_in (bare_header (take is.0 b) h.place) r)) (sym x.outline);
      gives = subst
          (λ (r : Outline). HasWholeFrames r s → to_come (plan (block_frames o r.format) (recording_with r s)))
          (sym x.outline) (gives s refl);
    }

-- an error of which something weaker holds
pub weaker_err : {T E : Type 0} (r : Result T E) (P Q : E → Type 0) → ((e : E) → P e → Q e) → IfErr r P → IfErr r Q
weaker_err (Ok x) P Q so h = tt
weaker_err (Err e) P Q so h = so e h
