-- What is reported where a command ends before anything is sent.
use Rattle.std.proofs.Common.{◌≡◌, ℕ, List, Option, refl}
use Rattle.bw_stream.specs.declared.sink.Sink.{Ghosts as Writer}
use Rattle.bw_console.specs.Prints.{Print, IsPrint, failures_if}
use Rattle.bw_console.specs.declared.exit.Exit.{Exit}
use Rattle.bw_plan.specs.declared.options.Strictness.{Strictness}
use Rattle.bw_recorder.specs.Openings.{is_well_at}
use Rattle.bw_recorder.specs.Packs.{HasPacked, IsOpenReport, IsOptionsReport, Packing, RefusesAtOnce}
use Rattle.bw_recorder.specs.SettingLists.{LacksOptions}
use Rattle.bw_recorder.specs.declared.fault.OpenFault.{OpenFault}
use Rattle.bw_recorder.specs.declared.fault.OptionsFault.{OptionsFault}
use Rattle.bw_recorder.proofs.PackSteps.{refusal, refused, unopened}

-- what is set can't be used: that is reported, and nothing else is done
pub refuses : {S T : Type 0} (w : Writer S) (e : Writer T) (P : Packing → Type 0) (texts : List (List ℕ)) (strict : Strictness)
    (frames : Option ℕ) (fault : OptionsFault) (exit : Exit) (out : S) (faults faults' : T) (failures : ℕ) →
    ((did : Packing) → RefusesAtOnce texts strict frames did → P did) → LacksOptions texts strict frames fault →
    ((print : Print) × IsOptionsReport fault exit print × IsPrint e print faults faults') →
    (did : Packing) × (did.exit ≡ exit) × P did × (failures ≡ failures_if did.is_system_well failures)
    × HasPacked w e did out out faults faults'
refuses w e P texts strict frames fault exit out faults faults' failures so lacks r = (
  refusal exit r.0,
  refl,
  so (refusal exit r.0) (refused texts strict frames fault exit r.0 lacks r.1),
  refl,
  record { between = faults; warns = refl; prints = refl; reports = r.2 },
)

-- a file isn't opened: so is that
pub reports_unopened : {S T : Type 0} (w : Writer S) (e : Writer T) (P : Packing → Type 0) (command path : List ℕ)
    (fault : OpenFault) (exit : Exit) (out : S) (faults faults' : T) (failures failures' : ℕ) →
    ((print : Print) → IsOpenReport command path fault exit print → P (unopened fault exit print)) →
    failures' ≡ failures_if (is_well_at fault) failures →
    ((print : Print) × IsOpenReport command path fault exit print × IsPrint e print faults faults') →
    (did : Packing) × (did.exit ≡ exit) × P did × (failures' ≡ failures_if did.is_system_well failures)
    × HasPacked w e did out out faults faults'
reports_unopened w e P command path fault exit out faults faults' failures failures' so count r = (
  unopened fault exit r.0,
  refl,
  so r.0 r.1,
  count,
  record { between = faults; warns = refl; prints = refl; reports = r.2 },
)
