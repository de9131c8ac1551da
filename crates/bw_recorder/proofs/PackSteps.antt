-- What the command did, from what its steps did.
use Rattle.std.proofs.Common.{◌≡◌, ◌⊎◌, ℕ, true, List, Option, Some, Result, inl, inr, refl, subst}
use Rattle.bw_stream.specs.Readers.{Of}
use Rattle.bw_model.specs.Take.{Request}
use Rattle.bw_console.specs.Prints.{IsOf, Nothing, Print}
use Rattle.bw_console.specs.declared.exit.Exit.{Exit}
use Rattle.bw_plan.specs.Recordings.{Options}
use Rattle.bw_plan.specs.Progress.{Progress, IsSoundPlan, remaining}
use Rattle.bw_plan.specs.declared.options.Strictness.{Strictness}
use Rattle.std.specs.Prelude.{codes}
use Rattle.bw_recorder.specs.declared.fault.OpenFault.{OpenFault}
use Rattle.bw_recorder.specs.declared.packing.PackFault.{PackFault}
use Rattle.bw_recorder.specs.Openings.{IsOpenedAt, RefusesAs, is_well_at}
use Rattle.bw_recorder.specs.Puts.{GivesRequests, Stands}
use Rattle.bw_recorder.specs.SettingLists.{LacksOptions, options_of}
use Rattle.bw_recorder.specs.Packs.{IsNotOpened, IsOpenReport, IsOptionsReport, IsPack, IsPrintOfPack, IsReportedText, Packing}
use Rattle.bw_recorder.specs.Packs.{RefusesAtOnce, ReportsPack, pack_exit}
use Rattle.bw_recorder.specs.declared.fault.OptionsFault.{OptionsFault}
use Rattle.bw_recorder.specs.declared.fault.OptionsFault.TheVariants as lacks

-- nothing is done but that this is reported
abbrev pub refusal : Exit → Print → Packing
refusal exit print =
    record { is_system_well = true; warned = Nothing; out = Nothing; faults = print; exit = exit }

-- .. of a file that isn't opened
abbrev pub unopened : OpenFault → Exit → Print → Packing
unopened fault exit print =
    record { is_system_well = is_well_at fault; warned = Nothing; out = Nothing; faults = print; exit = exit }

-- it isn't opened for this reason
pub not_opened : (command : List ℕ) (file : Option (List ℕ)) (path : List ℕ) (o : Options) (fault : OpenFault)
    (exit : Exit) (print : Print) → Of file (λ b. RefusesAs b o fault) → IsOpenReport command path fault exit print →
    IsNotOpened command file path o (unopened fault exit print)
not_opened command file path o fault exit print right reports =
    record { fault = fault; right = right; well = refl; warned = refl; prints = refl; reports = reports }

-- what is set can't be used
pub refused : (texts : List (List ℕ)) (strict : Strictness) (frames : Option ℕ) (fault : OptionsFault) (exit : Exit)
    (print : Print) → LacksOptions texts strict frames fault → IsOptionsReport fault exit print →
    RefusesAtOnce texts strict frames (refusal exit print)
refused texts strict frames (lacks.NotASetting text) exit print bad r = inl (record {
  bad = bad.0;
  exit_is = r.0;
  well = refl;
  warned = refl;
  prints = refl;
  reports = subst (λ (line : List ℕ). IsOf line print) bad.1 r.1;
})
refused texts strict frames lacks.Memory exit print bad r =
    inr (record { exit_is = r.0; well = refl; warned = refl; prints = refl; reports = r.1 })

pub at_once : {P Q R : Type 0} → P ⊎ Q → P ⊎ Q ⊎ R
at_once (inl p) = inl p
at_once (inr q) = inr (inl q)

-- the file is opened
pub packs : (file : Option (List ℕ)) (path : List ℕ) (texts : List (List ℕ)) (strict : Strictness) (frames : Option ℕ)
    (o : Options) → options_of texts strict frames ≡ Some o → (p : Progress) (text : List ℕ) (left : Option (List ℕ))
    (outcome : Result (Unit {0}) PackFault) (given : List Request) (warned printed reported : Print) (exit : Exit) →
    Of file (λ b. IsOpenedAt b o p text left) → IsSoundPlan p.stage →
    ((b : List ℕ) → Stands b p left → GivesRequests (remaining p b) given outcome) → IsReportedText text warned →
    IsPrintOfPack given outcome printed → ReportsPack outcome reported → exit ≡ pack_exit outcome →
    IsPack file path texts strict frames (record {
      is_system_well = true;
      warned = warned;
      out = printed;
      faults = reported;
      exit = exit;
    })
packs file path texts strict frames o asked p text left outcome given warned printed reported exit opens sound gives
    warns prints reports ends = inr (inr (
      o,
      (
        asked,
        inr (record {
          outcome = outcome;
          given = given;
          text = text;
          right = λ b e.
              let x = opens b e in
              record {
                recording = x.recording;
                is = x.is;
                gives = subst (λ (rs : List Request). GivesRequests rs given outcome) x.requests
                    (gives b (record { sound = sound; at = x.stands; there = x.there }));
                says = x.says;
                whole = x.whole;
              };
          warns = warns;
          prints = prints;
          well = refl;
          exit_is = ends;
          reports = reports;
        }),
      ),
    ))

-- it isn't
pub opens_nothing : (file : Option (List ℕ)) (path : List ℕ) (texts : List (List ℕ)) (strict : Strictness) (frames : Option ℕ)
    (o : Options) → options_of texts strict frames ≡ Some o → (fault : OpenFault) (reported : Print) (exit : Exit) →
    Of file (λ b. RefusesAs b o fault) → IsOpenReport (codes "pack") path fault exit reported →
    IsPack file path texts strict frames (unopened fault exit reported)
opens_nothing file path texts strict frames o asked fault reported exit right reports =
    inr (inr (o, (asked, inl (not_opened _ file path o fault exit reported right reports))))
