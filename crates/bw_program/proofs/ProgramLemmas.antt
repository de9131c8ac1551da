-- What the program does, from what its parts do.
use Rattle.std.proofs.Common.{◌≡◌, ◌≢◌, ◌++◌, ℕ, Bool, List, [], true, Option, Some, Result, Ok, Err, inl}
use Rattle.std.proofs.Common.{inr, refl}
use Rattle.std.proofs.Common.{subst}
use Rattle.clap.specs.Walk.{Text}
use Rattle.clap.specs.declared.error.ErrorKind.{ErrorKind as TextKind}
use Rattle.clap.specs.declared.error.ErrorKind.TheVariants as texts
use Rattle.bw_args.specs.Lines.{IsLineOf}
use Rattle.bw_console.specs.Faults.{IsReportedBy, exit_of}
use Rattle.bw_commands.specs.Inspections.{IsPrintOfText}
use Rattle.bw_console.specs.Outcomes.{Outcome}
use Rattle.bw_console.specs.Prints.{IsOf, IsPrint, Nothing, Print}
use Rattle.bw_ports.specs.declared.network.Network.{Ghosts as NetworkGhosts}
use Rattle.bw_ports.specs.declared.listener_setup.ListenerSetup.{Ghosts as ListenerSetupGhosts}
use Rattle.bw_program.specs.Sides.{HostSide, KeptSide, SenderSide, ServerSide, UploadSide, ProgramWorld}
use Rattle.bw_args.specs.declared.CommandLine.{CommandLine}
use Rattle.bw_args.specs.declared.CommandLine.TheVariants.{Run, BadValue as Bad, Report}
use Rattle.bw_args.specs.declared.Task.TheVariants.{Replay, Inspect, Rehearse, Serve, Send, SendFile, SendPcm}
use Rattle.bw_args.specs.declared.Task.TheVariants.{Pack, Picture, InspectFiles, Repair, Convert, Takes}
use Rattle.bw_args.specs.declared.Task.TheVariants.{Join, SendFiles, Verify}
use Rattle.bw_args.specs.declared.recordings.SourceFile.{SourceFile}
use Rattle.bw_program.specs.LeftOutCommands.{KeepWorld}
use Rattle.bw_program.specs.Programs.{DoesAlone, DoneIfKept, IsDoneFor, IsProgram, IsReporting, IsUnread, KeepsFirst}
use Rattle.bw_program.specs.Programs.{build_lines}
use Rattle.bw_console.specs.declared.exit.Exit.{Exit}
use Rattle.bw_console.specs.declared.exit.Exit.TheVariants as exits
use Rattle.bw_console.specs.declared.fault.Fault.{Fault}
use Rattle.bw_console.specs.declared.fault.Fault.TheVariants as faults

-- lack of memory ends the writing of any text
pub reported-memory : (build : List ℕ) (kind : TextKind) (reported : Print) →
    IsReportedBy (Err faults.Memory) reported →
    IsReporting build kind
    (record { reads_all = true; out = Nothing; faults = reported; exit = exits.Memory })
reported-memory build texts.DisplayHelp reported t =
    record { outcome = Err faults.Memory; exit_is = refl; reads = refl; text = []; prints = refl; reports = t }
reported-memory build texts.DisplayVersion reported t =
    record { outcome = Err faults.Memory; exit_is = refl; reads = refl; text = []; prints = refl; reports = t }
reported-memory build _ reported t =
    inr (record { exit_is = refl; reads = refl; prints = refl; reports = t })

-- what is neither help nor the version is a fault of usage
pub reported-usage : (build : List ℕ) (kind : TextKind) (text : List ℕ) (reported : Print) → kind ≢ texts.DisplayHelp →
    kind ≢ texts.DisplayVersion → IsOf text reported →
    IsReporting build kind
    (record { reads_all = true; out = Nothing; faults = reported; exit = exits.Usage })
reported-usage build texts.DisplayHelp text reported h v t = absurd (h refl)
reported-usage build texts.DisplayVersion text reported h v t = absurd (v refl)
reported-usage build _ text reported h v t =
    inl (record { exit_is = refl; reads = refl; prints = refl; text = text; reports = t })

-- help and the version are printed
pub reported-help : (build : List ℕ) (kind : TextKind) (outcome : Result (Unit {0}) Fault) (text : List ℕ)
    (out reported : Print) → ¬ ((kind ≢ texts.DisplayHelp) × (kind ≢ texts.DisplayVersion)) →
    IsPrintOfText (text ++ build_lines build kind) outcome out → IsReportedBy outcome reported →
    IsReporting build kind
    (record { reads_all = true; out = out; faults = reported; exit = exit_of outcome })
reported-help build texts.DisplayHelp outcome text out reported n p t =
    record { outcome = outcome; exit_is = refl; reads = refl; text = text; prints = p; reports = t }
reported-help build texts.DisplayVersion outcome text out reported n p t =
    record { outcome = outcome; exit_is = refl; reads = refl; text = text; prints = p; reports = t }
reported-help build _ outcome text out reported n p t = absurd (n ((λ e. cc), (λ e. cc)))

module _ {S T F H G M SB SL KP RC Ed LK DK DF N X Z P R W L K SP SK D A B U J Q I O E T' : Type 0}
    (host : HostSide S T F H G M SB SL KP RC Ed LK DK DF I O E)
    (server_side : ServerSide X Z P R W L K N SP SK) (sender_side : SenderSide D A B)
    (upload_side : UploadSide U J Q) (network : NetworkGhosts N X P D R W A B)
    (listener_setup : ListenerSetupGhosts N L K)
    (kept_servers : KeptSide N T') where
  -- a text is reported, and all else stays as it was
  pub reports_alone : {is_asked : Bool → Outcome → Type 0} {exit : Exit}
      {x : ProgramWorld S F DK N Q I O E} {after : E} (reported : Print) (ending : Exit) → ending ≡ exit →
      is_asked true (record { reads_all = true; out = Nothing; faults = reported; exit = ending }) →
      IsPrint host.reported reported x.faults after →
      DoesAlone host server_side sender_side upload_side network listener_setup kept_servers is_asked exit
      (host.system.failures x.system) x (record x { faults = after })
  reports_alone reported ending ends is prints = record {
    does = record {
      did = record { reads_all = true; out = Nothing; faults = reported; exit = ending };
      ends = ends;
      gives_all = true;
      is = is;
      failures = refl;
      reads = refl;
      writes = record { printed = refl; reported = prints };
    };
    unused = refl;
    unread = refl;
    unpaused = refl;
    kept = refl;
  }

  -- what was done after chunks were kept doesn't depend on what the system was asked before
  kept_first : {source : SourceFile} (failed : ℕ) (done : Exit → ProgramWorld S F DK N Q I O E →
      ProgramWorld S F DK N Q I O E → Type 0) (exit : Exit) (system : S) (x x' : ProgramWorld S F DK N Q I O E) →
      ((w : KeepWorld F DK E) →
      done exit (record x { system = system; files = w.files; disk = w.disk; faults = w.faults }) x' →
      done exit (record x { files = w.files; disk = w.disk; faults = w.faults }) x') →
      KeepsFirst host server_side sender_side upload_side network listener_setup kept_servers failed source
      done exit (record x { system = system }) x' →
      KeepsFirst host server_side sender_side upload_side network listener_setup kept_servers failed source
      done exit x x'
  kept_first failed done exit system x x' same k = record {
    result = k.result;
    kept = k.kept;
    keeps = k.keeps;
    ends = ended k.result k.kept k.ends;
  }
    where
      ended : (r : Result (Unit {0}) Exit) (w : KeepWorld F DK E) →
          DoneIfKept host server_side sender_side upload_side network listener_setup kept_servers failed r
          done exit (record x { system = system; files = w.files; disk = w.disk; faults = w.faults }) x' →
          DoneIfKept host server_side sender_side upload_side network listener_setup kept_servers failed r
          done exit (record x { files = w.files; disk = w.disk; faults = w.faults }) x'
      ended (Ok u) w is = same w is
      ended (Err e) w is = (
        is.0,
        record {
          well = is.1.well;
          unread = is.1.unread;
          kept = is.1.kept;
          unused = is.1.unused;
          unpaused = is.1.unpaused;
          untaken = is.1.untaken;
          unprinted = is.1.unprinted;
          unreported = is.1.unreported;
        },
      )

  -- what is done for the words that were found is done for those that the system reported before
  pub reported-words : (build : List ℕ) (words : Option (List Text)) (found : List Text) (exit : Exit) (system : S)
      (x x' : ProgramWorld S F DK N Q I O E) →
      ((reported : List Text) → words ≡ Some reported → found ≡ reported) →
      host.system.file_at system ≡ host.system.file_at x.system →
      host.system.failures system ≡ host.system.failures x.system →
      IsProgram host server_side sender_side upload_side network listener_setup kept_servers
      build (Some found) exit (record x { system = system }) x' →
      IsProgram host server_side sender_side upload_side network listener_setup kept_servers
      build words exit x x'
  reported-words build words found exit system x x' same files counts (inl a) =
      inl (record {
        line = a.line;
        comes = λ reported e.
            subst (λ (w : List Text). IsLineOf w a.line) (same reported e) (a.comes found refl);
        done = done_for a.line (subst (λ (g : Text → Option (List ℕ)).
            IsDoneFor host server_side sender_side upload_side network listener_setup kept_servers
            build g (host.system.failures x.system) a.line exit (record x { system = system }) x') files
            (subst (λ (k : ℕ).
            IsDoneFor host server_side sender_side upload_side network listener_setup kept_servers
            build (host.system.file_at system) k a.line exit (record x { system = system }) x')
            counts a.done));
      })
    where
      -- what is done alone doesn't depend on what the system was asked before
      alone : {is_asked : Bool → Outcome → Type 0} {failed : ℕ} →
          DoesAlone host server_side sender_side upload_side network listener_setup kept_servers
          is_asked exit failed (record x { system = system }) x' →
          DoesAlone host server_side sender_side upload_side network listener_setup kept_servers
          is_asked exit failed x x'
      alone done =
          record { does = done.does; unused = done.unused; unread = done.unread; unpaused = done.unpaused; kept = done.kept }

      done_for : (line : CommandLine) →
          IsDoneFor host server_side sender_side upload_side network listener_setup kept_servers
          build (host.system.file_at x.system) (host.system.failures x.system) line exit
          (record x { system = system }) x' →
          IsDoneFor host server_side sender_side upload_side network listener_setup kept_servers
          build (host.system.file_at x.system) (host.system.failures x.system) line exit x x'
      done_for (Run (Replay limit fuse)) done = alone done
      done_for (Run (Rehearse name limit)) done = alone done
      done_for (Run (Inspect file)) done = alone done
      done_for (Run (InspectFiles inspection)) done = done
      done_for (Run (Serve server)) done = done
      done_for (Run (Send sender)) done = done
      done_for (Run (SendFile sender)) done = kept_first _ _ exit system x x' (λ w is. is) done
      done_for (Run (SendFiles several)) done = record {
        request = done.request;
        request_is = done.request_is;
        opened = done.opened;
        system = done.system;
        counts = done.counts;
        disk = done.disk;
        faults = done.faults;
        opens = done.opens;
        ends = done.ends;
      }
      done_for (Run (SendPcm sender)) done = done
      done_for (Run (Pack source)) done = kept_first _ _ exit system x x' (λ w is. is) done
      done_for (Run (Picture file)) done = done
      done_for (Run (Repair file write)) done = done
      done_for (Run (Convert file out form)) done = done
      done_for (Run (Join take left)) done = done
      done_for (Run (Takes listing)) done = done
      done_for (Run (Verify folder receipts)) done = done
      done_for (Bad value) done = alone done
      done_for (Report error) done = alone done
  reported-words build words found exit system x x' same files counts (inr w) =
      inr (subst (λ (k : ℕ).
      DoesAlone host server_side sender_side upload_side network listener_setup kept_servers
      IsUnread exit k x x') counts
      (record { does = w.does; unused = w.unused; unread = w.unread; unpaused = w.unpaused; kept = w.kept }))
