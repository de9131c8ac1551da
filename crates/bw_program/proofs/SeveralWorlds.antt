-- Several recordings, each of which was sent alone.
use Rattle.std.proofs.Common.{◌∙◌, ◌∷◌, [], List, ap, inl, inr}
use Rattle.bw_args.specs.declared.recordings.FilesSender.{FilesSender}
use Rattle.bw_console.specs.declared.exit.Exit.{Exit}
use Rattle.bw_ports.specs.declared.listener_setup.ListenerSetup.{Ghosts as ListenerSetupGhosts}
use Rattle.bw_ports.specs.declared.network.Network.{Ghosts as NetworkGhosts}
use Rattle.bw_program.specs.Programs.{IsSentAlone}
use Rattle.bw_program.specs.Requests.{EachRecording, OneRecording}
use Rattle.bw_program.specs.SeveralCommands.{DoesInTurn}
use Rattle.bw_program.specs.Sides.{HostSide, KeptSide, SenderSide, ServerSide, UploadSide, ProgramWorld}
use Rattle.bw_queue.specs.declared.recording.QueuedRecording.{QueuedRecording}
use Rattle.bw_take_files.specs.declared.receipts.receipt.Receipt.{Receipt}

module _ {S T F H G M SB SL KP RC Ed LK DK DF N X Z P R W L K SP SK D A B U J Q I O E T' : Type 0}
    (host : HostSide S T F H G M SB SL KP RC Ed LK DK DF I O E)
    (server_side : ServerSide X Z P R W L K N SP SK) (sender_side : SenderSide D A B)
    (upload_side : UploadSide U J Q) (network : NetworkGhosts N X P D R W A B)
    (listener_setup : ListenerSetupGhosts N L K) (kept_servers : KeptSide N T') where
  -- all were sent alone, if each was
  pub each_alone : {V : Type 0} (world : V → ProgramWorld S F DK N Q I O E) (several : FilesSender)
      (receipts : List Receipt) (recordings : List QueuedRecording) (exit : Exit) (v v' : V) →
      DoesInTurn (λ recording e a b. IsSentAlone host server_side sender_side upload_side network listener_setup
      kept_servers (OneRecording several receipts recording) e (world a) (world b)) recordings exit v v' →
      IsSentAlone host server_side sender_side upload_side network listener_setup kept_servers
      (EachRecording several receipts recordings) exit (world v) (world v')
  each_alone world several receipts [] exit v v' done = record {
    sent = (done.0, ap world done.1);
    well = ap (λ x. host.system.failures (world x).system) done.1;
    unused = ap (λ x. (world x).network) done.1;
    unread = ap (λ x. (world x).input) done.1;
    kept = ap (λ x. (world x).disk) done.1;
  }
  each_alone world several receipts (recording ∷ recordings) exit v v' done =
      let one = done.2 in elim (done.3) [
        | inl stopped ↦ record {
          sent = (
            done.0,
            world done.1,
            record {
              sends = one.sent;
              well = one.well;
              unused = one.unused;
              unread = one.unread;
              kept = one.kept;
            },
            inl (stopped.0, stopped.1, ap world stopped.2),
          );
          well = ap (λ x. host.system.failures (world x).system) stopped.2 ∙ one.well;
          unused = ap (λ x. (world x).network) stopped.2 ∙ one.unused;
          unread = ap (λ x. (world x).input) stopped.2 ∙ one.unread;
          kept = ap (λ x. (world x).disk) stopped.2 ∙ one.kept;
        }
        | inr goes ↦
            let rest = each_alone world several receipts recordings goes.1.0 done.1 v' goes.1.1 in record {
              sent = (
                done.0,
                world done.1,
                record {
                  sends = one.sent;
                  well = one.well;
                  unused = one.unused;
                  unread = one.unread;
                  kept = one.kept;
                },
                inr (goes.0, (goes.1.0, rest.sent, goes.1.2)),
              );
              well = rest.well ∙ one.well;
              unused = rest.unused ∙ one.unused;
              unread = rest.unread ∙ one.unread;
              kept = rest.kept ∙ one.kept;
            }
      ]
