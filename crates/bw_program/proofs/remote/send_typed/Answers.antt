use Rattle.std.proofs.Common.{ℕ, List, refl, subst}
use Rattle.bw_upload.specs.Sends.{IsSendRun}
use Rattle.bw_program.proofs.remote.send_typed.Goals as goal

pub returns : goal.returns
returns g c =
    let sent = c.send_run.ensures.did in (
      record {
        between = c.note_input.new.faults;
        notes = c.note_input.ensures;
        sends = record {
          first = c.dial-dial.result;
          calls = c.dial-dial.ensures.received;
          last = c.send_run.new.dial;
          did = sent.0;
          ends = sent.1;
          is = subst (λ (name : List ℕ). IsSendRun g.X.Network.Dial.Dial g.X.Network.Dial.Reader.Source
              g.X.Network.Dial.Writer.Sink name c.args.sender.now.rounds
              (g.X.Input.Source.left c.args.outside.now.input) c.dial-dial.result c.send_run.new.dial sent.0)
              c.copy.ensures sent.2;
          reads = sent.3;
          writes = sent.4;
        };
      },
      refl,
      refl,
      refl,
      refl,
      refl,
    )
