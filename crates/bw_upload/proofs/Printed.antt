-- A sender that made its rounds is printed.
use Rattle.std.proofs.Common.{◌≡◌, ◌∙◌, ◌≤◌, ℕ, List, Option, length, ap, subst, sym}
use Rattle.bw_model.specs.Take.{Request}
use Rattle.bw_stream.specs.Readers.{Of}
use Rattle.bw_stream.specs.declared.sink.Sink.{Ghosts as Writer}
use Rattle.bw_stream.specs.declared.source.Source.{Ghosts as Reader}
use Rattle.bw_console.specs.Prints.{Print}
use Rattle.bw_console.specs.declared.exit.Exit.{Exit}
use Rattle.bw_ports.specs.declared.dial.Dial.{Ghosts as DialGhosts}
use Rattle.bw_upload.specs.RequestLines.{AreRequestsOf}
use Rattle.bw_upload.specs.RoundsMade.{MakesRounds}
use Rattle.bw_upload.specs.SenderText.{sender_text}
use Rattle.bw_upload.specs.SendState.{Sending, exit_for_sender, new_sending}
use Rattle.bw_upload.specs.Sends.{PrintsSender}
use Rattle.bw_upload.proofs.InOrder.{done_stored, made_in_order}

module _ {D R W : Type 0} (dial : DialGhosts D R W) (reader : Reader R) (writer : Writer W) where
  -- the text of its outcome is printed so, and it is reported by this exit
  pub prints_sender : (name : List ℕ) (rounds : ℕ) (input : Option (List ℕ)) (d d' : D) (printed : List ℕ → Print)
      (exit : Exit) (items requests : List Request) (last : Sending) (text : List ℕ) → requests ≡ items →
      Of input (λ xs. AreRequestsOf xs items) →
      MakesRounds dial reader writer rounds (new_sending name requests) last d d' →
      length last.sender.verdicts ≤ length last.sender.offered → text ≡ sender_text last.sender →
      exit ≡ exit_for_sender last →
      PrintsSender dial reader writer name rounds input d d' printed exit (printed text)
  prints_sender name rounds input d d' printed exit items requests last text same said went within is exit_is =
      let ordered = made_in_order dial reader writer name requests rounds last d d' went within in
      record {
        requests = requests;
        said = λ xs reported. subst (AreRequestsOf xs) (sym same) (said xs reported);
        last = last;
        went = went;
        is = ap printed is;
        exit_is = exit_is;
        in_order = ordered;
        done = λ done. done_stored last ordered (sym exit_is ∙ done);
      }
