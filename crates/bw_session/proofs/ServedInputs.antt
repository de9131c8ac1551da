-- An exchange over an input in memory.
use Rattle.std.proofs.Common.{◌≡◌, ◌≢◌, ℕ, true, List, [], ◌++◌, Option, Some, refl, sym, ap, ◌∙◌, subst, arith}
use Rattle.std.specs.List.{list_all}
use Rattle.std.proofs.lemmas.Bool.{and_from}
use Rattle.std.proofs.lemmas.List.{append-nil}
use Rattle.std.proofs.lemmas.List.Folds.{list_all-append}
use Rattle.bw_model.specs.Wire.{Frame, are_bytes}
use Rattle.bw_model.specs.Replies.{Reply, is_reply}
use Rattle.bw_model.specs.Stream.{End, EndOfInput, SaidBye, BadFrame}
use Rattle.bw_wire.specs.Reasons.{reason_meaning}
use Rattle.bw_model.specs.Exchange.{last_reply}
use Rattle.bw_model.proofs.Elements.{some_inj}
use Rattle.bw_exchange.specs.AnsweredFrames.{Answered, answered_frames, replies_of}
use Rattle.bw_exchange.specs.Done.{AreFirstOf}
use Rattle.bw_exchange.specs.WholeExchanges.{Serves, EndsBy, reads_failed}
use Rattle.bw_session.specs.IngestRuns.{WasServed, ServesInput, ServesFirst}
use Rattle.bw_exchange.specs.declared.serving.ExchangeEnd.{ExchangeEnd}
use Rattle.bw_exchange.specs.declared.serving.ExchangeEnd.TheVariants as ends
use Rattle.bw_exchange.specs.declared.turns.NotKept.{NotKept}
use Rattle.bw_session.proofs.FirstFrames.{first_of_more}

-- all replies have spellings, and that to a bad frame
both_spelled : (answered : List Answered) (end : End) → list_all is_reply (replies_of answered) ≡ true →
    list_all is_reply (last_reply end) ≡ true → list_all is_reply (replies_of answered ++ last_reply end) ≡ true
both_spelled answered end all last =
    list_all-append is_reply (replies_of answered) (last_reply end)
    ∙ and_from (list_all is_reply (replies_of answered)) (list_all is_reply (last_reply end)) all last

-- it was served to the end that it reported
was_served : (end : ExchangeEnd) (input fed rest output : List ℕ) (left left' : Option (List ℕ))
    (answered : List Answered) → are_bytes input ≡ true → fed ++ rest ≡ input → left ≡ Some input →
    list_all is_reply (replies_of answered) ≡ true →
    EndsBy end left left' answered fed output → 0 ≡ reads_failed end 0 → end ≢ ends.WriteFault →
    end ≢ ends.Memory → ((cause : NotKept) → end ≢ ends.NotKept cause) →
    WasServed (record { input = input; answered = answered; written = output; end = end })
was_served ends.Bye input fed rest output left left' answered fits all from spelled h reads write memory kept =
    record {
      stream = h.whole input from;
      replies = h.written;
      spelled = both_spelled answered SaidBye spelled h.spelled;
    }
was_served ends.EndOfInput input fed rest output left left' answered fits all from spelled h reads write memory kept =
    record {
      stream = h.whole input from;
      replies = h.written;
      spelled = both_spelled answered EndOfInput spelled h.spelled;
    }
was_served (ends.BadFrame fault) input fed rest output left left' answered fits all from spelled h reads write memory kept =
    record {
      stream = h.whole input from;
      replies = h.written;
      spelled = both_spelled answered (BadFrame (reason_meaning fault.reason) fault.offset) spelled h.spelled;
    }
was_served ends.TurnLimit input fed rest output left left' answered fits all from spelled h reads write memory kept =
    record {
      end_is = refl;
      bytes_read = fed;
      unread = rest;
      all = all;
      long = h.1;
      answers = h.0;
      spelled = spelled;
      first = subst (AreFirstOf (answered_frames answered)) all (first_of_more (answered_frames answered) fed rest
          (ap are_bytes all ∙ fits) ([], h.0.frames ∙ sym (append-nil (answered_frames answered))));
    }
was_served ends.ReadFault input fed rest output left left' answered fits all from spelled h reads write memory kept =
    absurd (omega (arith, reads))
was_served ends.WriteFault input fed rest output left left' answered fits all from spelled h reads write memory kept =
    absurd (write refl)
was_served (ends.NotKept cause) input fed rest output left left' answered fits all from spelled h reads write memory kept =
    absurd (kept cause refl)
was_served ends.Memory input fed rest output left left' answered fits all from spelled h reads write memory kept =
    absurd (memory refl)

module _ {T : Type 0} (answers : T → Frame → List Reply → T → Type 0) (old new : T) (input : List ℕ)
    (end : ExchangeEnd) (left left' written written' : Option (List ℕ)) (fits : are_bytes input ≡ true)
    (from : left ≡ Some input)
    (h : Serves answers end old new left left' written written') where
  pub serves_input : (bytes : List ℕ) → written ≡ Some [] → written' ≡ Some bytes → 0 ≡ reads_failed end 0 →
      end ≢ ends.WriteFault → end ≢ ends.Memory → ((cause : NotKept) → end ≢ ends.NotKept cause) →
      ServesInput answers old new input bytes end
  serves_input bytes empty full reads write memory kept =
      let given = h.given input from in
      let same : h.output ≡ bytes = some_inj (sym (h.taken [] empty) ∙ full) in
      record {
        answered = h.answered;
        by_server = h.by_server;
        served = subst (λ (w : List ℕ). WasServed (record {
          input = input;
          answered = h.answered;
          written = w;
          end = end;
        })) same (was_served end input h.input given.0 h.output left left' h.answered fits given.2 from h.spelled h.by_end
            reads write memory kept);
      }

  pub serves_first : ServesFirst answers old new input
  serves_first =
      let given = h.given input from in
      record {
        answered = h.answered;
        by_server = h.by_server;
        first = subst (AreFirstOf (answered_frames h.answered)) given.2
            (first_of_more (answered_frames h.answered) h.input given.0 (ap are_bytes given.2 ∙ fits) h.prefix);
      }
