use Rattle.std.proofs.Common.{List, ℕ, false, arith, refl, ◌∙◌, ap}
use Rattle.std.specs.Prelude.{is_some}
use Rattle.bw_model.specs.Replies.{Noticed, Next}
use Rattle.bw_model.specs.Book.{log_of}
use Rattle.bw_wire.specs.Frames.{asked_name, asked_number}
use Rattle.bw_wire.specs.Replies.{reply_of}
use Rattle.bw_session.specs.Books.{failures_of}
use Rattle.bw_session.proofs.ServerAnswers.{asked_turn}
use Rattle.bw_session.proofs.server_turns.ServerTurns.ask.Goals as goal
use Rattle.bw_session.proofs.ServerAnswers.{quiet_count, next_not_delayed}

pub returns-clause-answered : goal.returns-clause-answered
returns-clause-answered g c = record {
  limit = refl;
  honest = refl;
  honest_notes = refl;
  headers = λ honest_notes name. refl;
  committed = λ honest_notes name. omega arith;
  few = omega arith;
  failed = false;
  counted = quiet_count _;
  delays = next_not_delayed c.name.result c.number.result c.ask.ensures.notice.0 (reply_of c.ask.result)
      c.ask.ensures.notice.1;
  asks = refl;
  ordered = λ honest honest_notes asleep awake first book h n o. o;
  away = λ turned_away. (refl, refl);
  turned = λ honest first book h. record {
    later = book;
    turned = asked_turn (λ n. is_some (first n)) (failures_of g.S.TakeStore g.J.Journal c.args.self.now) book
        (asked_name c.args.ask.now) (asked_number c.args.ask.now) (reply_of c.ask.result)
        (c.ask.ensures.value first book h
        ∙ ap (λ (name : List ℕ). Noticed name c.number.result Next (log_of book name).done) c.name.ensures
        ∙ ap (λ (n : ℕ). Noticed (asked_name c.args.ask.now) n Next (log_of book (asked_name c.args.ask.now)).done)
        c.number.ensures.value);
    held = h;
    noted = λ honest_notes asleep awake notes. notes;
  };
}
