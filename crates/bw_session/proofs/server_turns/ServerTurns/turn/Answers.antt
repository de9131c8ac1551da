use Rattle.std.proofs.Common.{ℕ, ◌≤◌, sym, subst, map}
use Rattle.std.proofs.lemmas.List.{length-map}
use Rattle.std.specs.Prelude.{is_some}
use Rattle.bw_model.specs.Book.{Book}
use Rattle.bw_wire.specs.Frames.{message_of}
use Rattle.bw_wire.specs.Replies.{reply_of}
use Rattle.bw_wire.proofs.BodyLaws.{message_spelled}
use Rattle.bw_session.specs.Books.{failures_of, NotesAwake}
use Rattle.bw_session.specs.Servers.{store_since, done_in}
use Rattle.bw_session.specs.Tables.{session_in}
use Rattle.bw_session.proofs.ServerAnswers.{done_is, later_reported}
use Rattle.bw_session.proofs.server_turns.ServerTurns.turn.Goals as goal
use Rattle.bw_session.proofs.ServerAnswers.{one_failed}

pub returns-clause-answered : goal.returns-clause-answered
returns-clause-answered g c =
    let both = c.turn.ensures.both.1 in
    record {
      limit = c.turn.ensures.limit;
      honest = both.honest;
      honest_notes = both.honest_notes;
      headers = both.headers;
      committed = both.committed;
      few = subst (λ (n : ℕ). n ≤ 17) (sym (length-map c.turn.new.out.items reply_of)) c.turn.ensures.few;
      failed = c.turn.ensures.both.0;
      counted = both.failures;
      delays = one_failed c.turn.ensures.both.0 c.turn.new.out.items c.turn.ensures.both.3;
      asks = record {
        fits = (message_spelled c.args.message.now.body.now c.args.message.now.spells).fits;
        both = both;
        asked = c.turn.ensures.asked;
        few = c.turn.ensures.both.2;
      };
      ordered = c.turn.ensures.ordered;
      away = λ turned_away. let kept = c.turn.ensures.uncalled turned_away in (kept.0, kept.1);
      turned = λ honest first book h.
          let t = c.turn.ensures.turned honest first book h in
          let m = message_of c.args.message.now in
          let done = done_is c.turn.new.self.limit (store_since g.S.TakeStore first c.turn.new.self.stores.store)
          (session_in c.turn.new.self.sessions) t.later t.held.holds m.name in
          record {
            later = t.later;
            turned = t.turned;
            held = t.held;
            noted = λ honest_notes asleep awake notes.
                subst (λ (b : Book). NotesAwake g.S.TakeStore g.J.Journal asleep first c.turn.new.self b)
                (later_reported (λ n. is_some (first n)) (failures_of g.S.TakeStore g.J.Journal c.args.self.now)
                (failures_of g.S.TakeStore g.J.Journal c.turn.new.self) book m
                (map reply_of c.turn.new.out.items) t.later (done_in c.turn.new.self.sessions m.name) t.turned done)
                (c.turn.ensures.noted honest honest_notes asleep awake first book h notes);
          };
    }
