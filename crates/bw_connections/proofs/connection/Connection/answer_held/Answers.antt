use Rattle.std.proofs.Common.{rules, ◌∙◌, refl, sym}
use Rattle.bw_connections.proofs.Going.{answers_held, answers_none, quiet_where_none, quiet_where_some}
use Rattle.bw_connections.proofs.connection.Connection.answer_held.Goals as goal

pub returns-then-wants_read : goal.returns-then-wants_read
returns-then-wants_read g c =
    answers_none g.L.Link g.T.Turns.answers c.args.now c.args.server.now c.args.self.now c.requires (search rules)

pub returns-then-answer-eq0 : goal.returns-then-answer-eq0
returns-then-answer-eq0 g c =
    let old = c.args.self.now in
    let h = c.answer.ensures in
    answers_held g.L.Link g.T.Turns.answers c.args.now c.answer.result c.args.server.now c.answer.new.server old _ c.requires
    (search rules) (search rules) refl refl refl refl refl h
    (quiet_where_none c.args.now old h.0.answered c.requires (h.1 ∙ (search rules)))

pub returns : goal.returns
returns g c =
    let old = c.args.self.now in
    let h = c.answer.ensures in
    answers_held g.L.Link g.T.Turns.answers c.args.now c.answer.result c.args.server.now c.answer.new.server old _ c.requires
    (search rules) (search rules) refl refl refl refl refl h
    (quiet_where_some c.args.now old h.0.answered c.requires (λ none. c.if-answer-eq0.false (sym h.1 ∙ none)))
