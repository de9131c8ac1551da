use Rattle.std.proofs.Common.{ℕ, rules, arith, subst}
use Rattle.bw_exchange.specs.Done.{AnswersSome}
use Rattle.bw_exchange.proofs.Turning.{goes_on, some_of, some_one, some_stopped, up_to_none}
use Rattle.bw_exchange.proofs.exchange.Exchange.answer.Goals as goal

pub loop-turn-init : goal.loop-turn-init
loop-turn-init g c = up_to_none g.T.Turns.answers c.args.server.now c.args.self.now

pub loop-turn-preserved : goal.loop-turn-preserved
loop-turn-preserved g c =
    let self = c.loop-turn.self in
    some_one g.T.Turns.answers c.loop-turn.turn c.answer_one.result c.args.server.now c.loop-turn.server
    c.answer_one.new.server c.args.self.now self c.answer_one.new.self (search rules) c.loop-turn.invariant
    (goes_on self (search rules) (search rules) (search rules)) c.answer_one.ensures.answers

pub returns-then-is_idle : goal.returns-then-is_idle
returns-then-is_idle g c =
    some_of g.T.Turns.answers c.loop-turn.turn c.args.turns c.args.server.now c.loop-turn.server c.args.self.now
    c.loop-turn.self (omega arith) (search rules) c.loop-turn.invariant

pub returns-then-not-answer_one : goal.returns-then-not-answer_one
returns-then-not-answer_one g c =
    let self = c.loop-turn.self in
    some_stopped g.T.Turns.answers c.loop-turn.turn c.args.turns c.answer_one.result c.args.server.now
    c.loop-turn.server c.answer_one.new.server c.args.self.now self c.answer_one.new.self (search rules) (search rules)
    c.loop-turn.invariant (goes_on self (search rules) (search rules) (search rules)) c.answer_one.ensures.answers

pub returns : goal.returns
returns g c =
    subst (λ (n : ℕ). AnswersSome g.T.Turns.answers n n c.args.server.now c.loop-turn.server c.args.self.now
    c.loop-turn.self) (omega arith) c.loop-turn.invariant
