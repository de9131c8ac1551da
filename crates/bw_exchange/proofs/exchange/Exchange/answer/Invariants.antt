use Rattle.bw_exchange.specs.Done.{AnswersSome}
use Rattle.bw_exchange.proofs.exchange.Exchange.answer.Given as goal

abbrev pub invariant-loop-turn : goal.invariant-loop-turn
invariant-loop-turn g l = AnswersSome g.T.Turns.answers l.turn l.turn l.fn.server l.server l.fn.self l.self
