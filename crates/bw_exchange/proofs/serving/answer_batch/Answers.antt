use Rattle.std.proofs.Common.{rules, ◌^◌}
use Rattle.bw_exchange.proofs.Writing.{batch_kept}
use Rattle.bw_exchange.proofs.Batches.{batch_of, lost_of, none_in_batch}
use Rattle.bw_exchange.proofs.serving.answer_batch.Goals as goal

pub returns-then-not-answer_one-clause-batch : goal.returns-then-not-answer_one-clause-batch
returns-then-not-answer_one-clause-batch g c =
    none_in_batch g.T.Turns.answers g.T.Turns.commits c.answer_one.result c.args.server.now c.answer_one.new.server
    c.args.exchange.now c.answer_one.new.self (search rules) c.answer_one.ensures.answers

pub returns-clause-batch : goal.returns-clause-batch
returns-clause-batch g c =
    batch_of g.T.Turns.answers g.T.Turns.commits c.commit.result _ _ c.args.server.now c.answer_one.new.server
    c.answer.new.server c.commit.new.self c.args.exchange.now c.answer_one.new.self c.answer.new.self
    c.answer_one.ensures.answers c.answer.result c.answer.ensures c.commit.ensures.commits

pub returns-clause-lost : goal.returns-clause-lost
returns-clause-lost g c =
    lost_of g.T.Turns.answers g.T.Turns.commits c.commit.result _ _ c.args.server.now c.answer_one.new.server
    c.answer.new.server c.commit.new.self c.args.exchange.now c.answer_one.new.self c.answer.new.self
    c.answer_one.ensures.answers c.answer.result c.answer.ensures c.commit.ensures.commits

pub returns-clause-answers : goal.returns-clause-answers
returns-clause-answers g c =
    batch_kept g.T.Turns.answers (2 ^ 20) c.answer.result c.answer_one.result c.args.server.now
    c.answer_one.new.server c.answer.new.server c.commit.new.self c.args.exchange.now c.answer_one.new.self
    c.answer.new.self (search rules) c.answer_one.ensures.answers (search rules) c.answer.ensures
    c.commit.ensures.answered
