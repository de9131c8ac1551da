use Rattle.std.proofs.Common.{◌∙◌, sym, inl, inr, arith}
use Rattle.std.proofs.lemmas.Result.{err_from_is_err_and}
use Rattle.bw_send_file.proofs.AskSteps.{answered_last, lacks_memory, vain_more}
use Rattle.bw_send_file.proofs.asking.ask_server.Goals as goal

pub loop-fruitless-preserved : goal.loop-fruitless-preserved
loop-fruitless-preserved g c =
    vain_more g.P.Pause g.D.Dial g.D.Reader.Source g.D.Writer.Sink c.args.name.now c.args.most c.loop-fruitless.fruitless
    _ _ _ _ _ c.in-None.is c.loop-fruitless.invariant (sym c.is_spent.ensures ∙ c.if-is_spent.false) c.wait_to_ask.ensures
    c.in_ok-next.ensures.ok

pub returns-in-Some : goal.returns-in-Some
returns-in-Some g c =
    answered_last g.P.Pause g.D.Dial g.D.Reader.Source g.D.Writer.Sink c.args.name.now c.args.most
    c.loop-fruitless.fruitless c.in-Some.next _ _ _ _ _ c.in-Some.is c.loop-fruitless.invariant
    (sym c.is_spent.ensures ∙ c.if-is_spent.false) c.wait_to_ask.ensures c.in_ok-next.ensures.ok

pub returns-then-is_spent : goal.returns-then-is_spent
returns-then-is_spent g c = record {
  n = c.loop-fruitless.fruitless;
  vain = c.loop-fruitless.invariant;
  spent = inl (sym c.is_spent.ensures ∙ c.if-is_spent.true);
}

pub returns : goal.returns
returns g c = record {
  n = c.loop-fruitless.fruitless;
  vain = c.loop-fruitless.invariant;
  spent = inr (omega (arith, c.loop-fruitless-test.false));
}

pub returns-in_err-next : goal.returns-in_err-next
returns-in_err-next g c =
    let answer = err_from_is_err_and c.from_residual.result c.from_residual.ensures.1 in
    rw (answer.1, answer.2) (lacks_memory
    g.P.Pause g.D.Dial g.D.Reader.Source g.D.Writer.Sink c.args.name.now c.args.most c.loop-fruitless.fruitless
    c.in_err-next.field-0.0 _ _ _ _ c.in_err-next.ensures.err.0 c.loop-fruitless.invariant c.wait_to_ask.ensures
    c.in_err-next.ensures.err.1)
