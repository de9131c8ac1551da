use Rattle.std.proofs.lemmas.Result.{err_from_is_err_and}
use Rattle.bw_sender.proofs.HeardPieces.{has_fed}
use Rattle.bw_sender.proofs.ListeningSteps.{listens_heard, listens_bad, listens_stopped}
use Rattle.bw_sender.proofs.talk.Talk.listen.Goals as goal

pub returns-in_err-read_piece-clause-listens : goal.returns-in_err-read_piece-clause-listens
returns-in_err-read_piece-clause-listens g c =
    let answer = err_from_is_err_and c.from_residual.result c.from_residual.ensures.1 in
    rw (answer.1, answer.2) (listens_stopped g.R.Source
    c.in_err-read_piece.field-0.0 _ _ _ _ _ c.in_err-read_piece.ensures.stops c.in_err-read_piece.ensures.failed)

pub returns-in_err-stop-clause-listens : goal.returns-in_err-stop-clause-listens
returns-in_err-stop-clause-listens g c =
    let answer = err_from_is_err_and c.from_residual-in_err-stop.result c.from_residual-in_err-stop.ensures.1 in
    let n = has_fed c.in_ok-read_piece.field-0 c.if-not-branch.false c.in_ok-read_piece.ensures.reads in
    let h = c.in_err-stop.ensures.hears in
    rw (answer.1, answer.2, c.in_err-stop.ensures.why) (listens_bad g.R.Source
    _ _ _ _ _ _ _ _ _ _ h.0 n h.1 c.in_err-stop.ensures.bad c.in_ok-read_piece.ensures.count)

pub returns-clause-listens : goal.returns-clause-listens
returns-clause-listens g c =
    let n = has_fed c.in_ok-read_piece.field-0 c.if-not-branch.false c.in_ok-read_piece.ensures.reads in
    let h = c.in_ok-stop.ensures.hears in
    listens_heard g.R.Source c.in_ok-stop.stop _ _ _ _ _ _ _ _ _ h.0 n h.1 h.2 c.in_ok-stop.ensures.none
    c.in_ok-read_piece.ensures.count
