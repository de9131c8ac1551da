use Rattle.std.proofs.lemmas.Result.{err_from_is_err_and}
use Rattle.bw_upload.proofs.RequestLemmas.{length_refuses}
use Rattle.bw_upload.proofs.requests.read_requests.Goals as goal

pub returns-in_err-bytes-clause-err : goal.returns-in_err-bytes-clause-err
returns-in_err-bytes-clause-err g c =
    let answer = err_from_is_err_and c.from_residual.result c.from_residual.ensures.1 in
    rw (answer.1, answer.2) (λ xs reported. length_refuses _ xs (c.in_err-bytes.ensures.long xs reported))
