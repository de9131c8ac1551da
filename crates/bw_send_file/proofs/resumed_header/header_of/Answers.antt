use Rattle.std.proofs.Common.{[], inr, refl}
use Rattle.bw_send_file.proofs.resumed_header.header_of.Goals as goal

pub returns-in-Err-clause-err : goal.returns-in-Err-clause-err
returns-in-Err-clause-err g c =
    record { given = []; at = c.args.feed.now; went = refl; blockless = tt; why = inr (inr (inr refl)) }
