use Rattle.std.proofs.Common.{refl, inl}
use Rattle.bw_send_file.proofs.Reported.{refuses}
use Rattle.bw_send_file.proofs.followed.follow_samples.Goals as goal

pub returns-in-Err : goal.returns-in-Err
returns-in-Err g c =
    refuses _ _ _ _ _ _ c.in-Err.fault _ _ _ _ _ (λ did h. inl (h, refl)) c.in-Err.ensures.err
    c.refuse_options.ensures
