use Rattle.std.proofs.Common.{◌<◌, ◌^◌, arith, string_bytes}
use Rattle.bw_recovery.proofs.ListForms.{if_ok}
use Rattle.bw_recovery.proofs.PathLemmas.{torn_no_wave, numbered_no_wave}
use Rattle.bw_recovery.proofs.resuming.torn_ending.Goals as goal

pub returns-then-attempt-eq0-clause-apart : goal.returns-then-attempt-eq0-clause-apart
returns-then-attempt-eq0-clause-apart c =
    if_ok c.first_ending.result _ _ (λ e is folder name. torn_no_wave (string_bytes e) folder name is) c.first_ending.ensures.value

pub returns-clause-apart : goal.returns-clause-apart
returns-clause-apart c =
    let small : c.args.attempt < 2 ^ 64 = omega (arith, c.ranges.attempt.fits) in
    if_ok c.numbered_ending.result _ _
    (λ e is folder name. numbered_no_wave c.args.attempt (string_bytes e) folder name small is) c.numbered_ending.ensures.value
