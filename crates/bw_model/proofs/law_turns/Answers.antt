use Rattle.bw_model.proofs.TurnLaws.{few_replies, replies_report, delays_counted, quiet_drains}
use Rattle.bw_model.proofs.VerdictLaws.{admitted_stays, verdicts_stay, verdicts_true_reported, repeats_reported}
use Rattle.bw_model.proofs.VerdictLaws.{one_verdict as one}
use Rattle.bw_model.proofs.law_turns.Goals as goal

pub returns : goal.returns
returns c = record {
  few = few_replies;
  book = replies_report;
  delays = delays_counted;
  quiet = quiet_drains;
  bodies = admitted_stays;
  stay = verdicts_stay;
  true_verdicts = verdicts_true_reported;
  repeats = repeats_reported;
  one_verdict = one;
}
