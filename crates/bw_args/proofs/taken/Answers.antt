use Rattle.std.proofs.Common.{sym, ◌∙◌}
use Rattle.std.proofs.lemmas.Result.{IfOk-weaker}
use Rattle.bw_args.proofs.LineLemmas.{taken_line}
use Rattle.bw_args.proofs.taken.Goals as goal

pub returns : goal.returns
returns c = IfOk-weaker c.line.result _ _
    (λ line given. taken_line _ line (sym c.is_nameless.ensures ∙ c.if-is_nameless.false) given) c.line.ensures.ok
