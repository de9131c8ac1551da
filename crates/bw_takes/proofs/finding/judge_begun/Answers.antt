use Rattle.std.proofs.Common.{sym, subst}
use Rattle.bw_recovery.specs.Adoptions.{IsFileHeader}
use Rattle.bw_takes.proofs.finding.judge_begun.Goals as goal

pub judge_file-requires : goal.judge_file-requires
judge_file-requires g c f format =
    subst (IsFileHeader c.args.limit c.args.replayed.state.parts f) (sym c.deref.ensures.value)
    (c.in_ok-header.ensures.value f format)
