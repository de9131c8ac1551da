use Rattle.std.proofs.Common.{◌≡◌, map, rules, string_bytes}
use Rattle.std.proofs.lemmas.Result.{IfOk-weaker}
use Rattle.clap.specs.Words.{subcommand_rows_of}
use Rattle.bw_args.specs.ReadWords.{as_read}
use Rattle.bw_args.proofs.AllCommandLemmas.{refuses_lines, runs_commands}
use Rattle.bw_args.proofs.Asked.{taken_limit}
use Rattle.bw_args.proofs.FormLemmas.{reports_help}
use Rattle.bw_args.proofs.LineLemmas.{line_asked, line_of_read, reported_line, reported_result}
use Rattle.bw_args.proofs.parse.Goals as goal

pub returns-in-Ok-clause-line : goal.returns-in-Ok-clause-line
returns-in-Ok-clause-line c =
    let read : map string_bytes c.as_slice.result.now ≡ as_read (map string_bytes c.args.words.now) = search rules in
    IfOk-weaker c.taken.result _ _
    (λ line given. line_of_read _ _ line read (line_asked _ _ _ line c.in_ok-command.ensures c.in-Ok.ensures.kinds
    (λ simple. (c.in-Ok.ensures.ok.2 simple).1) given))
    c.taken.ensures

pub returns-clause-line : goal.returns-clause-line
returns-clause-line c =
    let read : map string_bytes c.as_slice.result.now ≡ as_read (map string_bytes c.args.words.now) = search rules in
    IfOk-weaker c.reported.result _ _ (λ line given. line_of_read _ _ line read given)
    (reported_result c.reported.result _ c.in-Err.error c.reported.ensures.reported c.reported.ensures.out_of_memory.1
    (reported_line _ _ c.in-Err.error c.in_ok-command.ensures c.in-Err.ensures.kinds))

pub returns-in-Ok-clause-ranges : goal.returns-in-Ok-clause-ranges
returns-in-Ok-clause-ranges c = IfOk-weaker c.taken.result _ _ (taken_limit (subcommand_rows_of c.in-Ok.matches)) c.taken.ensures

pub returns-in-Ok-clause-runs : goal.returns-in-Ok-clause-runs
returns-in-Ok-clause-runs c = IfOk-weaker c.taken.result _ _ (runs_commands _) (returns-in-Ok-clause-line c)

pub returns-clause-runs : goal.returns-clause-runs
returns-clause-runs c = IfOk-weaker c.reported.result _ _ (runs_commands _) (returns-clause-line c)

pub returns-in-Ok-clause-refuses : goal.returns-in-Ok-clause-refuses
returns-in-Ok-clause-refuses c = IfOk-weaker c.taken.result _ _ (refuses_lines _) (returns-in-Ok-clause-line c)

pub returns-clause-refuses : goal.returns-clause-refuses
returns-clause-refuses c = IfOk-weaker c.reported.result _ _ (refuses_lines _) (returns-clause-line c)

pub returns-in-Ok-clause-help : goal.returns-in-Ok-clause-help
returns-in-Ok-clause-help c = IfOk-weaker c.taken.result _ _ (reports_help _) (returns-in-Ok-clause-line c)

pub returns-clause-help : goal.returns-clause-help
returns-clause-help c = IfOk-weaker c.reported.result _ _ (reports_help _) (returns-clause-line c)
