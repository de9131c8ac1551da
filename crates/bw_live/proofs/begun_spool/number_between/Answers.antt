use Rattle.std.proofs.Common.{◌≡◌, ◌∙◌, ◌-◌, ap, decimal, drop, length, subst, sym, take}
use Rattle.std.specs.Str.{IsUtf8}
use Rattle.std.specs.Result.{result_ok}
use Rattle.std.proofs.lemmas.Fmt.{IsAscii-decimal, parse-decimal}
use Rattle.std.proofs.lemmas.Str.{IsUtf8-from_ascii}
use Rattle.bw_live.proofs.BegunLines.{part_between}
use Rattle.bw_live.proofs.begun_spool.number_between.Goals as goal

pub returns-in-Ok : goal.returns-in-Ok
returns-in-Ok c n small head tail is h t =
    let digits = c.in-Ok.ensures.cases.0
    ∙ ap (λ e. take (e - c.args.before) (drop c.args.before c.args.text.now)) c.saturating_sub-end.ensures
    ∙ part_between c.args.text.now head (decimal n) tail c.args.before c.args.after is h t in
    c.ok.ensures.value ∙ ap result_ok (parse-decimal 64 n _ _ small small digits c.parse.ensures.value.0)

pub returns-in-Err : goal.returns-in-Err
returns-in-Err c n small head tail is h t =
    let digits = ap (λ e. take (e - c.args.before) (drop c.args.before c.args.text.now)) c.saturating_sub-end.ensures
    ∙ part_between c.args.text.now head (decimal n) tail c.args.before c.args.after is h t in
    absurd (c.in-Err.ensures.cases.0 (subst IsUtf8 (sym digits) (IsUtf8-from_ascii (decimal n) (IsAscii-decimal n small))))
