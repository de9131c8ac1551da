use Rattle.std.proofs.Common.{◌≡◌, ◌-◌, ℕ, List, ◌∙◌, ap, Some, arith}
use Rattle.std.proofs.lemmas.Result.{err_from_is_err_and}
use Rattle.bw_model.specs.Reading as reading
use Rattle.bw_model.specs.Report as report
use Rattle.bw_layout.specs.Raw.{bext_at}
use Rattle.bw_inspect.proofs.Contents.{bext_prefix}
use Rattle.bw_inspect.proofs.content.read_bext_chunk.Goals as goal

pub returns-in_err-pass_rest-clause-consumed : goal.returns-in_err-pass_rest-clause-consumed
returns-in_err-pass_rest-clause-consumed g c =
    let p = err_from_is_err_and c.from_residual-in_err-pass_rest.result c.from_residual-in_err-pass_rest.ensures.1 in
    let read = c.in_ok-read_part.ensures.consumed in
    let passed = c.in_err-pass_rest.ensures.consumed in
    rw (p.1, p.2) (record {
      failures = rw (← read.failures) passed.failures;
      moved = let r = read.moved in let m = passed.moved in let long = c.requires.long in omega arith;
    })

pub returns-in_err-pass_rest-clause-err : goal.returns-in_err-pass_rest-clause-err
returns-in_err-pass_rest-clause-err g c =
    let p = err_from_is_err_and c.from_residual-in_err-pass_rest.result c.from_residual-in_err-pass_rest.ensures.1 in
    rw (p.1, p.2) (λ b r. c.in_err-pass_rest.ensures.err b (c.in_ok-read_part.ensures.ok b r).to)

pub overflow_sub-result : goal.overflow_sub-result
overflow_sub-result g c =
    let size = ap (λ (e : reading.Entry). e.size) c.entry-2.view_is in
    let long = c.requires.long in
    omega arith

pub returns-clause-ok : goal.returns-clause-ok
returns-clause-ok g c b r =
    let p = c.in_ok-read_part.ensures.ok b r in
    let content = report.content_of b (Some c.args.entry) in
    let reported : c.in-Ok.fields ≡ bext_at content = c.in-Ok.ensures.1 ∙ (ap bext_at p.bytes ∙ bext_prefix content) in
    let size : c.entry-2.inside.size - 602 ≡ c.args.entry.size - 602 =
    ap (λ (e : reading.Entry). e.size - 602) c.entry-2.view_is in (
      c.in_ok-pass_rest.ensures.ok b p.to,
      ap (λ (x : report.RawBext × List ℕ). (x, c.entry-2.inside.size - 602)) reported
          ∙ ap (λ (n : ℕ). (bext_at content, n)) size,
    )
