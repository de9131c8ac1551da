use Rattle.std.proofs.Common.{codes, refl, sym, ◌∙◌}
use Rattle.clap.specs.Words.{found_of}
use Rattle.bw_args.specs.Sources.{in_plain}
use Rattle.bw_args.specs.Lines.{Packing}
use Rattle.bw_args.proofs.Asked.{found_source, no_packed_line, on_err, source_asked, unkept_line}
use Rattle.bw_args.proofs.commands.one_file.pack_line.Goals as goal

pub returns-in_default-clause-ok : goal.returns-in_default-clause-ok
returns-in_default-clause-ok c = no_packed_line (found_of c.args.options.now) c.in_default.ensures

pub returns-then-is_left_out_mixed-clause-ok : goal.returns-then-is_left_out_mixed-clause-ok
returns-then-is_left_out_mixed-clause-ok c = unkept_line (found_of c.args.options.now)
    (sym c.is_left_out_mixed.ensures ∙ c.if-is_left_out_mixed.true)

pub returns-clause-ok : goal.returns-clause-ok
returns-clause-ok c = (
  refl,
  source_asked (found_of c.args.options.now) (λ g. g (codes "file")) c.in-Some.path.now (in_plain c.in_ok-source.source) c.in-Some.ensures
      c.in_ok-source.ensures.0 c.in_ok-source.ensures.1 c.in_ok-source.ensures.2 c.in_ok-source.ensures.3
      c.in_ok-source.ensures.4 (sym c.is_left_out_mixed.ensures ∙ c.if-is_left_out_mixed.false),
)

pub returns-in_err-source-clause-err : goal.returns-in_err-source-clause-err
returns-in_err-source-clause-err c = on_err c.from_residual.result (
  Packing (found_source (found_of c.args.options.now) c.in-Some.path.now),
  tt,
  (
    refl,
    source_asked (found_of c.args.options.now) (λ g. g (codes "file")) c.in-Some.path.now
        (found_source (found_of c.args.options.now) c.in-Some.path.now) c.in-Some.ensures refl refl refl refl refl
        (sym c.is_left_out_mixed.ensures ∙ c.if-is_left_out_mixed.false),
  ),
)
