use Rattle.std.proofs.Common.{◌≡◌, ◌∙◌, sym, subst, Option, None, codes}
use Rattle.clap.specs.Words.{first_value, found_of}
use Rattle.std.specs.Prelude.{is_some, not}
use Rattle.bw_args.specs.Lines.{is_set}
use Rattle.bw_args.specs.PcmSources.{GivesFormat, samples_with}
use Rattle.bw_args.specs.declared.commands.samples.WrittenFormat.{WrittenFormat}
use Rattle.bw_args.proofs.commands.samples.samples_given.Goals as goal

pub returns-in_default-format-clause-ok : goal.returns-in_default-format-clause-ok
returns-in_default-format-clause-ok c =
    let given = first_value (found_of c.args.options.now) in
    let none : c.in-Ok.format ≡ None = c.in_default-format.is in record {
      format = None;
      skip = c.in-Ok-number_given.skip;
      block = c.in-Ok-count_given.block;
      formatted = subst (λ (f : Option WrittenFormat). GivesFormat (given (codes "pcm")) f) none c.in-Ok.ensures;
      begins = c.in-Ok-number_given.ensures;
      blocks = c.in-Ok-count_given.ensures;
      unmixed = sym c.are_mixed.ensures ∙ c.if-are_mixed.false;
      are = c.header_samples.ensures
          (samples_with c.in-Ok-number_given.skip c.in-Ok-count_given.block (given (codes "until"))
          (given (codes "marks")) (is_some (given (codes "spool"))) (not (is_set (given (codes "no-defaults")))));
    }
