use Rattle.std.proofs.Common.{◌≡◌, ◌∷◌, true, false, codes, sym, ◌∙◌}
use Rattle.clap.specs.Words.{first_value, found_of}
use Rattle.bw_args.specs.Lines.{looked_at_samples, looked_at_trying}
use Rattle.bw_args.specs.declared.bad_value.BadValue.TheVariants.{Name, Connect, LeftOut, Mixed, Receipt}
use Rattle.bw_args.proofs.Asked.{an_address, bad, bad_sender, first_then, found_address, no_address, no_samples, sender_asked}
use Rattle.bw_args.proofs.Asked.{tries_then, ◌and_then◌}
use Rattle.bw_args.proofs.commands.sending.one_sender_line.Goals as goal

pub returns-in_default-clause-ok : goal.returns-in_default-clause-ok
returns-in_default-clause-ok c = bad_sender (found_of c.args.options.now) false Connect c.requires.alone (
    bad (no_address (found_of c.args.options.now) (codes "connect") _ c.flag_given-network.ensures
    c.in_default.ensures)
    )

pub returns-in_default-name_given-clause-ok : goal.returns-in_default-name_given-clause-ok
returns-in_default-name_given-clause-ok c = bad_sender (found_of c.args.options.now) false Name c.requires.alone (
    found_address (found_of c.args.options.now) (codes "connect") _ _ c.flag_given-network.ensures c.in-Some.ensures
    and_then bad (λ good. c.in_default-name_given.ensures good.0 good.1)
    )

pub returns-in-Err-clause-ok : goal.returns-in-Err-clause-ok
returns-in-Err-clause-ok c = bad_sender (found_of c.args.options.now) false c.in-Err.value c.requires.alone (
    found_address (found_of c.args.options.now) (codes "connect") _ _ c.flag_given-network.ensures c.in-Some.ensures
    and_then (c.in-Some-name_given.name, c.in-Some-name_given.ensures)
    and_then first_then looked_at_trying (Mixed ∷ Receipt ∷ LeftOut ∷ looked_at_samples) (first_value (found_of c.args.options.now))
    c.in-Err.value c.in-Err.ensures.err
    )

pub returns-then-is_mixed-clause-ok : goal.returns-then-is_mixed-clause-ok
returns-then-is_mixed-clause-ok c = bad_sender (found_of c.args.options.now) false Mixed c.requires.alone (
    found_address (found_of c.args.options.now) (codes "connect") _ _ c.flag_given-network.ensures c.in-Some.ensures
    and_then (c.in-Some-name_given.name, c.in-Some-name_given.ensures)
    and_then tries_then (Mixed ∷ Receipt ∷ LeftOut ∷ looked_at_samples) (first_value (found_of c.args.options.now)) Mixed
    c.in-Ok.tries c.in-Ok.ensures.ok
    (bad (λ good. let apart : true ≡ false = sym c.if-is_mixed.true ∙ c.is_mixed.ensures ∙ good in cc))
    )

pub returns-then-is_receipt_mixed-clause-ok : goal.returns-then-is_receipt_mixed-clause-ok
returns-then-is_receipt_mixed-clause-ok c = bad_sender (found_of c.args.options.now) false Receipt c.requires.alone (
    found_address (found_of c.args.options.now) (codes "connect") _ _ c.flag_given-network.ensures c.in-Some.ensures
    and_then (c.in-Some-name_given.name, c.in-Some-name_given.ensures)
    and_then tries_then (Mixed ∷ Receipt ∷ LeftOut ∷ looked_at_samples) (first_value (found_of c.args.options.now)) Receipt
    c.in-Ok.tries c.in-Ok.ensures.ok
    (sym c.is_mixed.ensures ∙ c.if-is_mixed.false
    and_then bad (λ good. let apart : true ≡ false =
    sym c.if-is_receipt_mixed.true ∙ c.is_receipt_mixed.ensures ∙ good in cc))
    )

pub returns-then-is_left_out_mixed-clause-ok : goal.returns-then-is_left_out_mixed-clause-ok
returns-then-is_left_out_mixed-clause-ok c = bad_sender (found_of c.args.options.now) false LeftOut c.requires.alone (
    found_address (found_of c.args.options.now) (codes "connect") _ _ c.flag_given-network.ensures c.in-Some.ensures
    and_then (c.in-Some-name_given.name, c.in-Some-name_given.ensures)
    and_then tries_then (Mixed ∷ Receipt ∷ LeftOut ∷ looked_at_samples) (first_value (found_of c.args.options.now)) LeftOut
    c.in-Ok.tries c.in-Ok.ensures.ok
    (sym c.is_mixed.ensures ∙ c.if-is_mixed.false and_then sym c.is_receipt_mixed.ensures ∙ c.if-is_receipt_mixed.false
    and_then bad (λ good. let apart : true ≡ false =
    sym c.if-is_left_out_mixed.true ∙ c.is_left_out_mixed.ensures ∙ good in cc))
    )

pub returns-in_default-path_given-clause-ok : goal.returns-in_default-path_given-clause-ok
returns-in_default-path_given-clause-ok c = sender_asked (found_of c.args.options.now) _ (record {
  connects = an_address (found_of c.args.options.now) (codes "connect") _ _
      c.flag_given-network.ensures c.in-Some.ensures;
  named = c.in-Some-name_given.ensures;
  tries = (c.in-Ok.tries.rounds, c.in-Ok.ensures.ok.rounds, c.unwrap_or.ensures);
  waits = c.in-Ok.ensures.ok.waits;
  lines = sym c.in_default-path_given.ensures;
  unmixed = sym c.is_mixed.ensures ∙ c.if-is_mixed.false;
  unsampled = no_samples (first_value (found_of c.args.options.now)) _ (sym c.in_default-path_given.ensures)
      c.in-Ok-samples_given.ensures.ok;
})

pub returns-in-Err-samples_given-clause-ok : goal.returns-in-Err-samples_given-clause-ok
returns-in-Err-samples_given-clause-ok c = bad_sender (found_of c.args.options.now) false c.in-Err-samples_given.value c.requires.alone (
    found_address (found_of c.args.options.now) (codes "connect") _ _ c.flag_given-network.ensures c.in-Some.ensures
    and_then (c.in-Some-name_given.name, c.in-Some-name_given.ensures)
    and_then tries_then (Mixed ∷ Receipt ∷ LeftOut ∷ looked_at_samples) (first_value (found_of c.args.options.now))
    c.in-Err-samples_given.value
    c.in-Ok.tries c.in-Ok.ensures.ok
    (sym c.is_mixed.ensures ∙ c.if-is_mixed.false and_then sym c.is_receipt_mixed.ensures ∙ c.if-is_receipt_mixed.false
    and_then sym c.is_left_out_mixed.ensures ∙ c.if-is_left_out_mixed.false and_then c.in-Err-samples_given.ensures.err)
    )
