use Rattle.std.proofs.Common.{◌∙◌, Some, sym, ap, subst}
use Rattle.clap.specs.Words.{first_value, found_of}
use Rattle.bw_args.specs.Sources.{in_plain, path_given}
use Rattle.bw_args.specs.PcmSources.{GivesSamples, PlainPcm, fruitless_of, is_live}
use Rattle.bw_args.proofs.Asked.{on_err, pcm_asked, samples_kept, source_asked}
use Rattle.bw_args.proofs.commands.samples.samples_line.Goals as goal

pub returns-in_err-source-clause-err : goal.returns-in_err-source-clause-err
returns-in_err-source-clause-err c = on_err c.from_residual.result
    (samples_kept (found_of c.args.options.now) c.args.path.now c.args.name c.args.connect c.args.tries _
    c.requires.connects c.requires.named c.requires.takes c.requires.tries c.requires.unmixed c.requires.unreceipted
    c.requires.kept c.requires.samples)

pub returns-in_err-pcm-clause-err : goal.returns-in_err-pcm-clause-err
returns-in_err-pcm-clause-err c = on_err c.from_residual-in_err-pcm.result
    (samples_kept (found_of c.args.options.now) c.args.path.now c.args.name c.args.connect c.args.tries _
    c.requires.connects c.requires.named c.requires.takes c.requires.tries c.requires.unmixed c.requires.unreceipted
    c.requires.kept c.requires.samples)

pub returns-clause-ok : goal.returns-clause-ok
returns-clause-ok c =
    let same = c.in_ok-pcm.ensures in
    pcm_asked (found_of c.args.options.now) _ c.args.tries.fruitless c.requires.connects c.requires.named
    (source_asked (found_of c.args.options.now) path_given c.args.path.now (in_plain c.in_ok-source.source)
    c.requires.takes c.in_ok-source.ensures.0 c.in_ok-source.ensures.1 c.in_ok-source.ensures.2
    c.in_ok-source.ensures.3 c.in_ok-source.ensures.4 c.requires.kept)
    (subst (λ (p : PlainPcm). GivesSamples (first_value (found_of c.args.options.now)) (Some p)) (sym same)
    c.requires.samples)
    (c.args.tries.timeout, c.requires.tries.waits, c.unwrap_or.ensures)
    c.requires.tries.ends
    (c.most_fruitless.ensures
    ∙ ap (λ (p : PlainPcm). fruitless_of (is_live p) c.args.tries.fruitless) (sym same))
    c.flag_given-log.ensures c.requires.tries.paced c.requires.unmixed c.requires.unreceipted
