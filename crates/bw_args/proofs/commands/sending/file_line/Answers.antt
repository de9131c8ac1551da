use Rattle.clap.specs.Words.{found_of}
use Rattle.bw_args.specs.Sources.{in_plain, path_given}
use Rattle.bw_args.proofs.Asked.{on_err, source_asked, upload_asked, upload_kept}
use Rattle.bw_args.proofs.commands.sending.file_line.Goals as goal

pub returns-in_err-source-clause-err : goal.returns-in_err-source-clause-err
returns-in_err-source-clause-err c = on_err c.from_residual.result
    (upload_kept (found_of c.args.options.now) c.args.path.now c.args.name c.args.connect c.args.tries
    c.requires.connects c.requires.named c.requires.takes c.requires.tries c.requires.unmixed c.requires.receipted
    c.requires.kept c.requires.unsampled)

pub returns-in_err-state-clause-err : goal.returns-in_err-state-clause-err
returns-in_err-state-clause-err c = on_err c.from_residual-in_err-state.result
    (upload_kept (found_of c.args.options.now) c.args.path.now c.args.name c.args.connect c.args.tries
    c.requires.connects c.requires.named c.requires.takes c.requires.tries c.requires.unmixed c.requires.receipted
    c.requires.kept c.requires.unsampled)

pub returns-in_err-receipt-clause-err : goal.returns-in_err-receipt-clause-err
returns-in_err-receipt-clause-err c = on_err c.from_residual-in_err-receipt.result
    (upload_kept (found_of c.args.options.now) c.args.path.now c.args.name c.args.connect c.args.tries
    c.requires.connects c.requires.named c.requires.takes c.requires.tries c.requires.unmixed c.requires.receipted
    c.requires.kept c.requires.unsampled)

pub returns-clause-ok : goal.returns-clause-ok
returns-clause-ok c = upload_asked (found_of c.args.options.now) _ c.requires.connects c.requires.named
    (source_asked (found_of c.args.options.now) path_given c.args.path.now (in_plain c.in_ok-source.source)
    c.requires.takes c.in_ok-source.ensures.0 c.in_ok-source.ensures.1 c.in_ok-source.ensures.2
    c.in_ok-source.ensures.3 c.in_ok-source.ensures.4 c.requires.kept)
    (c.args.tries.timeout, c.requires.tries.waits, c.unwrap_or.ensures)
    (c.args.tries.fruitless, c.requires.tries.ends, c.unwrap_or-2.ensures)
    c.flag_given-log.ensures c.in_ok-state.ensures c.in_ok-receipt.ensures
    c.requires.receipted c.requires.tries.paced c.requires.unmixed c.requires.unsampled
