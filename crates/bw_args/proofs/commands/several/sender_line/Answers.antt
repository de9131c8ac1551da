use Rattle.std.proofs.Common.{◌∙◌, Some, ap}
use Rattle.std.specs.Prelude.{map}
use Rattle.clap.specs.Words.{found_of}
use Rattle.bw_args.proofs.Asked.{files_asked, files_kept, on_err}
use Rattle.bw_args.proofs.commands.several.sender_line.Goals as goal

pub returns-clause-ok : goal.returns-clause-ok
returns-clause-ok c = files_asked (found_of c.args.options.now) _ c.requires.some
    (ap Some c.in_ok-paths.ensures ∙ c.requires.takes) c.requires.unmixed c.requires.connects
    c.in_ok-names.ensures c.in_ok-settings.ensures c.flag_given-strict.ensures c.flag_given-strict_texts.ensures
    (c.args.tries.timeout, c.requires.tries.waits, c.unwrap_or.ensures)
    (c.args.tries.fruitless, c.requires.tries.ends, c.unwrap_or-2.ensures)
    c.flag_given-log.ensures c.in_ok-states.ensures c.in_ok-receipt.ensures
    c.requires.receipted c.requires.tries.paced

pub returns-in_err-paths-clause-err : goal.returns-in_err-paths-clause-err
returns-in_err-paths-clause-err c = on_err c.from_residual.result
    (files_kept (found_of c.args.options.now) (map (λ path. path.now) c.args.paths.now) c.args.connect c.args.tries
    c.requires.some c.requires.takes c.requires.unmixed c.requires.connects c.requires.tries c.requires.receipted)

pub returns-in_err-names-clause-err : goal.returns-in_err-names-clause-err
returns-in_err-names-clause-err c = on_err c.from_residual-in_err-names.result
    (files_kept (found_of c.args.options.now) (map (λ path. path.now) c.args.paths.now) c.args.connect c.args.tries
    c.requires.some c.requires.takes c.requires.unmixed c.requires.connects c.requires.tries c.requires.receipted)

pub returns-in_err-settings-clause-err : goal.returns-in_err-settings-clause-err
returns-in_err-settings-clause-err c = on_err c.from_residual-in_err-settings.result
    (files_kept (found_of c.args.options.now) (map (λ path. path.now) c.args.paths.now) c.args.connect c.args.tries
    c.requires.some c.requires.takes c.requires.unmixed c.requires.connects c.requires.tries c.requires.receipted)

pub returns-in_err-states-clause-err : goal.returns-in_err-states-clause-err
returns-in_err-states-clause-err c = on_err c.from_residual-in_err-states.result
    (files_kept (found_of c.args.options.now) (map (λ path. path.now) c.args.paths.now) c.args.connect c.args.tries
    c.requires.some c.requires.takes c.requires.unmixed c.requires.connects c.requires.tries c.requires.receipted)

pub returns-in_err-receipt-clause-err : goal.returns-in_err-receipt-clause-err
returns-in_err-receipt-clause-err c = on_err c.from_residual-in_err-receipt.result
    (files_kept (found_of c.args.options.now) (map (λ path. path.now) c.args.paths.now) c.args.connect c.args.tries
    c.requires.some c.requires.takes c.requires.unmixed c.requires.connects c.requires.tries c.requires.receipted)
