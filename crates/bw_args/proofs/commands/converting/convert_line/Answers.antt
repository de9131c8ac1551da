use Rattle.std.proofs.lemmas.Result.{IfOk-weaker}
use Rattle.clap.specs.Words.{first_value, found_of}
use Rattle.bw_args.specs.Lines.{Converting}
use Rattle.bw_args.proofs.Asked.{on_err}
use Rattle.bw_args.proofs.ConvertAsked.{convert_asked, convert_runs, files_given, no_file, no_flags, no_out}
use Rattle.bw_args.proofs.ConvertAsked.{unconverted_line}
use Rattle.bw_args.proofs.commands.converting.convert_line.Goals as goal

pub returns-in_default-clause-ok : goal.returns-in_default-clause-ok
returns-in_default-clause-ok c =
    unconverted_line (found_of c.args.options.now) (no_file (first_value (found_of c.args.options.now)) c.in_default.ensures)

pub returns-in_default-get_str-clause-ok : goal.returns-in_default-get_str-clause-ok
returns-in_default-get_str-clause-ok c =
    unconverted_line (found_of c.args.options.now)
    (no_out (first_value (found_of c.args.options.now)) c.in_default-get_str.ensures)

pub returns-in-Some-form_given-clause-ok : goal.returns-in-Some-form_given-clause-ok
returns-in-Some-form_given-clause-ok c =
    let found = found_of c.args.options.now in
    let given = files_given (first_value found) _ _ _ _ _ c.in-Some.ensures c.in-Some-get_str.ensures
    c.flag_given.ensures c.flag_given-2.ensures c.in-Some-form_given.ensures in
    IfOk-weaker c.conversion.result _ _ (convert_runs found _ _ _ given) c.conversion.ensures

pub returns-in-Some-form_given-clause-err : goal.returns-in-Some-form_given-clause-err
returns-in-Some-form_given-clause-err c =
    let found = found_of c.args.options.now in
    let given = files_given (first_value found) _ _ _ _ _ c.in-Some.ensures c.in-Some-get_str.ensures
    c.flag_given.ensures c.flag_given-2.ensures c.in-Some-form_given.ensures in
    on_err c.conversion.result (Converting _ _ _, tt, convert_asked found _ _ _ given)

pub returns-in-None-clause-ok : goal.returns-in-None-clause-ok
returns-in-None-clause-ok c =
    unconverted_line (found_of c.args.options.now)
    (no_flags (first_value (found_of c.args.options.now)) _ _ c.flag_given.ensures c.flag_given-2.ensures c.in-None.ensures)
