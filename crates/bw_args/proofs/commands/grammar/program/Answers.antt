use Rattle.std.proofs.Common.{◌∙◌, ap, true}
use Rattle.std.proofs.lemmas.Result.{IfOk-weaker}
use Rattle.clap.specs.Simple.{App, app_of_fields, on_top}
use Rattle.bw_args.proofs.commands.grammar.program.Goals as goal

-- what the two calls that report in the shape make of it
abbrev commanded : App → App
commanded = on_top (λ s. record s { subcommand_required = true })

abbrev versioned : App → App
versioned = on_top (λ s. record s { has_version = true })

pub returns : goal.returns
returns c = IfOk-weaker c.bin_name.result _ _ (λ b is. ap app_of_fields is.0
    ∙ ap app_of_fields c.subcommand_required.ensures
    ∙ ap (λ f. commanded (app_of_fields f)) c.about.ensures
    ∙ ap (λ f. commanded (app_of_fields f)) c.version.ensures
    ∙ ap (λ a. commanded (versioned a)) c.new.ensures.app) c.bin_name.ensures
