use Rattle.std.proofs.Common.{List, [], Option, ap, ◌∙◌, codes, map, string_bytes, unwrap_or}
use Rattle.std.proofs.lemmas.Result.{IfOk-weaker}
use Rattle.clap.specs.Words.{Text, found_of}
use Rattle.clap.proofs.WalkLemmas.{raw_values-rows}
use Rattle.bw_args.proofs.commands.sources.settings_given.Goals as goal

pub returns-in-Some : goal.returns-in-Some
returns-in-Some c =
    let rows = raw_values-rows (found_of c.args.options.now) (codes "set") in
    let listed = ap (λ (o : Option (List Text)). unwrap_or o []) (c.in-Some.ensures ∙ rows) in
    IfOk-weaker c.copies_of.result _ _ (λ settings e. e ∙ listed) c.copies_of.ensures

pub returns-in-None : goal.returns-in-None
returns-in-None c =
    let rows = raw_values-rows (found_of c.args.options.now) (codes "set") in
    let listed = ap (λ (o : Option (List Text)). unwrap_or o []) (c.in-None.ensures ∙ rows) in
    ap (map string_bytes) c.new.ensures.items ∙ listed
