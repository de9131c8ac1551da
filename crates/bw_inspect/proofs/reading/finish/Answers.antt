use Rattle.std.proofs.Common.{◌∙◌, ap, sym}
use Rattle.std.specs.Prelude.{option_map, unwrap_or}
use Rattle.bw_inspect.specs.declared.walk.Samples.{Samples}
use Rattle.bw_inspect.specs.Known.{bext_kept, facts_of}
use Rattle.bw_inspect.specs.Walks.{form_by, seen_by}
use Rattle.bw_inspect.specs.Reports.{bext_by}
use Rattle.bw_inspect.proofs.Finish.{finished, kept, maps, reserved_reported, shown}
use Rattle.bw_inspect.proofs.reading.finish.Goals as goal

pub returns-clause-ok : goal.returns-clause-ok
returns-clause-ok c b e =
    let samples = ap (option_map (λ (s : Samples). (s.at, s.size))) c.in-Some-samples.is in
    let cues = c.unwrap_or.ensures ∙ ap (unwrap_or c.args.walk.known.cues) (c.new-3.ensures ∙ c.new-2.ensures.items) in
    let f = finished b (form_by c.args.form) (seen_by c.args.walk)
    (facts_of c.args.walk.known) c.in-Some.fmt c.in-Some-samples.samples.at c.in-Some-samples.samples.size
    (option_map bext_by c.args.walk.known.bext) c.unwrap_or.result c.new.result
    (sym (maps shown bext_kept c.args.walk.known.bext)) c.new.ensures e
    c.in-Some.is samples cues in
    let reserved = sym (maps kept bext_kept c.args.walk.known.bext)
    ∙ reserved_reported b (seen_by c.args.walk) (facts_of c.args.walk.known) e in
    record { reports = f.reports; reserved = reserved; free = f.free }
