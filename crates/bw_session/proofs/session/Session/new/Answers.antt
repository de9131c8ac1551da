use Rattle.std.proofs.Common.{subst, sym, ap}
use Rattle.std.proofs.lemmas.Result.{IfOk-weaker}
use Rattle.std.specs.Prelude.{is_some}
use Rattle.bw_session.proofs.NewForms.{no_log_done, new_done, nothing_made, new_notes}
use Rattle.bw_session.specs.declared.numbering.Progress.{Progress}
use Rattle.bw_session.specs.NameNotes.{IsNoted}
use Rattle.bw_model.specs.Book.{no_log}
use Rattle.std.proofs.Common.{rules, ◌≡◌, ◌∙◌, ℕ, List, [], false, None, Option}
use Rattle.std.specs.Prelude.{replicate}
use Rattle.bw_model.specs.Take.{Parts, Verdict, new_take, parts}
use Rattle.bw_file.specs.GrowingFiles.{Growing, clean_file}
use Rattle.bw_session.specs.KeptParts.{part}
use Rattle.bw_session.proofs.AskForms.{if_both}
use Rattle.bw_session.proofs.session.Session.new.Goals as goal

pub returns-clause-holds : goal.returns-clause-holds
returns-clause-holds c = IfOk-weaker c.resume.result _ _
    (λ s holds first. holds first no_log first no_log_done
    (new_done (is_some first) c.args.name _ _ c.new-2.ensures.parts c.new-3.ensures)
    (nothing_made first c.in_ok-new.field-0 (ap (λ g. g.made) c.in_ok-new.ensures)
    (ap (λ g. g.ahead) c.in_ok-new.ensures)))
    c.resume.ensures.holds

pub returns-clause-noted : goal.returns-clause-noted
returns-clause-noted c = IfOk-weaker c.resume.result _ _
    (λ s same h found prefix. subst (λ (p : Progress). IsNoted h c.args.name no_log p.noted found) (sym same)
    (new_notes h c.args.name found prefix))
    c.resume.ensures.progress

pub returns-clause-part : goal.returns-clause-part
returns-clause-part c =
    let fresh : Growing = clean_file c.args.name c.args.limit false in
    let grows : c.in_ok-new.field-0 ≡ fresh = search rules in
    let none : List (Option (List ℕ)) = replicate 16 None in
    if_both c.resume.result (λ s same slots.
    ap (λ (p : Progress). part p.state.parts p.ledger.outcomes s.window p.growing) same
    ∙ ap (λ (w : List (Option (List ℕ))). part c.new-2.result.parts c.new-3.result.outcomes w c.in_ok-new.field-0) slots
    ∙ ap (λ (p : Parts). part p c.new-3.result.outcomes none c.in_ok-new.field-0) c.new-2.ensures.parts
    ∙ ap (λ (o : List (List ℕ × Verdict)). part (parts (new_take false)) o none c.in_ok-new.field-0) c.new-3.ensures
    ∙ ap (λ (g : Growing). part (parts (new_take false)) [] none g) grows)
    c.resume.ensures.progress c.resume.ensures.window
