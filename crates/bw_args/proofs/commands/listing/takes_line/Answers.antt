use Rattle.std.proofs.Common.{codes, sym, subst, ◌∙◌}
use Rattle.std.proofs.lemmas.Result.{IfOk-weaker}
use Rattle.clap.specs.Words.{first_value, found_of}
use Rattle.bw_args.specs.Lines.{GivesFolder, Listing, Verifying}
use Rattle.bw_args.specs.declared.bad_value.BadValue.TheVariants.{Folder, GiveUp, Verify, Watch}
use Rattle.bw_args.proofs.Asked.{a_work, bad, bad_line, is_not, listing_asked, no_work, on_err, verify_asked, verify_mixed}
use Rattle.bw_args.proofs.Asked.{verify_runs, watch_mixed, ◌and_then◌}
use Rattle.bw_args.proofs.commands.listing.takes_line.Goals as goal

pub returns-in_default-clause-ok : goal.returns-in_default-clause-ok
returns-in_default-clause-ok c = bad_line (found_of c.args.options.now) (codes "takes") Folder
    (bad (λ good. c.in_default.ensures good.0 good.1))

pub returns-then-is_verify_mixed-clause-ok : goal.returns-then-is_verify_mixed-clause-ok
returns-then-is_verify_mixed-clause-ok c = bad_line (found_of c.args.options.now) (codes "takes") Verify
    ((_, c.in-Some.ensures)
    and_then bad (λ good. is_not (sym c.if-is_verify_mixed.true
    ∙ verify_mixed (found_of c.args.options.now) _ _ _ _ _ _ _ c.flag_given-watch.ensures
    c.flag_given-check.ensures c.flag_given-json.ensures c.flag_given-digest.ensures c.get_str-name.ensures
    c.get_str-receipts.ensures c.is_verify_mixed.ensures ∙ good)))

pub returns-in-Some-receipts-clause-ok : goal.returns-in-Some-receipts-clause-ok
returns-in-Some-receipts-clause-ok c =
    let found = found_of c.args.options.now in
    IfOk-weaker c.verification.result _ _
    (verify_runs found _ _ c.in-Some.ensures (record {
      is = sym c.in-Some-receipts.ensures;
      alone = sym (verify_mixed found _ _ _ _ _ _ _ c.flag_given-watch.ensures c.flag_given-check.ensures
          c.flag_given-json.ensures c.flag_given-digest.ensures c.get_str-name.ensures c.get_str-receipts.ensures
          c.is_verify_mixed.ensures) ∙ c.if-is_verify_mixed.false;
    }))
    c.verification.ensures

pub returns-in-Some-receipts-clause-err : goal.returns-in-Some-receipts-clause-err
returns-in-Some-receipts-clause-err c =
    let found = found_of c.args.options.now in
    on_err c.verification.result (
      Verifying c.in-Some.path.now c.in-Some-receipts.receipts.now,
      tt,
      verify_asked found _ _ c.in-Some.ensures (record {
        is = sym c.in-Some-receipts.ensures;
        alone = sym (verify_mixed found _ _ _ _ _ _ _ c.flag_given-watch.ensures c.flag_given-check.ensures
            c.flag_given-json.ensures c.flag_given-digest.ensures c.get_str-name.ensures c.get_str-receipts.ensures
            c.is_verify_mixed.ensures) ∙ c.if-is_verify_mixed.false;
      }),
    )

pub returns-then-is_watch_mixed-clause-ok : goal.returns-then-is_watch_mixed-clause-ok
returns-then-is_watch_mixed-clause-ok c =
    let found = found_of c.args.options.now in
    bad_line found (codes "takes") Watch
    ((_, c.in-Some.ensures)
    and_then (sym (verify_mixed found _ _ _ _ _ _ _ c.flag_given-watch.ensures c.flag_given-check.ensures
    c.flag_given-json.ensures c.flag_given-digest.ensures c.get_str-name.ensures c.get_str-receipts.ensures
    c.is_verify_mixed.ensures) ∙ c.if-is_verify_mixed.false)
    and_then bad (λ good. is_not (sym c.if-is_watch_mixed.true
    ∙ watch_mixed found _ _ _ _ _ _ c.flag_given-watch.ensures
    c.flag_given-check.ensures c.flag_given-json.ensures c.flag_given-digest.ensures c.get_str-name.ensures
    c.is_watch_mixed.ensures ∙ good)))

pub returns-in_default-work_of-clause-ok : goal.returns-in_default-work_of-clause-ok
returns-in_default-work_of-clause-ok c =
    let found = found_of c.args.options.now in
    bad_line found (codes "takes") GiveUp
    ((_, c.in-Some.ensures)
    and_then (sym (verify_mixed found _ _ _ _ _ _ _ c.flag_given-watch.ensures c.flag_given-check.ensures
    c.flag_given-json.ensures c.flag_given-digest.ensures c.get_str-name.ensures c.get_str-receipts.ensures
    c.is_verify_mixed.ensures) ∙ c.if-is_verify_mixed.false)
    and_then (sym (watch_mixed found _ _ _ _ _ _ c.flag_given-watch.ensures
    c.flag_given-check.ensures c.flag_given-json.ensures c.flag_given-digest.ensures c.get_str-name.ensures c.is_watch_mixed.ensures)
    ∙ c.if-is_watch_mixed.false)
    and_then bad (no_work found _ _ _ _ _ c.flag_given-watch.ensures
    c.flag_given-check.ensures c.flag_given-json.ensures c.flag_given-digest.ensures c.get_str-name.ensures c.in_default-work_of.ensures))

pub returns-in_err-folder-clause-err : goal.returns-in_err-folder-clause-err
returns-in_err-folder-clause-err c = on_err c.from_residual.result (
  Listing c.in-Some.path.now _,
  tt,
  listing_asked (found_of c.args.options.now) _ _ c.in-Some.ensures (sym c.in_default-receipts.ensures)
      (a_work (found_of c.args.options.now) _ _ _ _ _ _ c.flag_given-watch.ensures c.flag_given-check.ensures
      c.flag_given-json.ensures c.flag_given-digest.ensures c.get_str-name.ensures c.in-Some-work_of.ensures),
)

pub returns-clause-ok : goal.returns-clause-ok
returns-clause-ok c = listing_asked (found_of c.args.options.now) _ _
    (subst (GivesFolder (first_value (found_of c.args.options.now) (codes "folder"))) (sym c.in_ok-folder.ensures.ok)
    c.in-Some.ensures)
    (sym c.in_default-receipts.ensures)
    (a_work (found_of c.args.options.now) _ _ _ _ _ _ c.flag_given-watch.ensures c.flag_given-check.ensures
    c.flag_given-json.ensures c.flag_given-digest.ensures c.get_str-name.ensures c.in-Some-work_of.ensures)
