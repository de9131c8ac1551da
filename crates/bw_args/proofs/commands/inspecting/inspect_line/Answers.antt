use Rattle.std.proofs.Common.{List, [], ◌∷◌, ◌∙◌, ◌||◌, Some, ap, sym, map, refl}
use Rattle.clap.specs.Words.{Text, found_of}
use Rattle.bw_args.specs.InspectedFiles.{is_alone, is_possible}
use Rattle.bw_args.specs.Lines.{Inspecting, InspectingFiles}
use Rattle.bw_args.proofs.Asked.{clashing_line, inspection_asked, no_file_line, on_err, only_asked}
use Rattle.bw_args.proofs.commands.inspecting.inspect_line.Goals as goal

pub returns-in_default-clause-ok : goal.returns-in_default-clause-ok
returns-in_default-clause-ok c = no_file_line (found_of c.args.options.now) c.in_default.ensures

pub returns-then-not-is_possible-clause-ok : goal.returns-then-not-is_possible-clause-ok
returns-then-not-is_possible-clause-ok c =
    clashing_line (found_of c.args.options.now) _ _ _ _ c.in-Some.ensures c.flag_given-json.ensures
    c.flag_given-human.ensures c.flag_given-digest.ensures (sym c.is_possible.ensures ∙ c.if-not-is_possible.true)

pub returns-in_ok-file-in-Some-only_path-clause-ok : goal.returns-in_ok-file-in-Some-only_path-clause-ok
returns-in_ok-file-in-Some-only_path-clause-ok c =
    let alone = c.in-Some-only_path.ensures.alone in (
      refl,
      only_asked (found_of c.args.options.now) _ _ _ _ _ _
          (alone.0 ∙ ap (λ (file : Text). file ∷ []) (sym c.in_ok-file-in-Some-only_path.ensures.ok)) c.in-Some.ensures
          c.flag_given-json.ensures c.flag_given-human.ensures c.flag_given-digest.ensures c.has_option.ensures alone.1,
    )

pub returns-in_err-file-in-Some-only_path-clause-err : goal.returns-in_err-file-in-Some-only_path-clause-err
returns-in_err-file-in-Some-only_path-clause-err c =
    let alone = c.in-Some-only_path.ensures.alone in
    on_err c.from_residual.result (
      Inspecting c.in-Some-only_path.path.now,
      tt,
      (
        refl,
        only_asked (found_of c.args.options.now) _ _ _ _ _ _ alone.0 c.in-Some.ensures c.flag_given-json.ensures
            c.flag_given-human.ensures c.flag_given-digest.ensures c.has_option.ensures alone.1,
      ),
    )

pub returns-in_ok-files-in-None-clause-ok : goal.returns-in_ok-files-in-None-clause-ok
returns-in_ok-files-in-None-clause-ok c = (
  refl,
  inspection_asked (found_of c.args.options.now) _ (ap Some c.in_ok-files-in-None.ensures ∙ c.in-Some.ensures)
      c.flag_given-json.ensures c.flag_given-human.ensures c.flag_given-digest.ensures
      (ap (λ (files : List Text). is_possible files c.flag_given-json.result c.flag_given-human.result
      c.flag_given-digest.result)
      c.in_ok-files-in-None.ensures ∙ sym c.is_possible.ensures ∙ c.if-not-is_possible.false),
  ap (λ (files : List Text). is_alone files (c.flag_given-json.result
      || (c.flag_given-human.result || c.flag_given-digest.result)))
      c.in_ok-files-in-None.ensures
      ∙ ap (is_alone (map (λ p. p.now) c.in-Some.paths.now)) (sym c.has_option.ensures)
      ∙ c.in-None.ensures.others,
)

pub returns-in_err-files-in-None-clause-err : goal.returns-in_err-files-in-None-clause-err
returns-in_err-files-in-None-clause-err c = on_err c.from_residual-in_err-files-in-None.result (
  InspectingFiles (record {
    files = map (λ p. p.now) c.in-Some.paths.now;
    json = c.flag_given-json.result;
    human = c.flag_given-human.result;
    digest = c.flag_given-digest.result;
  }),
  tt,
  (
    refl,
    inspection_asked (found_of c.args.options.now) _ c.in-Some.ensures c.flag_given-json.ensures
        c.flag_given-human.ensures c.flag_given-digest.ensures (sym c.is_possible.ensures ∙ c.if-not-is_possible.false),
    ap (is_alone (map (λ p. p.now) c.in-Some.paths.now)) (sym c.has_option.ensures) ∙ c.in-None.ensures.others,
  ),
)
