use Rattle.std.proofs.Common.{◌<◌, ◌∙◌, length, arith, inr, refl}
use Rattle.bw_report.proofs.LookLemmas.{next_cut, next_shown, none_shown, paths_after, paths_to}
use Rattle.bw_report.proofs.files.inspect_files.Goals as goal

pub returns-in-Err : goal.returns-in-Err
returns-in-Err g c =
    let inside : c.loop-path.path-index < length c.args.paths.now = omega arith in
    let p = c.in-Err.ensures in
    let l = c.give_up.ensures.line in
    inr (next_cut g.W.Sink g.E.Sink _ _ _ _ _ _ _ _ _ _ _ _ _ _ _ _ _ _ _ _ _ _ _ _ _ _ _ c.in-Err.fault p.0 l.0
    c.loop-path.invariant.shown c.look-found.ensures.found c.loop-path.invariant.files c.loop-path.invariant.stamps
    c.as_str.ensures.value
    c.as_str-in-loop-path.ensures.value
    (paths_after c.args.paths.now c.loop-path.path-index c.path-item.result inside c.path-item.is) c.exit.ensures
    c.worse-worst.ensures c.give_up.ensures.exit c.worse.ensures p.1 p.2 l.1 l.2)

pub loop-path-preserved : goal.loop-path-preserved
loop-path-preserved g c =
    let inside : c.loop-path.path-index < length c.args.paths.now = omega arith in
    let p = c.in-Ok.ensures in
    record {
      files = c.look-found.ensures.files ∙ c.loop-path.invariant.files;
      stamps = c.look-found.ensures.stamps ∙ c.loop-path.invariant.stamps;
      shown = next_shown g.W.Sink g.E.Sink _ _ _ _ _ _ _ _ _ _ _ _ _ _ _ _ _ _ _ _ _ _ _ p.0
          c.loop-path.invariant.shown c.look-found.ensures.found c.loop-path.invariant.files c.loop-path.invariant.stamps
          c.as_str.ensures.value
          c.as_str-in-loop-path.ensures.value
          (paths_to c.args.paths.now c.loop-path.path-index c.path-item.result inside c.path-item.is) c.exit.ensures
          c.worse-worst.ensures p.1 p.2;
    }

pub loop-path-init : goal.loop-path-init
loop-path-init g c = record { files = refl; stamps = refl; shown = none_shown g.W.Sink g.E.Sink _ _ _ _ _ }
