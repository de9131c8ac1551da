use Rattle.std.proofs.Common.{rules, ◌∙◌, ◌*◌, ◌<◌, ℕ, ◌++◌, List, Some, ap, sym, drop, add-one, arith}
use Rattle.std.proofs.lemmas.Result.{err_from_is_err_and}
use Rattle.bw_picture.specs.Drawings.{all_strokes, column_strokes}
use Rattle.bw_picture.proofs.DrawingLaws.{column_within, next_column}
use Rattle.bw_picture.proofs.drawing.draw.Goals as goal

pub loop-column-preserved : goal.loop-column-preserved
loop-column-preserved g c = record {
  fits = search rules;
  bytes = λ b e.
      let s = c.args.shape.now in
      let k : ℕ = c.loop-column.column in
      let i = c.loop-column.invariant.bytes b e in
      let within : k * s.wide < s.frames = column_within k s.columns s.wide s.frames (omega arith) c.requires.filled in
      let d = c.in_ok-draw_column.ensures.ok b (i.1 (omega (arith, within))) in (
        d.text ∙ ap (λ (z : List ℕ). z ++ column_strokes b s k) i.0
            ∙ ap (all_strokes b s) (sym (add-one k)),
        λ h. d.rest ∙ ap (λ (p : ℕ). Some (drop p b)) (next_column s k h),
      );
}

pub returns-in_err-draw_column-clause-err : goal.returns-in_err-draw_column-clause-err
returns-in_err-draw_column-clause-err g c =
    let answer = err_from_is_err_and c.from_residual.result c.from_residual.ensures.1 in
    rw (answer.1, answer.2) (λ b e.
    let s = c.args.shape.now in
    let k : ℕ = c.loop-column.column in
    let i = c.loop-column.invariant.bytes b e in
    let within : k * s.wide < s.frames = column_within k s.columns s.wide s.frames (omega arith) c.requires.filled in
    c.in_err-draw_column.ensures.err b (i.1 (omega (arith, within))))
