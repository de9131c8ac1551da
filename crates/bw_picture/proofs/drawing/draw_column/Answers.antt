use Rattle.std.proofs.Common.{rules, ◌≡◌, ◌∙◌, ℕ, ◌+◌, ◌*◌, Some, ap, sym, drop}
use Rattle.std.proofs.lemmas.Result.{err_from_is_err_and}
use Rattle.bw_picture.specs.Drawings.{frame_bytes, column_place}
use Rattle.bw_picture.proofs.DrawingLaws.{column_drawn, column_lacks}
use Rattle.bw_picture.proofs.drawing.draw_column.Goals as goal

pub returns-in-Ok-push_strokes-clause-ok : goal.returns-in-Ok-push_strokes-clause-ok
returns-in-Ok-push_strokes-clause-ok g c = λ b e.
    let s = c.args.shape.now in
    let align : c.bytes-size.result * s.channels ≡ frame_bytes s =
    ap (λ (z : ℕ). z * s.channels) c.bytes-size.ensures in
    let at : s.place + c.args.column * s.wide * (c.bytes-size.result * s.channels) ≡ column_place s c.args.column =
    ap (λ (z : ℕ). s.place + c.args.column * s.wide * z) align in
    column_drawn b s c.args.column _ _ _ _ _ _ _ _ _ _ at (search rules) align
    (c.as_mut_slice-lows.ensures.value ∙ c.in-Ok.ensures)
    (c.as_mut_slice-highs.ensures.value ∙ c.in-Ok-levels.ensures)
    (c.in_ok-read_frames.ensures.ok b (e ∙ ap (λ (k : ℕ). Some (drop k b)) (sym at))) (search rules)
    c.in-Ok-push_strokes.ensures

pub returns-in_err-read_frames-clause-err : goal.returns-in_err-read_frames-clause-err
returns-in_err-read_frames-clause-err g c =
    let answer = err_from_is_err_and c.from_residual.result c.from_residual.ensures.1 in
    rw (answer.1, answer.2) (λ b e.
    let s = c.args.shape.now in
    let align : c.bytes-size.result * s.channels ≡ frame_bytes s =
    ap (λ (z : ℕ). z * s.channels) c.bytes-size.ensures in
    let at : s.place + c.args.column * s.wide * (c.bytes-size.result * s.channels) ≡ column_place s c.args.column =
    ap (λ (z : ℕ). s.place + c.args.column * s.wide * z) align in
    column_lacks b s c.args.column _ _ _ _ at (search rules) align (search rules)
    (c.in_err-read_frames.ensures.err b (e ∙ ap (λ (k : ℕ). Some (drop k b)) (sym at))))
