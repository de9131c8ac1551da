use Rattle.std.proofs.Common.{◌≡◌, ◌∙◌, ℕ, ◌*◌, ◌++◌, List, ap, sym, add-one, append_assoc}
use Rattle.std.specs.Prelude.{slice_index}
use Rattle.bw_picture.specs.Columns.{stroke, strokes}
use Rattle.bw_picture.proofs.stroke.push_strokes.Goals as goal

pub loop-c-preserved : goal.loop-c-preserved
loop-c-preserved c =
    let i : ℕ = c.loop-c.c in
    let text = c.args.text.now.items in
    let drawn : List ℕ = stroke c.args.width c.args.column (i * 200)
    (record { low = slice_index c.args.lows.now i; high = slice_index c.args.highs.now i }) in
    let is : c.as_bytes.result.now ≡ drawn =
    c.as_bytes.ensures.value ∙ (c.as_str.ensures.value ∙ c.column_stroke-stroke.ensures) in
    c.in_ok-extend_from_slice.ensures.items
    ∙ ap (λ (z : List ℕ). z ++ c.as_bytes.result.now) c.loop-c.invariant
    ∙ append_assoc text (strokes c.args.width c.args.column (slice_index c.args.lows.now)
    (slice_index c.args.highs.now) i) c.as_bytes.result.now
    ∙ ap (λ (z : List ℕ). text ++ (strokes c.args.width c.args.column (slice_index c.args.lows.now)
    (slice_index c.args.highs.now) i ++ z)) is
    ∙ ap (λ (n : ℕ). text ++ strokes c.args.width c.args.column (slice_index c.args.lows.now)
    (slice_index c.args.highs.now) n) (sym (add-one i))
