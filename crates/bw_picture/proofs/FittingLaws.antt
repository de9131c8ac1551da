-- A shape that columns hold.
use Rattle.std.proofs.Common.{◌≡◌, ℕ, ◌+◌, ◌*◌, ◌/◌, ◌<◌, ◌≤◌, ◌^◌, arith, refl, subst}
use Rattle.std.proofs.Common.{Bool, true, false, cond, Option, Some, None}
use Rattle.std.specs.Prelude.{option_and_then, if◌then◌else◌}
use Rattle.std.specs.Int.{div_ceil}
use Rattle.std.proofs.Math.Nat.{div-mul-le_self}
use Rattle.std.proofs.lemmas.Grind.{div_ceil_times}
use Rattle.bw_model.specs.Report.{Report}
use Rattle.bw_model.proofs.Elements.{some_inj}
use Rattle.bw_picture.specs.Drawings.{frame_bytes}
use Rattle.bw_picture.specs.Fits.{IsDrawable, fitting_shape, is_fit, shape_for, wide_of, width_of}
use Rattle.bw_picture.specs.Levels.{bytes_of}
use Rattle.bw_picture.specs.declared.drawing.Shape.{Shape}
use Rattle.bw_picture.specs.declared.level.SampleWidth.{SampleWidth}

-- a column has at least one frame, and so many columns hold all of them
few_columns : (frames wide columns : ℕ) → frames ≤ 1200 * wide → columns * wide < frames + wide → columns ≤ 1200
few_columns frames wide columns holds filled = grind (arith, holds, filled)

pub drawable : (w : SampleWidth) (channels place frames : ℕ) → 0 < channels → frames < 2 ^ 43 → place < 2 ^ 60
    → IsDrawable (shape_for w channels place frames)
drawable w channels place frames some few near =
    let wide : ℕ = wide_of frames in
    let each = div_ceil_times frames 1200 (omega arith) in
    let least : div_ceil frames 1200 ≤ wide = omega arith in
    let one : 0 < wide = omega arith in
    let holds : frames ≤ 1200 * wide = omega (arith, each.0, least) in
    let small : wide ≤ frames + 1 = grind (arith, each.1) in
    let all = div_ceil_times frames wide one in
    record {
      some = (some, one);
      near = omega (arith, few, near);
      filled = all.1;
      whole = all.0;
      few = few_columns frames wide (div_ceil frames wide) holds all.1;
      span = omega (arith, all.1, small, few);
    }

none : {X : Type 0} {x : X} → None ≡ Some x → ⊥
none h = cc

-- the last frame ends within the data
abbrev Within : Report → Shape → Type 0
Within r s = s.place + s.frames * frame_bytes s ≤ r.data_at + r.data_size

by_fit : (r : Report) (s : Shape) (w : SampleWidth) (v : Bool) → is_fit r w ≡ v →
    cond v (Some (shape_for w r.fmt.channels r.data_at (r.data_size / r.fmt.align))) None ≡ Some s → Within r s
by_fit r s w false q e = absurd (none e)
by_fit r s w true q e =
    let align : r.fmt.align ≡ r.fmt.channels * bytes_of w = grind (arith, q) in
    let whole = div-mul-le_self r.data_size r.fmt.align in
    subst (Within r) (some_inj e) (grind (arith, align, whole))

by_width : (r : Report) (s : Shape) (x : Option SampleWidth) →
    option_and_then (λ (w : SampleWidth). if is_fit r w
    then Some (shape_for w r.fmt.channels r.data_at (r.data_size / r.fmt.align)) else None) x ≡ Some s → Within r s
by_width r s None e = absurd (none e)
by_width r s (Some w) e = by_fit r s w (is_fit r w) refl e

pub frames_within : (r : Report) (s : Shape) → fitting_shape r ≡ Some s →
    s.place + s.frames * frame_bytes s ≤ r.data_at + r.data_size
frames_within r s e = by_width r s (width_of r.fmt.bits) e
