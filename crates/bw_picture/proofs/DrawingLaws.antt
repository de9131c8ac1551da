-- Strokes of the same levels.
use Rattle.std.proofs.Common.{◌≡◌, ℕ, zero, suc, ◌+◌, ◌*◌, ◌<◌, ◌≤◌, List, ◌++◌, length, refl, sym, ◌∙◌, ap, arith}
use Rattle.bw_picture.specs.Columns.{channel_height, stroke, strokes}
use Rattle.std.proofs.Common.{IsTrue, Option, subst}
use Rattle.std.specs.Prelude.{replicate, slice_index}
use Rattle.std.proofs.lemmas.List.{get_or-replicate, length-replicate}
use Rattle.bw_picture.specs.Peaks.{greatest_of, least_of}
use Rattle.std.proofs.Math.Nat.{mul-le-mul_right}
use Rattle.bw_inspect.specs.Faults.{is_of_bytes}
use Rattle.bw_inspect.specs.declared.fault.InspectKind.{InspectKind}
use Rattle.bw_picture.specs.Reads.{HasWidened, file_level}
use Rattle.bw_picture.specs.Drawings.{DrawsColumn, frame_bytes, column_frames, column_high, column_low, column_place}
use Rattle.bw_picture.specs.declared.drawing.Shape.{Shape}
use Rattle.bw_picture.specs.declared.level.SampleWidth.{SampleWidth}
use Rattle.bw_picture.specs.declared.peak.Peak.{Peak}

stroke_same : (w : SampleWidth) (column c a b a' b' : ℕ) → a ≡ a' → b ≡ b' →
    stroke w column (c * channel_height) (record { low = a; high = b })
    ≡ stroke w column (c * channel_height) (record { low = a'; high = b' })
stroke_same w column c a b a' b' e f =
    let at : ℕ → ℕ → Peak = λ x y. record { low = x; high = y } in
    ap (λ (x : ℕ). stroke w column (c * channel_height) (at x b)) e
    ∙ ap (λ (y : ℕ). stroke w column (c * channel_height) (at a' y)) f

-- channels with the same levels have the same strokes
pub strokes_same : (w : SampleWidth) (column n : ℕ) (low high low' high' : ℕ → ℕ) →
    ((c : ℕ) → c < n → low c ≡ low' c) → ((c : ℕ) → c < n → high c ≡ high' c) →
    strokes w column low high n ≡ strokes w column low' high' n
strokes_same w column zero low high low' high' e f = refl
strokes_same w column (suc n) low high low' high' e f =
    let first = strokes_same w column n low high low' high' (λ c h. e c (omega arith)) (λ c h. f c (omega arith)) in
    let last = stroke_same w column n (low n) (high n) (low' n) (high' n) (e n (omega arith)) (f n (omega arith)) in
    ap (λ (z : List ℕ). z ++ stroke w column (n * channel_height) (record { low = low n; high = high n })) first
    ∙ ap (λ (z : List ℕ). strokes w column low' high' n ++ z) last

-- levels that were widened from the same one in each channel
from_one : (of : ℕ → ℕ → ℕ) (level channels n : ℕ) (levels widened : List ℕ) → levels ≡ replicate channels level →
    n ≡ channels → ((c : ℕ) → c < n → slice_index widened c ≡ of c (slice_index levels c)) → (c : ℕ) → c < channels →
    slice_index widened c ≡ of c level
from_one of level channels n levels widened same many are c below =
    are c (subst (λ (k : ℕ). c < k) (sym many) below)
    ∙ ap (of c) (ap (λ (z : List ℕ). slice_index z c) same ∙ get_or-replicate channels c level 0 below)

-- a column was drawn, from the levels that were read
pub column_drawn : (b : List ℕ) (s : Shape) (column place count align : ℕ) (lows highs lows' highs' old new : List ℕ)
    (left : Option (List ℕ)) → place ≡ column_place s column → count ≡ column_frames s column → align ≡ frame_bytes s →
    lows ≡ replicate s.channels 4294967295 → highs ≡ replicate s.channels 0 →
    HasWidened b place count s.width align lows highs lows' highs' left → length lows' ≡ length lows →
    new ≡ old ++ strokes s.width column (slice_index lows') (slice_index highs') (length lows') →
    DrawsColumn b s column old new left
column_drawn b s column place count align lows highs lows' highs' old new left p n a l h widened long drawn =
    let at = subst (λ (k : ℕ). HasWidened b k count s.width align lows highs lows' highs' left) p widened in
    let for = subst (λ (k : ℕ). HasWidened b (column_place s column) k s.width align lows highs lows' highs' left) n at
    in
    let is = subst (λ (k : ℕ). HasWidened b (column_place s column)
    (column_frames s column) s.width k lows highs lows' highs' left) a for in
    let width : length lows ≡ s.channels = ap length l ∙ length-replicate s.channels 4294967295 in
    let wide : length lows' ≡ s.channels = long ∙ width in
    let low : (c : ℕ) → c < length lows' → slice_index lows' c ≡ column_low b s column c =
    λ c under. from_one (λ k v. least_of (file_level s.width b (column_place s column) (frame_bytes s) k) v
    (column_frames s column)) 4294967295 s.channels _ lows lows' l width is.lows_are c (omega (arith, under, wide)) in
    let high : (c : ℕ) → c < length lows' → slice_index highs' c ≡ column_high b s column c =
    λ c under. from_one (λ k v. greatest_of (file_level s.width b (column_place s column) (frame_bytes s) k) v
    (column_frames s column)) 0 s.channels _ highs highs' h width is.highs_are c (omega (arith, under, wide)) in
    record {
      text = drawn
          ∙ ap (λ (z : List ℕ). old ++ z) (strokes_same s.width column (length lows') _ _ (column_low b s column)
          (column_high b s column) low high)
          ∙ ap (λ (k : ℕ). old ++ strokes s.width column (column_low b s column) (column_high b s column) k) wide;
      rest = is.rest;
    }

-- a column that is full is followed by the next one
pub next_column : (s : Shape) (column : ℕ) → (column + 1) * s.wide ≤ s.frames →
    column_place s column + column_frames s column * frame_bytes s ≡ column_place s (column + 1)
next_column s column h =
    let full : column_frames s column ≡ s.wide = omega (arith, h) in
    ap (λ (n : ℕ). column_place s column + n * frame_bytes s) full
    ∙ (let at : s.place + column * s.wide * frame_bytes s + s.wide * frame_bytes s
    ≡ s.place + (column + 1) * s.wide * frame_bytes s = omega arith in at)

-- each column has a frame
pub column_within : (column columns wide frames : ℕ) → column < columns → columns * wide < frames + wide
    → column * wide < frames
column_within column columns wide frames h filled = grind (arith, h, filled)

frames_after : (place before n align : ℕ) → place + before * align + n * align ≡ place + (before + n) * align
frames_after place before n align = omega arith

-- the frames of a column are among all frames
pub column_lacks : (b : List ℕ) (s : Shape) (column place count align : ℕ) (kind : InspectKind) →
    place ≡ column_place s column → count ≡ column_frames s column → align ≡ frame_bytes s →
    column * s.wide ≤ s.frames → (IsTrue (is_of_bytes kind) → length b < place + count * align) →
    IsTrue (is_of_bytes kind) → length b < s.place + s.frames * frame_bytes s
column_lacks b s column place count align kind p n a within lacks own =
    let short : length b < place + count * align = lacks own in
    let few : column * s.wide + column_frames s column ≤ s.frames = omega (arith, within) in
    let all : (column * s.wide + column_frames s column) * frame_bytes s ≤ s.frames * frame_bytes s =
    mul-le-mul_right (frame_bytes s) few in
    let same : place + count * align ≡ s.place + (column * s.wide + column_frames s column) * frame_bytes s =
    rw (p, n, a) (frames_after s.place (column * s.wide) (column_frames s column) (frame_bytes s)) in
    omega (arith, short, all, same)
