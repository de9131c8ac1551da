-- How the samples of a file are drawn, by the numbers of its header.
use Rattle.std.specs.Prelude.{ℕ, ◌+◌, ◌*◌, ◌/◌, ◌^◌, ◌<◌, ◌≤◌, ◌==◌, ◌&&◌, nat_lt, max, Bool}
use Rattle.std.specs.Prelude.{Option, Some, None, option_and_then, if◌then◌else◌}
use Rattle.std.specs.Int.{div_ceil}
use Rattle.bw_model.specs.Report.{Report}
use Rattle.bw_picture.specs.Levels.{bytes_of}
use Rattle.bw_picture.specs.declared.drawing.Shape.{Shape}
use Rattle.bw_picture.specs.declared.level.SampleWidth.{SampleWidth}
use Rattle.bw_picture.specs.declared.level.SampleWidth.TheVariants.{Two, Three, Four}

-- how many columns there are at most
abbrev pub most_columns : ℕ
most_columns = 1200

-- the width of a sample of so many bits
abbrev pub width_of : ℕ → Option SampleWidth
width_of bits = if bits == 16 then Some Two
    else if bits == 24 then Some Three
    else if bits == 32 then Some Four else None

-- so many frames to a column that the columns hold all of these
abbrev pub wide_of : ℕ → ℕ
wide_of frames = max (div_ceil frames most_columns) 1

-- so many frames of samples of this width from a place on are drawn so
abbrev pub shape_for : SampleWidth → ℕ → ℕ → ℕ → Shape
shape_for w channels place frames = record {
  width = w;
  channels = channels;
  place = place;
  frames = frames;
  wide = wide_of frames;
  columns = div_ceil frames (wide_of frames);
}

-- a frame is a sample of this width for each channel; there are fewer than 2^43 frames, and fewer
-- than 2^60 bytes before them
abbrev pub is_fit : Report → SampleWidth → Bool
is_fit r w = nat_lt 0 r.fmt.channels
    && (nat_lt 0 r.fmt.align && (r.fmt.align == r.fmt.channels * bytes_of w)
    && nat_lt (r.data_size / r.fmt.align) (2 ^ 43) && nat_lt r.data_at (2 ^ 60))

-- how the samples are drawn
abbrev pub fitting_shape : Report → Option Shape
fitting_shape r = option_and_then
    (λ w. if is_fit r w
    then Some (shape_for w r.fmt.channels r.data_at (r.data_size / r.fmt.align)) else None)
    (width_of r.fmt.bits)

-- it can be drawn: each frame is in one of the columns, which are not too many
pub record IsDrawable (s : Shape) : Type 0 where
  pub some : (0 < s.channels) × (0 < s.wide)
  pub near : s.place + s.frames * 2 ^ 18 < 2 ^ 62
  pub filled : s.columns * s.wide < s.frames + s.wide
  pub whole : s.frames ≤ s.columns * s.wide
  pub few : s.columns ≤ most_columns
  pub span : s.columns * s.wide < 2 ^ 54
