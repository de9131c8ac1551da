-- A picture, part by part.
use Rattle.std.specs.Prelude.{ℕ, zero, suc, ◌+◌, ◌*◌, ◌/◌, nat_lt, List, [], ◌++◌, codes, decimal}
use Rattle.std.specs.Prelude.{flat_map, if◌then◌else◌}
use Rattle.bw_model.specs.Report.{RawCue}
use Rattle.bw_picture.specs.Columns.{channel_height}
use Rattle.bw_picture.specs.Drawings.{all_strokes}
use Rattle.bw_picture.specs.TimeTexts.{frame_time}
use Rattle.bw_picture.specs.declared.drawing.Shape.{Shape}

-- how high all channels are
abbrev pub height_of : Shape → ℕ
height_of s = s.channels * channel_height

-- the size of the document
abbrev pub view_size : ℕ → ℕ → List ℕ
view_size wide high = decimal wide ++ codes " " ++ decimal high

-- how texts look, and the background
abbrev pub look : List ℕ
look = codes "' font-family='sans-serif' font-size='11' text-anchor='middle'>\n"
    ++ codes "<rect x='-40' y='-20' width='100%' height='100%' fill='#fff'/>\n"

-- the head of the document, with room around the channels
abbrev pub opening : Shape → List ℕ
opening s = codes "<svg xmlns='http://www.w3.org/2000/svg' viewBox='-40 -20 "
    ++ view_size (s.columns + 80) (height_of s + 44) ++ look

-- a line across all columns
abbrev pub line_across : ℕ → ℕ → List ℕ
line_across y columns = codes "M0 " ++ decimal y ++ codes "H" ++ decimal columns

-- those in the middle of the first n channels
abbrev pub middles : Shape → ℕ → List ℕ
middles s zero = []
middles s (suc c) = middles s c ++ line_across (c * channel_height + 100) s.columns

abbrev pub middles_line : Shape → List ℕ
middles_line s = codes "<path stroke='#ccc' d='" ++ middles s s.channels ++ codes "'/>\n"

-- the strokes as one path
abbrev pub waveform : List ℕ → List ℕ
waveform strokes = codes "<path stroke='#246' d='" ++ strokes ++ codes "'/>\n"

-- the line of the time axis
abbrev pub axis_line : Shape → List ℕ
axis_line s =
    codes "<path stroke='#000' d='" ++ line_across (height_of s) s.columns ++ codes "'/>\n"

-- the start of a group that is shifted
abbrev pub shift : ℕ → ℕ → List ℕ
shift x y = codes "<g transform='translate(" ++ decimal x ++ codes " " ++ decimal y ++ codes ")'>"

-- the time of a frame on the axis
abbrev pub tick : ℕ → ℕ → ℕ → ℕ → List ℕ
tick x y frame rate = shift x y ++ codes "<path stroke='#000' d='M0 0v5'/><text y='16'>"
    ++ frame_time frame rate ++ codes "</text></g>\n"

-- the first n of them: at every 150th column, the time of its first frame
abbrev pub ticks : Shape → ℕ → ℕ → List ℕ
ticks s rate zero = []
ticks s rate (suc k) = ticks s rate k
    ++ tick (k * 150) (height_of s) (k * 150 * s.wide) rate

abbrev pub tick_count : Shape → ℕ
tick_count s = s.columns / 150 + 1

abbrev pub axis : Shape → ℕ → List ℕ
axis s rate = axis_line s ++ ticks s rate (tick_count s)

-- a marker's line
abbrev pub marker_stroke : ℕ → List ℕ
marker_stroke height = codes "<path stroke='#c30' d='M0 0V" ++ decimal height ++ codes "'/>"

-- its identifier
abbrev pub marker_name : ℕ → List ℕ
marker_name id = codes "<text y='-6' fill='#c30'>" ++ decimal id ++ codes "</text></g>\n"

-- both at a place
abbrev pub marker_at : ℕ → ℕ → ℕ → List ℕ
marker_at x height id = shift x 0 ++ marker_stroke height ++ marker_name id

-- .. at the column of its frame, unless that is after the last one
abbrev pub marker : Shape → RawCue → List ℕ
marker s c =
    if nat_lt c.offset s.frames then marker_at (c.offset / s.wide) (height_of s) c.id else []

-- the picture with these strokes
abbrev pub page : List ℕ → Shape → ℕ → List RawCue → List ℕ
page strokes s rate cues = opening s ++ middles_line s ++ waveform strokes ++ axis s rate
    ++ flat_map (marker s) cues ++ codes "</svg>\n"

-- the picture of the samples in b
abbrev pub picture_text : List ℕ → Shape → ℕ → List RawCue → List ℕ
picture_text b s rate cues = page (all_strokes b s s.columns) s rate cues
