use Rattle.std.proofs.Common.{◌≡◌, ◌*◌, ◌≤◌, ℕ, List, Some, drop, length}
use Rattle.bw_picture.specs.Drawings.{frame_bytes, all_strokes, column_place}
use Rattle.bw_picture.proofs.drawing.draw.Given as goal

abbrev pub invariant-loop-column : goal.invariant-loop-column
invariant-loop-column g l = record {
  fits : frame_bytes l.shape ≤ length l.room;
  bytes : (b : List ℕ) → g.R.Source.left l.fn.reader ≡ Some (drop l.shape.place b) →
      (l.text.items ≡ all_strokes b l.shape l.column)
      × (l.column * l.shape.wide ≤ l.shape.frames → g.R.Source.left l.reader
      ≡ Some (drop (column_place l.shape l.column) b));
}
