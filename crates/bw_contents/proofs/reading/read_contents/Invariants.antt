use Rattle.std.proofs.Common.{◌≡◌, ◌^◌, ◌<◌, Some, drop, take}
use Rattle.std.specs.Prelude.{flat_map}
use Rattle.bw_stream.specs.Readers.{Of}
use Rattle.bw_contents.specs.Contents.{chunk_says}
use Rattle.bw_contents.proofs.reading.read_contents.Given as goal

abbrev pub invariant-loop-chunk : goal.invariant-loop-chunk
invariant-loop-chunk g l = record {
  small : l.place < 2 ^ 63;
  held : Of (g.R.Source.left l.fn.reader) (λ b.
      (g.R.Source.left l.reader ≡ Some (drop l.place b))
      × (l.contents.items ≡ flat_map (chunk_says b) (take l.chunk-index l.chunk-items)));
}
