use Rattle.std.proofs.Common.{◌≡◌, ◌∙◌, ◌<◌, ap, arith, length, take}
use Rattle.std.specs.Prelude.{flat_map}
use Rattle.std.proofs.lemmas.List.{take_all}
use Rattle.bw_contents.specs.Contents.{chunk_says}
use Rattle.bw_contents.proofs.Gathered.{flat_map_more}
use Rattle.bw_contents.proofs.reading.read_contents.Goals as goal

pub loop-chunk-preserved : goal.loop-chunk-preserved
loop-chunk-preserved g c = record {
  small = c.in_ok-place.ensures.small;
  held = λ b e.
      let inside : c.loop-chunk.chunk-index < length c.first_chunks-chunk-items.result.now =
      omega (arith, c.loop-chunk-test.true) in
      let before = c.loop-chunk.invariant.held b e in
      let after = c.in_ok-place.ensures.ok b before.0 in (
        after.0,
        flat_map_more (chunk_says b) _ _ _ _ _ inside c.chunk-item.is before.1 after.1,
      );
}

pub returns : goal.returns
returns g c = λ b e.
    let looked = c.first_chunks-chunk-items.result.now in
    let all : take c.loop-chunk.chunk-index looked ≡ looked =
    take_all c.loop-chunk.chunk-index looked (omega (arith, c.loop-chunk-test.false)) in
    c.new.ensures ∙ (c.loop-chunk.invariant.held b e).1
    ∙ ap (flat_map (chunk_says b)) (all ∙ c.first_chunks-chunk-items.ensures)
