use Rattle.std.proofs.Common.{◌≡◌, ◌∙◌, ap}
use Rattle.bw_model.specs.Reading.{Entry}
use Rattle.bw_contents.proofs.Gathered.{chunk_said}
use Rattle.bw_contents.proofs.reading.read_chunk.Goals as goal

pub returns-in-Ok-clause-ok : goal.returns-in-Ok-clause-ok
returns-in-Ok-clause-ok g c = λ b e.
    let got = c.in_ok-bytes.ensures.ok b e in
    let inside : c.chunk.inside.place ≡ c.args.chunk.now.place = ap (λ (x : Entry). x.place) c.chunk.view_is in
    chunk_said b _ c.args.chunk.now _ _ _ _ _ _ _ _
    (ap (λ (x : Entry). x.id) c.chunk.view_is) c.is_other_xml.ensures c.if-is_other_xml.false
    c.is_looked_into.ensures c.if-not-is_looked_into.false inside c.len.ensures
    (c.as_slice.ensures.value ∙ got.1) got.0 c.in-Ok.ensures
