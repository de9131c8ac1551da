use Rattle.std.proofs.Common.{◌≡◌, ◌<◌, List, get_or, length, map, take, subst, sym, arith, rules, string_bytes}
use Rattle.bw_disk.specs.declared.memory_disk.StoredFile.{StoredFile}
use Rattle.bw_disk.specs.MemoryDisks.{content_at, AddsListed}
use Rattle.bw_disk.specs.Volumes.{Lists}
use Rattle.bw_disk.proofs.Listings.{lists_more, take_next}
use Rattle.bw_disk.proofs.memory_volume.list.Goals as goal

pub loop-place-preserved : goal.loop-place-preserved
loop-place-preserved c =
    let files : List StoredFile = c.args.files.now in
    let file : StoredFile = c.index-files-place.result in
    let within : c.loop-place.place < length files = search rules in
    let is : file ≡ get_or files c.loop-place.place file = search rules in
    let adds : AddsListed c.args.folder.now (string_bytes file.path) (map string_bytes c.loop-place.names.items)
    (map string_bytes c.add_listed.new.names.items) = search rules in (
      omega (arith, within),
      subst (λ (done : List StoredFile). Lists c.args.folder.now (content_at done)
          (map string_bytes c.add_listed.new.names.items))
          (sym (take_next files c.loop-place.place file within is))
          (lists_more c.args.folder.now (take c.loop-place.place files) file (map string_bytes c.loop-place.names.items)
          c.loop-place.invariant.1 _ adds),
    )
