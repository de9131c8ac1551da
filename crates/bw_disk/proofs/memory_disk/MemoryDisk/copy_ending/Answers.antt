use Rattle.std.proofs.Common.{◌≡◌, ◌∙◌, ◌<◌, List, ℕ, get_or, length, arith, rules, string_bytes}
use Rattle.bw_disk.specs.declared.memory_disk.StoredFile.{StoredFile}
use Rattle.bw_disk.specs.MemoryDisks.{content_at, added_at}
use Rattle.bw_disk.proofs.Copies.{copied_more}
use Rattle.bw_disk.proofs.memory_disk.MemoryDisk.copy_ending.Goals as goal

pub loop-place-preserved : goal.loop-place-preserved
loop-place-preserved c =
    let files : List StoredFile = c.args.other.now.files.items in
    let file : StoredFile = c.index.result.now in
    let within : c.loop-place.place < length files = search rules in
    let is : file ≡ get_or files c.loop-place.place file = search rules in
    let adds : (path : List ℕ) → content_at c.add_copy.new.files.items path
    ≡ added_at c.args.ending.now (content_at c.loop-place.self.files.items) (string_bytes file.path) file.content.items path
    = search rules in (
      omega (arith, within),
      λ path. adds path
          ∙ copied_more c.args.ending.now (content_at c.args.self.now.files.items) (content_at c.loop-place.self.files.items)
          files c.loop-place.place file path within is (c.loop-place.invariant.1 path),
    )
