use Rattle.std.proofs.Common.{◌≡◌, ◌++◌, drop}
use Rattle.bw_store.specs.Memory.{content_under}
use Rattle.bw_store.specs.MemoryNames.{names_of}
use Rattle.bw_commands.specs.Text.{files_text}
use Rattle.bw_commands.proofs.text.put_files.Given as goal

abbrev pub invariant-loop-place : goal.invariant-loop-place
invariant-loop-place l = l.out.items ++ files_text (content_under l.store.files) (drop l.place (names_of l.store))
    ≡ l.fn.out.items ++ files_text (content_under l.store.files) (names_of l.store)
