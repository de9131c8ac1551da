use Rattle.std.proofs.Common.{◌≡◌, true, is_some, string_bytes, ◌∙◌, rules, None}
use Rattle.std.specs.List.{position}
use Rattle.bw_disk.specs.MemoryDisks.{stands_at, content_at}
use Rattle.bw_disk.proofs.MemoryDisks.{stands}
use Rattle.bw_disk.proofs.Copies.{not_missing, copy_added}
use Rattle.bw_disk.proofs.memory_copy.add_copy.Goals as goal

pub returns-then-is_some : goal.returns-then-is_some
returns-then-is_some c = λ path.
    let is : is_some (position (stands_at (string_bytes c.args.file.now.path)) c.args.files.now.items) ≡ true = search rules in
    not_missing c.args.ending.now (string_bytes c.args.file.now.path) c.args.file.now.content.items
    (content_at c.args.files.now.items) path
    (stands c.args.files.now.items (string_bytes c.args.file.now.path) ∙ is)

pub returns : goal.returns
returns c = λ path.
    copy_added c.args.ending.now (string_bytes c.args.file.now.path) c.args.file.now.content.items
    c.args.files.now.items c.push.new.self.items
    (record { path = c.in_ok-path_copy.path_copy; content = c.in_ok-content.content; synced = None }) path
    (search rules) (search rules) (search rules) (search rules)
