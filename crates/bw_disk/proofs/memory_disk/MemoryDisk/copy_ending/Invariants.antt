use Rattle.std.proofs.Common.{◌≡◌, ◌≤◌, ◌-◌, ℕ, List, length, take}
use Rattle.bw_disk.specs.MemoryDisks.{content_at, copied_at}
use Rattle.bw_disk.proofs.memory_disk.MemoryDisk.copy_ending.Given as goal

abbrev pub invariant-loop-place : goal.invariant-loop-place
invariant-loop-place l =
    (l.place ≤ length l.fn.other.files.items)
    × ((path : List ℕ) → content_at l.self.files.items path
    ≡ copied_at l.fn.ending (content_at l.fn.self.files.items)
    (content_at (take l.place l.fn.other.files.items)) path)

abbrev pub decreases-loop-place : goal.decreases-loop-place
decreases-loop-place l = length l.initial.other.files.items - l.place
