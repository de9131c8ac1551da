use Rattle.std.proofs.Common.{◌≡◌, ℕ, ◌≤◌, ◌++◌, length}
use Rattle.bw_contents.specs.Lists.{parts_say}
use Rattle.bw_contents.proofs.list.put_parts.Given as goal

abbrev pub invariant-loop-rest : goal.invariant-loop-rest
invariant-loop-rest l = (n : ℕ) × (length l.rest ≤ n)
    × (l.contents.items ++ parts_say n l.list_type l.rest
    ≡ l.fn.contents.items ++ parts_say (length l.fn.bytes) l.list_type l.fn.bytes)

abbrev pub decreases-loop-rest : goal.decreases-loop-rest
decreases-loop-rest l = length l.rest
