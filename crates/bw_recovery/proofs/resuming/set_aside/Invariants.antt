use Rattle.std.proofs.Common.{◌≡◌, ◌<◌, ℕ, IsTrue, IsSome}
use Rattle.bw_disk.specs.Volumes.{KeepsEach}
use Rattle.bw_recovery.specs.Changes.{torn_text}
use Rattle.bw_recovery.specs.Paths.{path_with}
use Rattle.bw_recovery.proofs.resuming.set_aside.Given as goal

-- nothing has changed so far
abbrev pub invariant-loop-attempt : goal.invariant-loop-attempt
invariant-loop-attempt g l = record {
  honest : g.D.Disk.honest l.takes ≡ g.D.Disk.honest l.fn.takes;
  same : IsTrue (g.D.Disk.honest l.fn.takes) → KeepsEach (g.D.Disk.contents l.fn.takes) (g.D.Disk.contents l.takes);
  count : g.D.Disk.failures l.takes ≡ g.D.Disk.failures l.fn.takes;
  tried : IsTrue (g.D.Disk.honest l.fn.takes) → (k : ℕ) → k < l.attempt →
      IsSome (g.D.Disk.contents l.fn.takes (path_with l.fn.folder (torn_text k) l.fn.name));
}
