use Rattle.std.proofs.Common.{◌≡◌}
use Rattle.bw_folder.proofs.CommitForms.{IsCommittedTo}
use Rattle.bw_folder.proofs.journal.FolderJournal.commit.Given as goal

-- the journals at the places below are committed, and no call of the disk has failed
abbrev pub invariant-loop-place : goal.invariant-loop-place
invariant-loop-place g l = record {
  so_far : IsCommittedTo l.place l.fn.self l.self;
  failures : g.D.Disk.failures l.self.disk ≡ g.D.Disk.failures l.fn.self.disk;
}
