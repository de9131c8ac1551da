use Rattle.std.proofs.Common.{◌≡◌, ℕ, List, Some, slice_set, is_some, ap, refl, sym, ◌∙◌, rules}
use Rattle.bw_disk.specs.declared.memory_disk.StoredFile.{StoredFile}
use Rattle.bw_disk.specs.MemoryDisks.{synced_at}
use Rattle.bw_disk.proofs.MemoryDisks.{IsReplaced, content_under, synced_of, content_before, after, others, left}
use Rattle.bw_disk.proofs.memory_disk.keep.Goals as goal

module _ (c : goal.Joined-file) where
  abbrev old : StoredFile
  old = c.index_mut-file.result.now

  abbrev new : StoredFile
  new = record old { synced = Some c.in_ok-content.content }

  replaced : IsReplaced c.args.files.now.items c.args.path.now c.in-Some.place old new
  replaced = record { is = search rules; was = search rules; same = refl }

  same : c.in_ok-content.content.items ≡ old.content.items
  same = search rules

  synced_is : synced_at (slice_set c.args.files.now.items c.in-Some.place new) c.args.path.now ≡ Some old.content.items
  synced_is = ap synced_of (after _ _ _ _ _ replaced) ∙ ap (λ (b : List ℕ). Some b) same

pub returns-clause-unchanged : goal.returns-clause-unchanged
returns-clause-unchanged c = left _ _ _ _ _ (replaced c) content_under refl

pub returns-clause-synced : goal.returns-clause-synced
returns-clause-synced c = record {
  reported = synced_is c ∙ sym (content_before _ _ _ _ _ (replaced c));
  others = λ other ne. ap synced_of (others _ _ _ _ _ (replaced c) other ne);
}

pub returns-clause-stands : goal.returns-clause-stands
returns-clause-stands c = ap is_some (content_before _ _ _ _ _ (replaced c))
