use Rattle.std.proofs.Common.{◌≡◌, ◌∙◌, [], ◌∷◌, ◌++◌, false, None, is_some, string_bytes, ap, sym, refl, rules}
use Rattle.std.specs.List.{position}
use Rattle.bw_disk.specs.declared.memory_disk.StoredFile.{StoredFile}
use Rattle.bw_disk.specs.MemoryDisks.{stands_at, content_at}
use Rattle.bw_disk.proofs.MemoryDisks.{stands, made, made_others, made_unsynced}
use Rattle.bw_disk.proofs.memory_volume.put.Goals as goal

module _ (c : goal.In_ok-map_err-2) where
  abbrev new : StoredFile
  new = record { path = c.in_ok-map_err.field-0; content = c.args.content; synced = None }

  at : string_bytes new.path ≡ c.args.path.now
  at = search rules

  pushed : c.push.new.self.items ≡ c.args.files.now.items ++ new ∷ []
  pushed = search rules

  none : content_at c.args.files.now.items c.args.path.now ≡ None →
      is_some (position (stands_at c.args.path.now) c.args.files.now.items) ≡ false
  none e = sym (stands c.args.files.now.items c.args.path.now) ∙ ap is_some e

pub returns-clause-ok : goal.returns-clause-ok
returns-clause-ok c = λ e.
    rw (pushed c) (made c.args.files.now.items c.args.path.now (new c) (none c e) (at c))

pub returns-clause-others : goal.returns-clause-others
returns-clause-others c = λ e.
    rw (pushed c) (made_others c.args.files.now.items c.args.path.now (new c) (none c e) (at c))

pub returns-clause-synced : goal.returns-clause-synced
returns-clause-synced c = λ e.
    rw (pushed c) (made_unsynced c.args.files.now.items c.args.path.now (new c) (none c e) (at c) refl)
