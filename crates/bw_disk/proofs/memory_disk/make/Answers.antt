use Rattle.std.proofs.Common.{◌≡◌, [], ◌∷◌, ◌++◌, true, false, None, is_some, string_bytes, ◌∙◌, refl, rules}
use Rattle.std.specs.List.{position}
use Rattle.bw_disk.specs.declared.memory_disk.StoredFile.{StoredFile}
use Rattle.bw_disk.specs.MemoryDisks.{stands_at}
use Rattle.bw_disk.proofs.MemoryDisks.{stands, none_stands, nothing, made, made_others, made_unsynced}
use Rattle.bw_disk.proofs.memory_disk.make.Goals as goal

pub returns-then-is_some-clause-made : goal.returns-then-is_some-clause-made
returns-then-is_some-clause-made c =
    let is : is_some (position (stands_at c.args.path.now) c.args.files.now.items) ≡ true = search rules in
    (stands c.args.files.now.items c.args.path.now ∙ is, refl)

module _ (c : goal.In_ok-map_err-3) where
  abbrev new : StoredFile
  new = record { path = c.in_ok-map_err-2.field-0; content = c.new.result; synced = None }

  none : is_some (position (stands_at c.args.path.now) c.args.files.now.items) ≡ false
  none = search rules

  at : string_bytes new.path ≡ c.args.path.now
  at = search rules

  pushed : c.push.new.self.items ≡ c.args.files.now.items ++ new ∷ []
  pushed = search rules

pub returns-clause-made : goal.returns-clause-made
returns-clause-made c = (
  nothing c.args.files.now.items c.args.path.now (new c) (none c) (at c),
  rw (pushed c)
      (made c.args.files.now.items c.args.path.now (new c) (none c) (at c) ∙ search rules),
)

pub returns-clause-others : goal.returns-clause-others
returns-clause-others c =
    rw (pushed c) (made_others c.args.files.now.items c.args.path.now (new c) (none c) (at c))

pub returns-clause-synced : goal.returns-clause-synced
returns-clause-synced c =
    rw (pushed c) (made_unsynced c.args.files.now.items c.args.path.now (new c) (none c) (at c) refl)

pub returns-in_err-map_err-clause-stands : goal.returns-in_err-map_err-clause-stands
returns-in_err-map_err-clause-stands c =
    λ some. absurd (none_stands c.args.files.now.items c.args.path.now (search rules) some)

pub returns-in_err-map_err-2-clause-stands : goal.returns-in_err-map_err-2-clause-stands
returns-in_err-map_err-2-clause-stands c =
    λ some. absurd (none_stands c.args.files.now.items c.args.path.now (search rules) some)

pub returns-in_err-map_err-3-clause-stands : goal.returns-in_err-map_err-3-clause-stands
returns-in_err-map_err-3-clause-stands c =
    λ some. absurd (none_stands c.args.files.now.items c.args.path.now (search rules) some)
