use Rattle.std.proofs.Common.{◌≡◌, ◌≢◌, ◌∙◌, List, ℕ, Some, None, is_some, refl, sym, ap, rules}
use Rattle.std.proofs.lemmas.Option.{none-some}
use Rattle.bw_disk.specs.declared.memory_disk.StoredFile.{StoredFile}
use Rattle.bw_disk.specs.MemoryDisks.{content_at, synced_at}
use Rattle.bw_disk.proofs.MemoryDisks.{stands, none_of, content_before}
use Rattle.bw_disk.proofs.Removals.{gone, kept, kept_synced}
use Rattle.bw_disk.proofs.memory_volume.rename.Goals.{After-remove}
use Rattle.bw_disk.proofs.memory_volume.rename.Goals as goal

pub returns-then-is_some-clause-moved : goal.returns-then-is_some-clause-moved
returns-then-is_some-clause-moved c = (stands c.args.files.now.items c.args.to.now ∙ search rules, λ p. refl)

module _ (c : After-remove) where
  abbrev old : StoredFile
  old = c.index.result.now

  free : content_at c.args.files.now.items c.args.to.now ≡ None
  free = none_of _ (stands c.args.files.now.items c.args.to.now ∙ search rules)

  stood : content_at c.args.files.now.items c.args.from.now ≡ Some old.content.items
  stood = content_before c.args.files.now.items c.args.from.now c.in-Some.place old old
      (record { is = search rules; was = search rules; same = refl })

  apart : c.args.to.now ≢ c.args.from.now
  apart e = none-some _ (sym free ∙ ap (content_at c.args.files.now.items) e ∙ stood)

  same : c.in_ok-content.content.items ≡ old.content.items
  same = search rules

  there : content_at c.put.new.files.items c.args.to.now ≡ Some c.in_ok-content.content.items
  there = c.in_ok-put.ensures.ok free

pub returns-clause-moved : goal.returns-clause-moved
returns-clause-moved c = record {
  stood = ap is_some (stood c);
  free = free c;
  arrived = ap (λ files. content_at files c.args.to.now) c.remove.ensures
      ∙ kept c.put.new.files.items c.args.from.now c.args.to.now (apart c)
      ∙ there c
      ∙ ap (λ (b : List ℕ). Some b) (same c)
      ∙ sym (stood c);
  left = ap (λ files. content_at files c.args.from.now) c.remove.ensures ∙ gone c.put.new.files.items c.args.from.now;
  others = λ p nf nt. ap (λ files. content_at files p) c.remove.ensures
      ∙ kept c.put.new.files.items c.args.from.now p nf
      ∙ c.put.ensures.others (free c) p nt;
}

pub returns-clause-synced : goal.returns-clause-synced
returns-clause-synced c = λ p nf nt.
    ap (λ files. synced_at files p) c.remove.ensures
    ∙ kept_synced c.put.new.files.items c.args.from.now p nf
    ∙ c.put.ensures.synced (free c) p
