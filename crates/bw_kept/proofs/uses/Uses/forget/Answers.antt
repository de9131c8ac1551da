use Rattle.std.proofs.Common.{rules, not, List, ℕ}
use Rattle.std.specs.Str.{bytes_eq}
use Rattle.std.proofs.lemmas.Fn.{filter_same}
use Rattle.bw_kept.proofs.uses.Uses.forget.Goals as goal

pub returns : goal.returns
returns c = record {
  others = filter_same _ (λ (other : List ℕ). not (bytes_eq other c.args.name.now)) _ (λ x b f r. search rules)
      c.args.self.now.names.items c.retain.new.self.items c.retain.ensures.filtered;
}
