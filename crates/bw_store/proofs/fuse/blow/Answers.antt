use Rattle.std.proofs.Common.{◌==◌, ℕ, not, rules}
use Rattle.std.proofs.lemmas.Fn.{filter_same}
use Rattle.bw_store.proofs.fuse.blow.Goals as goal

pub returns-clause-spent : goal.returns-clause-spent
returns-clause-spent c =
    filter_same _ (λ (f : ℕ). not (f == c.args.call)) _
    (λ x b f r. search rules) c.args.fuses.now.items c.retain.new.self.items c.retain.ensures.filtered

pub returns-clause-reported : goal.returns-clause-reported
returns-clause-reported c = search rules
