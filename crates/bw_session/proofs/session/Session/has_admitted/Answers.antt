use Rattle.std.proofs.Common.{rules, sym, ◌∙◌}
use Rattle.bw_session.specs.Sessions.{part_of}
use Rattle.bw_session.proofs.ReplyForms.{repeat_done}
use Rattle.bw_session.proofs.session.Session.has_admitted.Goals as goal

pub returns-then-number-done : goal.returns-then-number-done
returns-then-number-done c = λ first log found m h name number summed.
    repeat_done first log (part_of c.args.self.now) found h c.args.number m c.args.digest.now c.has_digest.result
    (search rules) (name ∙ sym c.args.self.now.progress.same_name) number summed c.has_digest.ensures
