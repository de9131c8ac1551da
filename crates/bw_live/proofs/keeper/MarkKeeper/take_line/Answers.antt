use Rattle.std.proofs.Common.{rules}
use Rattle.bw_live.specs.MarkLooks.{keeping_of}
use Rattle.bw_live.proofs.SeenSteps.{begins_whole, on_any_error, sees_not, sees_one}
use Rattle.bw_live.proofs.keeper.MarkKeeper.take_line.Goals as goal

pub returns-in_err-append-clause-failed : goal.returns-in_err-append-clause-failed
returns-in_err-append-clause-failed g c = on_any_error _
    (sees_not g.F.MarkFiles g.E.Sink c.args.frame c.args.line.now (keeping_of c.args.self.now)
    (record (keeping_of c.args.self.now) { files = c.append.new.self })
    (search rules) (search rules) (search rules))

pub returns-in_err-add-clause-failed : goal.returns-in_err-add-clause-failed
returns-in_err-add-clause-failed g c = on_any_error _
    (sees_not g.F.MarkFiles g.E.Sink c.args.frame c.args.line.now (keeping_of c.args.self.now) _
    c.in_err-add.ensures.kept (begins_whole _ _ _ (search rules)) (search rules))

pub returns-clause-seen : goal.returns-clause-seen
returns-clause-seen g c =
    sees_one g.F.MarkFiles g.E.Sink c.args.frame c.args.line.now (keeping_of c.args.self.now) _
    (search rules) (search rules) (search rules)
