use Rattle.std.proofs.Common.{rules}
use Rattle.bw_repair.proofs.SectionLaws.{pad_read, range_read, still}
use Rattle.bw_repair.proofs.left_out.sections.Sections.read_range.Goals as goal

pub returns-then-count-gt0-clause-ok : goal.returns-then-count-gt0-clause-ok
returns-then-count-gt0-clause-ok g c =
    range_read c.args.self.now.front.now c.args.self.now.gap c.args.self.now.size c.in_ok-count.count
    _ _ c.args.self.now.rest.now c.read.new.buf _ _ _ c.requires.front c.requires.gap (search rules) (search rules)
    (search rules) c.in_ok-count.ensures.ok

pub returns-then-self-gt1-clause-err : goal.returns-then-self-gt1-clause-err
returns-then-self-gt1-clause-err g c =
    still c.args.self.now.front.now c.args.self.now.gap c.args.self.now.size c.in_ok-count.count
    c.args.self.now.rest.now _ _ (search rules) (λ b e. (c.in_ok-count.ensures.ok b e).rest)

pub returns-clause-ok : goal.returns-clause-ok
returns-clause-ok g c =
    pad_read c.args.self.now.front.now c.args.self.now.gap c.args.self.now.size c.in_ok-count.count _ _
    c.args.self.now.rest.now _ c.read.new.buf _ _ c.requires.front c.requires.gap (search rules) (search rules)
    (search rules) (search rules) c.in_ok-count.ensures.ok
