use Rattle.std.proofs.Common.{◌+◌, arith}
use Rattle.bw_serve.proofs.Runs.{more_passed, byte_passed}
use Rattle.bw_serve.proofs.name_filter.NameFilter.pass.Goals as goal

pub loop-at-preserved : goal.loop-at-preserved
loop-at-preserved c =
    let run = more_passed c.args.self.now c.args.bytes.now c.loop-at.at c.pass_over-at.result c.loop-at.self
    c.loop-at.bytes c.pass_over-at.new.self
    (omega (arith, c.requires, c.loop-at-test.true, c.pass_over-at.ensures.most))
    c.loop-at.invariant.passed c.pass_over-at.ensures.same in
    let byte = byte_passed c.args.self.now c.args.bytes.now (c.loop-at.at + c.pass_over-at.result)
    c.pass_over-at.new.self c.loop-at.bytes
    (omega (arith, c.requires, c.loop-at-test.true, c.pass_over-at.ensures.most)) run in
    record {
      most = omega (arith, c.loop-at-test.true, c.pass_over-at.ensures.most);
      passed = rw (c.pass_byte.ensures.after, c.pass_byte.ensures.given) byte;
    }
