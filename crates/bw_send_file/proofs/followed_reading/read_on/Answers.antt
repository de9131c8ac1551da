use Rattle.std.proofs.Common.{rules, arith, length-take, length-drop}
use Rattle.std.proofs.lemmas.Grind.{common_steps}
use Rattle.bw_send_file.proofs.MoreRead.{reads_more, keeps_held, same_left, none_to_come}
use Rattle.bw_send_file.proofs.followed_reading.read_on.Goals as goal

pub returns-in_err-count-clause-read : goal.returns-in_err-count-clause-read
returns-in_err-count-clause-read g c xs e =
    keeps_held c.args.room.now c.args.held.now xs c.loop-held.room _ c.loop-held.held _ _ c.loop-held.invariant.within
    (c.loop-held.invariant.read xs e) c.in_err-count.ensures.err

pub returns-then-count-eq0-clause-read : goal.returns-then-count-eq0-clause-read
returns-then-count-eq0-clause-read g c xs e =
    keeps_held c.args.room.now c.args.held.now xs c.loop-held.room _ c.loop-held.held _ _ c.loop-held.invariant.within
    (c.loop-held.invariant.read xs e)
    (same_left c.in_ok-count.count _ _ _ _ c.if-count-eq0.true c.in_ok-count.ensures.ok)

pub returns-then-count-eq0-clause-end : goal.returns-then-count-eq0-clause-end
returns-then-count-eq0-clause-end g c complete short xs e =
    let test = c.loop-held-test.true in
    none_to_come c.args.room.now c.args.held.now xs c.loop-held.room c.loop-held.held c.in_ok-count.count _ _
    (c.loop-held.invariant.read xs e) c.if-count-eq0.true
    (c.in_ok-count.ensures.end (c.loop-held.invariant.stays complete) c.if-count-eq0.true
    (simp (length-take, length-drop) (omega arith)))
    (λ ys q. (c.in_ok-count.ensures.ok ys q).2)

pub loop-held-preserved : goal.loop-held-preserved
loop-held-preserved g c = record {
  within = search rules;
  room = search rules;
  count = grind (arith, common_steps);
  stays = λ complete. c.read_more.ensures.stays (c.loop-held.invariant.stays complete);
  read = λ xs e.
      reads_more c.args.room.now c.args.held.now xs c.loop-held.room c.read_more.new.buf _ c.loop-held.held
      c.in_ok-count.count _ _ c.loop-held.invariant.within (let n = c.in_ok-count.ensures.within in search rules)
      (c.loop-held.invariant.read xs e) c.in_ok-count.ensures.ok;
}
