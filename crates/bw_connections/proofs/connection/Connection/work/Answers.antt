use Rattle.std.proofs.Common.{rules, ◌≡◌, ◌∙◌, refl, [], arith, Err, Ok}
use Rattle.std.specs.Prelude.{is_some, not}
use Rattle.bw_connections.specs.declared.connection.Phase.TheVariants as phases
use Rattle.std.proofs.lemmas.Result.{err_from_is_err_and}
use Rattle.bw_connections.proofs.Going.{answers_on, goes_at_last, not_served, number_left, quiet_as, quiet_drained, quiet_on}
use Rattle.bw_connections.proofs.Going.{drained_on, finished_still, learns_on, open_left, peer_then}
use Rattle.bw_connections.proofs.Going.{breaks_off, drained_at, drained_no_silence, moved_on, served_no_silence}
use Rattle.bw_exchange.specs.Parts.{end_of, waiting_in}
use Rattle.bw_connections.specs.Lives.{has_just_ended, is_heard}
use Rattle.bw_connections.proofs.Going.{settled_served, leaves_on, leaves_same, leaves_of_none}
use Rattle.bw_connections.proofs.connection.Connection.work.Goals as goal

pub returns-in-Draining : goal.returns-in-Draining
returns-in-Draining g c =
    let d = c.drain.ensures in
    let old = c.args.self.now in
    let is = c.in-Draining.is in
    record {
      answered = [];
      by_server = refl;
      most = omega arith;
      goes = d.goes;
      peer = d.peer;
      leaves = leaves_of_none g.L.Link (waiting_in old.exchange) old.link c.drain.new.self.link d.leaves;
      number = d.stays.number;
      since = drained_on c.drain.result (quiet_drained c.args.now old c.drain.new.self c.in-Draining.fault
          (has_just_ended (end_of old.exchange) (end_of c.drain.new.self.exchange)) is d.stays.phase d.stays.since);
      unended = drained_on c.drain.result (λ serving none.
          absurd (not_served c.drain.new.self c.in-Draining.fault (d.stays.phase ∙ is) serving));
      moved = λ serving. absurd (not_served old c.in-Draining.fault is serving);
      lets_go = λ fault at. d.lets_go;
      learns = d.learns;
      finished = λ was. drained_on c.drain.result
          (finished_still g.L.Link old c.drain.new.self d.stays.phase d.finished was);
      no_silence = drained_no_silence g.L.Link c.in-Draining.fault c.drain.new.self.link c.drain.result d.heard;
      served = λ serving. absurd (not_served old c.in-Draining.fault is serving);
      heard = λ fault at.
          drained_at g.L.Link old c.drain.new.self.link c.in-Draining.fault fault c.drain.result is at d.heard;
    }

pub returns-in_err-send_waiting : goal.returns-in_err-send_waiting
returns-in_err-send_waiting g c =
    let a = err_from_is_err_and c.from_residual.result c.from_residual.ensures.1 in
    let old = c.args.self.now in
    let serving : old.phase ≡ phases.Serving = search rules in
    let broken = c.in_err-send_waiting.ensures in
    rw (a.1, a.2) (breaks_off g.L.Link g.T.Turns.answers c.args.now c.in_err-send_waiting.field-0.0 old
    c.send_waiting.new.self _ _ [] serving refl (omega arith) broken.goes broken.peer broken.leaves
    broken.stays.number broken.served)

pub returns-in_err-receive_piece : goal.returns-in_err-receive_piece
returns-in_err-receive_piece g c =
    let a = err_from_is_err_and c.from_residual-in_err-receive_piece.result c.from_residual-in_err-receive_piece.ensures.1 in
    let h = c.answer_held.ensures in
    let old = c.args.self.now in
    let sent = c.send_waiting.new.self in
    let held = c.answer_held.new.self in
    let fed = c.receive_piece.new.self in
    let serving : old.phase ≡ phases.Serving = search rules in
    let first = c.in_ok-send_waiting.ensures in
    let broken = c.in_err-receive_piece.ensures in
    let on = answers_on g.L.Link g.T.Turns.answers c.args.now old sent held _ _ first.goes first.peer
    first.stays.number h in
    rw (a.1, a.2) (breaks_off g.L.Link g.T.Turns.answers c.args.now c.in_err-receive_piece.field-0.0 old fed _ _
    h.answered serving h.by_server h.most
    (goes_at_last g.L.Link (Err c.in_err-receive_piece.field-0.0) old held fed h.answered on.0 broken.goes)
    (peer_then g.L.Link old.link held.link fed.link on.1 broken.peer)
    (leaves_on g.L.Link (waiting_in old.exchange) old.link held.link fed.link
    (leaves_on g.L.Link (waiting_in old.exchange) old.link sent.link held.link first.leaves
    (leaves_same g.L.Link sent.link held.link h.link)) broken.leaves)
    (broken.stays.number ∙ on.2) broken.served)

pub returns : goal.returns
returns g c =
    let h = c.answer_held.ensures in
    let s = c.settle.ensures in
    let old = c.args.self.now in
    let sent = c.send_waiting.new.self in
    let held = c.answer_held.new.self in
    let fed = c.receive_piece.new.self in
    let first = c.in_ok-send_waiting.ensures in
    let then_fed = c.in_ok-receive_piece.ensures in
    let on = answers_on g.L.Link g.T.Turns.answers c.args.now old sent held _ _ first.goes first.peer
    first.stays.number h in
    let serving : old.phase ≡ phases.Serving = search rules in
    let phase = then_fed.stays.phase ∙ h.phase in
    let since = then_fed.stays.since ∙ h.since in
    let was_open = c.is_none-was_open.result in
    let opened : was_open ≡ not (is_some (end_of old.exchange)) = search rules in
    record {
      answered = h.answered;
      by_server = h.by_server;
      most = h.most;
      goes = goes_at_last g.L.Link c.settle.result old fed c.settle.new.self h.answered
          (goes_at_last g.L.Link (Ok tt) old held fed h.answered on.0 then_fed.goes) s.goes;
      peer = peer_then g.L.Link old.link fed.link c.settle.new.self.link
          (peer_then g.L.Link old.link held.link fed.link on.1 then_fed.peer) s.peer;
      leaves = leaves_on g.L.Link (waiting_in old.exchange) old.link fed.link c.settle.new.self.link
          (leaves_on g.L.Link (waiting_in old.exchange) old.link held.link fed.link
          (leaves_on g.L.Link (waiting_in old.exchange) old.link sent.link held.link first.leaves
          (leaves_same g.L.Link sent.link held.link h.link)) then_fed.leaves) s.leaves;
      number = number_left c.args.now was_open c.settle.result fed c.settle.new.self s.settles ∙ (then_fed.stays.number ∙ on.2);
      since = quiet_as c.args.now c.settle.new.self.since c.settle.new.self.phase
          (is_heard h.answered (has_just_ended (end_of old.exchange) (end_of c.settle.new.self.exchange))) sent old
          c.settle.result first.stays.phase first.stays.since
          (quiet_on c.args.now sent h.answered was_open (end_of old.exchange) (first.stays.phase ∙ serving) opened fed
          c.settle.new.self c.settle.result phase since s.settles);
      unended = open_left c.args.now was_open c.settle.result fed c.settle.new.self s.settles;
      moved = λ at. moved_on g.L.Link g.T.Turns.answers c.args.now c.args.server.now c.answer_held.new.server
          was_open c.settle.result old sent held fed c.settle.new.self first.sends h then_fed.reads s.settles s.reported;
      lets_go = λ fault at. absurd (not_served old fault at serving);
      learns = learns_on g.L.Link g.T.Turns.answers c.args.now c.args.server.now c.answer_held.new.server
          was_open c.settle.result old sent held fed c.settle.new.self first.sends h then_fed.reads s.settles s.reported;
      finished = λ was. s.finished;
      no_silence = served_no_silence c.settle.result
          (settled_served c.args.now was_open c.settle.result fed c.settle.new.self s.settles);
      served = λ at. settled_served c.args.now was_open c.settle.result fed c.settle.new.self s.settles;
      heard = λ fault at. absurd (not_served old fault at serving);
    }
