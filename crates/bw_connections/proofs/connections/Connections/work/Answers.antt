use Rattle.bw_connections.proofs.Resting.{rests_through}
use Rattle.std.proofs.Common.{rules, ap, arith, refl, subst, sym, ◌∙◌, List, Some, None, [], ◌++◌, ◌≡◌}
use Rattle.bw_exchange.specs.AnsweredFrames.{Answered}
use Rattle.bw_connections.specs.declared.connection.Phase.TheVariants as phases
use Rattle.bw_exchange.specs.Parts.{waiting_in}
use Rattle.bw_connections.specs.Lives.{LeavesOf, EndsDrained, EndsServed, IsNoSilence, IsOpen, IsConnectionOver, KeepsPeer, Lives}
use Rattle.bw_connections.proofs.Going.{finished_at, leaves_at, learns_at, let_go_at, moved_at, quiet_at}
use Rattle.bw_connections.proofs.Standing.{adds_closed, adds_none, adds_on, at_is, closes_none, keeps_free, not_at}
use Rattle.bw_connections.proofs.Standing.{sets_again}
use Rattle.bw_connections.proofs.connections.Connections.work.Goals as goal

pub returns-then-rests : goal.returns-then-rests
returns-then-rests g c = rests_through g.L.Link g.T.Turns.answers c.args.place c.args.now c.args.self.now
    c.args.server.now (sym c.rests.ensures ∙ (search rules))

pub returns-in_default : goal.returns-in_default
returns-in_default g c =
    let t = c.in_default.ensures in
    record {
      number = 0;
      answered = [];
      by_server = refl;
      most = omega arith;
      is_its = λ d at. absurd (not_at d t.was at);
      ends_its = λ d at. tt;
      existed = λ d at. absurd (not_at d t.sets.there at);
      nobody = λ empty. (refl, refl);
      adds = adds_none g.L.Link c.args.self.now _ (λ over trace.
          keeps_free g.L.Link c.args.self.now _ c.args.place over trace refl t.was t.sets);
      others = (record { others = t.sets.elsewhere; count = t.count }, refl, refl);
      unended = λ d at. absurd (not_at d t.sets.there at);
      since = λ d e at there. absurd (not_at d t.was at);
      moved = λ d e at. absurd (not_at d t.was at);
      leaves = λ d e at. absurd (not_at d t.was at);
      lets_go = λ d e fault at. absurd (not_at d t.was at);
      learns = λ d e at. absurd (not_at d t.was at);
      finished = λ d e at. absurd (not_at d t.was at);
      closes = closes_none g.L.Link c.args.place c.args.self.now _;
    }

pub returns-in-Ok : goal.returns-in-Ok
returns-in-Ok g c =
    let t = c.in-Some.ensures in
    let was = c.in-Some.connection in
    let new = c.work.new.self in
    let w = c.in-Ok.ensures in
    let sets = sets_again c.args.self.now.places.items c.take_at.new.places.items c.put_at.new.places.items
    c.args.place None (Some new) t.sets c.put_at.ensures.sets in
    record {
      number = was.number;
      answered = w.answered;
      by_server = w.by_server;
      most = w.most;
      is_its = λ d at. ap (λ x. x.number) (sym (at_is was d t.was at));
      ends_its = λ d at. tt;
      existed = λ d at. (
        was,
        t.was,
        ap (λ x. x.number) (sym (at_is new d sets.there at)) ∙ w.number,
        subst (λ x. KeepsPeer g.L.Link was.link x.link) (at_is new d sets.there at) w.peer,
      );
      nobody = λ empty. absurd (empty was t.was);
      adds = adds_on g.L.Link c.args.self.now _ c.args.place was new was.number w.answered refl refl t.was sets w.number
          w.goes;
      others = (record { others = sets.elsewhere; count = c.put_at.ensures.count ∙ t.count }, refl, refl);
      unended = λ d at. subst IsOpen (at_is new d sets.there at) w.unended;
      since = λ d e at there. quiet_at c.args.now was d new e w.answered (at_is was d t.was at)
          (at_is new e sets.there there) w.since;
      moved = λ d e at there. moved_at g.L.Link was d new e w.answered (at_is was d t.was at)
          (at_is new e sets.there there) w.moved;
      leaves = λ d e at there. leaves_at g.L.Link was d new e (at_is was d t.was at)
          (at_is new e sets.there there) w.leaves;
      lets_go = λ d e fault at there. let_go_at g.L.Link fault was d new e (at_is was d t.was at)
          (at_is new e sets.there there) (w.lets_go fault);
      learns = λ d e at there. learns_at g.L.Link was d new e (at_is was d t.was at)
          (at_is new e sets.there there) w.learns;
      finished = λ d e at there. finished_at g.L.Link was d new e (at_is was d t.was at)
          (at_is new e sets.there there) w.finished;
      closes = closes_none g.L.Link c.args.place c.args.self.now _;
    }

pub returns-in-Err : goal.returns-in-Err
returns-in-Err g c =
    let t = c.in-Some.ensures in
    let was = c.in-Some.connection in
    let w = c.in-Err.ensures in
    let is = c.close.ensures in
    record {
      number = was.number;
      answered = w.answered;
      by_server = w.by_server;
      most = w.most;
      is_its = λ d at. ap (λ x. x.number) (sym (at_is was d t.was at));
      ends_its = λ d at.
          let one : was ≡ d = at_is was d t.was at in (
            (ap (λ y. y.number) is ∙ w.number) ∙ ap (λ x. x.number) one,
            subst (λ x. KeepsPeer g.L.Link x.link c.close.result.link) one
                (subst (λ y. KeepsPeer g.L.Link was.link y.link) (sym is) w.peer),
          );
      existed = λ d at. absurd (not_at d t.sets.there at);
      nobody = λ empty. absurd (empty was t.was);
      adds = adds_closed g.L.Link c.args.self.now _ c.args.place was c.close.result was.number w.answered refl refl t.was
          t.sets (ap (λ y. y.number) is ∙ w.number)
          (subst (λ y. (before : List Answered) → Lives g.L.Link was before →
          IsConnectionOver g.L.Link y.end y.link (before ++ w.answered)) (sym is) w.goes);
      others = (record { others = t.sets.elsewhere; count = t.count }, refl, refl);
      unended = λ d at. absurd (not_at d t.sets.there at);
      since = λ d e at there. absurd (not_at e t.sets.there there);
      moved = λ d e at there. absurd (not_at e t.sets.there there);
      leaves = λ d e at there. absurd (not_at e t.sets.there there);
      lets_go = λ d e fault at there. absurd (not_at e t.sets.there there);
      learns = λ d e at there. absurd (not_at e t.sets.there there);
      finished = λ d e at there. absurd (not_at e t.sets.there there);
      closes = record {
        left = λ d at. absurd (not_at d t.sets.there at);
        no_silence = subst (λ y. IsNoSilence y.end) (sym is) w.no_silence;
        served = λ d at serving. subst (λ y. EndsServed y.end) (sym is)
            (w.served (subst (λ x. x.phase ≡ phases.Serving) (sym (at_is was d t.was at)) serving));
        heard = λ d fault at draining. subst (λ y. EndsDrained g.L.Link fault y.link y.end) (sym is)
            (w.heard fault (subst (λ x. x.phase ≡ phases.Draining fault) (sym (at_is was d t.was at)) draining));
        leaves = λ d at. subst (λ x. LeavesOf g.L.Link (waiting_in x.exchange) x.link c.close.result.link)
            (at_is was d t.was at)
            (subst (λ y. LeavesOf g.L.Link (waiting_in was.exchange) was.link y.link) (sym is) w.leaves);
      };
    }
