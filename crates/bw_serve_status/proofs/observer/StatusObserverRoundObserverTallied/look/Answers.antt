use Rattle.std.proofs.Common.{◌≡◌, ◌∙◌, ℕ, sym, subst, ap, length, rules, vec_len}
use Rattle.bw_operators.specs.OperatorPlaces.{StepsAt}
use Rattle.bw_serve_status.specs.Growths.{NotesGrowth}
use Rattle.bw_serve_status.specs.Looks.{Accepts, Moment}
use Rattle.bw_serve_status.proofs.LookSteps.{written_over}
use Rattle.bw_serve_status.proofs.observer.StatusObserverRoundObserverTallied.look.Goals as goal

pub returns : goal.returns
returns g c =
    let now = c.now-now.result in
    let old = c.args.self.now.growth.items in
    let counted = c.args.server.now.tallies.names in
    let kept = c.respond_to_oldest.ensures.kept ∙ c.accept.ensures.kept in
    let at : now ≡ g.P.StatusPort.time c.respond_to_oldest.new.self.port =
    c.now-now.ensures.time ∙ sym (ap (λ (m : Moment). m.now) kept) in
    let names : c.names.result.now ≡ counted = c.names.ensures ∙ ap (λ t. t.names) c.tallies.ensures in
    let notes : NotesGrowth now counted old c.note_growth.new.growth =
    subst (λ ns. NotesGrowth now ns old c.note_growth.new.growth) names
    (subst (λ gs. NotesGrowth now c.names.result.now gs c.note_growth.new.growth) c.as_mut_slice.ensures.value
    c.note_growth.ensures) in
    let len : vec_len c.args.self.now.growth ≡ length old = search rules in
    let last : c.respond_to_oldest.new.self.growth.items ≡ c.note_growth.new.growth =
    ap (λ (m : Moment). m.growth) kept ∙ written_over old c.note_growth.new.growth (vec_len c.args.self.now.growth)
    (c.note_growth.ensures.count ∙ ap length c.as_mut_slice.ensures.value) len in
    record {
      growth = subst (λ n. NotesGrowth n counted old c.respond_to_oldest.new.self.growth.items) at
          (subst (NotesGrowth now counted old) (sym last) notes);
      resumed = ap (λ (m : Moment). m.resumed) kept;
      allow = ap (λ (m : Moment). m.allow) kept;
      started = ap (λ (m : Moment). m.since) kept ∙ c.now-now.ensures.started;
      worked = c.work.new.self;
      steps = subst (λ n. (place : ℕ) → StepsAt g.P.Link.Link n c.args.self.now.operators c.work.new.self place) at
          c.work.ensures.steps;
      accepted = c.accept.new.self.operators;
      accepts = subst (λ n. Accepts n c.work.new.self c.accept.new.self.operators) at
          c.accept.ensures.accepts;
      responds = c.respond_to_oldest.ensures.responds;
      connections = λ is. c.respond_to_oldest.ensures.connections
          (c.accept.ensures.connections (c.work.ensures.connections is));
    }
