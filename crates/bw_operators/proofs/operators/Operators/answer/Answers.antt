use Rattle.std.proofs.Common.{◌∙◌, ◌≡◌, ◌<◌, arith, length, rules, vec_len, Some, ap, sym, subst}
use Rattle.std.specs.Prelude.{slice_get}
use Rattle.bw_operators.specs.OperatorConnections.{IsConnection}
use Rattle.bw_operators.proofs.PlacedLemmas.{Asks, asked_within, asker, put, some_is, taken}
use Rattle.bw_operators.proofs.operators.Operators.answer.Goals as goal

pub take_at-requires : goal.take_at-requires
take_at-requires g c =
    let within : c.args.place < length c.args.self.now.places.items =
    asked_within c.args.self.now c.args.place _ (sym c.in-Some.ensures) in
    let len : vec_len c.args.self.now.places ≡ length c.args.self.now.places.items = search rules in
    omega (arith, within, len)

pub returns-clause-connections : goal.returns-clause-connections
returns-clause-connections g c = λ a s asks is_text is.
    let who : Asks (slice_get c.args.self.now.places.items c.args.place) a = asker _ a asks in
    let same = some_is _ _ (some_is _ _ (sym who.1 ∙ c.in-Some-take_at.ensures.was)) in
    put g.L.Link _ _ c.args.place (Some c.answer.new.self) c.put_at.ensures.sets
    (λ d e. subst (λ x. IsConnection g.L.Link x) (some_is _ _ e) (c.answer.ensures.connection a s
    (sym (ap (λ x. x.phase) same) ∙ who.2) is_text (is c.args.place _ c.in-Some-take_at.ensures.was)))
    (taken g.L.Link _ _ c.args.place c.in-Some-take_at.ensures.sets is)
