use Rattle.std.proofs.Common.{rules, ap, refl, subst, sym, ◌∙◌, Some, None, []}
use Rattle.std.proofs.lemmas.Option.{slice_get_past}
use Rattle.bw_connections.specs.Quanta.{Wakes}
use Rattle.bw_connections.specs.Lives.{KeepsPeer}
use Rattle.bw_connections.proofs.Going.{peer_same, woken}
use Rattle.bw_connections.proofs.Standing.{adds_none, adds_on, keeps_free, not_some, sets_again, some_is}
use Rattle.bw_connections.proofs.connections.Connections.wake.Goals as goal

pub returns-in_default-clause-adds : goal.returns-in_default-clause-adds
returns-in_default-clause-adds g c =
    let t = c.in_default.ensures in
    adds_none g.L.Link c.args.self.now _ (λ over trace.
    keeps_free g.L.Link c.args.self.now _ c.args.place over trace refl t.was t.sets)

pub returns-clause-adds : goal.returns-clause-adds
returns-clause-adds g c =
    let t = c.in-Some.ensures in
    let was = c.in-Some.connection in
    let w = c.wake.ensures in
    adds_on g.L.Link c.args.self.now _ c.args.place was c.wake.new.self was.number [] refl refl t.was
    (sets_again c.args.self.now.places.items c.take_at.new.places.items c.put_at.new.places.items
    c.args.place None (Some c.wake.new.self) t.sets c.put_at.ensures.sets) w.stays.number
    (woken g.L.Link was c.wake.new.self w.link w.exchange w.stays.phase)

pub returns-then-place-len-clause-wakes : goal.returns-then-place-len-clause-wakes
returns-then-place-len-clause-wakes g c = λ d at.
    absurd (not_some (Some d) (sym (slice_get_past c.args.self.now.places.items c.args.place (search rules)) ∙ at))

pub returns-in_default-clause-wakes : goal.returns-in_default-clause-wakes
returns-in_default-clause-wakes g c = λ d at.
    absurd (not_some d (some_is None (Some d) (sym c.in_default.ensures.was ∙ at)))

pub returns-clause-wakes : goal.returns-clause-wakes
returns-clause-wakes g c = λ d at.
    let was = c.in-Some.connection in
    let w = c.wake.ensures in (
      c.wake.new.self,
      c.put_at.ensures.sets.there,
      subst (λ x. Wakes c.args.readable c.args.writable x c.wake.new.self)
          (some_is was d (some_is (Some was) (Some d) (sym c.in-Some.ensures.was ∙ at)))
          (record { readable = w.readable; writable = w.writable; link = w.link; exchange = w.exchange; stays = w.stays }),
    )

pub returns-then-place-len-clause-existed : goal.returns-then-place-len-clause-existed
returns-then-place-len-clause-existed g c = λ d at. (d, at, refl, (λ p from. from))

pub returns-in_default-clause-existed : goal.returns-in_default-clause-existed
returns-in_default-clause-existed g c = λ d at.
    absurd (not_some d (some_is None (Some d) (sym c.in_default.ensures.sets.there ∙ at)))

pub returns-clause-existed : goal.returns-clause-existed
returns-clause-existed g c = λ d at.
    let was = c.in-Some.connection in
    let new = c.wake.new.self in (
      was,
      c.in-Some.ensures.was,
      ap (λ x. x.number) (sym (some_is new d (some_is (Some new) (Some d) (sym c.put_at.ensures.sets.there ∙ at))))
          ∙ c.wake.ensures.stays.number,
      subst (λ x. KeepsPeer g.L.Link was.link x.link)
          (some_is new d (some_is (Some new) (Some d) (sym c.put_at.ensures.sets.there ∙ at)))
          (peer_same g.L.Link was.link new.link c.wake.ensures.link),
    )
