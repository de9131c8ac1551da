use Rattle.std.proofs.Common.{◌≡◌, false, List, ℕ, arith, refl, rules, sym, ◌∙◌, subst, take_all}
use Rattle.std.specs.List.{All}
use Rattle.std.proofs.lemmas.List.Elements.{All-more}
use Rattle.bw_session.specs.TableChanges.{forgettable_kept}
use Rattle.bw_kept.specs.FoundNames.{has_left}
use Rattle.bw_kept.specs.declared.room.Leaving.TheVariants as leaving
use Rattle.bw_kept.proofs.FoundForms.{forgets_none, forgets_still, forgets_then, forgettable_same, none_may, none_pending}
use Rattle.bw_kept.proofs.room.drop_first.Goals as goal

pub loop-name-preserved : goal.loop-name-preserved
loop-name-preserved g c =
    let i = c.loop-name.invariant in
    let dropped = c.drop_name-leaving.ensures in
    let stays : has_left c.drop_name-leaving.result ≡ false = sym c.has_gone.ensures ∙ c.if-has_gone.false in
    record {
      forgets = forgets_then leaving.NoneMay c.args.server.now c.loop-name.server c.drop_name-leaving.new.server
          i.forgets (forgets_still _ leaving.NoneMay c.loop-name.server c.drop_name-leaving.new.server stays
          dropped.forgets);
      unable = λ none.
          let both = none_may c.loop-name.refused c.drop_name-leaving.result stays
          (sym c.is_refused-refused.ensures ∙ none) in
          All-more (λ (name : List ℕ). forgettable_kept c.args.server.now name ≡ false) c.args.names.now
          c.loop-name.name-index c.name-item.result (omega arith) (i.unable both.0)
          (subst (λ (name : List ℕ). forgettable_kept c.args.server.now name ≡ false) c.name-item.is
          (sym (forgettable_same _ _ c.args.server.now c.loop-name.server c.name-item.result
          (i.forgets.same refl c.name-item.result)) ∙ dropped.unable both.1));
    }

pub drop_name-leaving-requires : goal.drop_name-leaving-requires
drop_name-leaving-requires g c = record {
  committed = none_pending c.args.server.now c.loop-name.server c.loop-name.invariant.forgets.pending c.requires.committed;
}

pub loop-name-init : goal.loop-name-init
loop-name-init g c = record {
  forgets = forgets_none leaving.NoneMay c.args.server.now c.args.server.now refl;
  unable = search rules;
}

pub returns-then-has_gone-clause-forgets : goal.returns-then-has_gone-clause-forgets
returns-then-has_gone-clause-forgets g c =
    forgets_then c.drop_name-leaving.result c.args.server.now c.loop-name.server c.drop_name-leaving.new.server
    c.loop-name.invariant.forgets c.drop_name-leaving.ensures.forgets

pub returns-then-refused-clause-forgets : goal.returns-then-refused-clause-forgets
returns-then-refused-clause-forgets g c =
    forgets_still leaving.NoneMay leaving.Refused c.args.server.now c.loop-name.server refl c.loop-name.invariant.forgets

pub returns-else-refused-clause-unable : goal.returns-else-refused-clause-unable
returns-else-refused-clause-unable g c = λ none.
    subst (λ (names : List (List ℕ)). All (λ name. forgettable_kept c.args.server.now name ≡ false) names)
    (take_all c.loop-name.name-index c.args.names.now (omega arith)) (c.loop-name.invariant.unable c.if-refused.false)
