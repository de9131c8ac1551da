use Rattle.std.proofs.Common.{◌≡◌, ◌∙◌, ℕ, List, [], true, false, refl, rules, subst, sym}
use Rattle.std.proofs.lemmas.Map.Iter.{iter_end}
use Rattle.bw_disk.proofs.DiskChains.{stays_twice}
use Rattle.bw_takes.specs.ReadCounts.{Rises, has_lines}
use Rattle.bw_takes.specs.TakeNames.{AreNamesInOrder, ListsTakes}
use Rattle.bw_takes.proofs.ListingLemmas.{TellsOf, lent, names_of, tells_next, tells_none, told_same}
use Rattle.bw_takes.proofs.ReadCountLemmas.{rises_none}
use Rattle.bw_takes.proofs.listing.report_takes.Goals as goal

pub loop-name-init : goal.loop-name-init
loop-name-init g c =
    let a = c.args in
    let contents = g.D.Disk.contents a.disk.now in
    let lines : c.new.result.items ≡ [] = search rules in
    let unread : c.new-2.result.items ≡ [] = search rules in
    record {
      counted = subst (λ (xs : List ℕ). Rises (g.D.Disk.failures a.disk.now) (g.D.Disk.failures c.takes_in.new.disk)
          (has_lines xs)) (sym unread)
          (subst (λ (n : ℕ). Rises (g.D.Disk.failures a.disk.now) n false) (sym c.in_ok-names.ensures.failures)
          (rises_none (g.D.Disk.failures a.disk.now)));
      disk = search rules;
      tells = λ honest.
          subst (TellsOf a.form a.folder.now contents [])
          (sym (told_same c.new.result.items [] c.new-2.result.items [] true true lines unread refl))
          (tells_none a.form a.folder.now contents);
    }

pub loop-name-preserved : goal.loop-name-preserved
loop-name-preserved g c =
    let i = c.loop-name.invariant in
    let r = c.in_ok-put_take.ensures in
    let a = c.args in
    record {
      counted = r.counted (g.D.Disk.failures a.disk.now) i.counted;
      disk = stays_twice g.D.Disk _ _ _ i.disk r.disk;
      tells = λ honest. tells_next g.D.Disk a.form a.folder.now a.disk.now c.loop-name.disk i.disk honest
          c.loop-name.yielded c.in-Some.name _ _ (i.tells honest) r.told;
    }

pub returns-clause-report : goal.returns-clause-report
returns-clause-report g c = λ honest.
    let i = c.loop-name.invariant in
    let t = i.tells honest in
    let all : lent c.loop-name.yielded ≡ c.in_ok-names.names.keys = search (rules, iter_end) in
    let named : names_of t.takes ≡ c.in_ok-names.names.keys = t.named ∙ all in
    record {
      takes = t.takes;
      ordered = subst AreNamesInOrder (sym named) c.in_ok-names.ensures.ordered;
      lists = subst (ListsTakes c.args.folder.now (g.D.Disk.contents c.args.disk.now)) (sym named)
          (c.in_ok-names.ensures.each honest);
      tells = t.tells;
    }
