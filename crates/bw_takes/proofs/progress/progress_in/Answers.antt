use Rattle.std.proofs.Common.{◌≡◌, ◌∙◌, ◌++◌, ◌∷◌, [], rules, refl, ap, map, sym, subst}
use Rattle.std.proofs.lemmas.Map.Iter.{iter_end}
use Rattle.bw_disk.proofs.DiskChains.{stays_twice}
use Rattle.bw_takes.specs.TakeNames.{AreNamesInOrder, ListsTakes}
use Rattle.bw_takes.specs.TakeSummaries.{summary_of}
use Rattle.bw_takes.proofs.ProgressLemmas.{each_next, names_next}
use Rattle.bw_takes.proofs.progress.progress_in.Goals as goal

pub loop-name-preserved : goal.loop-name-preserved
loop-name-preserved g c =
    let i = c.loop-name.invariant in
    let f = c.in_ok-finding.ensures in
    let p = c.progress_of.ensures in
    let pushed : c.push.new.self.items ≡ c.loop-name.takes.items ++ c.progress_of.result ∷ [] = search rules in
    record {
      quiet = f.failures.quiet refl ∙ i.quiet;
      disk = stays_twice g.D.Disk _ _ _ i.disk f.disk;
      names = names_next _ _ c.progress_of.result _ c.in-Some.name pushed i.names (p.name ∙ c.copy.ensures);
      each = λ honest. each_next g.D.Disk c.args.folder.now c.args.disk.now c.loop-name.disk _ _
          c.progress_of.result _ _ pushed i.disk honest
          (i.each honest) (p.name ∙ c.copy.ensures) p.shows (λ h. ap summary_of (f.found h));
    }

pub returns-clause-takes : goal.returns-clause-takes
returns-clause-takes g c = λ honest.
    let i = c.loop-name.invariant in
    let all : map (λ take. take.name) c.loop-name.takes.items ≡ c.in_ok-names.names.keys =
    i.names ∙ search (rules, iter_end) in
    record {
      ordered = subst AreNamesInOrder (sym all) c.in_ok-names.ensures.ordered;
      lists = subst (ListsTakes c.args.folder.now (g.D.Disk.contents c.args.disk.now)) (sym all)
          (c.in_ok-names.ensures.each honest);
      each = i.each honest;
    }
