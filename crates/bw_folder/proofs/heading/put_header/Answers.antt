use Rattle.std.proofs.Common.{rules, arith, ◌≡◌, ◌<◌, ◌≤◌, ℕ, List, Option, IsTrue, IsSome, length, take, ap, sym, ◌∙◌, subst}
use Rattle.std.proofs.lemmas.Result.{on_ok_weaker, on_err_weaker}
use Rattle.std.proofs.lemmas.Bool.{not-false}
use Rattle.bw_model.proofs.BookLemmas.{same_name}
use Rattle.bw_disk.specs.Volumes.{ReadsPrefix, WrittenInPart}
use Rattle.bw_store.specs.Stores.{Written}
use Rattle.bw_folder.proofs.Headings.{moved, whole, written, in_part}
use Rattle.bw_folder.proofs.heading.put_header.Given.{Over}
use Rattle.bw_folder.proofs.heading.put_header.Goals.{After-append}
use Rattle.bw_folder.proofs.heading.put_header.Goals as goal

pub returns-then-count-eq47-clause-begun : goal.returns-then-count-eq47-clause-begun
returns-then-count-eq47-clause-begun g c = λ honest.
    let content : Option (List ℕ) = g.D.Disk.contents c.args.disk.now (g.D.Disk.path_of c.args.file.now) in
    let long : 47 ≡ length c.args.header.now = search rules in
    let stands : IsSome content = search rules in
    let reads : ReadsPrefix content 47 c.in_ok-count.count c.read_prefix.new.room = search rules in
    let same : take c.in_ok-count.count c.read_prefix.new.room ≡ take c.in_ok-count.count c.args.header.now =
    same_name _ _ (not-false _ (sym c.ne.ensures ∙ c.if-ne.false)) in
    whole c.args.header.now c.read_prefix.new.room c.in_ok-count.count content 47 long stands reads same
    (omega (arith, long, c.if-count-eq47.true)) _ (search rules)

module _ (g : Over) (c : After-append g) (honest : IsTrue (g.D.Disk.honest c.args.disk.now)) where
  abbrev content : Option (List ℕ)
  content = g.D.Disk.contents c.args.disk.now (g.D.Disk.path_of c.args.file.now)

  long : 47 ≡ length c.args.header.now
  long = search rules

  stands : IsSome content
  stands = search rules

  reads : ReadsPrefix content 47 c.in_ok-count.count c.read_prefix.new.room
  reads = search rules

  same : take c.in_ok-count.count c.read_prefix.new.room ≡ take c.in_ok-count.count c.args.header.now
  same = search rules

  less : c.in_ok-count.count < length c.args.header.now
  less =
      let fits : c.in_ok-count.count ≤ 47 = search rules in
      omega (arith, long, fits, c.if-count-eq47.false)

  now : IsTrue (g.D.Disk.honest c.read_prefix.new.disk)
  now = subst IsTrue (sym c.read_prefix.ensures.rest.honest) honest

  before : g.D.Disk.contents c.read_prefix.new.disk (g.D.Disk.path_of c.read_prefix.new.file) ≡ content
  before =
      ap (g.D.Disk.contents c.read_prefix.new.disk) c.read_prefix.ensures.path
      ∙ c.read_prefix.ensures.rest.contents honest (g.D.Disk.path_of c.args.file.now)

pub returns-clause-begun : goal.returns-clause-begun
returns-clause-begun g c = λ honest.
    on_ok_weaker c.append.result
    (λ w. written c.args.header.now c.read_prefix.new.room c.in_ok-count.count (content g c honest) 47
    (long g c honest) (stands g c honest) (reads g c honest) (same g c honest) (less g c honest) _
    (moved (λ a b. Written a 0 c.args.header.now b) _ _ _ _ (before g c honest)
    (ap (g.D.Disk.contents c.append.new.disk) c.read_prefix.ensures.path) w))
    (c.append.ensures.written (now g c honest))

pub returns-clause-failed : goal.returns-clause-failed
returns-clause-failed g c = λ honest.
    on_err_weaker c.append.result
    (λ w. in_part c.args.header.now c.read_prefix.new.room c.in_ok-count.count (content g c honest) 47
    (long g c honest) (stands g c honest) (reads g c honest) (same g c honest) (less g c honest) _
    (moved (λ a b. WrittenInPart a 0 c.args.header.now b) _ _ _ _ (before g c honest)
    (ap (g.D.Disk.contents c.append.new.disk) c.read_prefix.ensures.path) w))
    (c.append.ensures.failed (now g c honest))
