use Rattle.std.proofs.Common.{◌≤◌, List, ℕ, map, length, refl, rules, sym, subst}
use Rattle.std.specs.Prelude.{string_bytes}
use Rattle.std.proofs.lemmas.List.{length-map}
use Rattle.bw_disk.specs.Volumes.{Lists}
use Rattle.bw_takes.proofs.ReadCountLemmas.{refused_read}
use Rattle.bw_takes.proofs.TakeNameLemmas.{text_at, only_next, each_next, listed_all}
use Rattle.bw_takes.proofs.naming.takes_in.Goals as goal

pub loop-file-preserved : goal.loop-file-preserved
loop-file-preserved g c =
    let i = c.loop-file.invariant in
    let items = c.deref-file-items.result.now in
    let k = c.loop-file.file-index in
    let file = c.as_str.result.now in
    let at = text_at string_bytes items k c.file-item.result file c.loop-file-test.true c.file-item.is
    c.as_str.ensures.value in
    let added = c.in_ok-add_take.ensures.added in
    let before = c.loop-file.names.keys in
    let after = c.add_take.new.names.keys in
    record {
      ordered = c.in_ok-add_take.ensures.ordered i.ordered;
      only = only_next (map string_bytes items) k file before after at.0 at.1 added i.only;
      each = each_next (map string_bytes items) k file before after at.0 at.1 added i.each;
    }

pub returns-clause-each : goal.returns-clause-each
returns-clause-each g c = λ honest.
    let i = c.loop-file.invariant in
    let files : List (List ℕ) = map string_bytes c.deref-file-items.result.now in
    let all : length files ≤ c.loop-file.file-index = rw length-map c.loop-file-test.false in
    listed_all c.args.folder.now (g.D.Disk.contents c.args.disk.now) files c.loop-file.names.keys c.loop-file.file-index
    all (subst (λ (xs : List _). Lists c.args.folder.now (g.D.Disk.contents c.args.disk.now) (map string_bytes xs))
    (sym c.deref-file-items.ensures.value) (c.in_ok-listed.ensures.names honest)) i.only i.each

pub returns-in_err-add_take-clause-failures : goal.returns-in_err-add_take-clause-failures
returns-in_err-add_take-clause-failures g c =
    let same = c.in_ok-listed.ensures.call.failed.quiet refl in
    let is = c.in_err-add_take.ensures.memory in
    search (rules, refused_read (g.D.Disk.failures c.args.disk.now) (g.D.Disk.failures c.list.new.self) _ same is)
