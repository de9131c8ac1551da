use Rattle.std.proofs.Common.{◌≡◌, ◌≤◌, ◌<◌, List, ℕ, map, length, sym, ◌∙◌, ap, subst}
use Rattle.std.specs.Prelude.{string_bytes, get_or}
use Rattle.std.proofs.lemmas.List.{length-map, get_or-map}
use Rattle.bw_disk.specs.Volumes.{Lists}
use Rattle.bw_recovery.proofs.ListForms.{only_step, each_step, listed_end}
use Rattle.bw_recovery.proofs.listing.name_set.Goals as goal

pub loop-file-preserved : goal.loop-file-preserved
loop-file-preserved g c =
    let i = c.loop-file.invariant in
    let items = c.deref-file-items.result.now in
    let files : List (List ℕ) = map string_bytes items in
    let k = c.loop-file.file-index in
    let below : k < length files = rw length-map c.loop-file-test.true in
    let file = c.as_str.result.now in
    let at : get_or files k file ≡ file =
    get_or-map string_bytes items k c.file-item.result file c.loop-file-test.true
    ∙ ap string_bytes (sym c.file-item.is) ∙ sym c.as_str.ensures.value in
    let added = c.in_ok-add_name.ensures.added in
    record {
      only = only_step files k file c.loop-file.names.keys c.add_name.new.names.keys below at added i.only;
      each = each_step files k file c.loop-file.names.keys c.add_name.new.names.keys below at added i.each;
    }

pub returns-clause-each : goal.returns-clause-each
returns-clause-each g c = λ honest.
    let i = c.loop-file.invariant in
    let files : List (List ℕ) = map string_bytes c.deref-file-items.result.now in
    let all : length files ≤ c.loop-file.file-index = rw length-map c.loop-file-test.false in
    listed_end c.args.folder.now (g.E.Disk.contents c.args.notes.now) files c.loop-file.names.keys c.loop-file.file-index
    all (subst (λ (xs : List _). Lists c.args.folder.now (g.E.Disk.contents c.args.notes.now) (map string_bytes xs))
    (sym c.deref-file-items.ensures.value) (c.in_ok-listed.ensures.names honest)) i.only i.each
