use Rattle.std.proofs.Common.{◌≡◌, ◌++◌, ◌∷◌, ◌∙◌, [], List, ap, map, refl, string_bytes, subst, sym, take, ℕ}
use Rattle.std.proofs.lemmas.List.{map-append}
use Rattle.bw_disk.proofs.DiskChains.{stays_twice}
use Rattle.bw_ports.specs.declared.file_kind.FileKind.TheVariants.{Folder}
use Rattle.bw_queue.specs.FolderRecordings.{EachGives, ListsRecordings, SaysEmptyFolder, SaysUnlisted, StandsForPaths}
use Rattle.bw_queue.specs.QueueFaults.{no_recordings_text, unreadable_text}
use Rattle.bw_queue.specs.QueueSides.{queue_side}
use Rattle.bw_queue.proofs.ListingLemmas.{gives_more, recordings_before, stood_before}
use Rattle.bw_queue.proofs.NamedLemmas.{says_more, text_there, texts_more}
use Rattle.bw_queue.proofs.listing.find_recordings.Goals as goal

pub returns-in-Err-clause-found : goal.returns-in-Err-clause-found
returns-in-Err-clause-found g c =
    let paths = map string_bytes c.args.paths.now in
    let path = c.as_str.result.now in
    let kinds = g.F.FileKinds in
    let files = c.args.files.now in
    let side = queue_side kinds files g.D.Disk c.args.disk.now in
    let then = queue_side kinds files g.D.Disk c.loop-path.disk in
    let there = text_there string_bytes c.args.paths.now c.loop-path.path-index c.path-item.result path
    c.loop-path-test.true c.path-item.is c.as_str.ensures.value in
    says_more
    (λ (line : List ℕ). kinds.kinds files path Folder × ListsRecordings then path [] × (line ≡ no_recordings_text path))
    (λ (line : List ℕ). kinds.kinds files path Folder × (line ≡ unreadable_text path))
    (SaysEmptyFolder side paths) (SaysUnlisted side paths)
    (λ line says. (
      c.loop-path.path-index,
      path,
      there.0,
      there.1,
      (
        says.0,
        recordings_before kinds files g.D.Disk c.args.disk.now c.loop-path.disk path [] c.loop-path.invariant.whole says.1,
        says.2,
      ),
    )) (λ line says. (c.loop-path.path-index, path, there.0, there.1, says)) c.in-Err.fault
    c.in-Err.ensures.found

pub loop-path-preserved : goal.loop-path-preserved
loop-path-preserved g c =
    let path = c.as_str.result.now in
    let kinds = g.F.FileKinds in
    let files = c.args.files.now in
    let side = queue_side kinds files g.D.Disk c.args.disk.now in
    let i = c.loop-path.invariant in
    let more = texts_more string_bytes c.args.paths.now c.loop-path.path-index c.path-item.result path
    c.loop-path-test.true c.path-item.is c.as_str.ensures.value in
    let stands = stood_before kinds files g.D.Disk c.args.disk.now c.loop-path.disk path
    (map string_bytes c.in-Ok.own.items) i.whole c.in-Ok.ensures.found in
    let all = gives_more (StandsForPaths side) (map string_bytes (take c.loop-path.path-index c.args.paths.now)) path
    (map string_bytes c.loop-path.found.items) (map string_bytes c.in-Ok.own.items) i.found stands in
    let items = ap (map string_bytes) c.in_default.ensures.items
    ∙ map-append string_bytes c.loop-path.found.items c.in-Ok.own.items in
    record {
      counts = c.in-Ok.ensures.counts ∙ i.counts;
      whole = stays_twice g.D.Disk c.args.disk.now c.loop-path.disk c.recordings_at.new.disk i.whole c.in-Ok.ensures.disk;
      found = subst (λ (ps : List (List ℕ)). EachGives (StandsForPaths side) ps (map string_bytes c.append.new.self.items))
          (sym more) (subst (λ (all : List (List ℕ)). EachGives (StandsForPaths side)
          (map string_bytes (take c.loop-path.path-index c.args.paths.now) ++ path ∷ []) all) (sym items) all);
    }
