use Rattle.std.proofs.Common.{◌++◌, ◌∷◌, [], List, map, string_bytes, subst, sym, take, ℕ}
use Rattle.bw_queue.specs.FolderRecordings.{EachGives, GivesRecording}
use Rattle.bw_queue.proofs.ListingLemmas.{gives_more}
use Rattle.bw_queue.proofs.NamedLemmas.{texts_more}
use Rattle.bw_queue.proofs.listing.gather_recordings.Goals as goal

pub loop-name-preserved : goal.loop-name-preserved
loop-name-preserved g c =
    let gives = GivesRecording (g.F.FileKinds.kinds c.args.files.now) c.args.folder.now in
    let name = c.as_str.result.now in
    let put = c.in_ok-put_recording.ensures in
    let names = map string_bytes (take c.loop-name.name-index c.args.names.now) in
    let more = texts_more string_bytes c.args.names.now c.loop-name.name-index c.name-item.result name
    c.loop-name-test.true c.name-item.is c.as_str.ensures.value in
    let all = gives_more gives names name (map string_bytes c.loop-name.paths.items) put.0 c.loop-name.invariant put.1 in
    subst (λ (ns : List (List ℕ)). EachGives gives ns (map string_bytes c.put_recording.new.paths.items)) (sym more)
    (subst (λ (ps : List (List ℕ)). EachGives gives (names ++ name ∷ []) ps) (sym put.2) all)
