use Rattle.std.proofs.Common.{◌∙◌, ◌++◌, ◌∷◌, [], List, ap, inl, map, refl, string_bytes, subst, sym, ℕ}
use Rattle.std.proofs.lemmas.List.{map-append}
use Rattle.bw_queue.specs.FolderRecordings.{path_within}
use Rattle.bw_queue.proofs.listing.put_recording.Goals as goal

pub returns : goal.returns
returns g c =
    let kinds = g.F.FileKinds.kinds c.args.files.now in
    let path = path_within c.args.folder.now c.args.name.now in
    let before = map string_bytes c.args.paths.now.items in (
      path ∷ [],
      inl (
        (
          c.if-not-is_recording_name.ensures,
          (
            c.kind_at.result,
            subst (λ (p : List ℕ). kinds p c.kind_at.result) (c.as_str.ensures.value ∙ c.in_ok-path.ensures) c.kind_at.ensures,
            sym c.is_odd.ensures ∙ c.if-is_odd.false,
          ),
        ),
        refl,
      ),
      ap (map string_bytes) c.in_ok-push.ensures.items
          ∙ (map-append string_bytes c.args.paths.now.items (c.in_ok-path.path ∷ [])
          ∙ ap (λ (p : List ℕ). before ++ p ∷ []) c.in_ok-path.ensures),
    )
