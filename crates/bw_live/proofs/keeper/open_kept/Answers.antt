use Rattle.std.proofs.Common.{◌≡◌, ◌∙◌, ◌++◌, [], ◌∷◌, ℕ, List, Option, ap, sym, length, Some, take}
use Rattle.std.specs.Prelude.{◌==◌, option_map}
use Rattle.bw_live.specs.KeptPlaces.{kept_said, marks_of}
use Rattle.bw_live.specs.MarkLooks.{begun_text, cut_end}
use Rattle.bw_live.proofs.KeptSteps.{kept_on, nothing_kept}
use Rattle.bw_live.proofs.SeenSteps.{begun_on, empty_of, writes_more}
use Rattle.bw_live.proofs.keeper.open_kept.Goals as goal

pub returns-then-is_empty : goal.returns-then-is_empty
returns-then-is_empty g c = record {
  going = λ b e. nothing_kept _ _ _
      (sym (c.in_ok-bytes.ensures.ok b e) ∙ sym c.as_slice.ensures.value
      ∙ empty_of c.as_slice.result.now (sym c.is_empty.ensures ∙ c.if-is_empty.true))
      c.in_ok-new.ensures;
  begun = λ b e.
      let path = c.args.path.now in
      let empty : take 65536 b ≡ [] =
      sym (c.in_ok-bytes.ensures.ok b e) ∙ sym c.as_slice.ensures.value
      ∙ empty_of c.as_slice.result.now (sym c.is_empty.ensures ∙ c.if-is_empty.true) in
      writes_more (g.F.MarkFiles.bytes_at c.args.files.now path) (g.F.MarkFiles.bytes_at c.append.new.self path)
      (g.F.MarkFiles.bytes_at c.append-then-is_empty.new.self path) c.args.header.now (10 ∷ [])
      (λ xs is. c.in_ok-append.ensures.ok xs (ap (λ (z : List ℕ → Option (List ℕ)). z path) c.read.ensures.kept ∙ is))
      c.in_ok-append-2.ensures.ok b e
      ∙ ap (λ (z : List ℕ). Some (b ++ begun_text c.args.header.now z)) (sym empty);
}

pub returns : goal.returns
returns g c = record {
  going = λ b e.
      let said : kept_said c.args.header.now (take 65536 b) ≡ Some (marks_of c.in-Some.kept) =
      ap (kept_said c.args.header.now) (sym (c.in_ok-bytes.ensures.ok b e) ∙ sym c.as_slice-2.ensures.value)
      ∙ sym c.in_ok-kept.ensures ∙ ap (option_map marks_of) c.in-Some.is in
      kept_on _ _ _ said;
  begun = λ b e.
      let some : (length (take 65536 b) == 0) ≡ _ =
      sym (ap (λ (z : List ℕ). length z == 0) (c.as_slice.ensures.value ∙ c.in_ok-bytes.ensures.ok b e))
      ∙ sym c.is_empty.ensures ∙ c.if-is_empty.false in
      c.in_ok-end_last_line.ensures b (ap (λ (z : List ℕ → Option (List ℕ)). z c.args.path.now) c.read.ensures.kept ∙ e)
      ∙ ap (λ (z : List ℕ). Some (b ++ cut_end z)) (c.as_slice-3.ensures.value ∙ c.in_ok-bytes.ensures.ok b e)
      ∙ ap (λ (z : List ℕ). Some (b ++ z)) (sym (begun_on c.args.header.now (take 65536 b) some));
}
