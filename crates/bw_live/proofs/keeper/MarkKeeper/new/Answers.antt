use Rattle.std.proofs.Common.{◌≡◌, ◌∙◌, ◌++◌, ℕ, List, Some, ap, codes, rules, subst, sym, take}
use Rattle.bw_live.specs.KeptPlaces.{GoesOnMarking, marks_of}
use Rattle.bw_live.specs.MarkLooks.{begun_text}
use Rattle.bw_live.proofs.SeenSteps.{begins_with}
use Rattle.bw_live.proofs.keeper.MarkKeeper.new.Goals as goal

pub returns : goal.returns
returns g c = record {
  going = λ b e.
      subst (λ (h : List ℕ). GoesOnMarking h (take 65536 b) (marks_of c.in_ok-kept.kept))
      (c.as_slice.ensures.value ∙ c.in_ok-header.ensures)
      (c.in_ok-kept.ensures.going b
      (ap (g.F.MarkFiles.bytes_at c.args.files) (c.as_str.ensures.value ∙ c.in_ok-keeps.ensures) ∙ e));
  begun = λ b e.
      let path : c.as_str.result.now ≡ c.args.place.now.recording.now ++ codes ".marks" =
      c.as_str.ensures.value ∙ c.in_ok-keeps.ensures in
      sym (ap (g.F.MarkFiles.bytes_at c.open_kept.new.files) path)
      ∙ c.in_ok-kept.ensures.begun b (ap (g.F.MarkFiles.bytes_at c.args.files) path ∙ e)
      ∙ ap (λ (z : List ℕ). Some (b ++ begun_text z (take 65536 b))) (c.as_slice.ensures.value ∙ c.in_ok-header.ensures);
  rest = begins_with _ _ _ _ (search rules) (search rules) (search rules);
}
