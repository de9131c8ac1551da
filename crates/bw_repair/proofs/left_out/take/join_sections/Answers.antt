use Rattle.std.proofs.Common.{◌∙◌, ◌-◌, ℕ, List, ap, inr}
use Rattle.std.specs.List.{filter}
use Rattle.bw_model.specs.Reading.{Entry, next_place}
use Rattle.bw_repair.specs.ChunkSections.{capped}
use Rattle.bw_repair.specs.LeftOut.{is_left_chunk}
use Rattle.bw_repair.proofs.JoinLaws.{unfit_by}
use Rattle.bw_repair.proofs.left_out.take.join_sections.Goals as goal

pub returns-in_default-clause-err : goal.returns-in_default-clause-err
returns-in_default-clause-err c =
    inr (
      unfit_by _ _ _ _ _ _ c.most_of.ensures.most
          (c.saturating_sub-others.ensures
          ∙ ap (λ (n : ℕ). n - 8)
          (c.chunks_end-end.ensures ∙ ap (λ (es : List Entry). capped (next_place es)) c.as_slice.ensures))
          (ap (filter is_left_chunk) c.as_slice-chunks.ensures) c.in_default.ensures.total,
      c.fault_at.ensures,
    )
