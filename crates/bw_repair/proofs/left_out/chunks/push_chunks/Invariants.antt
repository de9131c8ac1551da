use Rattle.std.proofs.Common.{◌≡◌, ◌++◌, false, drop}
use Rattle.std.specs.List.{filter, list_any}
use Rattle.bw_repair.specs.ChunkSections.{chunk_sections, is_chosen}
use Rattle.bw_repair.specs.LeftOut.{is_too_large}
use Rattle.bw_repair.proofs.left_out.chunks.push_chunks.Given as goal

abbrev pub invariant-loop-i : goal.invariant-loop-i
invariant-loop-i l = record {
  items : l.sections.items ++ chunk_sections l.place (filter (is_chosen l.fn.with_format) (drop l._i l.fn.chunks))
      ≡ l.fn.sections.items ++ chunk_sections l.fn.start (filter (is_chosen l.fn.with_format) l.fn.chunks);
  small : list_any is_too_large (filter (is_chosen l.fn.with_format) (drop l._i l.fn.chunks)) ≡ false;
}
