use Rattle.std.proofs.Common.{◌≡◌, ◌≤◌, ◌+◌, drop}
use Rattle.std.specs.List.{filter, list_any}
use Rattle.bw_repair.specs.ChunkSections.{is_chosen}
use Rattle.bw_repair.specs.LeftOut.{is_too_large, whole_lens}
use Rattle.bw_repair.proofs.left_out.chunks.total_len.Given as goal

abbrev pub invariant-loop-i : goal.invariant-loop-i
invariant-loop-i l = record {
  most : l.total ≤ l.fn.most;
  total : l.total + whole_lens (filter (is_chosen l.fn.with_format) (drop l._i l.fn.chunks))
      ≡ l.fn.others + whole_lens (filter (is_chosen l.fn.with_format) l.fn.chunks);
  large : list_any is_too_large (filter (is_chosen l.fn.with_format) (drop l._i l.fn.chunks))
      ≡ list_any is_too_large (filter (is_chosen l.fn.with_format) l.fn.chunks);
}
