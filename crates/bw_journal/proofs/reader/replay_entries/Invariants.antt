use Rattle.std.proofs.Common.{◌≡◌, ◌*◌, ◌+◌, ◌≤◌, length, drop}
use Rattle.bw_model.specs.Bytes.{zeros as zero_bytes}
use Rattle.bw_model.specs.Limits.{longest_block}
use Rattle.bw_journal.specs.JournalHeaders.{header_len}
use Rattle.bw_journal.specs.Lines.{journal_lines}
use Rattle.bw_journal.specs.Replays.{replayed, replayed_entries}
use Rattle.bw_journal.specs.Rows.{IsWholeTable}
use Rattle.bw_journal.proofs.reader.replay_entries.Given as goal

abbrev pub invariant-loop-step : goal.invariant-loop-step
invariant-loop-step l = record {
  known : replayed (journal_lines (drop l.used l.bytes))
      (record { parts = l.state.parts; table = l.table.items; used = l.used })
      ≡ replayed_entries l.existed l.bytes;
  samples : l.state.parts.samples_len ≤ longest_block * l._step;
  within : l.used ≤ length l.bytes;
  far : header_len + l._step ≤ l.used;
  rows : IsWholeTable l.state.parts l.table.items l.used;
  zeros : l.zeros.items ≡ zero_bytes longest_block;
}
