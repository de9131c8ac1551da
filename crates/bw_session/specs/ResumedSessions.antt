-- What a server makes of a take that a journal says.
use Rattle.std.specs.Prelude.{◌≡◌, ℕ, None, replicate}
use Rattle.bw_journal.specs.Rows.{row_count}
use Rattle.bw_file.specs.GrowingFiles.{clean_file}
use Rattle.bw_session.specs.Ledgers.{entries_in}
use Rattle.bw_session.specs.declared.kept_take.KeptTake.{KeptTake}
use Rattle.bw_session.specs.declared.session.Session.{Session}

-- the session of a name that was kept
pub record ResumesFrom (limit : ℕ) (k : KeptTake) (s : Session) : Type 0 where
  pub name : s.progress.name ≡ k.name
  pub state : s.progress.state.parts ≡ k.replayed.state.parts
  pub outcomes : s.progress.ledger.outcomes
      ≡ entries_in (row_count k.replayed.table.items) k.replayed.table.items
  pub window : s.window ≡ replicate 16 None
  pub growing : s.progress.growing ≡ clean_file k.name limit k.made
  pub noted : s.progress.noted ≡ k.replayed.used
