use Rattle.std.proofs.Common.{ℕ, List, IsTrue, subst}
use Rattle.std.specs.Prelude.{IfOk}
use Rattle.bw_model.specs.Wire.{is_name}
use Rattle.bw_session.specs.SeenServers.{server_store, server_journal}
use Rattle.bw_kept.specs.Recoveries.{IsKeptUnder}
use Rattle.bw_kept.specs.Visits.{RecoversName}
use Rattle.bw_kept.proofs.RecoverNames.{recovers_committed, was_recovered}
use Rattle.bw_kept.proofs.recovering.recover_name.Goals as goal

pub returns-clause-named : goal.returns-clause-named
returns-clause-named g c =
    subst (λ (n : List ℕ). IfOk c.lend_stores.new.visitor.result (IsKeptUnder n)) c.copy.ensures
    c.lend_stores.ensures.visited.named

pub returns-clause-recovered : goal.returns-clause-recovered
returns-clause-recovered g c = λ honest honest_notes first book h gone.
    let old = c.args.server.now in
    let new = c.lend_stores.new.self in
    let recovers = subst (λ (n : List ℕ). RecoversName n (server_store old) (server_journal old) (server_store new)
    (server_journal new) c.lend_stores.new.visitor.result) c.copy.ensures c.lend_stores.ensures.visited in
    let named = subst (λ (n : List ℕ). IsTrue (is_name n)) c.as_bytes-bytes.ensures.value c.as_bytes-bytes.ensures.name in (
      was_recovered g.D.Disk g.E.Disk c.args.name.now old new c.lend_stores.new.visitor.result recovers
          c.lend_stores.ensures.sessions c.lend_stores.ensures.limit first book h honest honest_notes named
          c.requires.committed gone c.law_outside.ensures,
      recovers_committed g.D.Disk g.E.Disk c.args.name.now old new c.lend_stores.new.visitor.result recovers
          c.lend_stores.ensures.sessions c.lend_stores.ensures.limit first book h honest honest_notes named
          c.requires.committed gone c.law_outside.ensures,
    )
