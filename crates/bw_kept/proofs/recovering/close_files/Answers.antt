use Rattle.std.proofs.Common.{ℕ, List, IsTrue, subst}
use Rattle.bw_model.specs.Wire.{is_name}
use Rattle.bw_session.specs.SeenServers.{server_store, server_journal}
use Rattle.bw_kept.specs.Visits.{OnlyCloses}
use Rattle.bw_kept.proofs.ClosedFiles.{committed_stay, held_closed}
use Rattle.bw_kept.proofs.recovering.close_files.Goals as goal

pub returns-clause-committed : goal.returns-clause-committed
returns-clause-committed g c = λ honest n.
    let old = c.args.server.now in
    let new = c.lend_stores.new.self in
    committed_stay g.D.Disk g.E.Disk c.args.name.now old new
    (subst (λ (n : List ℕ). OnlyCloses n (server_store old) (server_journal old) (server_store new) (server_journal new))
    c.copy.ensures c.lend_stores.ensures.visited)
    c.lend_stores.ensures.sessions c.lend_stores.ensures.limit n

pub returns-clause-books : goal.returns-clause-books
returns-clause-books g c = λ honest honest_notes first book h gone.
    let old = c.args.server.now in
    let new = c.lend_stores.new.self in
    held_closed g.D.Disk g.E.Disk c.args.name.now old new
    (subst (λ (n : List ℕ). OnlyCloses n (server_store old) (server_journal old) (server_store new) (server_journal new))
    c.copy.ensures c.lend_stores.ensures.visited)
    c.lend_stores.ensures.sessions c.lend_stores.ensures.limit first book h honest honest_notes
    (subst (λ (n : List ℕ). IsTrue (is_name n)) c.as_bytes-bytes.ensures.value c.as_bytes-bytes.ensures.name) gone
    c.law_outside.ensures
