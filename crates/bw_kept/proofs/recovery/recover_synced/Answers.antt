use Rattle.std.proofs.Common.{Ok, subst}
use Rattle.bw_kept.specs.RecoverySteps.{RecoversAlone, RecoversFrom}
use Rattle.bw_kept.specs.declared.recovery.Recovered.{Recovered}
use Rattle.bw_kept.specs.declared.recovery.Recovered.TheVariants.{Kept}
use Rattle.bw_kept.proofs.SyncedForms.{alone_then, recovers_then, synced_then}
use Rattle.bw_kept.proofs.recovery.recover_synced.Given.{Over}
use Rattle.bw_kept.proofs.recovery.recover_synced.Goals.{After-sync_kept}
use Rattle.bw_kept.proofs.recovery.recover_synced.Goals as goal

-- what was recovered before the sync
alone : (g : Over) (c : After-sync_kept g) → RecoversAlone c.args.name.now (Ok (Kept c.in-Ok-Kept.take)) c.args.store.now
    c.args.journal.now c.recover_closed.new.store c.recover_closed.new.journal
alone g c =
    subst (λ (x : Recovered). RecoversAlone c.args.name.now (Ok x) c.args.store.now c.args.journal.now
    c.recover_closed.new.store c.recover_closed.new.journal) c.in-Ok-Kept.field-0-is c.in-Ok-Kept.ensures.alone

pub returns-in-Ok-Kept-clause-alone : goal.returns-in-Ok-Kept-clause-alone
returns-in-Ok-Kept-clause-alone g c =
    let s = c.sync_kept.ensures in
    alone_then c.args.limit c.args.name.now c.in-Ok-Kept.take c.args.store.now c.args.journal.now c.recover_closed.new.store
    c.recover_closed.new.journal c.sync_kept.new.journal c.sync_kept.result s.made s.most s.kept (alone g c)

pub returns-in-Ok-Kept-clause-recovered : goal.returns-in-Ok-Kept-clause-recovered
returns-in-Ok-Kept-clause-recovered g c = λ one.
    let s = c.sync_kept.ensures in
    recovers_then c.args.limit c.args.name.now c.in-Ok-Kept.take c.args.store.now c.args.journal.now
    c.recover_closed.new.store c.recover_closed.new.journal c.sync_kept.new.journal c.sync_kept.result s.made s.most s.kept
    (alone g c) one
    (subst (λ (x : Recovered). RecoversFrom c.args.limit c.args.name.now (Ok x) c.args.store.now c.args.journal.now
    c.recover_closed.new.store c.recover_closed.new.journal) c.in-Ok-Kept.field-0-is (c.in-Ok-Kept.ensures.recovered one))

pub returns-in-Ok-Kept-clause-synced : goal.returns-in-Ok-Kept-clause-synced
returns-in-Ok-Kept-clause-synced g c = λ one.
    let s = c.sync_kept.ensures in
    synced_then c.args.limit c.args.name.now c.in-Ok-Kept.take c.args.store.now c.args.journal.now c.recover_closed.new.store
    c.recover_closed.new.journal c.sync_kept.new.journal c.sync_kept.result s.made s.most s.kept (alone g c) one
    (subst (λ (x : Recovered). RecoversFrom c.args.limit c.args.name.now (Ok x) c.args.store.now c.args.journal.now
    c.recover_closed.new.store c.recover_closed.new.journal) c.in-Ok-Kept.field-0-is (c.in-Ok-Kept.ensures.recovered one))
    s.synced
