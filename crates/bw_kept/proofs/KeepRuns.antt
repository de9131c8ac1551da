-- Frames one after another, over a folder of whose names only some are in a table.
use Rattle.std.proofs.Common.{◌≡◌, ℕ, List, [], ◌∷◌, refl, sym, ◌∙◌, ap, subst, inl, inr}
use Rattle.bw_model.specs.Replies.{Reply}
use Rattle.bw_model.specs.Wire.{Frame}
use Rattle.bw_store.specs.declared.store.TakeStore.{Ghosts as StoreGhosts}
use Rattle.bw_journal.specs.declared.journal.Journal.{Ghosts as JournalGhosts}
use Rattle.bw_session.specs.Books.{failures_of}
use Rattle.bw_session.specs.declared.server.Server.{Server}
use Rattle.bw_kept.specs.KeptFolders.{HoldsKept}
use Rattle.bw_kept.specs.KeptTurns.{KeptTurn, FolderTurn}
use Rattle.bw_kept.specs.Runs.{KeepsOn, RunsKeepOn}

module _ {X Y : Type 0} (S : StoreGhosts X) (J : JournalGhosts Y)
    (Fails : List ℕ → Server X Y S J → Server X Y S J → Type 0) (Differs : List ℕ → Server X Y S J → Type 0) where
  -- a turn leaves store and journal as honest as they were
  pub honest_then : (old new : Server X Y S J) (f : Frame) (replies : List Reply) →
      KeptTurn S J Fails Differs old f replies new →
      (S.honest new.stores.store ≡ S.honest old.stores.store)
      × (J.honest new.stores.journal ≡ J.honest old.stores.journal)
  honest_then old new f replies t = elim (t.answered) [
    | inl served ↦ (
      t.closed.honest ∙ served.honest ∙ t.prepared.honest,
      t.closed.honest_notes ∙ served.honest_notes ∙ t.prepared.honest_notes,
    )
    | inr off ↦ (
      t.closed.honest ∙ ap (λ (s : Server X Y S J). S.honest s.stores.store) off.1 ∙ t.prepared.honest,
      t.closed.honest_notes ∙ ap (λ (s : Server X Y S J). J.honest s.stores.journal) off.1 ∙ t.prepared.honest_notes,
    )
  ]

  pub runs_keep_on : RunsKeepOn S J Fails Differs
  runs_keep_on old new [] same honest honest_notes first book h = record {
    later = book;
    held = subst (λ (s : Server X Y S J). HoldsKept S J first s book) (sym same) h;
    turned = (ap (failures_of S J) same, refl);
  }
  runs_keep_on old new (a ∷ rest) (mid, t, more) honest honest_notes first book h =
      let turn : FolderTurn S J Fails Differs first old mid book a.frame a.replies = t.turned honest honest_notes first book h in
      let kept = honest_then old mid a.frame a.replies t in
      let on : KeepsOn S J first mid new turn.later rest =
      runs_keep_on mid new rest more (kept.0 ∙ honest) (kept.1 ∙ honest_notes) first turn.later turn.held in
      record {
        later = on.later;
        held = on.held;
        turned = (
          failures_of S J mid,
          turn.later,
          elim (turn.turned) [
            | inl served ↦ inl (turn.full, served)
            | inr off ↦ inr (off.answered, off.left)
          ],
          on.turned,
        );
      }
