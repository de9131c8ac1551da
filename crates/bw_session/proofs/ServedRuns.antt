-- A server's answers, one frame after another, as a run.
use Rattle.std.proofs.Common.{◌≡◌, List, [], ◌∷◌, refl, sym, ◌∙◌, subst, ℕ, ◌+◌, ◌≤◌, ◌<◌, Bool, true, false, ◌++◌}
use Rattle.std.proofs.Common.{ap, arith}
use Rattle.bw_store.specs.declared.store.TakeStore.{Ghosts as StoreGhosts}
use Rattle.std.specs.Prelude.{IsTrue, nat_lt, ◌||◌, is_some}
use Rattle.std.specs.List.{list_any}
use Rattle.std.proofs.lemmas.Bool.{ltb-true, ltb-false}
use Rattle.std.proofs.lemmas.List.Folds.{list_any-append}
use Rattle.bw_model.specs.Counts.{Counts, last_count}
use Rattle.bw_model.specs.Replies.{Reply}
use Rattle.bw_model.specs.CountedTurn.{is_delayed}
use Rattle.bw_journal.specs.declared.journal.Journal.{Ghosts as JournalGhosts}
use Rattle.bw_session.specs.Books.{failures_of}
use Rattle.bw_session.specs.NotedNames.{none_asleep}
use Rattle.bw_session.specs.declared.server.Server.{Server}
use Rattle.bw_exchange.specs.AnsweredFrames.{Answered, replies_of}
use Rattle.bw_session.specs.ServerTurns.{ServerTurn}
use Rattle.bw_session.proofs.ServerAnswers.{all_awake}
use Rattle.bw_session.specs.ServerRuns.{ServerRun, ServersAnswerInRuns, all_done}
use Rattle.bw_session.proofs.DoneCounts.{called_for, called_then}

-- a count rises by one at most
record Rises (before after : ℕ) (happens : Bool) : Type 0 where
  no_less : before ≤ after
  most : after ≤ before + 1
  some : IsTrue happens → before < last_count → before < after

rises : (before after : ℕ) (happens : Bool) → Counts before after happens → Rises before after happens
rises before after false c =
    let same = c.quiet refl in
    record { no_less = omega (arith, same); most = omega (arith, same); some = λ e. absurd cc }
rises before after true c = go (nat_lt before last_count) refl
  where
    go : (below : Bool) → nat_lt before last_count ≡ below → Rises before after true
    go true e =
        let more = c.rises refl (ltb-true before last_count e) in
        record {
          no_less = omega (arith, more);
          most = omega (arith, more);
          some = λ _ _. omega (arith, more);
        }
    go false e =
        let past = ltb-false before last_count e in
        let same = c.stays past in
        record {
          no_less = omega (arith, same);
          most = omega (arith, same);
          some = λ _ below. absurd (omega (arith, below, past));
        }

-- one of all replies reports a failed call: one of the first frame's, where a call failed, or one
-- of the others'
delays_first : (first rest : List Reply) (failed : Bool) (before mid after : ℕ) → Rises before mid failed →
    mid ≤ after → (list_any is_delayed first ≡ true → failed ≡ true) →
    (mid < last_count → list_any is_delayed rest ≡ true → mid < after) → before < last_count →
    list_any is_delayed (first ++ rest) ≡ true → before < after
delays_first first rest failed before mid after one more here there below reported =
    go (list_any is_delayed first) refl
  where
    by_order : (b : Bool) → nat_lt mid last_count ≡ b → list_any is_delayed rest ≡ true → before ≤ mid → before < after
    by_order true e later up =
        let rose = there (ltb-true mid last_count e) later in omega (arith, rose, up)
    by_order false e later up =
        let past = ltb-false mid last_count e in omega (arith, past, below, more)

    go : (b : Bool) → list_any is_delayed first ≡ b → before < after
    go true e = let rose = one.some (here e) below in omega (arith, rose, more)
    go false e =
        let later = sym (list_any-append is_delayed first rest
        ∙ ap (λ (b : Bool). b || list_any is_delayed rest) e) ∙ reported in
        let up = one.no_less in
        by_order (nat_lt mid last_count) refl later up

module _ {X Y : Type 0} (S : StoreGhosts X) (J : JournalGhosts Y) where
  runs_none : (old new : Server X Y S J) → new ≡ old → ServerRun S J old [] new
  runs_none old new e = subst (ServerRun S J old []) (sym e) (record {
    limit = refl;
    honest = refl;
    honest_notes = refl;
    few = tt;
    no_less = omega arith;
    most = omega arith;
    delays = λ below reported. absurd cc;
    runs = λ honest first book h. record {
      later = book;
      went = (refl, refl);
      held = h;
      calls = λ below. omega arith;
      noted = λ honest_notes notes. notes;
    };
  })

  runs_more : (old mid new : Server X Y S J) (a : Answered) (rest : List Answered) →
      ServerTurn S J old a.frame a.replies mid → ServerRun S J mid rest new → ServerRun S J old (a ∷ rest) new
  runs_more old mid new a rest t more =
      let one = rises (failures_of S J old) (failures_of S J mid) t.failed t.counted in
      let up = one.no_less in
      let most = one.most in
      let others = more.no_less in
      let most_others = more.most in record {
        limit = more.limit ∙ t.limit;
        honest = more.honest ∙ t.honest;
        honest_notes = more.honest_notes ∙ t.honest_notes;
        few = (t.few, more.few);
        no_less = omega (arith, up, others);
        most = omega (arith, most, most_others);
        delays = delays_first a.replies (replies_of rest) t.failed _ _ _ one more.no_less t.delays more.delays;
        runs = λ honest first book h.
            let now = t.turned honest first book h in
            let others = more.runs (t.honest ∙ honest) first now.later now.held in
            record {
              later = others.later;
              went = (failures_of S J mid, now.later, now.turned, others.went);
              held = others.held;
              calls = called_then (S.calls old.stores.store) (S.calls mid.stores.store) (S.calls new.stores.store)
                  (all_done book) (all_done now.later) (all_done others.later) (failures_of S J old) (failures_of S J mid)
                  (failures_of S J new) t.failed
                  (called_for S J first (λ n. is_some (first n)) old mid book now.later a.frame a.replies t.failed t.asks h
                  now.held now.turned) t.counted up more.no_less others.calls;
              noted = λ honest_notes notes.
                  others.noted (t.honest_notes ∙ honest_notes) (now.noted honest_notes none_asleep (all_awake a.frame) notes);
            };
      }

  pub servers_run : ServersAnswerInRuns S J
  servers_run old new [] e = runs_none old new e
  servers_run old new (a ∷ rest) e = runs_more old e.0 new a rest e.1 (servers_run e.0 new rest e.2)
