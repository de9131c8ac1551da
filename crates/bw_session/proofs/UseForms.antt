-- What a turn asks of store and journal, what it may report of them, and what it keeps.
use Rattle.std.proofs.Common.{◌≡◌, ◌++◌, ◌∷◌, ℕ, Bool, true, false, cond, List, [], Option, Some}
use Rattle.std.proofs.Common.{refl, sym, ◌∙◌, ap, subst, arith}
use Rattle.std.specs.Prelude.{option_map}
use Rattle.std.specs.List.{All}
use Rattle.std.specs.Str.{bytes_eq}
use Rattle.std.proofs.lemmas.List.Elements.{All-push}
use Rattle.bw_model.specs.Take.{Parts, Verdict}
use Rattle.bw_model.specs.Holds.{Kept}
use Rattle.bw_model.specs.Replies.{Notice, Noticed, DelayedStore, Held}
use Rattle.bw_model.specs.CountedTurn.{is_delay, is_delayed}
use Rattle.bw_model.proofs.BookLemmas.{same_name}
use Rattle.bw_file.specs.GrowingFiles.{Growing}
use Rattle.bw_store.specs.declared.store.TakeStore.{Ghosts as StoreGhosts}
use Rattle.bw_journal.specs.declared.journal.Journal.{Ghosts as JournalGhosts}
use Rattle.bw_wire.specs.declared.reply.Reply.{Reply}
use Rattle.bw_wire.specs.Replies.{reply_of}
use Rattle.bw_session.specs.Drains.{kept_as}
use Rattle.bw_session.specs.Servers.{kept_by}
use Rattle.bw_session.specs.Sessions.{KeepsProgress}
use Rattle.bw_session.specs.ServedMessages.{UsesBoth}
use Rattle.bw_session.specs.ServedReplies.{IsTimely}
use Rattle.bw_session.specs.declared.session.Session.{Session}
use Rattle.bw_session.proofs.AdmitForms.{no_false}

pub all_none : (P : Reply → Type 0) (rs : List Reply) → rs ≡ [] → All P rs
all_none P rs e = subst (All P) (sym e) (λ i d h. absurd (omega (arith, h)))

-- what is reported where nothing failed may be reported anyway
pub timely_any : (failed : Bool) (rs : List Reply) → All (IsTimely false) rs → All (IsTimely failed) rs
timely_any failed rs all = λ i d h reported. no_false (all i d h reported)

-- a notice of something else
pub timely_notice : (failed : Bool) (r : Reply) (name : List ℕ) (number : ℕ) (n : Notice) (next : ℕ) →
    reply_of r ≡ Noticed name number n next → is_delay n ≡ false → IsTimely failed r
timely_notice failed r name number n next e other = λ reported.
    no_false (sym (ap is_delayed e ∙ other) ∙ reported)

-- why an admitted number waits
pub timely_waits : (failed : Bool) (r : Reply) (name : List ℕ) (number : ℕ) (n : Notice) (next : ℕ) →
    reply_of r ≡ Noticed name number n next → n ≡ cond failed DelayedStore Held → IsTimely failed r
timely_waits true r name number n next e is = λ reported. refl
timely_waits false r name number n next e is = λ reported.
    no_false (sym (ap is_delayed (e ∙ ap (λ (x : Notice). Noticed name number x next) is)) ∙ reported)

-- one more reply
pub timely_push : (failed : Bool) (rs rs' : List Reply) (r : Reply) → rs' ≡ rs ++ r ∷ [] → All (IsTimely failed) rs →
    IsTimely failed r → All (IsTimely failed) rs'
timely_push failed rs rs' r e all one = subst (All (IsTimely failed)) (sym e) (All-push (IsTimely failed) rs r all one)

-- if nothing was asked, and nothing reported yet
pub uses_none : {X Y : Type 0} (S : StoreGhosts X) (J : JournalGhosts Y) (name : List ℕ) (s s' : X) (j j' : Y)
    (done later : ℕ) (rs : List Reply) → s' ≡ s → j' ≡ j → later ≡ done → rs ≡ [] →
    UsesBoth S J name s s' j j' done later rs
uses_none {X} {Y} S J name s s' j j' done later rs store journal same none =
    subst (λ (x : X). UsesBoth S J name s x j j' done later rs) (sym store)
    (subst (λ (y : Y). UsesBoth S J name s s j y done later rs) (sym journal) (
      false,
      record {
        failures = record { quiet = λ q. refl; rises = λ r. no_false r; stays = λ l. refl };
        honest = refl;
        others = λ honest other apart. refl;
        honest_notes = refl;
        places = record { of_store = refl; of_journal = refl };
        headers = λ honest other. refl;
        committed = λ honest other. omega arith;
        other_notes = λ honest other apart. refl;
      },
      omega (arith, same),
      all_none (IsTimely false) rs none,
    ))

-- a session that only got more room keeps the same
pub same_kept : (s s' : Session) → KeepsProgress s.progress s'.progress → s'.window ≡ s.window → kept_by s' ≡ kept_by s
same_kept s s' k same =
    ap (λ (x : Growing). kept_as s'.progress.state.parts s'.progress.ledger.outcomes s'.window x) k.growing
    ∙ ap (λ (x : List (Option (List ℕ))). kept_as s'.progress.state.parts s'.progress.ledger.outcomes x
    s.progress.growing) same
    ∙ ap (λ (x : List (List ℕ × Verdict)). kept_as s'.progress.state.parts x s.window s.progress.growing) k.outcomes
    ∙ ap (λ (x : Parts). kept_as x s.progress.ledger.outcomes s.window s.progress.growing) k.parts

-- and so does its table
pub kept_put : (before after : List ℕ → Option Session) (k : List ℕ) (s s' : Session) → before k ≡ Some s →
    ((n : List ℕ) → after n ≡ cond (bytes_eq k n) (Some s') (before n)) → kept_by s' ≡ kept_by s →
    (n : List ℕ) → option_map kept_by (after n) ≡ option_map kept_by (before n)
kept_put before after k s s' here sets same n = go (bytes_eq k n) refl
  where
    go : (v : Bool) → bytes_eq k n ≡ v → option_map kept_by (after n) ≡ option_map kept_by (before n)
    go true e =
        ap (option_map kept_by) (sets n ∙ ap (λ (b : Bool). cond b (Some s') (before n)) e)
        ∙ ap (λ (x : Kept). Some x) same
        ∙ sym (ap (option_map kept_by) (ap before (sym (same_name k n e)) ∙ here))
    go false e = ap (option_map kept_by) (sets n ∙ ap (λ (b : Bool). cond b (Some s') (before n)) e)
