-- Numbers that are drained in a row, one by one.
use Rattle.std.proofs.Common.{◌≡◌, ◌≤◌, ℕ, zero, suc, ◌+◌, Bool, false, List, [], ◌∷◌, ◌++◌, length, map}
use Rattle.std.proofs.Common.{Option, None, refl, sym, ◌∙◌, ap, subst, arith}
use Rattle.std.specs.Prelude.{is_some}
use Rattle.std.proofs.lemmas.List.{length_push, map_push}
use Rattle.bw_model.specs.Bytes.{at}
use Rattle.bw_model.specs.Counts.{Counts}
use Rattle.bw_model.specs.Take.{Request}
use Rattle.bw_model.specs.Replies.{Reply as ModelReply, Judged}
use Rattle.bw_model.specs.Book.{Log, verdict_at}
use Rattle.bw_model.specs.Turn.{verdicts_from, window}
use Rattle.bw_model.specs.VerdictMeanings.{verdict_meaning}
use Rattle.bw_model.specs.declared.verdict.Verdict.{Verdict as Judgement}
use Rattle.bw_wire.specs.declared.reply.Reply.{Reply}
use Rattle.bw_wire.specs.declared.reply.Reply.TheVariants.{Verdict}
use Rattle.bw_wire.specs.Replies.{reply_of}
use Rattle.bw_store.specs.declared.store.TakeStore.{Ghosts as StoreGhosts}
use Rattle.bw_journal.specs.JournalHeaders.{Header}
use Rattle.bw_journal.specs.declared.journal.Journal.{Ghosts as JournalGhosts}
use Rattle.bw_session.specs.NextNumbers.{with_done, KeepsBoth, StaysInPlace}
use Rattle.bw_session.specs.NameNotes.{IsNoted}
use Rattle.bw_session.specs.Sessions.{Part, HoldsLog}
use Rattle.bw_session.specs.Runs.{with_more_done, HasDrained, EndsDraining}

-- Calls in a row.

count_then : (a b c : ℕ) (fails : Bool) → Counts a b false → Counts b c fails → Counts a c fails
count_then a b c fails quiet more = subst (λ (n : ℕ). Counts n c fails) (quiet.quiet refl) more

no_fewer_then : (a b c : ℕ) → a ≤ b → b ≤ c → a ≤ c
no_fewer_then a b c more most = omega (arith, more, most)

module _ {X Y : Type 0} (S : StoreGhosts X) (J : JournalGhosts Y) where
  -- where both are
  pub places_then : (s s' s'' : X) (j j' j'' : Y) → StaysInPlace S J s s' j j' →
      StaysInPlace S J s' s'' j' j'' → StaysInPlace S J s s'' j j''
  places_then s s' s'' j j' j'' a b = record {
    of_store = b.of_store ∙ a.of_store;
    of_journal = b.of_journal ∙ a.of_journal;
  }

  -- what both keep through one call more
  pub both_then : (fails : Bool) (name other : List ℕ) (s s' s'' : X) (j j' j'' : Y) → other ≡ name →
      KeepsBoth S J false name s s' j j' → KeepsBoth S J fails other s' s'' j' j'' → KeepsBoth S J fails name s s'' j j''
  both_then fails name other s s' s'' j j' j'' same a x =
      let b : KeepsBoth S J fails name s' s'' j' j'' =
      subst (λ (n : List ℕ). KeepsBoth S J fails n s' s'' j' j'') same x in
      record {
        failures = count_then _ _ _ fails a.failures b.failures;
        honest = b.honest ∙ a.honest;
        others = λ h n apart. b.others (a.honest ∙ h) n apart ∙ a.others h n apart;
        honest_notes = b.honest_notes ∙ a.honest_notes;
        places = places_then s s' s'' j j' j'' a.places b.places;
        headers = λ h n. b.headers (a.honest_notes ∙ h) n ∙ a.headers h n;
        committed = λ h n. no_fewer_then _ _ _ (a.committed h n) (b.committed (a.honest_notes ∙ h) n);
        other_notes = λ h n apart. b.other_notes (a.honest_notes ∙ h) n apart ∙ a.other_notes h n apart;
      }

-- what an honest store has of the name, said of the name that was there at the start
pub holds_under : (first : Option (List ℕ)) (log : Log) (p : Part) (contents : List ℕ → Option (List ℕ))
    (n name : List ℕ) → n ≡ name → HoldsLog first log p (contents n) → HoldsLog first log p (contents name)
holds_under first log p contents n name same h = subst (λ (x : List ℕ). HoldsLog first log p (contents x)) same h

-- what is noted of one more number, said of the name and the header that were there at the start
pub noted_then : (n name : List ℕ) (head : List ℕ → Header) (h : Header) (first : Option (List ℕ)) (log later : Log)
    (offset offset' : ℕ) (before after : List ℕ → Option (List ℕ)) → n ≡ name → head name ≡ h →
    ((head n).existed ≡ is_some first → IsNoted (head n) n log offset (before n) →
    IsNoted (head n) n later offset' (after n)) →
    h.existed ≡ is_some first → IsNoted h name log offset (before name) → IsNoted h name later offset' (after name)
noted_then n name head h first log later offset offset' before after same begun step =
    subst (λ (x : Header). x.existed ≡ is_some first → IsNoted x name log offset (before name) →
    IsNoted x name later offset' (after name)) begun
    (subst (λ (x : List ℕ). (head x).existed ≡ is_some first → IsNoted (head x) x log offset (before x) →
    IsNoted (head x) x later offset' (after x)) same step)

-- Verdicts.

-- one verdict more after the others
pub verdicts_push : (t : Bool) (s : List (Option Request)) (name : List ℕ) (n k : ℕ) →
    verdicts_from t s name n (suc k) ≡ verdicts_from t s name n k ++ Judged name (n + k) (verdict_at t s (n + k)) ∷ []
verdicts_push t s name n zero =
    let here : n + 0 ≡ n = omega arith in
    ap (λ (i : ℕ). Judged name i (verdict_at t s i) ∷ []) (sym here)
verdicts_push t s name n (suc k) =
    let here : suc n + k ≡ n + suc k = omega arith in
    ap (λ (rs : List ModelReply). Judged name n (verdict_at t s n) ∷ rs)
    (verdicts_push t s name (suc n) k
    ∙ ap (λ (i : ℕ). verdicts_from t s name (suc n) k ++ Judged name i (verdict_at t s i) ∷ []) here)

module _ (first : Option (List ℕ)) (log : Log) (replies : List Reply) where
  -- one number more
  pub drained_push : (name : List ℕ) (number : ℕ) (v : Judgement) (all : List Reply) (owner : List ℕ) (p : Part)
      (found : Option (List ℕ)) →
      all ≡ replies ++ Verdict name number v ∷ [] → p.growing.name ≡ owner →
      name ≡ owner → number ≡ log.done + length replies →
      verdict_meaning v ≡ verdict_at (is_some first) log.admitted (log.done + length replies) →
      map reply_of replies ≡ verdicts_from (is_some first) log.admitted owner log.done (length replies) →
      at log.admitted (log.done + window) ≡ None →
      HoldsLog first (with_done (with_more_done log (length replies))) p found →
      HasDrained first log all p found
  drained_push name number v all owner p found is same named numbered verdict reported none left =
      let more : length all ≡ suc (length replies) =
      (let pushed = ap length is ∙ length_push replies (Verdict name number v) in omega (arith, pushed)) in
      let next : suc (log.done + length replies) ≡ log.done + length all = omega (arith, more) in
      record {
        left = subst (λ (n : ℕ). HoldsLog first (record log { done = n }) p found) next left;
        reported =
            ap (map reply_of) is
            ∙ map_push reply_of replies (Verdict name number v)
            ∙ ap (λ (rs : List ModelReply). rs ++ Judged name number (verdict_meaning v) ∷ []) reported
            ∙ ap (λ (x : ModelReply). verdicts_from (is_some first) log.admitted owner log.done
            (length replies) ++ x ∷ [])
            (ap (λ (x : List ℕ). Judged x number (verdict_meaning v)) named
            ∙ ap (λ (x : ℕ). Judged owner x (verdict_meaning v)) numbered
            ∙ ap (Judged owner (log.done + length replies)) verdict)
            ∙ sym (verdicts_push (is_some first) log.admitted owner log.done (length replies))
            ∙ ap (verdicts_from (is_some first) log.admitted owner log.done) (sym more)
            ∙ ap (λ (x : List ℕ). verdicts_from (is_some first) log.admitted x log.done (length all)) (sym same);
        none_past = none;
      }

-- draining ends where no more is done
pub drained_end : (first : Option (List ℕ)) (log : Log) (stopped : Bool) (replies : List Reply) (p q : Part)
    (found found' : Option (List ℕ)) → HasDrained first log replies p found → q.growing.name ≡ p.growing.name →
    HoldsLog first (with_more_done log (length replies)) q found' →
    is_some (at log.admitted (log.done + length replies)) ≡ stopped → EndsDraining first log stopped replies q found'
drained_end first log stopped replies p q found found' was same left end = record {
  drained = record {
    left = left;
    reported = was.reported
        ∙ ap (λ (n : List ℕ). verdicts_from (is_some first) log.admitted n log.done (length replies)) (sym same);
    none_past = was.none_past;
  };
  end = end;
}
