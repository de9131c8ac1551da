-- What is held of a name whose next request was judged and carried out.
use Rattle.std.proofs.Common.{◌≡◌, ℕ, Bool, true, false, cond, not, ◌&&◌, List, [], ◌∷◌, Option, Some, None, Result, Ok}
use Rattle.std.proofs.Common.{Err, refl, sym, ◌∙◌, ap, subst}
use Rattle.std.specs.Prelude.{IsTrue, is_some, fold, take, IfOk, OnErr}
use Rattle.std.specs.List.{list_all}
use Rattle.bw_model.specs.Take.{Take, Parts, Request, Open, Block, Mark, SetField, Close, Verdict, BadFormat}
use Rattle.bw_model.specs.Take.{NameTaken, new_take, parts, judge, is_format, is_history_byte, is_stored, verdict}
use Rattle.bw_model.specs.Take.{with_request, after}
use Rattle.bw_model.specs.Book.{Log, made, step}
use Rattle.bw_model.specs.VerdictMeanings.{verdict_meaning}
use Rattle.bw_model.specs.declared.verdict.Verdict.{Verdict as Judgement}
use Rattle.bw_file.specs.GrowingFiles.{Growing}
use Rattle.bw_store.specs.declared.store.StoreFault.{StoreFault}
use Rattle.bw_session.specs.Executions.{Carries}
use Rattle.bw_session.specs.DoneNumbers.{KeepsDone}
use Rattle.bw_session.specs.Prefixes.{HoldsPrefix, CarriesPrefix}
use Rattle.bw_session.proofs.LogSteps.{taken-after}

no_false : {A : Type 0} → false ≡ true → A
no_false e = cc

-- The take of a name that existed stays as it began.

never_opened : (ok : Bool) → is_stored (cond (not ok) BadFormat NameTaken) ≡ false
never_opened true = refl
never_opened false = refl

pub refused : (r : Request) → is_stored (verdict (new_take true) r) ≡ false
unfolding judge
refused (Open f history) = never_opened (is_format f && list_all is_history_byte history)
refused (Block bytes) = refl
refused (Mark id frame) = refl
refused (SetField tag value) = refl
refused (Close total) = refl

stays_new : (r : Request) → after (new_take true) r ≡ new_take true
stays_new r = ap (λ (v : Bool). cond v (with_request (new_take true) r) (new_take true)) (refused r)

fold_new : (xs : List (Option Request)) → fold step (new_take true) xs ≡ new_take true
fold_new [] = refl
fold_new (None ∷ xs) = fold_new xs
fold_new (Some r ∷ xs) = ap (λ (t : Take). fold step t xs) (stays_new r) ∙ fold_new xs

pub existed_is_new : (s : List (Option Request)) (n : ℕ) → made true s n ≡ new_take true
unfolding made
existed_is_new s n = fold_new (take n s)

fold-taken : (t : Take) (xs : List (Option Request)) → (fold step t xs).taken ≡ t.taken
fold-taken t [] = refl
fold-taken t (None ∷ xs) = fold-taken t xs
fold-taken t (Some r ∷ xs) = fold-taken (after t r) xs ∙ taken-after t r

made-taken : (existed : Bool) (s : List (Option Request)) (n : ℕ) → (made existed s n).taken ≡ existed
unfolding made
made-taken existed s n = fold-taken (new_take existed) (take n s)

-- that the name existed is known by now
keeps_taken : (name : List ℕ) (log : Log) (p q : Parts) (finished : List (List ℕ × Verdict)) →
    KeepsDone true name log p finished → q ≡ record p { taken = q.taken } → (IsTrue p.taken → IsTrue q.taken) →
    KeepsDone true name log q finished
keeps_taken name log p q finished k e more = record {
  done = k.done;
  finished_are = k.finished_are;
  state_is = e ∙ ap (λ (x : Parts). record x { taken = q.taken }) k.state_is;
  taken = λ h. refl;
  reported = λ n below is. more (k.reported n below is);
}

-- the state of a name that did not exist
pub own_parts : (name : List ℕ) (log : Log) (p : Parts) (finished : List (List ℕ × Verdict)) →
    KeepsDone false name log p finished → parts (made false log.admitted log.done) ≡ p
own_parts name log p finished k =
    ap (λ (b : Bool). record (parts (made false log.admitted log.done)) { taken = b })
    (made-taken false log.admitted log.done ∙ sym (untaken p.taken refl)) ∙ sym k.state_is
  where
    untaken : (b : Bool) → p.taken ≡ b → p.taken ≡ false
    untaken true e = no_false (k.taken e)
    untaken false e = e

-- the state of a name that existed, once that is known
existed_parts : (name : List ℕ) (log : Log) (p : Parts) (finished : List (List ℕ × Verdict)) →
    KeepsDone true name log p finished → record p { taken = true } ≡ parts (made true log.admitted log.done)
existed_parts name log p finished k =
    ap (λ (x : Parts). record x { taken = true }) k.state_is
    ∙ ap (λ (b : Bool). record (parts (made true log.admitted log.done)) { taken = b })
    (sym (made-taken true log.admitted log.done))

unopened : (name : List ℕ) (log : Log) (p : Parts) (finished : List (List ℕ × Verdict)) →
    KeepsDone true name log p finished → p.format ≡ None
unopened name log p finished k =
    ap (λ (x : Parts). x.format) k.state_is ∙ ap (λ (t : Take). t.format) (existed_is_new log.admitted log.done)

-- by whether the name existed, and what was answered
pub carries_prefix : (answer : Result Judgement StoreFault) (first : Option (List ℕ)) (log : Log) (p q : Parts)
    (finished : List (List ℕ × Verdict)) (r : Request) (g g' : Growing) (before found : Option (List ℕ)) →
    Carries answer r p q g g' before found → q ≡ record p { taken = q.taken } → (IsTrue p.taken → IsTrue q.taken) →
    g'.name ≡ g.name → g'.ahead ≡ false → IfOk answer (λ v. verdict_meaning v ≡ judge q r) → OnErr answer (q ≡ p) →
    HoldsPrefix first log p finished r g before → CarriesPrefix answer first log q finished r g' found
carries_prefix (Ok v) None log p q finished r g g' before found c e more name level judged unchanged h =
    let t : Take = made false log.admitted log.done in
    let mine : parts t ≡ p = own_parts g.name log p finished h.memory in
    let done = c.own t mine h.file in
    record {
      verdict_is = judged ∙ ap (λ (x : Parts). judge x r) (done.0 ∙ sym mine);
      memory = subst (λ (x : List ℕ). KeepsDone false x log q finished) (sym name)
          (subst (λ (x : Parts). KeepsDone false g.name log x finished) (sym done.0) h.memory);
      file = done.1;
    }
carries_prefix (Err fault) None log p q finished r g g' before found c e more name level judged unchanged h =
    let mine : parts (made false log.admitted log.done) ≡ p = own_parts g.name log p finished h.memory in
    record {
      memory = subst (λ (x : List ℕ). KeepsDone false x log q finished) (sym name)
          (subst (λ (x : Parts). KeepsDone false g.name log x finished) (sym unchanged) h.memory);
      file = c.own (made false log.admitted log.done) mine h.file;
    }
carries_prefix (Ok v) (Some bytes) log p q finished r g g' before found c e more name level judged unchanged h =
    let left = c.existed (unopened g.name log p finished h.memory) h.file.1 h.file.2 (ap is_some h.file.0) in
    record {
      verdict_is = left.2 ∙ ap (λ (x : Parts). judge x r) (existed_parts g.name log p finished h.memory);
      memory = subst (λ (x : List ℕ). KeepsDone true x log q finished) (sym name)
          (keeps_taken g.name log p q finished h.memory e more);
      file = (left.0 ∙ h.file.0, left.1, level);
    }
carries_prefix (Err fault) (Some bytes) log p q finished r g g' before found c e more name level judged unchanged h =
    let left = c.existed (unopened g.name log p finished h.memory) h.file.1 h.file.2 (ap is_some h.file.0) in
    record {
      memory = subst (λ (x : List ℕ). KeepsDone true x log q finished) (sym name)
          (keeps_taken g.name log p q finished h.memory e more);
      file = (left.0 ∙ h.file.0, left.1, level);
    }
