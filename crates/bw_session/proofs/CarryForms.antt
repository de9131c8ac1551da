-- What judging a request and carrying it out leaves, by its result.
use Rattle.std.proofs.Common.{◌≡◌, Bool, true, false, cond, not, ◌&&◌, List, ℕ, Option, Some, None, Ok, Err, refl, sym}
use Rattle.std.proofs.Common.{◌∙◌, ap, subst}
use Rattle.std.specs.Prelude.{IsTrue}
use Rattle.std.specs.List.{list_all}
use Rattle.std.specs.Bool.{MatchBool}
use Rattle.bw_model.specs.Take.{Take, Parts, Format, Request, Open, Block, Mark, SetField, Close, Stored, Closed}
use Rattle.bw_model.specs.Take.{BadFormat, NameTaken, parts, judge, judge_open, is_format, is_history_byte}
use Rattle.bw_model.specs.Take.{is_stored, with_request, after}
use Rattle.bw_model.specs.File.{file_of}
use Rattle.bw_model.specs.Holds.{IsInTheMiddle}
use Rattle.bw_model.specs.VerdictMeanings.{verdict_meaning}
use Rattle.bw_model.specs.declared.verdict.Verdict.{Verdict}
use Rattle.bw_file.specs.GrowingFiles.{Growing}
use Rattle.bw_store.specs.declared.store.Created.TheVariants.{New, Exists}
use Rattle.bw_store.specs.declared.store.StoreFault.{StoreFault}
use Rattle.bw_session.specs.RequestWrites.{WritesRequest, HasWholeFile}
use Rattle.bw_session.specs.Executions.{Touches, Carries}

no_false : {A : Type 0} → false ≡ true → A
no_false e = cc

opens : (ok taken : Bool) → is_stored (cond (not ok) BadFormat (cond taken NameTaken Stored)) ≡ false →
    cond (not ok) BadFormat (cond taken NameTaken Stored) ≡ cond (not ok) BadFormat NameTaken
opens false taken s = refl
opens true true s = refl
opens true false s = no_false (sym s)

same_judged : (p : Parts) (closed : Bool) (r : Request) → is_stored (cond closed Closed (judge_open p None r)) ≡ false →
    cond closed Closed (judge_open p None r) ≡ cond closed Closed (judge_open (record p { taken = true }) None r)
same_judged p true r s = refl
same_judged p false (Open f history) s = opens (is_format f && list_all is_history_byte history) p.taken s
same_judged p false (Block bytes) s = refl
same_judged p false (Mark id frame) s = refl
same_judged p false (SetField tag value) s = refl
same_judged p false (Close total) s = refl

-- Of an unopened take, a request that is refused is refused so too if the name is known to exist.
pub taken_same : (p : Parts) (r : Request) → p.format ≡ None → is_stored (judge p r) ≡ false →
    judge p r ≡ judge (record p { taken = true }) r
unfolding judge
taken_same p r none s =
    subst (λ (o : Option Format). is_stored (cond p.closed Closed (judge_open p o r)) ≡ false →
    cond p.closed Closed (judge_open p o r) ≡ cond p.closed Closed (judge_open (record p { taken = true }) o r))
    (sym none) (same_judged p p.closed r) s

-- a request that is refused leaves the take, and one that is stored gives the take with it
pub after_refused : (t : Take) (p : Parts) (r : Request) → parts t ≡ p → is_stored (judge p r) ≡ false → t ≡ after t r
after_refused t p r e s =
    sym (ap (λ (v : Bool). cond v (with_request t r) t) (ap (λ (q : Parts). is_stored (judge q r)) e ∙ s))

pub after_stored : (t : Take) (p : Parts) (r : Request) → parts t ≡ p → is_stored (judge p r) ≡ true →
    with_request t r ≡ after t r
after_stored t p r e s =
    sym (ap (λ (v : Bool). cond v (with_request t r) t) (ap (λ (q : Parts). is_stored (judge q r)) e ∙ s))

unmarked : (d : Bool) (p : Parts) (r : Request) → is_stored (judge p r) ≡ false → (IsTrue d → Touches p r) → d ≡ false
unmarked true p r s h = no_false (sym s ∙ ap is_stored (h refl).stored)
unmarked false p r s h = refl

pub carries_refused : (v : Verdict) (p : Parts) (r : Request) (g : Growing) (found : Option (List ℕ)) →
    verdict_meaning v ≡ judge p r → is_stored (verdict_meaning v) ≡ false → (IsTrue g.dirty → Touches p r) →
    g.ahead ≡ false → Carries (Ok v) r p p g g found found
carries_refused v p r g found e s touched level =
    let refused : is_stored (judge p r) ≡ false = ap is_stored (sym e) ∙ s in
    record {
      own = λ t same h. (
        refl,
        subst (λ (u : Take). HasWholeFile u g found) (after_refused t p r same refused) (record {
          whole = subst (λ (d : Bool). MatchBool d (IsInTheMiddle t g.limit (Some r) found) (found ≡ file_of t g.limit))
              (unmarked g.dirty p r refused touched) h.whole;
          made_here = h.made_here;
          level = level;
        }),
      );
      existed = λ none unmade unahead existed. (refl, unmade, e ∙ taken_same p r none refused);
    }

-- the file has the request already
pub carries_ahead : (v : Verdict) (p : Parts) (r : Request) (g g' : Growing) (found : Option (List ℕ)) →
    g.ahead ≡ true → g' ≡ record g { dirty = false; ahead = false } → Carries (Ok v) r p p g g' found found
carries_ahead v p r g g' found has known = record {
  own = λ t same h. (
    refl,
    subst (λ (x : Growing). HasWholeFile (after t r) x found) (sym known)
        (record { whole = (h.ahead has).1; made_here = h.made_here; level = refl }),
  );
  existed = λ none unmade unahead existed. no_false (sym unahead ∙ has);
}

pub carries_new : (v : Verdict) (p : Parts) (r : Request) (g g' : Growing) (before found : Option (List ℕ)) →
    verdict_meaning v ≡ judge p r → is_stored (verdict_meaning v) ≡ true →
    WritesRequest (Ok New) r p g g' before found →
    Carries (Ok v) r p p g g' before found
carries_new v p r g g' before found e s w =
    let stored : is_stored (judge p r) ≡ true = ap is_stored (sym e) ∙ s in
    record {
      own = λ t same h. (
        refl,
        subst (λ (u : Take). HasWholeFile u g' found) (after_stored t p r same stored) (w.own t same h).1,
      );
      existed = λ none unmade unahead existed. no_false (sym (w.existed none unmade existed).2);
    }

pub carries_exists : (v : Verdict) (p q : Parts) (r : Request) (g g' : Growing) (before found : Option (List ℕ)) →
    q ≡ record p { taken = true } → verdict_meaning v ≡ judge q r → WritesRequest (Ok Exists) r p g g' before found →
    Carries (Ok v) r p q g g' before found
carries_exists v p q r g g' before found taken e w = record {
  own = λ t same h. no_false (w.own t same h).0;
  existed = λ none unmade unahead existed.
      let left = w.existed none unmade existed in (left.0, left.1, e ∙ ap (λ (x : Parts). judge x r) taken);
}

pub carries_err : (fault fault' : StoreFault) (p : Parts) (r : Request) (g g' : Growing)
    (before found : Option (List ℕ)) →
    WritesRequest (Err fault) r p g g' before found → Carries (Err fault') r p p g g' before found
carries_err fault fault' p r g g' before found w = record {
  own = λ t same h. w.own t same h;
  existed = λ none unmade unahead existed. let left = w.existed none unmade existed in (left.0, left.1, tt);
}
