-- What a request that is to be stored does to the file, by its kind.
use Rattle.std.proofs.Common.{◌≡◌, ℕ, Bool, true, false, cond, List, Option, Some, None, Result, Ok, Err, refl, sym}
use Rattle.std.proofs.Common.{◌∙◌, ap, subst}
use Rattle.std.specs.Prelude.{IsFalse, IsSome, is_some, IfOk, OnErr, ◌==◌}
use Rattle.std.specs.Bool.{MatchBool}
use Rattle.std.proofs.lemmas.Bool.{eqb-true}
use Rattle.bw_model.specs.Take.{Take, Parts, Format, Request, Open, Mark, Close, Stored, Closed}
use Rattle.bw_model.specs.Take.{WrongTotal, parts, judge, judge_open, frames, verdict, is_stored, with_request}
use Rattle.bw_model.specs.File.{file_of}
use Rattle.bw_model.specs.Holds.{IsBetween, IsInTheMiddle}
use Rattle.bw_take.proofs.StoredLemmas.{opened_once}
use Rattle.bw_file.specs.GrowingFiles.{Growing, IsReady, BeginsFile, AsksForName, is_new}
use Rattle.bw_store.specs.declared.store.Created.{Created}
use Rattle.bw_store.specs.declared.store.Created.TheVariants.{New, Exists}
use Rattle.bw_store.specs.declared.store.StoreFault.{StoreFault}
use Rattle.bw_file.proofs.Judged.{IsOpen, open_for}
use Rattle.bw_session.specs.RequestWrites.{WritesRequest}
use Rattle.bw_session.proofs.OwnFiles.{ready, whole_after, own_after, begun, opened_new, never_existed, opened_err}
use Rattle.bw_session.proofs.OwnFiles.{left_alone}
use Rattle.bw_file.proofs.MarkedFiles.{marked_file}

not_none : {A : Type 0} (p : Parts) → IsOpen p → p.format ≡ None → A
not_none p o none = no (sym o.has_format ∙ none)
  where
    no : {A : Type 0} {f : Format} → Some f ≡ None → A
    no e = cc

still_stored : (t : Take) (p : Parts) (r : Request) → parts t ≡ p → judge p r ≡ Stored → is_stored (verdict t r) ≡ true
still_stored t p r e stored = ap is_stored (ap (λ (q : Parts). judge q r) e ∙ stored)

-- a request on an open take that keeps the format
module _ (p : Parts) (r : Request) (g g' : Growing) (before after : Option (List ℕ)) (o : IsOpen p) where
  has_format : (t : Take) → parts t ≡ p → t.format ≡ Some o.format
  has_format t e = ap (λ (q : Parts). q.format) e ∙ o.has_format

  pub writes_ok : ((t : Take) → (with_request t r).format ≡ t.format) → g' ≡ record g { dirty = false; ahead = false } →
      ((t : Take) → parts t ≡ p → IsReady g t r before → after ≡ file_of (with_request t r) g.limit) →
      WritesRequest (Ok New) r p g g' before after
  writes_ok keeps known file = record {
    own = λ t e h. (
      refl,
      whole_after t o.format r g g' before after (has_format t e)
          (ap is_some (keeps t ∙ has_format t e)) known h (file t e (ready t r g before h)),
    );
    existed = λ none unmade s. not_none p o none;
  }

  pub writes_err : (fault : StoreFault) → judge p r ≡ Stored → g' ≡ record g { dirty = true; ahead = false } →
      ((t : Take) → parts t ≡ p → IsReady g t r before → IsBetween t g.limit r after) →
      WritesRequest (Err fault) r p g g' before after
  writes_err fault stored known file = record {
    own = λ t e h. own_after t o.format r g g' before after (has_format t e) (still_stored t p r e stored) known h
        (file t e (ready t r g before h));
    existed = λ none unmade s. not_none p o none;
  }

not_so : (b : Bool) → (b ≡ true → true ≡ false) → b ≡ false
not_so true h = h refl
not_so false h = refl

-- a marker
pub writes_mark : (p : Parts) (id frame : ℕ) (g : Growing) (found : Option (List ℕ)) →
    judge p (Mark id frame) ≡ Stored →
    g.dirty ≡ false → WritesRequest (Ok New) (Mark id frame) p g g found found
writes_mark p id frame g found stored clean =
    let o = open_for p (Mark id frame) refl stored in
    record {
      own = λ t e h. (
        refl,
        record {
          whole = subst (λ (d : Bool). MatchBool d (IsInTheMiddle t g.limit (Some (Mark id frame)) found)
              (found ≡ file_of t g.limit)) clean h.whole
              ∙ sym (marked_file t g.limit id frame (ap (λ (q : Parts). q.closed) e ∙ o.not_closed));
          made_here = h.made_here;
          level = not_so g.ahead (λ a. sym (h.ahead a).0 ∙ clean);
        },
      );
      existed = λ none unmade s. not_none p o none;
    }

-- opening
pub writes_open : (answer : Result Created StoreFault) (p : Parts) (f : Format) (history : List ℕ) (g g' : Growing)
    (before after : Option (List ℕ)) → judge p (Open f history) ≡ Stored →
    IfOk answer (λ c. g' ≡ record g { made = is_new c; dirty = false; ahead = false }) →
    OnErr answer (g' ≡ record g { made = g'.made; dirty = true; ahead = false }) →
    AsksForName g.made g'.made before after → IfOk answer (λ c. IsFalse (is_new c) → IsSome before) →
    ((t : Take) → parts t ≡ p → BeginsFile answer g g'.made t (Open f history) before after) →
    WritesRequest answer (Open f history) p g g' before after
writes_open (Ok New) p f history g g' before after stored known err name existed file =
    let made : g'.made ≡ true = ap (λ (x : Growing). x.made) known in
    record {
      own = λ t e h.
          let unopened : t.format ≡ None = ap (λ (q : Parts). q.format) e ∙ opened_once p f history stored in (
            refl,
            opened_new t f history g g' before after unopened h name known
                (file t e (begun t f history g before unopened h) made),
          );
      existed = λ none unmade s. absurd (no (sym made ∙ (left_alone g g' before after name unmade s).1));
    }
  where
    no : true ≡ false → ⊥
    no e = cc
writes_open (Ok Exists) p f history g g' before after stored known err name existed file =
    let unmade : g'.made ≡ false = ap (λ (x : Growing). x.made) known in
    record {
      own = λ t e h.
          let unopened : t.format ≡ None = ap (λ (q : Parts). q.format) e ∙ opened_once p f history stored in
          absurd (never_existed t f history g g' before after unopened h name unmade (existed refl));
      existed = λ none was s. let a = left_alone g g' before after name was s in (a.0, a.1, refl);
    }
writes_open (Err fault) p f history g g' before after stored known err name existed file = record {
  own = λ t e h.
      let unopened : t.format ≡ None = ap (λ (q : Parts). q.format) e ∙ opened_once p f history stored in
      opened_err t f history g g' before after unopened h name (still_stored t p (Open f history) e stored) err
      (λ made. file t e (begun t f history g before unopened h) made);
  existed = λ none was s. let a = left_alone g g' before after name was s in (a.0, a.1, tt);
}

-- a take that is closed has as many frames as was said
pub total_is : (p : Parts) (total : ℕ) → judge p (Close total) ≡ Stored → total ≡ frames p
unfolding judge
total_is p total stored = go p.closed p.format stored
  where
    test : (v : Bool) → (total == frames p) ≡ v → cond v Stored WrongTotal ≡ Stored → total ≡ frames p
    test true e s = eqb-true total (frames p) e
    test false e s = cc

    go : (closed : Bool) (format : Option Format) → cond closed Closed (judge_open p format (Close total)) ≡ Stored →
        total ≡ frames p
    go true format s = cc
    go false None s = cc
    go false (Some f) s = test (total == frames p) refl s
