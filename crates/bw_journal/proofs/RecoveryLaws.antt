-- A server that resumes holds what the stop left.
use Rattle.std.proofs.Common.{◌≡◌, ℕ, zero, suc, ◌+◌, ◌≤◌, Bool, true, false, cond, not, ◌&&◌, ◌⊎◌, inl, inr, IsTrue}
use Rattle.std.proofs.Common.{List, [], ◌∷◌, length, take, Option, Some, None, IsSome, is_some, option_map, refl, sym}
use Rattle.std.proofs.Common.{◌∙◌, ap, subst, arith}
use Rattle.std.specs.Prelude.{nat_lt}
use Rattle.std.specs.Bool.{MatchBool}
use Rattle.std.specs.List.{list_all}
use Rattle.std.proofs.lemmas.Bool.{and_parts, ltb-false}
use Rattle.std.proofs.lemmas.List.{take-take}
use Rattle.sha2.specs.Sha256.{sha256}
use Rattle.bw_model.specs.Bytes.{at}
use Rattle.bw_model.specs.Take.{Take, Request, Verdict, Closed, judge, judge_open, parts, is_stored}
use Rattle.bw_model.specs.Wire.{is_request}
use Rattle.bw_model.specs.File.{file_of}
use Rattle.bw_model.specs.Book.{Log, log_of, is_known, made, verdict_at}
use Rattle.bw_model.specs.Holds.{Kept, body_of, finished_from, HasFile, HoldsName}
use Rattle.bw_journal.specs.NotedJournals.{AdmitsDone, fits}
use Rattle.bw_journal.specs.Stops.{cut_log, cut_book}
use Rattle.bw_journal.specs.Recovery.{IsOnTheWay, HeldFilesSurvive, kept_after_stop, kept_after, RecoveryHolds}
use Rattle.bw_journal.specs.Recovery.{ClosedFilesAreWhole}
use Rattle.bw_model.proofs.BookLemmas.{unknown_log}
use Rattle.bw_journal.proofs.CutLaws.{made-cut, verdict-cut, books_are_cut, cut_books_are_books}
use Rattle.bw_journal.proofs.Taken.{taken-made, taken_reported}

false_true : false ≡ true → ⊥
false_true h = cc

-- whether a name is known, as a choice
known_or_not : (v : Bool) → (v ≡ true) ⊎ (v ≡ false)
known_or_not true = inl refl
known_or_not false = inr refl

middle : (dirty : Bool) (A B : Type 0) → MatchBool dirty A B → B ⊎ A
middle true A B h = inr h
middle false A B h = inl h

some_kept : {X : Type 0} (o : Option X) → is_some o ≡ true → (x : X) × (o ≡ Some x)
some_kept None e = absurd cc
some_kept (Some x) e = (x, refl)

pub held_files_survive : HeldFilesSurvive
unfolding made
held_files_survive limit store kept_of book holds honest name none = go (known_or_not (is_known book name))
  where
    go : (is_known book name ≡ true) ⊎ (is_known book name ≡ false) →
        IsOnTheWay (made false (log_of book name).admitted (log_of book name).done) limit
        (at (log_of book name).admitted (log_of book name).done) (store.contents name)
    go (inl known) =
        let kept = some_kept (kept_of name) (sym (holds.names name) ∙ known) in
        middle kept.0.dirty _ _ (holds.files honest name kept.0 kept.1 none).whole
    go (inr unknown) =
        inl (
        holds.others honest name (inr unknown) ∙ none
        ∙ sym (ap (λ (l : Log). file_of (made false l.admitted l.done) limit) (unknown_log book name unknown))
        )

-- as many outcomes as requests
pub finished-length : (existed : Bool) (s : List (Option Request)) (name : List ℕ) (n : ℕ) (rest : List (Option Request)) →
    list_all fits rest ≡ true
    → length (finished_from existed s name n rest) ≡ length rest
finished-length existed s name n [] h = refl
finished-length existed s name n (None ∷ rest) h = absurd cc
finished-length existed s name n (Some r ∷ rest) h =
    ap suc (finished-length existed s name (suc n) rest (and_parts (is_request r) (list_all fits rest) h).1)

-- outcomes of the done numbers are those of the log that is cut
finished-cut : (existed : Bool) (s : List (Option Request)) (name : List ℕ) (d n : ℕ) (rest : List (Option Request)) →
    n + length rest ≤ d
    → finished_from existed s name n rest ≡ finished_from existed (take d s) name n rest
finished-cut existed s name d n [] h = refl
finished-cut existed s name d n (None ∷ rest) h = refl
finished-cut existed s name d n (Some r ∷ rest) h =
    ap (λ (v : Verdict). (sha256 (body_of name n r), v) ∷ finished_from existed s name (suc n) rest)
    (sym (verdict-cut existed s d n (omega arith)))
    ∙ ap (λ (rows : List (List ℕ × Verdict)). (sha256 (body_of name n r), verdict_at existed (take d s) n) ∷ rows)
    (finished-cut existed s name d (suc n) rest (omega arith))

at-past : {X : Type 0} (d i : ℕ) (s : List (Option X)) → at (take d s) (d + i) ≡ None
at-past zero i s = refl
at-past (suc d) i [] = refl
at-past (suc d) i (y ∷ ys) =
    let e : suc d + i ≡ suc (d + i) = omega arith in ap (at (take (suc d) (y ∷ ys))) e ∙ at-past d i ys

holds_name : (existed : Bool) (name : List ℕ) (log : Log) (found : Option (List ℕ)) → AdmitsDone log →
    HoldsName existed name (cut_log log) (kept_after_stop existed name log found)
holds_name existed name log found whole = record {
  done = finished-length existed log.admitted name 0 (take log.done log.admitted) whole.each ∙ whole.long;
  finished =
      finished-cut existed log.admitted name log.done 0 (take log.done log.admitted) (let l = whole.long in
      omega (arith, l))
      ∙ ap (finished_from existed (take log.done log.admitted) name 0)
      (sym (take-take log.done log.done log.admitted (omega arith)));
  held = λ i. sym (ap (option_map (body_of name (log.done + i))) (at-past log.done i log.admitted));
  state = ap (λ (t : Take). record (parts t) { taken = (parts (made existed log.admitted log.done)).taken })
      (sym (made-cut existed log.admitted log.done log.done (omega arith)));
  taken = λ h. subst (λ (v : Bool). IsTrue v) (taken-made existed log.admitted log.done) h;
  reported = λ n below e. taken-made existed log.admitted log.done ∙ taken_reported existed (take log.done log.admitted) n e;
}

pub recovery_holds : RecoveryHolds
unfolding made
recovery_holds limit first contents honest book is wholes repaired =
    record {
      is_book = cut_books_are_books book is;
      names = λ name. (books_are_cut book).known name ∙ chosen (nat_lt 0 (log_of book name).done) _;
      each = λ name kept e.
          subst (λ (l : Log). HoldsName (is_some (first name)) name l kept) (sym ((books_are_cut book).logs name))
          (subst (HoldsName (is_some (first name)) name (cut_log (log_of book name))) (picked name kept e)
          (holds_name (is_some (first name)) name (log_of book name) (contents name) (wholes name)));
      others = λ h name which. left name (first name) refl which;
      theirs =
          λ h name kept e existed. ap (λ (k : Kept). k.has_made) (sym (picked name kept e))
          ∙ ap (λ (v : Bool). not v && is_some (contents name)) (is_there (first name) existed);
      files = λ h name kept e none.
          let t : made false (log_of (cut_book book) name).admitted (log_of (cut_book book) name).done ≡ made false
          (log_of book name).admitted (log_of book name).done =
          ap (λ (l : Log). made false l.admitted l.done) ((books_are_cut book).logs name)
          ∙ made-cut false (log_of book name).admitted (log_of book name).done (log_of book name).done (omega arith)
          in
          subst (λ (k : Kept). HasFile
          (made false (log_of (cut_book book) name).admitted (log_of (cut_book book) name).done) limit
          (at (log_of (cut_book book) name).admitted (log_of (cut_book book) name).done) k (contents name))
          (picked name kept e)
          (record {
            whole = repaired.files name none ∙ ap (λ (x : Take). file_of x limit) (sym t);
            made_here = ap (λ (o : Option (List ℕ)). not (is_some o) && is_some (contents name)) none;
          });
    }
  where
    chosen : (v : Bool) (k : Kept) → v ≡ is_some (cond v (Some k) None)
    chosen true k = refl
    chosen false k = refl

    one : (v : Bool) (k kept : Kept) → cond v (Some k) None ≡ Some kept → k ≡ kept
    one true k kept e = cc
    one false k kept e = absurd cc

    picked : (name : List ℕ) (kept : Kept) → kept_after first contents book name ≡ Some kept →
        kept_after_stop (is_some (first name)) name (log_of book name) (contents name) ≡ kept
    picked name kept e = one (nat_lt 0 (log_of book name).done) _ kept e

    is_there : (o : Option (List ℕ)) → IsSome o → is_some o ≡ true
    is_there (Some x) h = refl
    is_there None h = absurd (false_true h)

    left : (name : List ℕ) (o : Option (List ℕ)) → first name ≡ o →
        IsSome (first name) ⊎ (is_known (cut_book book) name ≡ false) → contents name ≡ first name
    left name (Some x) e which = repaired.existed name (subst (λ (o : Option (List ℕ)). IsSome o) (sym e) refl)
    left name None e (inl h) = absurd (false_true (subst (λ (o : Option (List ℕ)). IsSome o) e h))
    left name None e (inr unknown) =
        let none_done : (log_of book name).done ≡ 0 =
        (let h = ltb-false 0 (log_of book name).done (sym ((books_are_cut book).known name) ∙ unknown) in
        omega arith) in
        repaired.files name e ∙ ap (λ (d : ℕ). file_of (made false (log_of book name).admitted d) limit) none_done
        ∙ sym e

pub closed_files_are_whole : ClosedFilesAreWhole
unfolding judge
closed_files_are_whole t limit waits found closed (inl h) = h
closed_files_are_whole t limit waits found closed (inr h) =
    absurd (false_true
    (subst (λ (v : Bool). IsTrue (is_stored (cond v Closed (judge_open (parts t) t.format h.request)))) closed
    h.to_store))
