-- Logs whose last place has a request.
use Rattle.std.proofs.Common.{◌≡◌, ℕ, zero, suc, ◌+◌, Bool, true, false, cond, not, ◌&&◌, List, [], ◌∷◌, take, drop, arith}
use Rattle.std.proofs.Common.{Option, Some, None, refl, sym, ◌∙◌, ap, subst}
use Rattle.std.specs.Prelude.{is_some, count_by, fold, IsTrue, nat_le}
use Rattle.std.specs.Str.{bytes_eq}
use Rattle.bw_model.specs.Bytes.{put}
use Rattle.bw_model.specs.Take.{Request}
use Rattle.bw_model.specs.Wire.{Message}
use Rattle.bw_model.specs.Replies.{Reply, TooFar, TableFull, NoRoom}
use Rattle.bw_model.specs.Book.{Log, Book, log_of}
use Rattle.bw_model.specs.Turn.{Faults, turn_by, served, admitted_after, is_admissible, with_change, notice, window}
use Rattle.bw_model.proofs.BookLemmas.{log-with_log_same, log-with_log_other, same_name}
use Rattle.bw_journal.specs.Stops.{cut_log}
use Rattle.bw_session.specs.Books.{count_waiting}
use Rattle.bw_session.proofs.ReportForms.{count_more}
use Rattle.bw_kept.specs.FolderRuns.{ends_with_request}

never : {A : Type 0} → false ≡ true → A
never e = absurd cc

-- the last of these is there; of none, what was so before
abbrev ends_from : Bool → List (Option Request) → Bool
ends_from so_far xs = fold (λ before place. is_some place) so_far xs

ends_true : (b : Bool) (xs : List (Option Request)) → ends_from b xs ≡ true → ends_from true xs ≡ true
ends_true b [] e = refl
ends_true b (x ∷ xs) e = e

put_none : (b : Bool) (n : ℕ) (r : Request) → ends_from b (put [] n r) ≡ true
put_none b zero r = refl
put_none b (suc n) r = put_none false n r

put_ends : (b : Bool) (xs : List (Option Request)) (n : ℕ) (r : Request) → ends_from b xs ≡ true →
    ends_from b (put xs n r) ≡ true
put_ends b [] n r e = put_none b n r
put_ends b (y ∷ ys) zero r e = ends_true (is_some y) ys e
put_ends b (y ∷ ys) (suc n) r e = put_ends (is_some y) ys n r e

-- the log of a message that is served goes on ending with a request
admitted_ends : (log : Log) (m : Message) → IsTrue (ends_with_request log) →
    ends_from true (admitted_after log m) ≡ true
admitted_ends log m e = go (is_admissible log m.number)
  where
    go : (b : Bool) → ends_from true (cond b (put log.admitted m.number m.request) log.admitted) ≡ true
    go true = put_ends true log.admitted m.number m.request e
    go false = e

-- what a turn leaves under its name, if it changes that
pub turn_ends : (taken known full : Bool) (log : Log) (m : Message) (faults : Faults) → IsTrue (ends_with_request log) →
    (later : Log) → (turn_by taken known full log m faults).1 ≡ Some later → IsTrue (ends_with_request later)
unfolding turn_by served
turn_ends taken known full log m faults e later =
    go (not known && nat_le window m.number) (not known && full) (is_admissible log m.number && faults.refused)
  where
    none : {A : Type 0} → None ≡ Some later → A
    none h = cc

    some : (l : Log) → Some l ≡ Some later → l ≡ later
    some l h = cc

    go : (u v w : Bool) →
        (cond {A = List Reply × Option Log} u (notice m TooFar 0, None)
        (cond v (notice m TableFull 0, None)
        (cond w (notice m NoRoom log.done, None)
        ((served taken log m faults.stop).0, Some (served taken log m faults.stop).1)))).1 ≡ Some later →
        IsTrue (ends_with_request later)
    go true v w h = none h
    go false true w h = none h
    go false false true h = none h
    go false false false h =
        subst (λ (l : Log). IsTrue (ends_with_request l)) (some (served taken log m faults.stop).1 h)
        (admitted_ends log m e)

-- so each log of a book goes on
pub change_ends : (book : Book) (name : List ℕ) (o : Option Log) →
    ((n : List ℕ) → IsTrue (ends_with_request (log_of book n))) →
    ((later : Log) → o ≡ Some later → IsTrue (ends_with_request later)) → (n : List ℕ) →
    IsTrue (ends_with_request (log_of (with_change book name o) n))
change_ends book name None ends more n = ends n
change_ends book name (Some l) ends more n = go (bytes_eq name n) refl
  where
    go : (v : Bool) → bytes_eq name n ≡ v → IsTrue (ends_with_request (log_of (with_change book name (Some l)) n))
    go true e =
        subst (λ (x : List ℕ). IsTrue (ends_with_request (log_of (with_change book name (Some l)) x))) (same_name name n e)
        (subst (λ (x : Log). IsTrue (ends_with_request x)) (sym (log-with_log_same book name l)) (more l refl))
    go false e = subst (λ (x : Log). IsTrue (ends_with_request x)) (sym (log-with_log_other book name n l e)) (ends n)

-- where none is there, the last isn't
none_ends : (xs : List (Option Request)) → count_by is_some xs ≡ 0 → ends_from false xs ≡ false
none_ends [] e = refl
none_ends (None ∷ xs) e =
    let more : count_by is_some (None ∷ xs) ≡ 0 + count_by is_some xs = count_more None xs in
    none_ends xs (omega (arith, more, e))
none_ends (Some x ∷ xs) e =
    let more : count_by is_some (Some x ∷ xs) ≡ 1 + count_by is_some xs = count_more (Some x) xs in
    absurd (omega (arith, more, e))

take_whole : (b : Bool) (d : ℕ) (xs : List (Option Request)) → ends_from b xs ≡ true →
    count_by is_some (drop d xs) ≡ 0 → take d xs ≡ xs
take_whole b zero [] e w = refl
take_whole b zero (None ∷ xs) e w =
    let more : count_by is_some (None ∷ xs) ≡ 0 + count_by is_some xs = count_more None xs in
    never (sym (none_ends xs (omega (arith, more, w))) ∙ e)
take_whole b zero (Some x ∷ xs) e w =
    let more : count_by is_some (Some x ∷ xs) ≡ 1 + count_by is_some xs = count_more (Some x) xs in
    absurd (omega (arith, more, w))
take_whole b (suc d) [] e w = refl
take_whole b (suc d) (x ∷ xs) e w = ap (λ (ys : List (Option Request)). x ∷ ys) (take_whole (is_some x) d xs e w)

-- a log of which nothing waits is all done: cut to that it is the same
pub cut_whole : (log : Log) → IsTrue (ends_with_request log) → count_waiting log ≡ 0 → cut_log log ≡ log
cut_whole log e w =
    ap (λ (xs : List (Option Request)). record { admitted = xs; done = log.done })
    (take_whole true log.done log.admitted e w)
