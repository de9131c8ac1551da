-- What a server reports of a name.
use Rattle.std.proofs.Common.{◌≡◌, ℕ, zero, suc, ◌+◌, Bool, true, false, cond, ◌&&◌, List, [], ◌∷◌, length, drop}
use Rattle.std.proofs.Common.{Option, Some, None, refl, sym, ◌∙◌, ap, arith}
use Rattle.std.specs.Prelude.{is_some, option_map, unwrap_or, count_by}
use Rattle.std.proofs.lemmas.List.Sums.{sum_by-cons}
use Rattle.bw_model.specs.Bytes.{at}
use Rattle.bw_model.specs.Take.{Request, Parts, frames, parts}
use Rattle.bw_model.specs.Book.{Log, Book, log_of, is_known, made}
use Rattle.bw_model.specs.Holds.{Store, Holds, HoldsName, body_of}
use Rattle.bw_model.proofs.MapLemmas.{at-drop}
use Rattle.bw_model.proofs.BookLemmas.{unknown_log}
use Rattle.bw_session.specs.Servers.{kept_by}
use Rattle.bw_session.specs.Books.{of_known, count_waiting}
use Rattle.bw_session.specs.Windows.{count_held}
use Rattle.bw_session.specs.declared.session.Session.{Session}

-- one for what is there, else none
abbrev pub one_if : Bool → ℕ
one_if b = cond b 1 0

pub count_more : {X : Type 0} (x : Option X) (xs : List (Option X)) →
    count_by is_some (x ∷ xs) ≡ one_if (is_some x) + count_by is_some xs
count_more x xs = sum_by-cons (λ o. one_if (is_some o)) x xs

sum_none : (total a b : ℕ) → total ≡ a + b → zero ≡ a → zero ≡ b → zero ≡ total
sum_none total a b e x y = omega (arith, e, x, y)

-- as many of the one list are there as of the other, where they are there at the same places
counts_same : (xs : List (Option (List ℕ))) (ys : List (Option Request)) →
    ((i : ℕ) → is_some (at xs i) ≡ is_some (at ys i)) → count_by is_some xs ≡ count_by is_some ys
counts_same [] [] same = refl
counts_same [] (y ∷ ys) same =
    let here : zero ≡ one_if (is_some y) = ap one_if (same 0) in
    let rest : zero ≡ count_by is_some ys = counts_same [] ys (λ i. same (suc i)) in
    let more : count_by is_some (y ∷ ys) ≡ one_if (is_some y) + count_by is_some ys = count_more y ys in
    sum_none _ _ _ more here rest
counts_same (x ∷ xs) [] same =
    let here : one_if (is_some x) ≡ zero = ap one_if (same 0) in
    let rest : count_by is_some xs ≡ zero = counts_same xs [] (λ i. same (suc i)) in
    sym (sum_none _ _ _ (count_more x xs) (sym here) (sym rest))
counts_same (x ∷ xs) (y ∷ ys) same =
    let here : one_if (is_some x) ≡ one_if (is_some y) = ap one_if (same 0) in
    let rest = counts_same xs ys (λ i. same (suc i)) in
    count_more x xs ∙ ap (λ (n : ℕ). n + count_by is_some xs) here
    ∙ ap (λ (n : ℕ). one_if (is_some y) + n) rest ∙ sym (count_more y ys)

pub is_mapped : {X Y : Type 0} (f : X → Y) (o : Option X) → is_some (option_map f o) ≡ is_some o
is_mapped f None = refl
is_mapped f (Some x) = refl

module _ (limit : ℕ) (store : Store) (sessions : List ℕ → Option Session) (book : Book)
    (h : Holds limit store (λ n. option_map kept_by (sessions n)) book) (name : List ℕ) where
  module _ (s : Session) (found : sessions name ≡ Some s) where
    known : is_known book name ≡ true
    known = h.names name ∙ ap (λ (o : Option Session). is_some (option_map kept_by o)) found

    pub holds_name : HoldsName (is_some (store.first name)) name (log_of book name) (kept_by s)
    holds_name = h.each name (kept_by s) (ap (option_map kept_by) found)

    pub reports : {A : Type 0} (f : Log → A) (x : A) → x ≡ f (log_of book name) → Some x ≡ of_known book name f
    reports f x is =
        ap Some is ∙ sym (ap (λ (b : Bool). cond b (Some (f (log_of book name))) None) known)

    pub done_reported : length s.progress.ledger.outcomes ≡ (log_of book name).done
    done_reported = holds_name.done

    pub held_reported : count_held s.window ≡ count_waiting (log_of book name)
    held_reported =
        counts_same s.window (drop (log_of book name).done (log_of book name).admitted)
        (λ i. ap is_some (holds_name.held i)
        ∙ is_mapped (body_of name ((log_of book name).done + i)) (at (log_of book name).admitted
        ((log_of book name).done + i))
        ∙ sym (ap is_some (at-drop (log_of book name).done i ((log_of book name).done + i) (log_of book name).admitted
        refl)))

    pub closed_reported : s.progress.state.parts.closed
        ≡ (is_known book name && (made (is_some (store.first name)) (log_of book name).admitted
        (log_of book name).done).closed)
    closed_reported =
        ap (λ (p : Parts). p.closed) holds_name.state
        ∙ sym (ap (λ (b : Bool). b && (made (is_some (store.first name)) (log_of book name).admitted
        (log_of book name).done).closed) known)

    pub frames_reported : frames s.progress.state.parts
        ≡ frames (parts (made (is_some (store.first name)) (log_of book name).admitted (log_of book name).done))
    frames_reported = ap frames holds_name.state

  pub unknown_reported : sessions name ≡ None → is_known book name ≡ false
  unknown_reported none = h.names name ∙ ap (λ (o : Option Session). is_some (option_map kept_by o)) none

-- an ask for an unknown name is answered with 0
pub asked : (book : Book) (name : List ℕ) → unwrap_or (of_known book name (λ log. log.done)) 0 ≡ (log_of book name).done
asked book name = go (is_known book name) refl
  where
    go : (b : Bool) → is_known book name ≡ b → unwrap_or (cond b (Some (log_of book name).done) None) 0
        ≡ (log_of book name).done
    go true is = refl
    go false is = sym (ap (λ (l : Log). l.done) (unknown_log book name is))
