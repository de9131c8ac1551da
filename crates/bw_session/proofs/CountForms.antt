-- A table has as many sessions as the book that it holds has names.
use Rattle.std.proofs.Common.{◌≡◌, ℕ, ◌≤◌, Bool, true, false, cond, ◌||◌, List, [], ◌∷◌, length, map}
use Rattle.std.proofs.Common.{Option, Some, None, refl, sym, ◌∙◌, ap, subst}
use Rattle.std.specs.Prelude.{is_some, option_map}
use Rattle.std.proofs.lemmas.List.{length-map}
use Rattle.std.specs.List.{IsDistinct, AllByRecursion}
use Rattle.std.specs.Str.{bytes_eq}
use Rattle.std.specs.HashMap.{IsUnique, hash_map_len}
use Rattle.std.specs.Map.{lookup, keys_of}
use Rattle.std.proofs.lemmas.Map.Keys.{IsDistinct-head, IsDistinct-tail}
use Rattle.bw_model.specs.Book.{Log, Book, log_of, is_known}
use Rattle.bw_model.specs.BookRules.{IsBook, IsLog, HasEachOnce}
use Rattle.bw_model.specs.Turn.{most_takes}
use Rattle.bw_model.proofs.BookLemmas.{same_name, name_refl}
use Rattle.bw_model.proofs.BookLaws.{names_report_the_length, apart_sym}
use Rattle.bw_session.specs.Tables.{Table, session_in}
use Rattle.bw_session.specs.Servers.{kept_by}
use Rattle.bw_session.specs.declared.session.Session.{Session}
use Rattle.bw_session.proofs.AdmitForms.{no_false}

-- the same names, with these logs
abbrev book_over : (List ℕ → Log) → List (List ℕ × Session) → Book
book_over logs entries = map (λ e. (e.0, logs e.0)) entries

pub eq_sym : (x y : List ℕ) → bytes_eq x y ≡ bytes_eq y x
eq_sym x y = go (bytes_eq y x) refl
  where
    go : (v : Bool) → bytes_eq y x ≡ v → bytes_eq x y ≡ v
    go true e = subst (λ (z : List ℕ). bytes_eq z y ≡ true) (same_name y x e) (name_refl y)
    go false e = apart_sym y x e

known_over : (logs : List ℕ → Log) (entries : List (List ℕ × Session)) (n : List ℕ) →
    is_known (book_over logs entries) n ≡ is_some (lookup (bytes_eq n) entries)
known_over logs [] n = refl
known_over logs (e ∷ entries) n = go (bytes_eq e.0 n) refl (known_over logs entries n)
  where
    go : (v : Bool) → bytes_eq e.0 n ≡ v → is_known (book_over logs entries) n ≡ is_some (lookup (bytes_eq n) entries) →
        v || is_known (book_over logs entries) n ≡ is_some (cond (bytes_eq n e.0) (Some e.1) (lookup (bytes_eq n) entries))
    go true is rest = ap (λ (v : Bool). is_some (cond v (Some e.1) (lookup (bytes_eq n) entries))) (sym (eq_sym n e.0 ∙ is))
    go false is rest =
        rest ∙ ap (λ (v : Bool). is_some (cond v (Some e.1) (lookup (bytes_eq n) entries))) (sym (eq_sym n e.0 ∙ is))

none_over : (logs : List ℕ → Log) (n : List ℕ) (entries : List (List ℕ × Session)) →
    AllByRecursion (λ y. bytes_eq n y ≡ false) (keys_of entries) → is_known (book_over logs entries) n ≡ false
none_over logs n [] h = refl
none_over logs n (e ∷ entries) h =
    ap (λ (v : Bool). v || is_known (book_over logs entries) n) (eq_sym e.0 n ∙ h.0)
    ∙ none_over logs n entries h.1

once_over : (logs : List ℕ → Log) (entries : List (List ℕ × Session)) → IsDistinct bytes_eq (keys_of entries) →
    HasEachOnce (book_over logs entries)
once_over logs [] h = tt
once_over logs (e ∷ entries) h = (
  none_over logs e.0 entries (IsDistinct-head bytes_eq e.0 (keys_of entries) h),
  once_over logs entries (IsDistinct-tail bytes_eq e.0 (keys_of entries) h),
)

log_over : (logs : List ℕ → Log) (entries : List (List ℕ × Session)) (n : List ℕ) →
    is_known (book_over logs entries) n ≡ true → log_of (book_over logs entries) n ≡ logs n
log_over logs [] n h = no_false h
log_over logs (e ∷ entries) n h = go (bytes_eq e.0 n) refl h (log_over logs entries n)
  where
    go : (v : Bool) → bytes_eq e.0 n ≡ v → v || is_known (book_over logs entries) n ≡ true →
        (is_known (book_over logs entries) n ≡ true → log_of (book_over logs entries) n ≡ logs n) →
        cond v (logs e.0) (log_of (book_over logs entries) n) ≡ logs n
    go true is known rest = ap logs (same_name e.0 n is)
    go false is known rest = rest known

-- something is kept where there is a session
pub plain_kept : (o : Option Session) → is_some (option_map kept_by o) ≡ is_some o
plain_kept None = refl
plain_kept (Some s) = refl

pub counted : {H : Type 0} (sessions : Table H) (book : Book) → IsUnique bytes_eq sessions → IsBook book →
    hash_map_len sessions ≤ most_takes →
    ((n : List ℕ) → is_known book n ≡ is_some (option_map kept_by (session_in sessions n))) →
    length book ≡ hash_map_len sessions
counted sessions book unique h few names =
    names_report_the_length book over h over_is same ∙ length-map sessions.entries (λ e. (e.0, log_of book e.0))
  where
    over : Book
    over = book_over (log_of book) sessions.entries

    same : (n : List ℕ) → is_known book n ≡ is_known over n
    same n = names n ∙ plain_kept (session_in sessions n) ∙ sym (known_over (log_of book) sessions.entries n)

    over_is : IsBook over
    over_is = record {
      once = once_over (log_of book) sessions.entries unique;
      logs = λ n known.
          subst IsLog (sym (log_over (log_of book) sessions.entries n known)) (h.logs n (same n ∙ known));
      few = subst (λ (k : ℕ). k ≤ most_takes) (sym (length-map sessions.entries (λ e. (e.0, log_of book e.0)))) few;
    }
