-- A server that knows one name less: the book that it holds, and what its journal has.
use Rattle.std.proofs.Common.{◌≡◌, ℕ, ◌≤◌, Bool, true, false, List, length, arith, Option, Some, None}
use Rattle.std.proofs.Common.{refl, sym, ◌∙◌, ap, subst, ◌⊎◌, inl, inr}
use Rattle.std.specs.Prelude.{IsTrue, IsSome, is_some, option_map}
use Rattle.std.specs.Str.{bytes_eq}
use Rattle.bw_model.specs.Bytes.{at}
use Rattle.bw_model.specs.Book.{Log, Book, log_of, is_known, made}
use Rattle.bw_model.specs.BookRules.{IsBook, IsLog}
use Rattle.bw_model.specs.Turn.{most_takes}
use Rattle.bw_model.specs.Holds.{Store, Kept, HoldsName, HasFile}
use Rattle.bw_model.proofs.BookLemmas.{same_name}
use Rattle.bw_journal.specs.JournalHeaders.{Header, header_bytes}
use Rattle.bw_journal.specs.Notes.{IsPrefixOf}
use Rattle.bw_journal.specs.Stops.{without}
use Rattle.bw_journal.proofs.CutLaws.{log-without_other, known-without_same, known-without_other, once-without}
use Rattle.bw_journal.proofs.CutLaws.{length-without}
use Rattle.bw_session.specs.NotedNames.{NotesNames}
use Rattle.bw_session.specs.NameNotes.{IsNoted}
use Rattle.bw_session.specs.Prefixes.{StandsAhead}
use Rattle.bw_session.specs.Servers.{HoldsIn, kept_by}
use Rattle.bw_session.specs.declared.session.Session.{Session}

never : {A : Type 0} → false ≡ true → A
never e = absurd cc

no_kept : {A : Type 0} {k : Kept} → None ≡ Some k → A
no_kept e = cc

no_session : {A : Type 0} {s : Session} → None ≡ Some s → A
no_session e = cc

-- Servers that have the same of each name but one, which the later one doesn't know.
module _ (sessions sessions' : List ℕ → Option Session) (book later : Book) (name : List ℕ)
    (gone : sessions' name ≡ None)
    (others : (n : List ℕ) → bytes_eq name n ≡ false → sessions' n ≡ sessions n)
    (logs : (n : List ℕ) → bytes_eq name n ≡ false → log_of later n ≡ log_of book n) where
  gone_here : (n : List ℕ) → bytes_eq name n ≡ true → sessions' n ≡ None
  gone_here n b = subst (λ (x : List ℕ). sessions' x ≡ None) (same_name name n b) gone

  module _ (limit : ℕ) (store store' : Store) (h : HoldsIn limit store sessions book) (honest : IsTrue store.honest)
      (firsts : (n : List ℕ) → bytes_eq name n ≡ false → store'.first n ≡ store.first n)
      (contents : (n : List ℕ) → bytes_eq name n ≡ false → store'.contents n ≡ store.contents n)
      (knows : (n : List ℕ) → bytes_eq name n ≡ false → is_known later n ≡ is_known book n) where
    pub holds_but : IsBook later → is_known later name ≡ false → store'.contents name ≡ store'.first name →
        HoldsIn limit store' sessions' later
    holds_but is_book unknown here = record {
      holds = record {
        is_book = is_book;
        names = λ n. names n (bytes_eq name n) refl;
        each = λ n k e. each n k e (bytes_eq name n) refl;
        others = λ x n which. unasked n which (bytes_eq name n) refl;
        theirs = λ x n k e some. theirs n k e some (bytes_eq name n) refl;
        files = λ x n k e none. files n k e none (bytes_eq name n) refl;
      };
      ahead = λ x n t e. ahead n t e (bytes_eq name n) refl;
    }
      where
        kept_gone : (n : List ℕ) → bytes_eq name n ≡ true → option_map kept_by (sessions' n) ≡ None
        kept_gone n b = ap (option_map kept_by) (gone_here n b)

        kept_other : (n : List ℕ) → bytes_eq name n ≡ false →
            option_map kept_by (sessions' n) ≡ option_map kept_by (sessions n)
        kept_other n b = ap (option_map kept_by) (others n b)

        names : (n : List ℕ) (b : Bool) → bytes_eq name n ≡ b →
            is_known later n ≡ is_some (option_map kept_by (sessions' n))
        names n true b =
            ap (is_known later) (sym (same_name name n b)) ∙ unknown ∙ sym (ap is_some (kept_gone n b))
        names n false b = knows n b ∙ h.holds.names n ∙ sym (ap is_some (kept_other n b))

        each : (n : List ℕ) (k : Kept) → option_map kept_by (sessions' n) ≡ Some k → (b : Bool) →
            bytes_eq name n ≡ b → HoldsName (is_some (store'.first n)) n (log_of later n) k
        each n k e true b = no_kept (sym (kept_gone n b) ∙ e)
        each n k e false b =
            subst (λ (l : Log). HoldsName (is_some (store'.first n)) n l k) (sym (logs n b))
            (subst (λ (o : Option (List ℕ)). HoldsName (is_some o) n (log_of book n) k) (sym (firsts n b))
            (h.holds.each n k (sym (kept_other n b) ∙ e)))

        unasked : (n : List ℕ) → IsSome (store'.first n) ⊎ (is_known later n ≡ false) → (b : Bool) →
            bytes_eq name n ≡ b → store'.contents n ≡ store'.first n
        unasked n which true b =
            subst (λ (x : List ℕ). store'.contents x ≡ store'.first x) (same_name name n b) here
        unasked n which false b =
            contents n b
            ∙ h.holds.others honest n (elim which [
              | inl some ↦ inl (sym (ap is_some (firsts n b)) ∙ some)
              | inr free ↦ inr (sym (knows n b) ∙ free)
            ])
            ∙ sym (firsts n b)

        theirs : (n : List ℕ) (k : Kept) → option_map kept_by (sessions' n) ≡ Some k → IsSome (store'.first n) →
            (b : Bool) → bytes_eq name n ≡ b → k.has_made ≡ false
        theirs n k e some true b = no_kept (sym (kept_gone n b) ∙ e)
        theirs n k e some false b =
            h.holds.theirs honest n k (sym (kept_other n b) ∙ e) (sym (ap is_some (firsts n b)) ∙ some)

        files : (n : List ℕ) (k : Kept) → option_map kept_by (sessions' n) ≡ Some k → store'.first n ≡ None →
            (b : Bool) → bytes_eq name n ≡ b →
            HasFile (made false (log_of later n).admitted (log_of later n).done) limit
            (at (log_of later n).admitted (log_of later n).done) k (store'.contents n)
        files n k e none true b = no_kept (sym (kept_gone n b) ∙ e)
        files n k e none false b =
            subst (λ (l : Log). HasFile (made false l.admitted l.done) limit (at l.admitted l.done) k
            (store'.contents n)) (sym (logs n b))
            (subst (λ (o : Option (List ℕ)). HasFile (made false (log_of book n).admitted (log_of book n).done) limit
            (at (log_of book n).admitted (log_of book n).done) k o) (sym (contents n b))
            (h.holds.files honest n k (sym (kept_other n b) ∙ e) (sym (firsts n b) ∙ none)))

        ahead : (n : List ℕ) (t : Session) → sessions' n ≡ Some t → (b : Bool) → bytes_eq name n ≡ b →
            StandsAhead (store'.first n) (log_of later n) t.progress.growing (store'.contents n)
        ahead n t e true b = no_session (sym (gone_here n b) ∙ e)
        ahead n t e false b =
            subst (λ (l : Log). StandsAhead (store'.first n) l t.progress.growing (store'.contents n))
            (sym (logs n b))
            (subst (λ (o : Option (List ℕ)). StandsAhead o (log_of book n) t.progress.growing (store'.contents n))
            (sym (firsts n b))
            (subst (λ (o : Option (List ℕ)). StandsAhead (store.first n) (log_of book n) t.progress.growing o)
            (sym (contents n b)) (h.ahead honest n t (sym (others n b) ∙ e))))

  module _ (asleep asleep' : List ℕ → Bool) (header header' : List ℕ → Header)
      (notes notes' first first' : List ℕ → Option (List ℕ)) (h : NotesNames asleep header notes first sessions book)
      (sleeps : (n : List ℕ) → bytes_eq name n ≡ false → asleep' n ≡ asleep n)
      (firsts : (n : List ℕ) → bytes_eq name n ≡ false → first' n ≡ first n)
      (headers : (n : List ℕ) → bytes_eq name n ≡ false → header' n ≡ header n)
      (noted : (n : List ℕ) → bytes_eq name n ≡ false → notes' n ≡ notes n) where
    pub notes_but : (asleep' name ≡ false → IsPrefixOf (header_bytes name (header' name)) (notes' name)) →
        (asleep' name ≡ false → (header' name).existed ≡ is_some (first' name)) →
        NotesNames asleep' header' notes' first' sessions' later
    notes_but prefix existed = record {
      known = λ n s e. known n s e (bytes_eq name n) refl;
      unknown = λ n e awake. unknown n e awake (bytes_eq name n) refl;
      existed = λ n awake. exists n awake (bytes_eq name n) refl;
    }
      where
        known : (n : List ℕ) (s : Session) → sessions' n ≡ Some s → (b : Bool) → bytes_eq name n ≡ b →
            IsNoted (header' n) n (log_of later n) s.progress.noted (notes' n)
        known n s e true b = no_session (sym (gone_here n b) ∙ e)
        known n s e false b =
            subst (λ (x : Header). IsNoted x n (log_of later n) s.progress.noted (notes' n)) (sym (headers n b))
            (subst (λ (l : Log). IsNoted (header n) n l s.progress.noted (notes' n)) (sym (logs n b))
            (subst (λ (o : Option (List ℕ)). IsNoted (header n) n (log_of book n) s.progress.noted o)
            (sym (noted n b)) (h.known n s (sym (others n b) ∙ e))))

        unknown : (n : List ℕ) → sessions' n ≡ None → asleep' n ≡ false → (b : Bool) → bytes_eq name n ≡ b →
            IsPrefixOf (header_bytes n (header' n)) (notes' n)
        unknown n e awake true b =
            let same : name ≡ n = same_name name n b in
            subst (λ (x : List ℕ). IsPrefixOf (header_bytes x (header' x)) (notes' x)) same (prefix (ap asleep' same ∙ awake))
        unknown n e awake false b =
            subst (λ (x : Header). IsPrefixOf (header_bytes n x) (notes' n)) (sym (headers n b))
            (subst (λ (o : Option (List ℕ)). IsPrefixOf (header_bytes n (header n)) o) (sym (noted n b))
            (h.unknown n (sym (others n b) ∙ e) (sym (sleeps n b) ∙ awake)))

        exists : (n : List ℕ) → asleep' n ≡ false → (b : Bool) → bytes_eq name n ≡ b →
            (header' n).existed ≡ is_some (first' n)
        exists n awake true b =
            let same : name ≡ n = same_name name n b in
            subst (λ (x : List ℕ). (header' x).existed ≡ is_some (first' x)) same (existed (ap asleep' same ∙ awake))
        exists n awake false b =
            ap (λ (x : Header). x.existed) (headers n b) ∙ h.existed n (sym (sleeps n b) ∙ awake)
            ∙ sym (ap is_some (firsts n b))

-- a book without a name
pub book_without : (book : Book) (name : List ℕ) → IsBook book → IsBook (without name book)
book_without book name h = record {
  once = once-without book name h.once;
  logs = λ n known. logs n known (bytes_eq name n) refl;
  few = (let less = length-without book name in let few : length book ≤ most_takes = h.few in omega (arith, less, few));
}
  where
    logs : (n : List ℕ) → IsTrue (is_known (without name book) n) → (b : Bool) → bytes_eq name n ≡ b →
        IsLog (log_of (without name book) n)
    logs n known true b = never (sym (known-without_same book name n b) ∙ known)
    logs n known false b =
        subst IsLog (sym (log-without_other book name n b))
        (h.logs n (sym (known-without_other book name n b) ∙ known))

-- a name that isn't another
pub apart_from : (name other : List ℕ) → (other ≡ name → ⊥) → bytes_eq name other ≡ false
apart_from name other apart = go (bytes_eq name other) refl
  where
    go : (b : Bool) → bytes_eq name other ≡ b → b ≡ false
    go true e = absurd (apart (sym (same_name name other e)))
    go false e = refl
