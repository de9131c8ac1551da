-- What lies under a name outside a server's table changes.
use Rattle.std.proofs.Common.{◌≡◌, ℕ, Bool, true, false, List, Option, None, Some, refl, sym, ◌∙◌, ap, subst}
use Rattle.std.specs.Prelude.{is_some}
use Rattle.std.specs.Str.{bytes_eq}
use Rattle.bw_model.specs.Holds.{Store}
use Rattle.bw_model.proofs.BookLemmas.{same_name}
use Rattle.bw_store.specs.declared.store.TakeStore.{Ghosts as StoreGhosts}
use Rattle.bw_journal.specs.JournalHeaders.{Header}
use Rattle.bw_journal.specs.declared.journal.Journal.{Ghosts as JournalGhosts}
use Rattle.bw_session.specs.TableChanges.{with_first}
use Rattle.bw_session.specs.Servers.{HoldsIn, store_since}
use Rattle.bw_session.specs.Sessions.{part_of}
use Rattle.bw_session.specs.TableChanges.{with_asleep, NamesOutsideMayChange}
use Rattle.bw_session.specs.Tables.{session_in}
use Rattle.bw_session.specs.WriteOrders.{FileComesFirst, NextIsCarriedOut}
use Rattle.bw_session.specs.declared.session.Session.{Session}
use Rattle.bw_session.proofs.ForgetLaws.{first_same, first_apart, asleep_same, asleep_apart}
use Rattle.bw_session.proofs.JournalForms.{OrderIn}
use Rattle.bw_session.proofs.OtherForms.{holds_but, notes_but}
use Rattle.bw_session.proofs.ServerForms.{apart_names, unknown_here}

no_session : {A : Type 0} {s : Session} → None ≡ Some s → A
no_session e = cc

-- the order, where store and journal have of each other name what they had
order_but : (header header' : List ℕ → Header) (notes notes' first first' file file' : List ℕ → Option (List ℕ))
    (sessions sessions' : List ℕ → Option Session) (name : List ℕ) → OrderIn header notes first file sessions →
    sessions' name ≡ None → ((n : List ℕ) → bytes_eq name n ≡ false → sessions' n ≡ sessions n) →
    ((n : List ℕ) → bytes_eq name n ≡ false → header' n ≡ header n) →
    ((n : List ℕ) → bytes_eq name n ≡ false → notes' n ≡ notes n) →
    ((n : List ℕ) → bytes_eq name n ≡ false → first' n ≡ first n) →
    ((n : List ℕ) → bytes_eq name n ≡ false → file' n ≡ file n) → OrderIn header' notes' first' file' sessions'
order_but header header' notes notes' first first' file file' sessions sessions' name o gone others headers noted firsts files =
    λ n x e. by_name n x e (bytes_eq name n) refl
  where
    by_name : (n : List ℕ) (x : Session) → sessions' n ≡ Some x → (b : Bool) → bytes_eq name n ≡ b →
        FileComesFirst (header' n) (first' n) n x.progress.noted (NextIsCarriedOut (part_of x)) (notes' n) (file' n)
    by_name n x e true b =
        no_session (sym (subst (λ (y : List ℕ). sessions' y ≡ None) (same_name name n b) gone) ∙ e)
    by_name n x e false b =
        subst (λ (z : Header). FileComesFirst z (first' n) n x.progress.noted (NextIsCarriedOut (part_of x)) (notes' n)
        (file' n)) (sym (headers n b))
        (subst (λ (z : Option (List ℕ)). FileComesFirst (header n) z n x.progress.noted (NextIsCarriedOut (part_of x))
        (notes' n) (file' n)) (sym (firsts n b))
        (subst (λ (z : Option (List ℕ)). FileComesFirst (header n) (first n) n x.progress.noted
        (NextIsCarriedOut (part_of x)) z (file' n)) (sym (noted n b))
        (subst (λ (z : Option (List ℕ)). FileComesFirst (header n) (first n) n x.progress.noted
        (NextIsCarriedOut (part_of x)) (notes n) z) (sym (files n b)) (o n x (sym (others n b) ∙ e)))))

module _ {X Y : Type 0} (S : StoreGhosts X) (J : JournalGhosts Y) where
  pub names_outside_may_change : NamesOutsideMayChange S J
  names_outside_may_change old new name value moves outside honest asleep first book h n o awake =
      let limit : ℕ = old.limit in
      let store : Store = store_since S first old.stores.store in
      let now : List ℕ → Option (List ℕ) = with_first first name (S.contents new.stores.store name) in
      let store' : Store = store_since S now new.stores.store in
      let gone : session_in new.sessions name ≡ None = moves.sessions name ∙ outside in
      let others : (m : List ℕ) → bytes_eq name m ≡ false → session_in new.sessions m ≡ session_in old.sessions m =
      λ m b. moves.sessions m in
      let firsts = first_apart first name (S.contents new.stores.store name) in
      let files : (m : List ℕ) → bytes_eq name m ≡ false → S.contents new.stores.store m ≡ S.contents old.stores.store m =
      λ m b. moves.contents m (apart_names name m b) in
      let headers : (m : List ℕ) → bytes_eq name m ≡ false → J.header new.stores.journal m ≡ J.header old.stores.journal m =
      λ m b. moves.headers m (apart_names name m b) in
      let noted : (m : List ℕ) → bytes_eq name m ≡ false → J.notes new.stores.journal m ≡ J.notes old.stores.journal m =
      λ m b. moves.notes m (apart_names name m b) in
      let same = asleep_same asleep name value in
      record {
        held = subst (λ (l : ℕ). HoldsIn l store' (session_in new.sessions) book) (sym moves.limit)
            (holds_but (session_in old.sessions) (session_in new.sessions) book book name gone others (λ m b. refl) limit
            store store' h honest firsts files (λ m b. refl) h.holds.is_book
            (unknown_here limit store (session_in old.sessions) book h honest name outside)
            (sym (first_same first name (S.contents new.stores.store name))));
        noted = notes_but (session_in old.sessions) (session_in new.sessions) book book name gone others (λ m b. refl)
            asleep (with_asleep asleep name value) (J.header old.stores.journal) (J.header new.stores.journal)
            (J.notes old.stores.journal) (J.notes new.stores.journal) first now n (asleep_apart asleep name value) firsts
            headers noted (λ e. (awake (sym same ∙ e)).unbegun)
            (λ e. (awake (sym same ∙ e)).existed
            ∙ sym (ap is_some (first_same first name (S.contents new.stores.store name))));
        ordered = order_but (J.header old.stores.journal) (J.header new.stores.journal) (J.notes old.stores.journal)
            (J.notes new.stores.journal) first now (S.contents old.stores.store) (S.contents new.stores.store)
            (session_in old.sessions) (session_in new.sessions) name o gone others headers noted firsts files;
      }
