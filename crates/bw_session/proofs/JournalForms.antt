-- What an honest journal has of the names of a book, through a turn.
use Rattle.std.proofs.Common.{◌≡◌, ℕ, Bool, true, false, cond, not, ◌&&◌, ◌||◌, List}
use Rattle.std.proofs.Common.{Option, Some, None, refl, sym, ◌∙◌, ap, subst}
use Rattle.std.specs.Prelude.{nat_le}
use Rattle.std.specs.Str.{bytes_eq}
use Rattle.bw_model.specs.Wire.{Message}
use Rattle.bw_model.specs.Replies.{Reply as ModelReply}
use Rattle.bw_model.specs.Book.{Log, Book, log_of, is_known, with_log}
use Rattle.bw_model.specs.Turn.{is_turned_away, window}
use Rattle.bw_model.specs.CountedTurn.{book_reported}
use Rattle.bw_model.proofs.BookLemmas.{same_name, log-with_log_same, log-with_log_other}
use Rattle.bw_store.specs.Stores.{KeepsOthers}
use Rattle.bw_journal.specs.JournalHeaders.{Header, header_bytes}
use Rattle.bw_journal.specs.Notes.{IsPrefixOf, KeepsHeaders}
use Rattle.bw_session.specs.NameNotes.{IsNoted}
use Rattle.bw_session.specs.ServedMessages.{log_after, log_reported}
use Rattle.bw_session.specs.NotedNames.{NotesNames}
use Rattle.bw_session.specs.WriteOrders.{FileComesFirst, NextIsCarriedOut}
use Rattle.bw_session.specs.Sessions.{part_of}
use Rattle.bw_session.specs.declared.session.Session.{Session}
use Rattle.bw_session.proofs.ServerForms.{apart_names}

-- a journal that changed under one name alone
module _ (asleep : List ℕ → Bool) (header header' : List ℕ → Header)
    (notes notes' first : List ℕ → Option (List ℕ)) (sessions sessions' : List ℕ → Option Session) (book later : Book)
    (name : List ℕ) (s : Session) (log : Log) (h : NotesNames asleep header notes first sessions book) where
  pub notes_after : KeepsHeaders header header' → KeepsOthers notes notes' name →
      ((n : List ℕ) → sessions' n ≡ cond (bytes_eq name n) (Some s) (sessions n)) →
      log_of later name ≡ log →
      ((n : List ℕ) → bytes_eq name n ≡ false → log_of later n ≡ log_of book n) →
      IsNoted (header name) name log s.progress.noted (notes' name) →
      NotesNames asleep header' notes' first sessions' later
  notes_after headers keeps sets log_is others noted = record {
    known = λ n x e. known n x e (bytes_eq name n) refl;
    unknown = λ n e awake. unknown n e awake (bytes_eq name n) refl;
    existed = λ n awake. ap (λ (z : Header). z.existed) (headers n) ∙ h.existed n awake;
  }
    where
      some_same : {a b : Session} → Some a ≡ Some b → a ≡ b
      some_same e = cc

      never : {A : Type 0} {a : Session} → Some a ≡ None → A
      never e = cc

      here : (n : List ℕ) → bytes_eq name n ≡ true → sessions' n ≡ Some s
      here n b = sets n ∙ ap (λ (v : Bool). cond v (Some s) (sessions n)) b

      there : (n : List ℕ) → bytes_eq name n ≡ false → sessions' n ≡ sessions n
      there n b = sets n ∙ ap (λ (v : Bool). cond v (Some s) (sessions n)) b

      note_other : (n : List ℕ) → bytes_eq name n ≡ false → notes' n ≡ notes n
      note_other n b = keeps n (apart_names name n b)

      known : (n : List ℕ) (x : Session) → sessions' n ≡ Some x → (b : Bool) → bytes_eq name n ≡ b →
          IsNoted (header' n) n (log_of later n) x.progress.noted (notes' n)
      known n x e true b =
          subst (λ (z : List ℕ). IsNoted (header' z) z (log_of later z) x.progress.noted (notes' z)) (same_name name n b)
          (subst (λ (z : Session). IsNoted (header' name) name (log_of later name) z.progress.noted (notes' name))
          (some_same (sym (here n b) ∙ e))
          (subst (λ (z : Log). IsNoted (header' name) name z s.progress.noted (notes' name)) (sym log_is)
          (subst (λ (z : Header). IsNoted z name log s.progress.noted (notes' name)) (sym (headers name)) noted)))
      known n x e false b =
          subst (λ (z : Header). IsNoted z n (log_of later n) x.progress.noted (notes' n)) (sym (headers n))
          (subst (λ (z : Log). IsNoted (header n) n z x.progress.noted (notes' n)) (sym (others n b))
          (subst (λ (z : Option (List ℕ)). IsNoted (header n) n (log_of book n) x.progress.noted z)
          (sym (note_other n b)) (h.known n x (sym (there n b) ∙ e))))

      unknown : (n : List ℕ) → sessions' n ≡ None → asleep n ≡ false → (b : Bool) → bytes_eq name n ≡ b →
          IsPrefixOf (header_bytes n (header' n)) (notes' n)
      unknown n e awake true b = never (sym (here n b) ∙ e)
      unknown n e awake false b =
          subst (λ (z : Header). IsPrefixOf (header_bytes n z) (notes' n)) (sym (headers n))
          (subst (λ (z : Option (List ℕ)). IsPrefixOf (header_bytes n (header n)) z) (sym (note_other n b))
          (h.unknown n (sym (there n b) ∙ e) awake))

-- of each session the file comes first, then the entry of the next number
abbrev pub OrderIn : (List ℕ → Header) → (List ℕ → Option (List ℕ)) → (List ℕ → Option (List ℕ)) →
    (List ℕ → Option (List ℕ)) → (List ℕ → Option Session) → Type 0
OrderIn header notes first file sessions = (n : List ℕ) (x : Session) → sessions n ≡ Some x →
    FileComesFirst (header n) (first n) n x.progress.noted (NextIsCarriedOut (part_of x)) (notes n) (file n)

-- in a store and a journal that changed under one name alone
pub order_after : (header header' : List ℕ → Header) (notes notes' first file file' : List ℕ → Option (List ℕ))
    (sessions sessions' : List ℕ → Option Session) (name : List ℕ) (s : Session) →
    OrderIn header notes first file sessions → KeepsHeaders header header' → KeepsOthers notes notes' name →
    KeepsOthers file file' name →
    ((n : List ℕ) → sessions' n ≡ cond (bytes_eq name n) (Some s) (sessions n)) →
    FileComesFirst (header name) (first name) name s.progress.noted (NextIsCarriedOut (part_of s)) (notes' name)
    (file' name) → OrderIn header' notes' first file' sessions'
order_after header header' notes notes' first file file' sessions sessions' name s o headers keeps keeps' sets here =
    λ n x e. by_name n x e (bytes_eq name n) refl
  where
    some_same : {a b : Session} → Some a ≡ Some b → a ≡ b
    some_same e = cc

    by_name : (n : List ℕ) (x : Session) → sessions' n ≡ Some x → (b : Bool) → bytes_eq name n ≡ b →
        FileComesFirst (header' n) (first n) n x.progress.noted (NextIsCarriedOut (part_of x)) (notes' n) (file' n)
    by_name n x e true b =
        subst (λ (z : List ℕ). FileComesFirst (header' z) (first z) z x.progress.noted (NextIsCarriedOut (part_of x))
        (notes' z) (file' z)) (same_name name n b)
        (subst (λ (z : Session). FileComesFirst (header' name) (first name) name z.progress.noted
        (NextIsCarriedOut (part_of z)) (notes' name) (file' name))
        (some_same (sym (sets n ∙ ap (λ (v : Bool). cond v (Some s) (sessions n)) b) ∙ e))
        (subst (λ (z : Header). FileComesFirst z (first name) name s.progress.noted (NextIsCarriedOut (part_of s))
        (notes' name) (file' name)) (sym (headers name)) here))
    by_name n x e false b =
        subst (λ (z : Header). FileComesFirst z (first n) n x.progress.noted (NextIsCarriedOut (part_of x)) (notes' n)
        (file' n)) (sym (headers n))
        (subst (λ (z : Option (List ℕ)). FileComesFirst (header n) (first n) n x.progress.noted
        (NextIsCarriedOut (part_of x)) z (file' n)) (sym (keeps n (apart_names name n b)))
        (subst (λ (z : Option (List ℕ)). FileComesFirst (header n) (first n) n x.progress.noted
        (NextIsCarriedOut (part_of x)) (notes n) z) (sym (keeps' n (apart_names name n b)))
        (o n x (sym (sets n ∙ ap (λ (v : Bool). cond v (Some s) (sessions n)) b) ∙ e))))

-- the book that a message's replies report
module _ (book : Book) (m : Message) (replies : List ModelReply) (done : ℕ)
    (near : (not (is_known book m.name) && nat_le window m.number) ≡ false) where
  pub reported_here : log_of (book_reported book m replies done) m.name ≡ log_reported (log_of book m.name) m replies done
  reported_here = ap (λ (b : Bool). log_of (cond (b || is_turned_away replies) book
      (with_log book m.name (log_after (log_of book m.name) m done))) m.name) near ∙ go (is_turned_away replies)
    where
      go : (b : Bool) → log_of (cond b book (with_log book m.name (log_after (log_of book m.name) m done))) m.name
          ≡ cond b (log_of book m.name) (log_after (log_of book m.name) m done)
      go true = refl
      go false = log-with_log_same book m.name (log_after (log_of book m.name) m done)

  pub reported_others : (n : List ℕ) → bytes_eq m.name n ≡ false →
      log_of (book_reported book m replies done) n ≡ log_of book n
  reported_others n apart = go ((not (is_known book m.name) && nat_le window m.number) || is_turned_away replies)
    where
      go : (b : Bool) → log_of (cond b book (with_log book m.name (log_after (log_of book m.name) m done))) n
          ≡ log_of book n
      go true = refl
      go false = log-with_log_other book m.name n (log_after (log_of book m.name) m done) apart

-- a message that was turned away leaves the book
pub reported_away : (book : Book) (m : Message) (replies : List ModelReply) (done : ℕ) →
    ((not (is_known book m.name) && nat_le window m.number) || is_turned_away replies) ≡ true →
    book_reported book m replies done ≡ book
reported_away book m replies done away =
    ap (λ (b : Bool). cond b book (with_log book m.name (log_after (log_of book m.name) m done))) away

-- a message that is too far, or turned away, leaves the book
pub away_either : (book : Book) (m : Message) (replies : List ModelReply) → is_known book m.name ≡ false →
    (is_turned_away replies || nat_le window m.number) ≡ true →
    ((not (is_known book m.name) && nat_le window m.number) || is_turned_away replies) ≡ true
away_either book m replies unknown away =
    ap (λ (k : Bool). (not k && nat_le window m.number) || is_turned_away replies) unknown
    ∙ go (is_turned_away replies) (nat_le window m.number) away
  where
    go : (a b : Bool) → (a || b) ≡ true → (b || a) ≡ true
    go true true e = refl
    go true false e = refl
    go false true e = refl
    go false false e = e
