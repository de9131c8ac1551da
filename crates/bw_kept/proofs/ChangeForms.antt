-- One name of a table, and what is left of a name.
use Rattle.std.proofs.Common.{◌≡◌, inl, ℕ, ◌<◌, Bool, true, false, cond, not, ◌||◌, ◌&&◌, List, []}
use Rattle.std.proofs.Common.{Option, Some, None, is_some, refl, sym, ◌∙◌, ap, subst, arith}
use Rattle.std.specs.Prelude.{IsTrue}
use Rattle.std.specs.Str.{bytes_eq}
use Rattle.std.specs.List.{list_all, list_any}
use Rattle.std.proofs.lemmas.List.{append-nil}
use Rattle.bw_model.specs.Book.{Log, Book, no_log, log_of, is_known, made}
use Rattle.bw_model.specs.BookRules.{IsLog}
use Rattle.bw_model.specs.ReadBack.{is_admitted}
use Rattle.bw_model.proofs.BookLemmas.{name_refl, unknown_log}
use Rattle.bw_model.proofs.MadeTakes.{is_made}
use Rattle.bw_journal.specs.JournalHeaders.{Header}
use Rattle.bw_journal.specs.NotedJournals.{journal_of}
use Rattle.bw_session.specs.TableChanges.{with_first}
use Rattle.bw_session.specs.WriteOrders.{file_due}
use Rattle.bw_recovery.specs.Left.{IsLeftFile}
use Rattle.bw_recovery.specs.LeftNames.{header_beside, IsLeftName}
use Rattle.bw_session.specs.TableChanges.{with_asleep}
use Rattle.bw_kept.proofs.KeptForms.{never}
use Rattle.bw_kept.proofs.LeftEntries.{nothing_cut}
use Rattle.bw_kept.proofs.LeftNames.{header_is}
use Rattle.bw_kept.proofs.OpenFiles.{left_file}

-- what is in one place of a table by name, and in the others
pub first_there : (now : List ℕ → Option (List ℕ)) (name : List ℕ) (content : Option (List ℕ)) →
    with_first now name content name ≡ content
first_there now name content = ap (λ (b : Bool). cond b content (now name)) (name_refl name)

pub first_else : (now : List ℕ → Option (List ℕ)) (name : List ℕ) (content : Option (List ℕ)) (n : List ℕ) →
    bytes_eq name n ≡ false → with_first now name content n ≡ now n
first_else now name content n e = ap (λ (b : Bool). cond b content (now n)) e

pub asleep_else : (asleep : List ℕ → Bool) (name : List ℕ) (value : Bool) (n : List ℕ) → bytes_eq name n ≡ false →
    with_asleep asleep name value n ≡ asleep n
asleep_else asleep name value n e = ap (λ (b : Bool). cond b value (asleep n)) e

pub asleep_there : (asleep : List ℕ → Bool) (name : List ℕ) (value : Bool) (n : List ℕ) → bytes_eq name n ≡ true →
    with_asleep asleep name value n ≡ value
asleep_there asleep name value n e = ap (λ (b : Bool). cond b value (asleep n)) e

pub and_false : (a : Bool) → a && false ≡ false
and_false true = refl
and_false false = refl

pub known_not : (a : Bool) → not (a || false) ≡ false → a ≡ true
known_not true e = refl
known_not false e = never (sym e)

-- a name whose journal is whole, and whose file is that of its log, is left
pub whole_left : (limit : ℕ) (first : Option (List ℕ)) (name : List ℕ) (log : Log) (h : Header)
    (journal file : Option (List ℕ)) → IsTrue (list_all is_admitted log.admitted) → h.limit ≡ limit →
    h.existed ≡ is_some first → journal ≡ Some (journal_of h name log) → file ≡ file_due first log limit →
    IsLeftName limit first name log journal file
whole_left limit first name log h journal file right same existed notes is =
    subst (λ (o : Option (List ℕ)). IsLeftName limit first name log o file) (sym notes)
    (inl (record {
      tail = [];
      cut = nothing_cut;
      notes = ap (λ (x : Header). journal_of x name log) (header_is h limit first same existed)
          ∙ sym (append-nil (journal_of (header_beside limit first) name log));
      file = of_first first is;
    }))
  where
    none_some : {X : Type 0} {x : X} → None ≡ Some x → ⊥
    none_some e = cc

    some_none : {X : Type 0} {x : X} → Some x ≡ None → ⊥
    some_none e = cc

    of_first : (o : Option (List ℕ)) → file ≡ file_due o log limit →
        IsLeftFile o (made (is_some o) log.admitted log.done) limit file
    of_first (Some bytes) e = e
    of_first None e =
        left_file None (made false log.admitted log.done) limit None file
        (is_made false log.admitted log.done right).fields (λ bytes none. absurd (none_some none)) (λ none. inl e)

-- a log has an admitted request
log_some : (log : Log) → IsLog log → (log ≡ no_log → ⊥)
log_some log l none = absurd (false_true (ap (λ (x : Log). list_any is_some x.admitted) (sym none) ∙ l.some))
  where
    false_true : false ≡ true → ⊥
    false_true e = cc

pub known_log : (book : Book) (name : List ℕ) → IsLog (log_of book name) → is_known book name ≡ true
known_log book name l = go (is_known book name) refl
  where
    go : (v : Bool) → is_known book name ≡ v → is_known book name ≡ true
    go true e = e
    go false e = absurd (log_some (log_of book name) l (unknown_log book name e))

pub done_known : (book : Book) (name : List ℕ) → 0 < (log_of book name).done → is_known book name ≡ true
done_known book name some = go (is_known book name) refl
  where
    go : (v : Bool) → is_known book name ≡ v → is_known book name ≡ true
    go true e = e
    go false e =
        let none = ap (λ (l : Log). l.done) (unknown_log book name e) in absurd (omega (arith, some, none))
