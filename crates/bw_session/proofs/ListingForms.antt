-- What a server knows of its names.
use Rattle.std.proofs.Common.{◌≡◌, ℕ, Bool, false, List, [], Option, Some, None, sym, ◌∙◌, ap, subst, arith}
use Rattle.std.specs.Prelude.{is_some, option_map}
use Rattle.std.specs.Cmp.{IsEquivalence}
use Rattle.std.specs.HashMap.{IsUnique, keys}
use Rattle.std.specs.Str.{bytes_eq}
use Rattle.std.proofs.lemmas.Map.Views.{hash_map_contains_key_iff}
use Rattle.bw_model.specs.Take.{Parts}
use Rattle.bw_model.specs.Book.{Log, Book, log_of, is_known, made}
use Rattle.bw_model.specs.Holds.{Store, Holds}
use Rattle.bw_model.proofs.BookLemmas.{name_refl, same_name, unknown_log}
use Rattle.bw_session.specs.KnownNames.{KnowsTaken, ListsNames, is_known_in}
use Rattle.bw_session.specs.Servers.{kept_by}
use Rattle.bw_session.specs.Tables.{Table, session_in}
use Rattle.bw_session.specs.declared.session.Session.{Session}
use Rattle.bw_session.proofs.AdmitForms.{no_false}
use Rattle.bw_session.proofs.CountForms.{eq_sym}
use Rattle.bw_session.proofs.ReportForms.{holds_name, is_mapped, unknown_reported}

-- nothing was admitted under an unknown name
new_format : (existed : Bool) (log : Log) → log ≡ record { admitted = []; done = 0 } →
    None ≡ (made existed log.admitted log.done).format
unfolding made
new_format existed log is = ap (λ (l : Log). (made existed l.admitted l.done).format) (sym is)

module _ (limit : ℕ) (store : Store) (sessions : List ℕ → Option Session) (book : Book)
    (h : Holds limit store (λ n. option_map kept_by (sessions n)) book) (name : List ℕ) where
  module _ (s : Session) (found : sessions name ≡ Some s) where
    pub format_known : s.progress.state.parts.format
        ≡ (made (is_some (store.first name)) (log_of book name).admitted (log_of book name).done).format
    format_known = ap (λ (p : Parts). p.format) (holds_name limit store sessions book h name s found).state

    pub taken_known : KnowsTaken (is_some (store.first name)) (log_of book name) s.progress.state.parts.taken
    taken_known =
        let holds = holds_name limit store sessions book h name s found in
        record { only = holds.taken; reported = holds.reported }

  pub format_unknown : sessions name ≡ None →
      None ≡ (made (is_some (store.first name)) (log_of book name).admitted (log_of book name).done).format
  format_unknown none =
      new_format (is_some (store.first name)) (log_of book name)
      (unknown_log book name (unknown_reported limit store sessions book h name none))

  pub taken_unknown : sessions name ≡ None → KnowsTaken (is_some (store.first name)) (log_of book name) false
  taken_unknown none =
      let empty = unknown_log book name (unknown_reported limit store sessions book h name none) in
      record {
        only = λ e. no_false e;
        reported = λ n below is.
            let none_done : (log_of book name).done ≡ 0 = ap (λ (l : Log). l.done) empty in
            absurd (omega (arith, below, none_done));
      }

names_differ : IsEquivalence bytes_eq
names_differ = record {
  refl = name_refl;
  symm = eq_sym;
  congr = λ x y z e. ap (λ w. bytes_eq w z) (same_name x y e);
}

-- a server knows the names that are the keys of its table
pub keys_listed : {H : Type 0} (sessions : Table H) (names : List (List ℕ)) → names ≡ keys sessions →
    IsUnique bytes_eq sessions → ListsNames (is_known_in sessions) names
keys_listed sessions names are unique = subst (ListsNames (is_known_in sessions)) (sym are) (record {
  each = λ name.
      let has = hash_map_contains_key_iff names_differ same_name sessions name in
      let plain = is_mapped kept_by (session_in sessions name) in
      (λ known. has.0 (sym plain ∙ known), λ listed. plain ∙ has.1 listed);
  once = unique;
})

-- and so does the book that it holds
pub book_listed : (book : Book) (known : List ℕ → Bool) (names : List (List ℕ)) →
    ((name : List ℕ) → is_known book name ≡ known name) → ListsNames known names → ListsNames (is_known book) names
book_listed book known names same listed = record {
  each = λ name. (
    λ is. (listed.each name).0 (sym (same name) ∙ is),
    λ has. same name ∙ (listed.each name).1 has,
  );
  once = listed.once;
}
