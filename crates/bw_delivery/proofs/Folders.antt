-- Folders in which no server has run, and names of which something comes to be wrong.
use Rattle.std.proofs.Common.{◌≡◌, ◌≢◌, inl, inr, ℕ, Bool, true, false, List, Option, refl, sym, ◌∙◌, ap, subst}
use Rattle.std.specs.Prelude.{IsTrue}
use Rattle.std.specs.Str.{bytes_eq}
use Rattle.std.proofs.lemmas.Bool.{false≢true}
use Rattle.bw_model.specs.Wire.{is_name}
use Rattle.bw_model.specs.Book.{Log, log_of, is_known, no_log}
use Rattle.bw_model.specs.BookRules.{IsLog}
use Rattle.bw_model.proofs.BookLemmas.{name_refl, same_name}
use Rattle.bw_journal.specs.Stops.{without}
use Rattle.bw_journal.proofs.CutLaws.{log-without_same, log-without_other, known-without_same, known-without_other}
use Rattle.bw_kept.specs.FolderRuns.{ends_with_request}
use Rattle.bw_kept.specs.KeptFolders.{IsOutOfTable}
use Rattle.bw_delivery.specs.Lives.{NewFoldersAreEmpty, FaultsStayAlone}

pub new_folders_are_empty : NewFoldersAreEmpty
new_folders_are_empty limit f none = record {
  each = record { logs = λ name known. absurd (false≢true known); ends = λ name. refl };
  names = λ name named.
      subst (λ (o : Option (List ℕ)). IsOutOfTable limit (f.files name) name no_log o (f.files name)) (sym (none name))
      (record { quiet = refl; lies = inl (refl, refl) });
}

pub faults_stay_alone : FaultsStayAlone
faults_stay_alone limit first book name f g lies differs fault = record {
  each = record {
    logs = λ other known. logs other (bytes_eq name other) refl known;
    ends = λ other. ends other (bytes_eq name other) refl;
  };
  names = λ other named. outside other named (bytes_eq name other) refl;
}
  where
    logs : (other : List ℕ) (v : Bool) → bytes_eq name other ≡ v → IsTrue (is_known (without name book) other) →
        IsLog (log_of (without name book) other)
    logs other true e known = absurd (false≢true (sym (known-without_same book name other e) ∙ known))
    logs other false e known =
        subst IsLog (sym (log-without_other book name other e))
        (lies.each.logs other (sym (known-without_other book name other e) ∙ known))

    ends : (other : List ℕ) (v : Bool) → bytes_eq name other ≡ v →
        IsTrue (ends_with_request (log_of (without name book) other))
    ends other true e =
        subst (λ (l : Log). IsTrue (ends_with_request l)) (sym (log-without_same book name other e)) refl
    ends other false e =
        subst (λ (l : Log). IsTrue (ends_with_request l)) (sym (log-without_other book name other e)) (lies.each.ends other)

    outside : (other : List ℕ) → IsTrue (is_name other) → (v : Bool) → bytes_eq name other ≡ v →
        IsOutOfTable limit (first other) other (log_of (without name book) other) (g.journals other) (g.files other)
    outside other named true e =
        subst (λ (l : Log). IsOutOfTable limit (first other) other l (g.journals other) (g.files other))
        (sym (log-without_same book name other e))
        (subst (λ (x : List ℕ). IsOutOfTable limit (first x) x no_log (g.journals x) (g.files x)) (same_name name other e)
        (record { quiet = refl; lies = inr (record { none = refl; fault = fault }) }))
    outside other named false e =
        let another : other ≢ name =
        λ same. false≢true (sym e ∙ ap (λ (x : List ℕ). bytes_eq name x) same ∙ name_refl name) in
        subst (λ (l : Log). IsOutOfTable limit (first other) other l (g.journals other) (g.files other))
        (sym (log-without_other book name other e))
        (subst (λ (o : Option (List ℕ)). IsOutOfTable limit (first other) other (log_of book other) o (g.files other))
        (sym (differs.journals other another))
        (subst (λ (o : Option (List ℕ)). IsOutOfTable limit (first other) other (log_of book other) (f.journals other) o)
        (sym (differs.files other another)) (lies.names other named)))
