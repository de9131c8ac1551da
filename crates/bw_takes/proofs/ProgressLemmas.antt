-- How far one take after another is, on a disk that stays as it is.
use Rattle.std.proofs.Common.{◌≡◌, ℕ, List, [], ◌∷◌, ◌++◌, map, sym, ◌∙◌, ap, subst, IsTrue, Bor, Option}
use Rattle.std.specs.List.{All}
use Rattle.std.proofs.Math.Path.{fun_ext}
use Rattle.std.proofs.lemmas.List.{map-append}
use Rattle.std.proofs.lemmas.List.Elements.{All-push}
use Rattle.bw_disk.specs.DiskSteps.{StaysWhole}
use Rattle.bw_disk.specs.declared.disk.Disk.{Ghosts}
use Rattle.bw_takes.specs.FolderProgress.{ShowsSummary}
use Rattle.bw_takes.specs.TakeReports.{summary_in}
use Rattle.bw_takes.specs.TakeSummaries.{TakeSummary}
use Rattle.bw_takes.specs.declared.comparing.Depth.TheVariants.{Journals}
use Rattle.bw_takes.specs.declared.progress.TakeProgress.{TakeProgress}
use Rattle.bw_takes.proofs.ListingLemmas.{lent}

-- one more name
pub names_next : (takes new : List TakeProgress) (take : TakeProgress) (ys : List (Bor (List ℕ)))
    (y : Bor (List ℕ)) → new ≡ takes ++ take ∷ [] → map (λ (t : TakeProgress). t.name) takes ≡ lent ys →
    take.name ≡ y.now → map (λ (t : TakeProgress). t.name) new ≡ lent (ys ++ y ∷ [])
names_next takes new take ys y is so named =
    ap (map (λ (t : TakeProgress). t.name)) is ∙ map-append (λ (t : TakeProgress). t.name) takes (take ∷ [])
    ∙ ap (λ (n : List ℕ). map (λ (t : TakeProgress). t.name) takes ++ n ∷ []) named
    ∙ ap (λ (ns : List (List ℕ)). ns ++ y.now ∷ []) so
    ∙ sym (map-append (λ (b : Bor (List ℕ)). b.now) ys (y ∷ []))

-- and one more take that is as far as is reported of it
pub each_next : {D F : Type 0} (G : Ghosts D F) (folder : List ℕ) (d e : D) (takes new : List TakeProgress)
    (take : TakeProgress) (name : List ℕ) (found : TakeSummary) → new ≡ takes ++ take ∷ [] → StaysWhole G d e →
    IsTrue (G.honest d) → All (λ t. ShowsSummary (summary_in Journals folder (G.contents d) t.name) t) takes → take.name ≡ name →
    ShowsSummary found take → (IsTrue (G.honest e) → found ≡ summary_in Journals folder (G.contents e) name) →
    All (λ t. ShowsSummary (summary_in Journals folder (G.contents d) t.name) t) new
each_next G folder d e takes new take name found pushed same honest so named shows is =
    let there : found ≡ summary_in Journals folder (G.contents d) take.name =
    is (subst IsTrue (sym same.honest) honest)
    ∙ ap (λ (c : List ℕ → Option (List ℕ)). summary_in Journals folder c name) (fun_ext (same.contents honest))
    ∙ ap (λ (n : List ℕ). summary_in Journals folder (G.contents d) n) (sym named) in
    subst (All (λ t. ShowsSummary (summary_in Journals folder (G.contents d) t.name) t)) (sym pushed)
    (All-push (λ t. ShowsSummary (summary_in Journals folder (G.contents d) t.name) t) takes take so
    (subst (λ (s : TakeSummary). ShowsSummary s take) there shows))
