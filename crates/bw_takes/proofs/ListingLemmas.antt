-- The lines of one take after another.
use Rattle.std.proofs.Common.{◌≡◌, ℕ, Bool, List, [], ◌∷◌, ◌++◌, map, refl, sym, ◌∙◌, ap, subst, IsTrue, Bor}
use Rattle.std.proofs.Common.{Option}
use Rattle.std.specs.Prelude.{fold, Result, OnOk, Ok, Err}
use Rattle.std.proofs.Math.Path.{fun_ext}
use Rattle.std.proofs.lemmas.List.{map-append}
use Rattle.std.proofs.lemmas.List.Sums.{fold-append}
use Rattle.bw_disk.specs.DiskSteps.{StaysWhole}
use Rattle.bw_disk.specs.declared.disk.Disk.{Ghosts}
use Rattle.bw_takes.specs.declared.listing.ReportForm.{ReportForm}
use Rattle.bw_takes.specs.declared.unread.TakeEntry.{TakeEntry}
use Rattle.bw_takes.specs.TakeReports.{Told, TellsTake, told_after, nothing_told}

-- the names that were lent so far
abbrev pub lent : List (Bor (List ℕ)) → List (List ℕ)
lent ys = map (λ y. y.now) ys

-- the names of takes
abbrev pub names_of : List (List ℕ × Option TakeEntry) → List (List ℕ)
names_of takes = map (λ take. take.0) takes

-- what is told of these takes
pub record TellsOf (form : ReportForm) (folder : List ℕ) (contents : List ℕ → Option (List ℕ))
    (names : List (List ℕ)) (told : Told) : Type 0 where
  pub takes : List (List ℕ × Option TakeEntry)
  pub named : names_of takes ≡ names
  pub tells : told ≡ fold (told_after form folder contents) nothing_told takes

-- nothing of none
pub tells_none : (form : ReportForm) (folder : List ℕ) (contents : List ℕ → Option (List ℕ)) →
    TellsOf form folder contents [] nothing_told
tells_none form folder contents = record { takes = []; named = refl; tells = refl }

-- and one more
tells_more : (form : ReportForm) (folder : List ℕ) (contents : List ℕ → Option (List ℕ))
    (ys : List (Bor (List ℕ))) (y : Bor (List ℕ)) (before after : Told) →
    TellsOf form folder contents (lent ys) before → TellsTake form folder contents y.now before after →
    TellsOf form folder contents (lent (ys ++ y ∷ [])) after
tells_more form folder contents ys y before after so next =
    let take : List ℕ × Option TakeEntry = (y.now, next.0) in
    let f = told_after form folder contents in
    record {
      takes = so.takes ++ take ∷ [];
      named = map-append (λ (t : List ℕ × Option TakeEntry). t.0) so.takes (take ∷ [])
          ∙ ap (λ (ns : List (List ℕ)). ns ++ y.now ∷ []) so.named
          ∙ sym (map-append (λ (b : Bor (List ℕ)). b.now) ys (y ∷ []));
      tells = next.1 ∙ ap (λ (t : Told). f t take) so.tells ∙ sym (fold-append f nothing_told so.takes (take ∷ []));
    }

-- on a disk that is as it was
pub tells_next : {D F : Type 0} (G : Ghosts D F) (form : ReportForm) (folder : List ℕ) (d e : D) →
    StaysWhole G d e → IsTrue (G.honest d) → (ys : List (Bor (List ℕ))) (y : Bor (List ℕ)) (before after : Told) →
    TellsOf form folder (G.contents d) (lent ys) before →
    (IsTrue (G.honest e) → TellsTake form folder (G.contents e) y.now before after) →
    TellsOf form folder (G.contents d) (lent (ys ++ y ∷ [])) after
tells_next G form folder d e same honest ys y before after so next =
    tells_more form folder (G.contents d) ys y before after so
    (subst (λ (c : List ℕ → Option (List ℕ)). TellsTake form folder c y.now before after)
    (fun_ext (same.contents honest)) (next (subst IsTrue (sym same.honest) honest)))

pub told_same : (l m u v : List ℕ) (s t : Bool) → l ≡ m → u ≡ v → s ≡ t →
    ◌≡◌ {A = Told} (record { lines = l; unread = u; sound = s }) (record { lines = m; unread = v; sound = t })
told_same l m u v s t p q r =
    let told : List ℕ → List ℕ → Bool → Told = λ l u s. record { lines = l; unread = u; sound = s } in
    ap (λ (x : List ℕ). told x u s) p ∙ ap (λ (x : List ℕ). told m x s) q ∙ ap (λ (x : Bool). told m v x) r

-- a success that says something else too
pub on_ok : {X E P Q : Type 0} (r : Result X E) → (P → Q) → OnOk r P → OnOk r Q
on_ok (Ok x) f p = f p
on_ok (Err e) f p = tt
