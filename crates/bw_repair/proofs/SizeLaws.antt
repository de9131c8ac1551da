-- A file with other sizes.
use Rattle.std.proofs.Common.{◌≡◌, ◌⊎◌, ℕ, zero, suc, ◌+◌, ◌-◌, ◌≤◌, ◌<◌, List, [], ◌∷◌, ◌++◌, length, take}
use Rattle.std.proofs.Common.{drop, refl, sym, ◌∙◌, ap, arith}
use Rattle.std.proofs.Common.{append_assoc, subst, inl, inr, Option}
use Rattle.std.specs.Prelude.{slice_index, Result, Ok, Err, IfOk, IfErr}
use Rattle.std.proofs.lemmas.List.{drop-drop, drop_all}
use Rattle.std.proofs.Math.Seq.{take-length}
use Rattle.bw_model.specs.Bytes.{le32, zeros}
use Rattle.bw_store.specs.Stores.{overwritten}
use Rattle.bw_inspect.specs.Readings.{GivesReport, Refuses}
use Rattle.bw_inspect.specs.declared.fault.InspectFault.{InspectFault}
use Rattle.bw_inspect.specs.declared.report.Report.{Report}
use Rattle.bw_repair.specs.Overlays.{overlaid}
use Rattle.bw_repair.specs.RepairedFiles.{ChangesSizesAlone, FaultsAs, IsReadAs, with_sizes}
use Rattle.bw_repair.specs.declared.decision.Sizes.{Sizes}
use Rattle.bw_repair.proofs.Overlays.{overlaid-drop, overlaid-length, overlaid-none, overlaid-parted}

-- bytes that fit are written over those that were there
pub overlaid-is : (at : ℕ) (cs xs : List ℕ) → at + length cs ≤ length xs → overlaid at cs xs ≡ overwritten xs at cs
overlaid-is at [] xs h = overlaid-none at xs
overlaid-is at (c ∷ cs) xs h =
    let n : ℕ = length (c ∷ cs) in
    let none : at - length xs ≡ 0 = omega (arith, h) in
    let joined : take at xs ++ zeros (at - length xs) ≡ take at xs ++ [] =
    ap (λ (k : ℕ). take at xs ++ zeros k) none in
    overlaid-parted at n (c ∷ cs) xs (omega (arith, h)) (omega (arith, h))
    ∙ ap (λ (z : List ℕ). take at xs ++ (z ++ drop n (drop at xs))) (take-length (c ∷ cs))
    ∙ ap (λ (z : List ℕ). take at xs ++ ((c ∷ cs) ++ z)) (drop-drop n at xs)
    ∙ sym (ap (λ (z : List ℕ). (z ++ (c ∷ cs)) ++ drop (at + n) xs) joined
    ∙ simp append_assoc)

four : (n : ℕ) → length (le32 n) ≡ 4
four n = refl

-- the two sizes in the file as it is read
pub sizes_overlaid : (b : List ℕ) (p : ℕ) (s : Sizes) → 12 ≤ p → p + 8 ≤ length b →
    overlaid 4 (le32 s.form) (overlaid (p + 4) (le32 s.«data») b) ≡ with_sizes b p s
sizes_overlaid b p s low h =
    let inner : overlaid (p + 4) (le32 s.«data») b ≡ overwritten b (p + 4) (le32 s.«data») =
    overlaid-is (p + 4) (le32 s.«data») b (omega (arith, h, four s.«data»)) in
    let long = overlaid-length (p + 4) (le32 s.«data») b in
    overlaid-is 4 (le32 s.form) (overlaid (p + 4) (le32 s.«data») b) (omega (arith, h, low, long, four s.form))
    ∙ ap (λ (z : List ℕ). overwritten z 4 (le32 s.form)) inner

-- bytes elsewhere are what they were
overlaid-elsewhere : (at k : ℕ) (cs xs : List ℕ) → (k < at) ⊎ (at + length cs ≤ k) →
    slice_index (overlaid at cs xs) k ≡ slice_index xs k
unfolding overlaid
overlaid-elsewhere at k cs [] h = refl
overlaid-elsewhere zero k [] (x ∷ xs) h = refl
overlaid-elsewhere zero zero (c ∷ cs) (x ∷ xs) h = absurd (elim h [ inl e ↦ omega (arith, e) | inr e ↦ omega (arith, e) ])
overlaid-elsewhere zero (suc k) (c ∷ cs) (x ∷ xs) h =
    overlaid-elsewhere zero k cs xs (elim h [ inl e ↦ absurd (omega (arith, e)) | inr e ↦ inr (omega (arith, e)) ])
overlaid-elsewhere (suc at) zero cs (x ∷ xs) h = refl
overlaid-elsewhere (suc at) (suc k) cs (x ∷ xs) h =
    overlaid-elsewhere at k cs xs (elim h [ inl e ↦ inl (omega (arith, e)) | inr e ↦ inr (omega (arith, e)) ])

-- only the sizes change
pub sizes_alone : (b : List ℕ) (p : ℕ) (s : Sizes) → 12 ≤ p → p + 8 ≤ length b → ChangesSizesAlone b p s
sizes_alone b p s low h =
    let inner : List ℕ = overlaid (p + 4) (le32 s.«data») b in
    let is : overlaid 4 (le32 s.form) inner ≡ with_sizes b p s = sizes_overlaid b p s low h in
    let gone : drop (p + 8 - 4) (le32 s.form) ≡ [] = drop_all (p + 8 - 4) (le32 s.form) (omega (arith, four s.form)) in
    let gone' : drop (p + 8 - (p + 4)) (le32 s.«data») ≡ [] =
    drop_all (p + 8 - (p + 4)) (le32 s.«data») (omega (arith, four s.«data»)) in
    record {
      as_long = ap length (sym is) ∙ overlaid-length 4 (le32 s.form) inner
          ∙ overlaid-length (p + 4) (le32 s.«data») b;
      samples = ap (drop (p + 8)) (sym is) ∙ overlaid-drop (p + 8) 4 (le32 s.form) inner
          ∙ ap (λ (z : List ℕ). overlaid (4 - (p + 8)) z (drop (p + 8) inner)) gone
          ∙ overlaid-none (4 - (p + 8)) (drop (p + 8) inner)
          ∙ overlaid-drop (p + 8) (p + 4) (le32 s.«data») b
          ∙ ap (λ (z : List ℕ). overlaid (p + 4 - (p + 8)) z (drop (p + 8) b)) gone'
          ∙ overlaid-none (p + 4 - (p + 8)) (drop (p + 8) b);
      others = λ k out.
          ap (λ (z : List ℕ). slice_index z k) (sym is)
          ∙ overlaid-elsewhere 4 k (le32 s.form) inner
          (elim out.0 [ inl e ↦ inl e | inr e ↦ inr (omega (arith, e, four s.form)) ])
          ∙ overlaid-elsewhere (p + 4) k (le32 s.«data») b
          (elim out.1 [ inl e ↦ inl e | inr e ↦ inr (omega (arith, e, four s.«data»)) ]);
    }

-- a report of the file as it is read is one of the file with its sizes
pub reads_as : (b whole : List ℕ) (r : Report) (left : Option (List ℕ)) → GivesReport whole r left →
    whole ≡ b → IsReadAs b r
reads_as b whole r left given is =
    subst (λ (z : List ℕ). IsReadAs z r) is (record { reading_is = given.reading_is; reports = given.reports })

pub faults_as : (b whole : List ℕ) (f : InspectFault) (left : Option (List ℕ)) → Refuses whole f left →
    whole ≡ b → FaultsAs b f
faults_as b whole f left given is = subst (λ (z : List ℕ). FaultsAs z f) is given.fault

pub if_ok : {X E : Type 0} (r : Result X E) (P Q : X → Type 0) → ((x : X) → P x → Q x) → IfOk r P → IfOk r Q
if_ok (Ok x) P Q f p = f x p
if_ok (Err e) P Q f p = tt

pub if_err : {X E : Type 0} (r : Result X E) (P Q : E → Type 0) → ((e : E) → P e → Q e) → IfErr r P → IfErr r Q
if_err (Ok x) P Q f p = tt
if_err (Err e) P Q f p = f e p
