-- What is reported of receipts, one after another.
use Rattle.std.proofs.Common.{◌≡◌, ◌<◌, ◌+◌, ℕ, List, [], ◌∷◌, ◌++◌, take, length, get_or, map, refl, sym, ◌∙◌, ap, subst, IsTrue}
use Rattle.std.proofs.Common.{Option, ◌≤◌}
use Rattle.std.specs.Prelude.{IfErr, IfOk, Result, Ok, Err, Vec}
use Rattle.std.specs.declared.alloc.Global.{Global}
use Rattle.bw_disk.specs.declared.reading.ReadFault.{ReadFault}
use Rattle.bw_disk.specs.declared.reading.ReadFault.TheVariants.{Memory}
use Rattle.std.specs.Prelude.{fold}
use Rattle.std.proofs.Math.Path.{fun_ext}
use Rattle.std.proofs.lemmas.List.{map-append, take_all, take_more}
use Rattle.std.proofs.lemmas.List.Sums.{fold-append}
use Rattle.bw_disk.specs.DiskSteps.{StaysWhole}
use Rattle.bw_disk.specs.declared.disk.Disk.{Ghosts}
use Rattle.bw_take_files.specs.declared.receipts.receipt.Receipt.{Receipt}
use Rattle.bw_takes.specs.JudgedTakes.{JudgedTake}
use Rattle.bw_takes.specs.ReadCounts.{CountsFault, CountsReport, Rises, has_lines}
use Rattle.bw_takes.specs.TakeReports.{Told}
use Rattle.bw_takes.specs.VerifiedTakes.{VerifiesTake}
use Rattle.bw_takes.specs.Verifications.{Verified, VerifiesTakes, nothing_verified, verified_after, verified_told}
use Rattle.bw_takes.specs.Verifications.{wrong_judged}
use Rattle.bw_takes.specs.declared.hashing.SampleDigest.{SampleDigest}
use Rattle.bw_takes.specs.declared.listing.TakesReport.{TakesReport}
use Rattle.bw_takes.specs.declared.unread.TakeEntry.{TakeEntry}

-- what is reported of these receipts
pub record VerifiesOf (folder : List ℕ) (contents : List ℕ → Option (List ℕ)) (receipts : List Receipt)
    (v : Verified) : Type 0 where
  pub takes : List (Receipt × Option TakeEntry)
  pub of : map (λ (t : Receipt × Option TakeEntry). t.0) takes ≡ receipts
  pub tells : v ≡ fold (verified_after folder contents) nothing_verified takes

-- nothing of none
pub verifies_none : (folder : List ℕ) (contents : List ℕ → Option (List ℕ)) →
    VerifiesOf folder contents [] nothing_verified
verifies_none folder contents = record { takes = []; of = refl; tells = refl }

-- and one more
verifies_more : (folder : List ℕ) (contents : List ℕ → Option (List ℕ)) (rs : List Receipt) (r : Receipt)
    (before after : Verified) → VerifiesOf folder contents rs before → VerifiesTake folder contents r before after →
    VerifiesOf folder contents (rs ++ r ∷ []) after
verifies_more folder contents rs r before after so next =
    let take : Receipt × Option TakeEntry = (r, next.0) in
    let f = verified_after folder contents in
    record {
      takes = so.takes ++ take ∷ [];
      of = map-append (λ (t : Receipt × Option TakeEntry). t.0) so.takes (take ∷ [])
          ∙ ap (λ (ns : List Receipt). ns ++ r ∷ []) so.of;
      tells = next.1 ∙ ap (λ (v : Verified). f v take) so.tells
          ∙ sym (fold-append f nothing_verified so.takes (take ∷ []));
    }

-- on a disk that is as it was
pub verifies_next : {D F : Type 0} (G : Ghosts D F) (folder : List ℕ) (d e : D) → StaysWhole G d e →
    IsTrue (G.honest d) → (rs : List Receipt) (i : ℕ) (r : Receipt) (before after : Verified) → i < length rs →
    r ≡ get_or rs i r → VerifiesOf folder (G.contents d) (take i rs) before →
    (IsTrue (G.honest e) → VerifiesTake folder (G.contents e) r before after) →
    VerifiesOf folder (G.contents d) (take (i + 1) rs) after
verifies_next G folder d e same honest rs i r before after below is so next =
    subst (λ (xs : List Receipt). VerifiesOf folder (G.contents d) xs after)
    (sym (take_more rs i r below ∙ ap (λ (x : Receipt). take i rs ++ x ∷ []) (sym is)))
    (verifies_more folder (G.contents d) (take i rs) r before after so
    (subst (λ (c : List ℕ → Option (List ℕ)). VerifiesTake folder c r before after)
    (fun_ext (same.contents honest)) (next (subst IsTrue (sym same.honest) honest))))

pub verified_same : (l m u v : List ℕ) (n k : ℕ) → l ≡ m → u ≡ v → n ≡ k →
    ◌≡◌ {A = Verified} (record { lines = l; unread = u; matched = n }) (record { lines = m; unread = v; matched = k })
verified_same l m u v n k p q r =
    let made : List ℕ → List ℕ → ℕ → Verified = λ l u n. record { lines = l; unread = u; matched = n } in
    ap (λ (x : List ℕ). made x u n) p ∙ ap (λ (x : List ℕ). made m x n) q ∙ ap (λ (x : ℕ). made m v x) r

-- what is wrong with a take of which this is found, on a disk that is as it was
pub wrong_found : (r : Receipt) (j k : JudgedTake) (file before : Option (List ℕ)) (d e : SampleDigest)
    (word : Option (List ℕ)) → j ≡ k → file ≡ before → d ≡ e → word ≡ wrong_judged r j file d →
    word ≡ wrong_judged r k before e
wrong_found r j k file before d e word judged same hashed is =
    is ∙ ap (λ (x : JudgedTake). wrong_judged r x file d) judged ∙ ap (λ (x : Option (List ℕ)). wrong_judged r k x d) same
    ∙ ap (λ (x : SampleDigest). wrong_judged r k before x) hashed

-- the report of all receipts
pub verifies_all : (folder : List ℕ) (contents : List ℕ → Option (List ℕ)) (rs : List Receipt) (i : ℕ) (all : ℕ)
    (v : Verified) (told : Told) → length rs ≤ i → all ≡ length rs → VerifiesOf folder contents (take i rs) v →
    told ≡ verified_told all v → VerifiesTakes rs folder contents told
verifies_all folder contents rs i all v told past counted so is = record {
  takes = so.takes;
  of = so.of ∙ take_all i rs past;
  tells = is ∙ ap (λ (n : ℕ). verified_told n v) counted ∙ ap (λ (x : Verified). verified_told (length rs) x) so.tells;
}

-- how often calls had failed once all receipts were compared
pub counts_end : (before after : ℕ) (result : Result TakesReport ReadFault) (unread : Vec ℕ Global) →
    Rises before after (has_lines unread.items) → IfOk result (λ report. report.unread ≡ unread) →
    IfErr result (λ fault. fault ≡ Memory) → CountsReport before after result
counts_end before after (Ok report) unread so same is =
    subst (λ (v : Vec ℕ Global). Rises before after (has_lines v.items)) (sym same) so
counts_end before after (Err fault) unread so same is =
    subst (λ (f : ReadFault). CountsFault before after f) (sym is) so.grows
