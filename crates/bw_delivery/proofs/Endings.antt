-- How paths of takes and of journals end.
use Rattle.std.proofs.Common.{◌≡◌, ◌∙◌, ℕ, ◌+◌, ◌-◌, Bool, true, false, List, ◌++◌, length, drop, take}
use Rattle.std.proofs.Common.{get_or, refl, sym, ap, arith, codes}
use Rattle.std.specs.Prelude.{◌==◌}
use Rattle.std.specs.List.{ends_with}
use Rattle.std.specs.Cmp.Lexicographic.{same_text, other_text}
use Rattle.std.proofs.lemmas.List.{length-append, take-append-drop, get_or-append-add}
use Rattle.std.proofs.Math.Seq.{drop-append_seam}
use Rattle.bw_folder.specs.Folders.{take_path}
use Rattle.bw_folder.specs.Journals.{journal_path}

no_bool : true ≡ false → ⊥
no_bool e = cc

-- what ends so ends so
pub ends_so : (xs ending : List ℕ) → ends_with ◌==◌ (xs ++ ending) ending ≡ true
ends_so xs ending = go (ends_with ◌==◌ (xs ++ ending) ending) refl
  where
    rest : drop (length (xs ++ ending) - length ending) (xs ++ ending) ≡ ending
    rest =
        let both : length (xs ++ ending) - length ending ≡ length xs = omega (arith, length-append xs ending) in
        ap (λ (n : ℕ). drop n (xs ++ ending)) both ∙ drop-append_seam xs ending

    go : (v : Bool) → ends_with ◌==◌ (xs ++ ending) ending ≡ v → v ≡ true
    go true e = refl
    go false e = absurd (other_text ending _ (sym e) (sym rest))

-- a text that ends with another byte doesn't end so
pub ends_other : (xs a b : List ℕ) (n k x y : ℕ) → get_or (xs ++ a) (length xs + n) 0 ≡ x →
    ((ys : List ℕ) → get_or (ys ++ b) (length ys + k) 0 ≡ y) → length a ≡ n + 1 → length b ≡ k + 1 → (x ≡ y → ⊥) →
    ends_with ◌==◌ (xs ++ a) b ≡ false
ends_other xs a b n k x y at_a at_b la lb apart = go (ends_with ◌==◌ (xs ++ a) b) refl
  where
    go : (v : Bool) → ends_with ◌==◌ (xs ++ a) b ≡ v → v ≡ false
    go false e = refl
    go true e =
        let cut = length (xs ++ a) - length b in
        let front = take cut (xs ++ a) in
        let text : b ≡ drop cut (xs ++ a) = same_text b (drop cut (xs ++ a)) (sym e) in
        let whole : xs ++ a ≡ front ++ b = sym (take-append-drop cut (xs ++ a)) ∙ ap (λ (t : List ℕ). front ++ t) (sym text) in
        let lens : length (xs ++ a) ≡ length (front ++ b) = ap length whole in
        let place : length xs + n ≡ length front + k =
        omega (arith, lens, length-append xs a, length-append front b, la, lb) in
        absurd (apart (sym at_a ∙ ap (λ (t : List ℕ). get_or t (length xs + n) 0) whole
        ∙ ap (λ (i : ℕ). get_or (front ++ b) i 0) place ∙ at_b front))

-- a path, by its ending
take_is : (folder name : List ℕ) → take_path folder name ≡ (folder ++ codes "/" ++ name) ++ codes ".wav"
unfolding take_path
take_is folder name = refl

journal_is : (folder name : List ℕ) → journal_path folder name ≡ (folder ++ codes "/" ++ name) ++ codes ".journal"
unfolding journal_path
journal_is folder name = refl

pub take_ends : (folder name : List ℕ) → ends_with ◌==◌ (take_path folder name) (codes ".wav") ≡ true
take_ends folder name =
    ap (λ (p : List ℕ). ends_with ◌==◌ p (codes ".wav")) (take_is folder name)
    ∙ ends_so (folder ++ codes "/" ++ name) (codes ".wav")

pub journal_ends : (folder name : List ℕ) → ends_with ◌==◌ (journal_path folder name) (codes ".journal") ≡ true
journal_ends folder name =
    ap (λ (p : List ℕ). ends_with ◌==◌ p (codes ".journal")) (journal_is folder name)
    ∙ ends_so (folder ++ codes "/" ++ name) (codes ".journal")

apart_one : ◌≡◌ {A = ℕ} 118 108 → ⊥
apart_one e = omega (arith, e)

apart_two : ◌≡◌ {A = ℕ} 108 118 → ⊥
apart_two e = omega (arith, e)

pub take_is_no_journal : (folder name : List ℕ) → ends_with ◌==◌ (take_path folder name) (codes ".journal") ≡ false
take_is_no_journal folder name =
    ap (λ (p : List ℕ). ends_with ◌==◌ p (codes ".journal")) (take_is folder name)
    ∙ ends_other (folder ++ codes "/" ++ name) (codes ".wav") (codes ".journal") 3 7 118 108
    (get_or-append-add (folder ++ codes "/" ++ name) (codes ".wav") 3 0)
    (λ ys. get_or-append-add ys (codes ".journal") 7 0) refl refl apart_one

pub journal_is_no_take : (folder name : List ℕ) → ends_with ◌==◌ (journal_path folder name) (codes ".wav") ≡ false
journal_is_no_take folder name =
    ap (λ (p : List ℕ). ends_with ◌==◌ p (codes ".wav")) (journal_is folder name)
    ∙ ends_other (folder ++ codes "/" ++ name) (codes ".journal") (codes ".wav") 7 3 108 118
    (get_or-append-add (folder ++ codes "/" ++ name) (codes ".journal") 7 0)
    (λ ys. get_or-append-add ys (codes ".wav") 3 0) refl refl apart_two
