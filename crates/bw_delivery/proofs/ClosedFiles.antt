-- The file of a closed take in a folder.
use Rattle.std.proofs.Common.{◌≡◌, inl, inr, ℕ, zero, suc, ◌<◌, Bool, true, false, cond, List, [], ◌∷◌, take, Option, Some, None, is_some}
use Rattle.std.proofs.Common.{refl, sym, ◌∙◌, ap, arith}
use Rattle.std.specs.Prelude.{fold, not, ◌&&◌}
use Rattle.std.specs.Bool.{MatchBool}
use Rattle.std.specs.List.{list_all}
use Rattle.std.proofs.lemmas.Bool.{false≢true}
use Rattle.bw_model.specs.Bytes.{at}
use Rattle.bw_model.specs.Take.{Take, Request, Open, Block, Mark, SetField, Close, NameTaken, BadFormat, new_take}
use Rattle.bw_model.specs.Take.{after, is_format, is_history_byte, is_stored, judge, with_request}
use Rattle.bw_model.specs.File.{file_of}
use Rattle.bw_model.specs.Book.{Log, Book, log_of, made, step}
use Rattle.bw_journal.proofs.ClosedForms.{closed_done}
use Rattle.bw_recovery.specs.LeftNames.{IsLeftName}
use Rattle.bw_kept.specs.KeptFolders.{IsOutOfTable, LiesInFolder}
use Rattle.bw_delivery.proofs.ClosedLaws.{closed_made}
use Rattle.bw_delivery.specs.Lives.{Folder, HasClosedFile, KeepsDoneNumbers}

whole_file : (b : Bool) (A B : Type 0) → b ≡ true → MatchBool b A B → A
whole_file true A B e h = h
whole_file false A B e h = absurd (false≢true e)

-- a take whose name was taken stays as it began
stays_taken : (r : Request) → after (new_take true) r ≡ new_take true
unfolding judge
stays_taken (Open f history) = go (not (is_format f && list_all is_history_byte history))
  where
    go : (v : Bool) → cond (is_stored (cond v BadFormat NameTaken)) (with_request (new_take true) (Open f history))
        (new_take true) ≡ new_take true
    go true = refl
    go false = refl
stays_taken (Block bytes) = refl
stays_taken (Mark id frame) = refl
stays_taken (SetField tag value) = refl
stays_taken (Close total) = refl

fold_taken : (s : List (Option Request)) → fold step (new_take true) s ≡ new_take true
fold_taken [] = refl
fold_taken (None ∷ s) = fold_taken s
fold_taken (Some r ∷ s) = ap (λ (t : Take). fold step t s) (stays_taken r) ∙ fold_taken s

made_taken : (s : List (Option Request)) (n : ℕ) → made true s n ≡ new_take true
unfolding made
made_taken s n = fold_taken (take n s)

left_file : (limit : ℕ) (first : Option (List ℕ)) (name : List ℕ) (log : Log) (journal file : Option (List ℕ)) →
    IsLeftName limit first name log journal file → (made (is_some first) log.admitted log.done).closed ≡ true →
    file ≡ file_of (made (is_some first) log.admitted log.done) limit
left_file limit (Some bytes) name log journal file left closed =
    absurd (false≢true (sym (ap (λ (t : Take). t.closed) (made_taken log.admitted log.done)) ∙ closed))
left_file limit None name log None file left closed =
    let done = closed_done log.admitted log.done closed in
    let none = left.0 in
    absurd (omega (arith, done, none))
left_file limit None name log (Some journal) file (inl begun) closed =
    whole_file (made false log.admitted log.done).closed _ _ closed begun.file
left_file limit None name log (Some journal) file (inr torn) closed =
    let done = closed_done log.admitted log.done closed in
    let none = torn.none in
    absurd (omega (arith, done, none))

lies_file : (limit : ℕ) (first : Option (List ℕ)) (name : List ℕ) (log : Log) (journal file : Option (List ℕ)) →
    LiesInFolder limit first name log journal file → (made (is_some first) log.admitted log.done).closed ≡ true →
    file ≡ file_of (made (is_some first) log.admitted log.done) limit
lies_file limit first name log journal file (inl left) closed = left_file limit first name log journal file left closed
lies_file limit (Some bytes) name log journal file (inr faulty) closed =
    absurd (false≢true (sym (ap (λ (t : Take). t.closed) (made_taken log.admitted log.done)) ∙ closed))
lies_file limit None name log journal file (inr faulty) closed =
    let done = closed_done log.admitted log.done closed in
    let none = faulty.none in
    absurd (omega (arith, done, none))

pub closed_lies : (limit : ℕ) (first : List ℕ → Option (List ℕ)) (book : Book) (f : Folder) (name : List ℕ) →
    IsOutOfTable limit (first name) name (log_of book name) (f.journals name) (f.files name) →
    HasClosedFile limit first book f name
closed_lies limit first book f name outside closed =
    lies_file limit (first name) name (log_of book name) (f.journals name) (f.files name) outside.lies closed

-- A closed take stays.

take_nil : {X : Type 0} (n : ℕ) → take {A = X} n [] ≡ []
take_nil zero = refl
take_nil (suc n) = refl

-- places that are the same below a number make the same take
same_made : (t : Take) (n : ℕ) (xs ys : List (Option Request)) → ((k : ℕ) → k < n → at ys k ≡ at xs k) →
    fold step t (take n ys) ≡ fold step t (take n xs)
same_made t zero xs ys same = refl
same_made t (suc n) [] [] same = refl
same_made t (suc n) [] (y ∷ ys) same =
    ap (λ (o : Option Request). fold step (step t o) (take n ys)) (same 0 (omega arith))
    ∙ same_made t n [] ys (λ k below. same (suc k) (omega (arith, below)))
    ∙ ap (λ (os : List (Option Request)). fold step t os) (take_nil n)
same_made t (suc n) (x ∷ xs) [] same =
    sym (ap (λ (os : List (Option Request)). fold step t os) (take_nil n))
    ∙ same_made t n xs [] (λ k below. same (suc k) (omega (arith, below)))
    ∙ ap (λ (o : Option Request). fold step (step t o) (take n xs)) (same 0 (omega arith))
same_made t (suc n) (x ∷ xs) (y ∷ ys) same =
    ap (λ (o : Option Request). fold step (step t o) (take n ys)) (same 0 (omega arith))
    ∙ same_made (step t x) n xs ys (λ k below. same (suc k) (omega (arith, below)))

pub closed_stays : (taken : Bool) (old new : Log) → KeepsDoneNumbers taken old new →
    (made taken old.admitted old.done).closed ≡ true →
    made taken new.admitted new.done ≡ made taken old.admitted old.done
unfolding made
closed_stays taken old new kept closed =
    let same = same_made (new_take taken) old.done old.admitted new.admitted kept.requests in
    closed_made (new_take taken) new.admitted old.done new.done kept.done
    (ap (λ (t : Take). t.closed) same ∙ closed) ∙ same
