-- What is shown of the names that a server knows.
use Rattle.std.proofs.Common.{◌≡◌, ◌∙◌, ◌<◌, ◌+◌, ℕ, Bool, true, false, cond, Option, List, [], ◌∷◌, ◌++◌}
use Rattle.std.proofs.Common.{map, take, length, get_or, refl, sym, ap, subst}
use Rattle.std.proofs.lemmas.List.{map-append, take_more}
use Rattle.std.proofs.lemmas.List.Elements.{All-contains_itself, All-get_or, All-push, All-same, All-weaker}
use Rattle.std.proofs.lemmas.List.Sorted.{Contains-permutation, IsPermutation-sym}
use Rattle.std.proofs.lemmas.Map.Keys.{IsDistinct-IsPermutation}
use Rattle.std.specs.Cmp.Lexicographic.{slice_cmp}
use Rattle.std.specs.Ordering.{nat_cmp}
use Rattle.std.specs.Prelude.{is_some, option_map, IsTrue, Some, None, Ok, Err, Result, IfOk, unwrap_or, ◌&&◌}
use Rattle.std.specs.List.{All, Contains}
use Rattle.std.specs.List.Sorted.{IsPermutation, IsSorted}
use Rattle.std.specs.Str.{bytes_eq}
use Rattle.bw_model.proofs.BookLaws.{apart_sym}
use Rattle.bw_model.specs.Book.{Book, Log, is_known, log_of}
use Rattle.bw_session.specs.Books.{of_known}
use Rattle.bw_session.specs.KnownNames.{ListsNames}
use Rattle.bw_serve.specs.declared.peer_slot.PeerSlot.{PeerSlot}
use Rattle.bw_model.specs.Take.{Format}
use Rattle.bw_status.specs.declared.snapshot.SoundFormat.{SoundFormat}
use Rattle.bw_status.specs.declared.snapshot.TakeStatus.{TakeStatus}
use Rattle.bw_serve_status.specs.Takes.{ShowsOf, ShowsTake, ShowsTakes, sound_of, state_for, take_name}
use Rattle.bw_serve_status.specs.declared.name_tally.NameTally.{NameTally}
use Rattle.bw_serve_status.specs.declared.snapshots.Surroundings.{Surroundings}

flips : (x y : List ℕ) → bytes_eq x y ≡ bytes_eq y x
flips x y = go (bytes_eq x y) (bytes_eq y x) refl refl
  where
    go : (a b : Bool) → bytes_eq x y ≡ a → bytes_eq y x ≡ b → bytes_eq x y ≡ bytes_eq y x
    go true true p q = p ∙ sym q
    go false false p q = p ∙ sym q
    go true false p q = apart_sym y x q ∙ sym q
    go false true p q = p ∙ sym (apart_sym x y p)

-- names are listed in another order
pub listed_sorted : (is_listed : List ℕ → Bool) (xs ys : List (List ℕ)) → IsPermutation xs ys →
    ListsNames is_listed xs → ListsNames is_listed ys
listed_sorted is_listed xs ys p l = record {
  each = λ n. (
    (λ h. Contains-permutation xs ys n p ((l.each n).0 h)),
    (λ h. (l.each n).1 (Contains-permutation ys xs n (IsPermutation-sym xs ys p) h)),
  );
  once = IsDistinct-IsPermutation bytes_eq flips xs ys p l.once;
}

-- the names that are listed are known
pub all_listed : (is_listed : List ℕ → Bool) (names : List (List ℕ)) → ListsNames is_listed names →
    All (λ n. IsTrue (is_listed n)) names
all_listed is_listed names l =
    All-weaker (Contains names) (λ n. IsTrue (is_listed n)) (λ n h. (l.each n).1 h) names (All-contains_itself names)

-- what the log of a known name says
pub known_or : (book : Book) (name : List ℕ) (f : Log → ℕ) (r : Option ℕ) → IsTrue (is_known book name) →
    r ≡ of_known book name f → unwrap_or r 0 ≡ f (log_of book name)
known_or book name f r known e =
    ap (λ x. unwrap_or x 0) (e ∙ ap (λ b. cond b (Some (f (log_of book name))) None) known)

-- what is shown of a name is shown under it
pub shows_under : (existed : List ℕ → Bool) (book : Book) (tallies : List NameTally) (peers : List PeerSlot)
    (around : Surroundings) (name : List ℕ) (t : TakeStatus) → take_name t ≡ name →
    ShowsTake (existed name) (log_of book name) tallies peers around name t →
    ShowsOf existed book tallies peers around t
shows_under existed book tallies peers around name t e h =
    subst (λ n. ShowsTake (existed n) (log_of book n) tallies peers around n t) (sym e) h

-- the names that are shown, with one more
pub names_more : (names : List (List ℕ)) (i : ℕ) (name : List ℕ) (takes takes' : List TakeStatus) (t : TakeStatus) →
    i < length names → name ≡ get_or names i name → takes' ≡ takes ++ t ∷ [] → take_name t ≡ name →
    map take_name takes ≡ take i names → map take_name takes' ≡ take (i + 1) names
names_more names i name takes takes' t less is pushed named same =
    ap (map take_name) pushed ∙ map-append take_name takes (t ∷ []) ∙ ap (λ xs. xs ++ take_name t ∷ []) same
    ∙ ap (λ n. take i names ++ n ∷ []) (named ∙ is) ∙ sym (take_more names i name less)

-- what is shown of them, with one more
pub each_more : (existed : List ℕ → Bool) (book : Book) (tallies : List NameTally) (peers : List PeerSlot)
    (around : Surroundings) (name : List ℕ) (takes takes' : List TakeStatus) (t : TakeStatus) →
    takes' ≡ takes ++ t ∷ [] → take_name t ≡ name →
    ShowsTake (existed name) (log_of book name) tallies peers around name t →
    All (ShowsOf existed book tallies peers around) takes →
    All (ShowsOf existed book tallies peers around) takes'
each_more existed book tallies peers around name takes takes' t pushed named shows each =
    All-same (ShowsOf existed book tallies peers around) takes' (takes ++ t ∷ []) pushed
    (All-push (ShowsOf existed book tallies peers around) takes t each
    (shows_under existed book tallies peers around name t named shows))

-- the name at a place is known
pub known_at : (is_listed : List ℕ → Bool) (names : List (List ℕ)) (i : ℕ) (name : List ℕ) → i < length names →
    name ≡ get_or names i name → All (λ n. IsTrue (is_listed n)) names → IsTrue (is_listed name)
known_at is_listed names i name less is all =
    subst (λ n. IsTrue (is_listed n)) (sym is) (All-get_or (λ n. IsTrue (is_listed n)) names i name less all)

-- how far a take is, by the format that is shown
pub shown_state : (stood b closed : Bool) (f : Option SoundFormat) (h : Option Format) → b ≡ closed →
    f ≡ option_map sound_of h → state_for stood b (is_some f) ≡ state_for stood closed (is_some h)
shown_state stood b closed f None e d = rw (e, d) refl
shown_state stood b closed f (Some x) e d = rw (e, d) refl

-- whether a known name's take is closed
pub known_closed : (book : Book) (name : List ℕ) (closed r : Bool) → IsTrue (is_known book name) →
    r ≡ (is_known book name && closed) → r ≡ closed
known_closed book name closed r known e = e ∙ ap (λ b. b && closed) known

-- the takes, each name once and in order
pub shows_takes : {V E : Type 0} (items : V → List TakeStatus) (existed : List ℕ → Bool) (book : Book)
    (tallies : List NameTally) (peers : List PeerSlot) (around : Surroundings) (names : List (List ℕ))
    (r : Result V E) →
    ListsNames (is_known book) names → IsSorted (slice_cmp nat_cmp) names →
    IfOk r (λ takes. map take_name (items takes) ≡ names) →
    IfOk r (λ takes. All (ShowsOf existed book tallies peers around) (items takes)) →
    IfOk r (λ takes. ShowsTakes existed book tallies peers around (items takes))
shows_takes items existed book tallies peers around names (Ok takes) known in_order same each = record {
  known = subst (ListsNames (is_known book)) (sym same) known;
  in_order = subst (IsSorted (slice_cmp nat_cmp)) (sym same) in_order;
  each = each;
}
shows_takes items existed book tallies peers around names (Err e) known in_order same each = tt
