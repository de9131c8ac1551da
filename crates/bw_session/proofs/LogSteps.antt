-- One more number of a log is done.
use Rattle.std.proofs.Common.{◌≡◌, ℕ, zero, suc, ◌+◌, ◌%◌, ◌≤◌, Bool, true, false, cond, not, ◌&&◌, ◌==◌, List, []}
use Rattle.std.proofs.Common.{◌∷◌, ◌++◌, length, take, Option, Some, None, refl, sym, ◌∙◌, ap, subst, arith, inl, inr}
use Rattle.std.specs.Prelude.{IsTrue, is_some, fold, nat_lt, nat_le}
use Rattle.std.specs.List.{list_all, list_any}
use Rattle.std.proofs.lemmas.Bool.{cases_lt}
use Rattle.std.proofs.lemmas.List.{length_push}
use Rattle.std.proofs.lemmas.List.Sums.{fold-append}
use Rattle.sha2.specs.Sha256.{sha256}
use Rattle.bw_model.specs.Bytes.{at}
use Rattle.bw_model.specs.Take.{Take, Parts, Format, Request, Open, Block, Mark, SetField, Close, Verdict, Stored}
use Rattle.bw_model.specs.Take.{NameTaken, Closed, BadFormat, BadBlock, BadMarker, DuplicateMarker, TooManyMarkers}
use Rattle.bw_model.specs.Take.{BadField, WrongTotal, new_take, parts, judge, judge_open, is_format, is_history_byte}
use Rattle.bw_model.specs.Take.{block_align, frames, field_fault, verdict, is_stored, with_request, after}
use Rattle.bw_model.specs.Book.{Log, made, step, verdict_at, verdict_by}
use Rattle.bw_model.specs.Holds.{body_of, finished_from}
use Rattle.bw_take.specs.States.{FollowsTakes}
use Rattle.bw_session.specs.DoneNumbers.{KeepsDone}

-- the first n places and the next
pub take_next : (s : List (Option Request)) (n : ℕ) (r : Request) → at s n ≡ Some r →
    take (suc n) s ≡ take n s ++ Some r ∷ []
take_next [] n r e = absurd (none e)
  where
    none : None ≡ Some r → ⊥
    none h = cc
take_next (x ∷ s) zero r e = ap (λ (y : Option Request). y ∷ []) e
take_next (x ∷ s) (suc n) r e = ap (λ (ys : List (Option Request)). x ∷ ys) (take_next s n r e)

pub made_next : (existed : Bool) (s : List (Option Request)) (n : ℕ) (r : Request) → at s n ≡ Some r →
    made existed s (suc n) ≡ after (made existed s n) r
unfolding made
made_next existed s n r e =
    ap (fold step (new_take existed)) (take_next s n r e) ∙ fold-append step (new_take existed) (take n s) (Some r ∷ [])

taken-with : (t : Take) (r : Request) → (with_request t r).taken ≡ t.taken
taken-with t (Open f history) = refl
taken-with t (Block bytes) = refl
taken-with t (Mark id frame) = refl
taken-with t (SetField tag value) = refl
taken-with t (Close total) = refl

-- no request changes whether the name existed
pub taken-after : (t : Take) (r : Request) → (after t r).taken ≡ t.taken
taken-after t r = go (is_stored (verdict t r))
  where
    go : (v : Bool) → (cond v (with_request t r) t).taken ≡ t.taken
    go true = taken-with t r
    go false = refl

-- the digests and verdicts of one more request
finished_push : (existed : Bool) (s : List (Option Request)) (name : List ℕ) (n : ℕ) (xs : List (Option Request))
    (r : Request) →
    length (finished_from existed s name n xs) ≡ length xs →
    finished_from existed s name n (xs ++ Some r ∷ []) ≡
    finished_from existed s name n xs ++ (sha256 (body_of name (n + length xs) r), verdict_at existed s (n + length xs))
    ∷ []
finished_push existed s name n [] r e =
    ap (λ (k : ℕ). (sha256 (body_of name k r), verdict_at existed s k) ∷ []) (let same : n ≡ n + 0 = omega arith in same)
finished_push existed s name n (None ∷ xs) r e = absurd (omega (arith, e))
finished_push existed s name n (Some x ∷ xs) r e =
    let rest : length (finished_from existed s name (suc n) xs) ≡ length xs = omega (arith, e) in
    let place : suc n + length xs ≡ n + suc (length xs) = omega arith in
    ap (λ (ys : List (List ℕ × Verdict)). (sha256 (body_of name n x), verdict_at existed s n) ∷ ys)
    (finished_push existed s name (suc n) xs r rest
    ∙ ap (λ (k : ℕ). finished_from existed s name (suc n) xs ++ (sha256 (body_of name k r), verdict_at existed s k) ∷ [])
    place)

pub finished-short : (existed : Bool) (s : List (Option Request)) (name : List ℕ) (n : ℕ) (xs : List (Option Request)) →
    length (finished_from existed s name n xs) ≤ length xs
finished-short existed s name n [] = omega arith
finished-short existed s name n (None ∷ xs) = omega arith
finished-short existed s name n (Some x ∷ xs) = let rest = finished-short existed s name (suc n) xs in omega (arith, rest)

pub take-short : (n : ℕ) (xs : List (Option Request)) → length (take n xs) ≤ n
take-short zero xs = omega arith
take-short (suc n) [] = omega arith
take-short (suc n) (x ∷ xs) = let rest = take-short n xs in omega (arith, rest)

pub verdict_here : (existed : Bool) (s : List (Option Request)) (n : ℕ) (r : Request) → at s n ≡ Some r →
    verdict_at existed s n ≡ verdict (made existed s n) r
verdict_here existed s n r e = ap (verdict_by (made existed s n)) e

-- The next number is done with its digest and its verdict, and the state is that of the take after it.
pub keeps_next : (existed : Bool) (name : List ℕ) (log : Log) (r : Request) (old new : Parts)
    (finished : List (List ℕ × Verdict)) (digest : List ℕ) (v : Verdict) → KeepsDone existed name log old finished →
    at log.admitted log.done ≡ Some r → digest ≡ sha256 (body_of name log.done r) →
    v ≡ verdict (made existed log.admitted log.done) r →
    new ≡ record (parts (after (made existed log.admitted log.done) r)) { taken = new.taken } →
    (IsTrue new.taken → IsTrue existed) → (IsTrue old.taken → IsTrue new.taken) → (v ≡ NameTaken → IsTrue new.taken) →
    KeepsDone existed name (record log { done = suc log.done }) new (finished ++ (digest, v) ∷ [])
keeps_next existed name log r old new finished digest v k here d e state taken stays reported =
    let n : ℕ = log.done in
    let s : List (Option Request) = log.admitted in
    let prefix : List (Option Request) = take n s in
    let long : length (finished_from existed s name 0 prefix) ≡ n = ap length (sym k.finished_are) ∙ k.done in
    let few : length (finished_from existed s name 0 prefix) ≤ length prefix = finished-short existed s name 0 prefix in
    let small : length prefix ≤ n = take-short n s in
    let whole : length (finished_from existed s name 0 prefix) ≡ length prefix = omega arith in
    let place : 0 + length prefix ≡ n = omega arith in
    record {
      done = length_push finished (digest, v)
          ∙ (let same : length finished + 1 ≡ suc n = omega (arith, k.done) in same);
      finished_are =
          ap (λ (ys : List (List ℕ × Verdict)). ys ++ (digest, v) ∷ []) k.finished_are
          ∙ ap (λ (x : List ℕ × Verdict). finished_from existed s name 0 prefix ++ x ∷ [])
          (ap (λ (y : List ℕ). (y, v)) d
          ∙ ap (λ (y : Verdict). (sha256 (body_of name n r), y)) (e ∙ sym (verdict_here existed s n r here)))
          ∙ ap (λ (j : ℕ). finished_from existed s name 0 prefix ++ (sha256 (body_of name j r), verdict_at existed s j)
          ∷ []) (sym place)
          ∙ sym (finished_push existed s name 0 prefix r whole)
          ∙ ap (finished_from existed s name 0) (sym (take_next s n r here));
      state_is = state ∙ ap (λ (t : Take). record (parts t) { taken = new.taken }) (sym (made_next existed s n r here));
      taken = taken;
      reported = λ j below is. elim (cases_lt j n) [
        | inl less ↦ stays (k.reported j less is)
        | inr above ↦ let same : j ≡ n = omega arith in
            reported (e ∙ sym (verdict_here existed s n r here) ∙ ap (verdict_at existed s) (sym same) ∙ is)
      ];
    }

-- The state after the next number.

name_taken : (p : Parts) (r : Request) → judge p r ≡ NameTaken → p.taken ≡ true
unfolding judge
name_taken p r e = go p.closed p.format r e
  where
    mark : (a b c : Bool) → cond a BadMarker (cond b DuplicateMarker (cond c TooManyMarkers Stored)) ≡ NameTaken →
        p.taken ≡ true
    mark true b c e = cc
    mark false true c e = cc
    mark false false true e = cc
    mark false false false e = cc

    either_or : (a : Bool) (x y : Verdict) → (x ≡ NameTaken → p.taken ≡ true) → (y ≡ NameTaken → p.taken ≡ true) →
        cond a x y ≡ NameTaken → p.taken ≡ true
    either_or true x y h k e = h e
    either_or false x y h k e = k e

    open_it : (bad taken : Bool) → p.taken ≡ taken → cond bad BadFormat (cond taken NameTaken Stored) ≡ NameTaken →
        p.taken ≡ true
    open_it true taken t e = cc
    open_it false true t e = t
    open_it false false t e = cc

    go : (closed : Bool) (format : Option Format) (r : Request) →
        cond closed Closed (judge_open p format r) ≡ NameTaken → p.taken ≡ true
    go true format r e = cc
    go false None (Open f history) e = open_it (not (is_format f && list_all is_history_byte history)) p.taken refl e
    go false None (Block bytes) e = cc
    go false None (Mark id frame) e = cc
    go false None (SetField tag value) e = cc
    go false None (Close total) e = cc
    go false (Some f) (Open g history) e = cc
    go false (Some f) (Block bytes) e =
        either_or (length bytes % block_align f == 0) Stored BadBlock (λ x. cc) (λ x. cc) e
    go false (Some f) (Mark id frame) e =
        mark (nat_lt (frames p) frame) (list_any (λ m. m.0 == id) p.markers) (nat_le 1024 (length p.markers)) e
    go false (Some f) (SetField tag value) e =
        either_or (is_some (field_fault tag value)) BadField Stored (λ x. cc) (λ x. cc) e
    go false (Some f) (Close total) e = either_or (total == frames p) Stored WrongTotal (λ x. cc) (λ x. cc) e

with_taken : (t : Take) (b : Bool) (r : Request) →
    parts (with_request (record t { taken = b }) r) ≡ record (parts (with_request t r)) { taken = b }
with_taken t b (Open f history) = refl
with_taken t b (Block bytes) = refl
with_taken t b (Mark id frame) = refl
with_taken t b (SetField tag value) = refl
with_taken t b (Close total) = refl

after_by : (t : Take) (r : Request) (v : Verdict) (b : Bool) → v ≡ verdict t r → is_stored v ≡ b →
    after t r ≡ cond b (with_request t r) t
after_by t r v b e s = ap (λ (x : Bool). cond x (with_request t r) t) (ap is_stored (sym e) ∙ s)

-- a request that is stored
pub keeps_stored : (existed : Bool) (name : List ℕ) (log : Log) (r : Request) (old new : Parts)
    (finished later : List (List ℕ × Verdict)) (digest : List ℕ) (v : Verdict) → v ≡ judge old r → is_stored v ≡ true →
    FollowsTakes old r new → later ≡ finished ++ (digest, v) ∷ [] → KeepsDone existed name log old finished →
    at log.admitted log.done ≡ Some r → digest ≡ sha256 (body_of name log.done r) →
    v ≡ verdict (made existed log.admitted log.done) r →
    KeepsDone existed name (record log { done = suc log.done }) new later
keeps_stored existed name log r old new finished later digest v judged s follows pushed k here d e =
    let t : Take = made existed log.admitted log.done in
    let u : Take = record t { taken = old.taken } in
    let same : parts u ≡ old = sym k.state_is in
    let mine : v ≡ verdict u r = judged ∙ ap (λ (p : Parts). judge p r) (sym same) in
    let now : new ≡ record (parts (with_request t r)) { taken = old.taken } =
    sym (follows u same) ∙ ap parts (after_by u r v true mine s) ∙ with_taken t old.taken r in
    let taken : new.taken ≡ old.taken = ap (λ (p : Parts). p.taken) now in
    let state : new ≡ record (parts (after t r)) { taken = new.taken } =
    now ∙ ap (λ (b : Bool). record (parts (with_request t r)) { taken = b }) (sym taken)
    ∙ ap (λ (x : Take). record (parts x) { taken = new.taken }) (sym (after_by t r v true e s)) in
    subst (KeepsDone existed name (record log { done = suc log.done }) new) (sym pushed)
    (keeps_next existed name log r old new finished digest v k here d e state (λ h. k.taken (sym taken ∙ h))
    (λ h. taken ∙ h)
    (λ is. taken ∙ name_taken old r (sym judged ∙ is)))

-- a request that is refused
pub keeps_refused : (existed : Bool) (name : List ℕ) (log : Log) (r : Request) (old : Parts)
    (finished later : List (List ℕ × Verdict)) (digest : List ℕ) (v : Verdict) → v ≡ judge old r → is_stored v ≡ false →
    later ≡ finished ++ (digest, v) ∷ [] → KeepsDone existed name log old finished →
    at log.admitted log.done ≡ Some r → digest ≡ sha256 (body_of name log.done r) →
    v ≡ verdict (made existed log.admitted log.done) r →
    KeepsDone existed name (record log { done = suc log.done }) old later
keeps_refused existed name log r old finished later digest v judged s pushed k here d e =
    let t : Take = made existed log.admitted log.done in
    let state : old ≡ record (parts (after t r)) { taken = old.taken } =
    k.state_is ∙ ap (λ (x : Take). record (parts x) { taken = old.taken }) (sym (after_by t r v false e s)) in
    subst (KeepsDone existed name (record log { done = suc log.done }) old) (sym pushed)
    (keeps_next existed name log r old old finished digest v k here d e state k.taken (λ h. h)
    (λ is. name_taken old r (sym judged ∙ is)))
