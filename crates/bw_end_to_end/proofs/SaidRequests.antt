-- What a sender says are its requests.
use Rattle.std.proofs.Common.{◌≡◌, ℕ, suc, zero, ◌+◌, ◌<◌, Bool, true, ◌&&◌, List, [], ◌∷◌, ◌++◌}
use Rattle.std.proofs.Common.{Option, Some, None, refl, sym, ◌∙◌, ap, arith, ◌⊎◌, inl, inr}
use Rattle.std.specs.Prelude.{slice_get, nat_le}
use Rattle.std.specs.List.{AllByRecursion, list_all}
use Rattle.std.proofs.lemmas.Bool.{and_parts, and_from, le-leb}
use Rattle.std.proofs.lemmas.List.Folds.{list_all-append}
use Rattle.bw_model.specs.Bytes.{at}
use Rattle.bw_model.specs.Take.{Request, Verdict}
use Rattle.bw_model.specs.Wire.{Second, Bye, is_frame, is_name, is_request, last_number}
use Rattle.bw_model.specs.World.{Sender, pending_from}
use Rattle.bw_model.specs.Stream.{frames_bytes}
use Rattle.bw_model.proofs.Elements.{get-below}
use Rattle.bw_wire.specs.EncodedFrames.{said}
use Rattle.bw_sender.specs.Batches.{messages, pending_messages, batch}
use Rattle.bw_delivery.specs.Statement.{IsPartOf, WroteRequests}
use Rattle.bw_delivery.proofs.OwnFrames.{each_request}
use Rattle.bw_delivery.proofs.SoundTurns.{IsOneOf}
use Rattle.bw_end_to_end.specs.UsedLinks.{PendingHaveNumbers}

-- the numbers that there are
abbrev pub all_numbers : ℕ
all_numbers = 16777216

-- What was offered to a sender of this name are the first of these requests, and then come the rest.
pub record IsOffered (name : List ℕ) (requests : List Request) (s : Sender) (rest : List Request) : Type 0 where
  pub name_is : s.name ≡ name
  pub whole : s.offered ++ rest ≡ requests
  pub numbered : PendingHaveNumbers s

-- the name and the requests have a spelling
pub record AreSpelled (name : List ℕ) (requests : List Request) : Type 0 where
  pub named : is_name name ≡ true
  pub each : list_all is_request requests ≡ true

get-append : {X : Type 0} (xs ys : List X) (k : ℕ) (x : X) → slice_get xs k ≡ Some x → slice_get (xs ++ ys) k ≡ Some x
get-append [] ys k x e = let bad : None ≡ Some x = e in cc
get-append (z ∷ zs) ys zero x e = e
get-append (z ∷ zs) ys (suc k) x e = get-append zs ys k x e

list_all-get : {X : Type 0} (p : X → Bool) (xs : List X) (k : ℕ) (x : X) → list_all p xs ≡ true →
    slice_get xs k ≡ Some x → p x ≡ true
list_all-get p [] k x h e = let bad : None ≡ Some x = e in cc
list_all-get p (y ∷ ys) zero x h e =
    let same : x ≡ y = (let found : Some y ≡ Some x = e in cc) in ap p same ∙ (and_parts (p y) (list_all p ys) h).0
list_all-get p (y ∷ ys) (suc k) x h e = list_all-get p ys k x (and_parts (p y) (list_all p ys) h).1 e

-- at first no verdict was heard before
pub only_now : {H : Type 0} (n : ℕ) (v : Verdict) → (at [] n ≡ Some v) ⊎ H → H
only_now n v (inl before) = let bad : None ≡ Some v = before in cc
only_now n v (inr now) = now

-- each request without a verdict is one that was offered
pub pending_are : (P : ℕ × Request → Type 0) (n : ℕ) (rs : List Request) (vs : List (Option Verdict)) →
    ((k : ℕ) (r : Request) → slice_get rs k ≡ Some r → at vs k ≡ None → (j : ℕ) → j ≡ n + k → P (j, r)) →
    AllByRecursion P (pending_from n rs vs)
pending_are P n [] vs h = tt
pending_are P n (r ∷ rs) [] h =
    (h 0 r refl refl n (omega arith), pending_are P (suc n) rs [] (λ k q e f j is. h (suc k) q e refl j (omega (arith, is))))
pending_are P n (r ∷ rs) (None ∷ vs) h =
    (h 0 r refl refl n (omega arith), pending_are P (suc n) rs vs (λ k q e f j is. h (suc k) q e f j (omega (arith, is))))
pending_are P n (r ∷ rs) (Some v ∷ vs) h =
    pending_are P (suc n) rs vs (λ k q e f j is. h (suc k) q e f j (omega (arith, is)))

-- one of the requests, under its number
abbrev pub IsNumbered : List Request → ℕ × Request → Type 0
IsNumbered requests p = (slice_get requests p.0 ≡ Some p.1) × (p.0 < all_numbers)

pub pending_numbered : (name : List ℕ) (requests : List Request) (s : Sender) (rest : List Request) →
    IsOffered name requests s rest → AllByRecursion (IsNumbered requests) (pending_from 0 s.offered s.verdicts)
pending_numbered name requests s rest h = pending_are (IsNumbered requests) 0 s.offered s.verdicts
    (λ k r e f j is. let same : j ≡ k = omega (arith, is) in
    let most = h.numbered k (get-below s.offered k r e) f in (
      (ap (slice_get requests) same ∙ ap (λ (rs : List Request). slice_get rs k) (sym h.whole)
          ∙ get-append s.offered rest k r e),
      omega (arith, same, most),
    ))

-- messages of such requests
pub messages_are : (name x : List ℕ) (requests : List Request) (ps : List (ℕ × Request)) → x ≡ name →
    AllByRecursion (IsNumbered requests) ps → AllByRecursion (IsOneOf name requests) (messages x ps)
messages_are name x requests [] own h = tt
messages_are name x requests (p ∷ ps) own h = ((own, h.0.0), messages_are name x requests ps own h.1)

pub messages_spelled : (name x : List ℕ) (requests : List Request) (ps : List (ℕ × Request)) → x ≡ name →
    AreSpelled name requests → AllByRecursion (IsNumbered requests) ps →
    list_all (is_frame Second) (messages x ps) ≡ true
messages_spelled name x requests [] own spelled h = refl
messages_spelled name x requests (p ∷ ps) own spelled h =
    let few = h.0.1 in
    and_from (is_frame Second (said x p.0 p.1)) (list_all (is_frame Second) (messages x ps))
    (and_from (is_name x && nat_le p.0 (last_number Second)) (is_request p.1)
    (and_from (is_name x) (nat_le p.0 (last_number Second)) (ap is_name own ∙ spelled.named)
    (le-leb p.0 (last_number Second) (omega (arith, few))))
    (list_all-get is_request requests p.0 p.1 spelled.each h.0.0))
    (messages_spelled name x requests ps own spelled h.1)

pub all-append : {X : Type 0} (P : X → Type 0) (xs ys : List X) → AllByRecursion P xs → AllByRecursion P ys →
    AllByRecursion P (xs ++ ys)
all-append P [] ys h k = k
all-append P (x ∷ xs) ys h k = (h.0, all-append P xs ys h.1 k)

-- a prefix of a sender's batch says its requests
pub batch_says : (name : List ℕ) (requests : List Request) (s : Sender) (rest : List Request) →
    IsOffered name requests s rest → AreSpelled name requests → (bytes : List ℕ) →
    IsPartOf bytes (frames_bytes (batch s)) → WroteRequests name requests bytes
batch_says name requests s rest h spelled bytes part =
    let numbered = pending_numbered name requests s rest h in
    record {
      frames = batch s;
      each = each_request name requests (batch s) (all-append (IsOneOf name requests) (pending_messages s) (Bye ∷ [])
          (messages_are name s.name requests _ h.name_is numbered) (tt, tt));
      spelled = list_all-append (is_frame Second) (pending_messages s) (Bye ∷ [])
          ∙ and_from (list_all (is_frame Second) (pending_messages s)) (list_all (is_frame Second) (Bye ∷ []))
          (messages_spelled name s.name requests _ h.name_is spelled numbered) refl;
      part = part;
    }
