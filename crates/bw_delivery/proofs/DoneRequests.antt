-- A log whose admitted requests are some of these: its done numbers are the first of them.
use Rattle.std.proofs.Common.{◌≡◌, ℕ, suc, zero, ◌<◌, ◌≤◌, Bool, List, [], ◌∷◌, length, take, Option, Some, None, refl}
use Rattle.std.proofs.Common.{sym, ◌∙◌, ap, arith}
use Rattle.std.specs.Prelude.{slice_get, fold, map}
use Rattle.bw_model.specs.Bytes.{at}
use Rattle.bw_model.specs.Take.{Take, Request, new_take, after}
use Rattle.bw_model.specs.Book.{Log, made, made_by, step}
use Rattle.bw_model.proofs.Elements.{get-below}
use Rattle.bw_model.proofs.MapLemmas.{IsFilled}
use Rattle.bw_model.proofs.TrueReplies.{IsSound}

none_some : {X : Type 0} {x : X} → None ≡ Some x → ⊥
none_some e = cc

pub within_requests : (requests : List Request) (log : Log) → IsSound requests log → log.done ≤ length requests
within_requests requests log sound = go log.done sound.filled
  where
    go : (done : ℕ) → IsFilled log.admitted done → done ≤ length requests
    go zero filled = omega arith
    go (suc d) filled =
        let x = filled d (omega arith) in
        let below : d < length requests = get-below requests d x.0 (sound.admitted d x.0 x.1) in
        omega arith

-- each of the first numbers has its request
abbrev pub AreFirst : List Request → List (Option Request) → ℕ → Type 0
AreFirst requests s done = (n : ℕ) → n < done →
    (r : Request) × (at s n ≡ Some r) × (slice_get requests n ≡ Some r)

pub first_prefix : (requests : List Request) (s : List (Option Request)) (done : ℕ) → AreFirst requests s done →
    take done s ≡ map Some (take done requests)
first_prefix requests s zero each = refl
first_prefix requests [] (suc d) each = absurd (none_some (each 0 (omega arith)).1)
first_prefix requests (None ∷ s) (suc d) each = absurd (none_some (each 0 (omega arith)).1)
first_prefix [] (Some r ∷ s) (suc d) each = absurd (none_some (each 0 (omega arith)).2)
first_prefix (o ∷ requests) (Some r ∷ s) (suc d) each =
    let x = each 0 (omega arith) in
    ap (λ (z : Option Request). z ∷ take d s) (x.1 ∙ sym x.2)
    ∙ ap (λ (zs : List (Option Request)). Some o ∷ zs)
    (first_prefix requests s d (λ k below. each (suc k) (omega arith)))

pub sound_first : (requests : List Request) (log : Log) → IsSound requests log →
    AreFirst requests log.admitted log.done
sound_first requests log sound n below =
    let x = sound.filled n below in (x.0, x.1, sound.admitted n x.0 x.1)

pub prefix_of_requests : (requests : List Request) (log : Log) → IsSound requests log →
    take log.done log.admitted ≡ map Some (take log.done requests)
prefix_of_requests requests log sound = first_prefix requests log.admitted log.done (sound_first requests log sound)

fold-steps : (t : Take) (rs : List Request) → fold step t (map Some rs) ≡ fold after t rs
fold-steps t [] = refl
fold-steps t (r ∷ rs) = fold-steps (after t r) rs

pub made_of_first : (taken : Bool) (requests : List Request) (s : List (Option Request)) (done : ℕ) →
    AreFirst requests s done → fold step (new_take taken) (take done s) ≡ made_by taken (take done requests)
made_of_first taken requests s done each =
    ap (fold step (new_take taken)) (first_prefix requests s done each)
    ∙ fold-steps (new_take taken) (take done requests)

pub made_of_requests : (taken : Bool) (requests : List Request) (log : Log) → IsSound requests log →
    made taken log.admitted log.done ≡ made_by taken (take log.done requests)
unfolding made
made_of_requests taken requests log sound =
    made_of_first taken requests log.admitted log.done (sound_first requests log sound)
