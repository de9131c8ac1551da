-- A request is given, and the others are to come.
use Rattle.std.proofs.Common.{◌≡◌, ◌∙◌, ◌+◌, ℕ, List, ◌∷◌, Option, Some, ap, sym, subst, refl, arith, drop}
use Rattle.bw_model.specs.Take.{Request}
use Rattle.bw_plan.specs.Progress.{Progress, GoesOn, IsSoundPlan, after_next, next_step_of, remaining}
use Rattle.bw_recorder.proofs.PutSteps.{next_first}
use Rattle.bw_send_file.specs.FileFeeds.{AreToCome}

next_given : (p q : Progress) (left left' : Option (List ℕ)) (r : Request) (requests : List Request) →
    AreToCome left p requests → ((b : List ℕ) → next_step_of (remaining p b) ≡ Some r) →
    ((b : List ℕ) → left ≡ Some (drop p.samples.place b) → GoesOn b (after_next (remaining p b)) q left') →
    IsSoundPlan q.stage → q.samples.place + q.samples.left ≡ p.samples.place + p.samples.left →
    (rest : List Request) × (requests ≡ r ∷ rest) × AreToCome left' q rest
next_given p q left left' r requests old next on sound end =
    let b = old.bytes in
    let there = old.stands.there in
    let go = on b old.stands.at in (
      remaining q b,
      old.are ∙ next_first (remaining p b) r (next b) ∙ ap (λ (rs : List Request). r ∷ rs) (sym go.requests_are),
      record {
        bytes = b;
        stands = record { sound = sound; at = go.stands; there = omega (arith, end, there) };
        are = refl;
      },
    )

-- the file may have been looked at before the plan goes on
pub gives_next : (p p' q : Progress) (left left' left'' : Option (List ℕ)) (r : Request) (requests : List Request) →
    p' ≡ p → left' ≡ left → AreToCome left p requests → ((b : List ℕ) → next_step_of (remaining p b) ≡ Some r) →
    ((b : List ℕ) → left' ≡ Some (drop p'.samples.place b) → GoesOn b (after_next (remaining p' b)) q left'') →
    IsSoundPlan q.stage → q.samples.place + q.samples.left ≡ p'.samples.place + p'.samples.left →
    (rest : List Request) × (requests ≡ r ∷ rest) × AreToCome left'' q rest
gives_next p p' q left left' left'' r requests plan_is left_is old next on sound end =
    next_given p' q left' left'' r requests
    (subst (λ (z : Progress). AreToCome left' z requests) (sym plan_is)
    (subst (λ (l : Option (List ℕ)). AreToCome l p requests) (sym left_is) old))
    (λ b. subst (λ (z : Progress). next_step_of (remaining z b) ≡ Some r) (sym plan_is) (next b)) on sound end
