-- What is given, and what is left of it.
use Rattle.std.proofs.Common.{◌≡◌, ℕ, ◌+◌, ◌≤◌, ◌^◌, List, [], ◌∷◌, ◌++◌, length, take, drop, Option, Some, Result, Ok, Err}
use Rattle.std.proofs.Common.{IfOk, IfErr, refl, sym, ◌∙◌, ap, subst, arith, inl, inr}
use Rattle.std.specs.Prelude.{◌/◌, ◌⊎◌}
use Rattle.bw_model.specs.Take.{Request, SetField, Block, block_align}
use Rattle.bw_plan.specs.Progress.{fields_after, next_step_of}
use Rattle.bw_plan.specs.Recordings.{Outline, value_under}
use Rattle.bw_ports.specs.declared.followed.Followed.{Ghosts as FollowedGhosts}
use Rattle.bw_send_file.specs.ComingRequests.{PcmProgress, sample_requests, requests_of_step, GivesOf, RequestsLeft, ComesTo}
use Rattle.bw_send_file.specs.ComingRequests.{progress_of, TakesSamples, RefusesBlock, RefusesCopying, IsBlockOf}
use Rattle.bw_send_file.specs.ComingRequests.{KeepsAllButSamples}
use Rattle.bw_send_file.specs.Samples.{HeldSamples, HoldsMore}
use Rattle.bw_send_file.specs.declared.follow_fault.PcmFault.{PcmFault}
use Rattle.bw_send_file.specs.declared.follow_fault.PcmFault.TheVariants as faults
use Rattle.bw_send_file.specs.declared.followed_requests.NextRequest.{NextRequest}
use Rattle.bw_send_file.specs.declared.followed_requests.NextRequest.TheVariants as nexts
use Rattle.bw_send_file.specs.declared.followed_state.PcmStep.{PcmStep}
use Rattle.bw_send_file.specs.declared.followed_state.PcmStep.TheVariants as steps
use Rattle.bw_send_file.specs.declared.followed_state.PcmRequests.{PcmRequests}

-- the same requests, by equal parts
moved : (o o' : Outline) (fr fr' g g' : ℕ) (hs hs' rest : List ℕ) (step step' : PcmStep) → o' ≡ o → fr' ≡ fr → g' ≡ g →
    hs' ≡ hs → step' ≡ step →
    requests_of_step (record { outline = o; frames = fr; given = g }) (hs ++ rest) step
    ≡ requests_of_step (record { outline = o'; frames = fr'; given = g' }) (hs' ++ rest) step'
moved o o' fr fr' g g' hs hs' rest step step' eo ef eg eh es =
    ap (λ (z : Outline). requests_of_step (record { outline = z; frames = fr; given = g }) (hs ++ rest) step) (sym eo)
    ∙ ap (λ (z : ℕ). requests_of_step (record { outline = o'; frames = z; given = g }) (hs ++ rest) step) (sym ef)
    ∙ ap (λ (z : ℕ). requests_of_step (record { outline = o'; frames = fr'; given = z }) (hs ++ rest) step) (sym eg)
    ∙ ap (λ (z : List ℕ). requests_of_step (record { outline = o'; frames = fr'; given = g' }) (z ++ rest) step) (sym eh)
    ∙ ap (requests_of_step (record { outline = o'; frames = fr'; given = g' }) (hs' ++ rest)) (sym es)

-- a field is the first of the requests
pub field_first : (p : PcmProgress) (s : List ℕ) (after tag : ℕ) (v w : List (List ℕ)) (bytes : List ℕ) →
    v ≡ p.outline.values → w ≡ p.outline.values → bytes ≡ value_under w tag →
    fields_after after v ≡ SetField tag (value_under v tag) ∷ fields_after tag v →
    requests_of_step p s (steps.Fields after) ≡ SetField tag bytes ∷ requests_of_step p s (steps.Fields tag)
field_first p s after tag v w bytes ev ew eb h =
    let at : fields_after after p.outline.values
    ≡ SetField tag (value_under p.outline.values tag) ∷ fields_after tag p.outline.values =
    subst (λ (z : List (List ℕ)). fields_after after z ≡ SetField tag (value_under z tag) ∷ fields_after tag z) ev h in
    ap (λ (z : List Request). z ++ sample_requests p s) at
    ∙ ap (λ (z : List ℕ). SetField tag z ∷ (fields_after tag p.outline.values ++ sample_requests p s))
    (sym (eb ∙ ap (λ (z : List (List ℕ)). value_under z tag) ew))

module _ {F : Type 0} (followed : FollowedGhosts F) where
  -- what is read on changes no request that is to come
  pub same_requests : (step : PcmStep) (x y : PcmRequests F) (rest : List ℕ) (left : Option (List ℕ)) →
      KeepsAllButSamples x y → (m : HoldsMore x.samples rest y.samples left) →
      requests_of_step (progress_of x) (x.samples.held ++ rest) step
      ≡ requests_of_step (progress_of y) (y.samples.held ++ m.rest) step
  same_requests step x y rest left k m =
      ap (λ (s : List ℕ). requests_of_step (progress_of x) s step) (sym m.together)
      ∙ moved x.outline y.outline x.frames y.frames x.given y.given y.samples.held y.samples.held m.rest step step
      k.outline k.frames k.given refl refl

  pub left_of_read : (step : PcmStep) (x y : PcmRequests F) (rest : List ℕ) → KeepsAllButSamples x y → x.step ≡ step →
      HoldsMore x.samples rest y.samples (followed.to_come y.file) →
      RequestsLeft followed y (requests_of_step (progress_of x) (x.samples.held ++ rest) step)
  left_of_read step x y rest k at m = (
    m.rest,
    m.left_is,
    same_requests step x y rest (followed.to_come y.file) k m
        ∙ ap (requests_of_step (progress_of y) (y.samples.held ++ m.rest)) (sym (k.step ∙ at)),
  )

  -- a request that isn't copied
  pub copy_fault : (step : PcmStep) (x y : PcmRequests F) (f : PcmFault) (r : Request) → RefusesCopying r f →
      ((rest : List ℕ) → followed.to_come x.file ≡ Some rest →
      next_step_of (requests_of_step (progress_of x) (x.samples.held ++ rest) step) ≡ Some r) →
      ComesTo followed step (Err f) x y
  copy_fault step x y (faults.Unread place) r h next = absurd h
  copy_fault step x y (faults.PartFrame place) r h next = absurd h
  copy_fault step x y (faults.Empty place) r h next = absurd h
  copy_fault step x y faults.TooLong r h next = absurd h
  copy_fault step x y faults.Unsendable r h next = (r, h, next)
  copy_fault step x y faults.Memory r h next = tt

  -- the next request of these samples is a block
  abbrev pub HasBlock : ℕ → PcmRequests F → List ℕ → Type 0
  HasBlock count x rest =
      sample_requests (progress_of x) (x.samples.held ++ rest)
      ≡ Block (take count x.samples.held)
      ∷ sample_requests (record (progress_of x) { given = x.given + count / block_align x.outline.format })
      (drop count x.samples.held ++ rest)

  pub block_left : (x y : PcmRequests F) (count : ℕ) (result : Result NextRequest PcmFault) → x.step ≡ steps.Samples →
      IfOk result (λ next. IsBlockOf (take count x.samples.held) next × TakesSamples count x y) →
      IfErr result (λ f. (y ≡ x) × RefusesBlock count f x) → (rest : List ℕ) → followed.to_come x.file ≡ Some rest →
      HasBlock count x rest →
      GivesOf (sample_requests (progress_of x) (x.samples.held ++ rest)) result (RequestsLeft followed y)
  block_left x y count (Ok (nexts.Request r)) step ok err rest e has =
      let taken = ok.1 in (
        sample_requests (record (progress_of x) { given = x.given + count / block_align x.outline.format })
            (drop count x.samples.held ++ rest),
        has ∙ ap (λ (z : Request). z
            ∷ sample_requests (record (progress_of x) { given = x.given + count / block_align x.outline.format })
            (drop count x.samples.held ++ rest)) (sym ok.0),
        (
          rest,
          ap followed.to_come taken.file ∙ e,
          moved x.outline y.outline x.frames y.frames (x.given + count / block_align x.outline.format) y.given
              (drop count x.samples.held) y.samples.held rest steps.Samples y.step taken.outline taken.frames taken.given
              (ap (λ (z : HeldSamples). z.held) taken.samples) (taken.step ∙ step),
        ),
      )
  block_left x y count (Ok nexts.NotYet) step ok err rest e has = absurd ok.0
  block_left x y count (Ok nexts.End) step ok err rest e has = absurd ok.0
  block_left x y count (Err f) step ok err rest e has =
      subst (λ (z : PcmRequests F). RequestsLeft followed z (sample_requests (progress_of x) (x.samples.held ++ rest)))
      (sym err.0)
      (rest, e, ap (requests_of_step (progress_of x) (x.samples.held ++ rest)) (sym step))

  too_long : (x y : PcmRequests F) (count : ℕ) → y ≡ x → count ≤ length x.samples.held →
      (2 ^ 64 ≤ x.place + count) ⊎ (2 ^ 64 ≤ x.given + count) →
      (2 ^ 64 ≤ y.place + length y.samples.held) ⊎ (2 ^ 64 ≤ y.given + length y.samples.held)
  too_long x y count same few h =
      subst (λ (z : PcmRequests F). (2 ^ 64 ≤ z.place + length z.samples.held) ⊎ (2 ^ 64 ≤ z.given + length z.samples.held))
      (sym same) (go h)
    where
      go : (2 ^ 64 ≤ x.place + count) ⊎ (2 ^ 64 ≤ x.given + count) →
          (2 ^ 64 ≤ x.place + length x.samples.held) ⊎ (2 ^ 64 ≤ x.given + length x.samples.held)
      go (inl h) = inl (omega (arith, few, h))
      go (inr h) = inr (omega (arith, few, h))

  -- when a block of what was read isn't given
  pub block_by : (start x y : PcmRequests F) (count : ℕ) (result : Result NextRequest PcmFault) →
      count ≤ length x.samples.held →
      IfOk result (λ next. IsBlockOf (take count x.samples.held) next × TakesSamples count x y) →
      IfErr result (λ f. (y ≡ x) × RefusesBlock count f x) →
      ((rest : List ℕ) → followed.to_come start.file ≡ Some rest →
      next_step_of (sample_requests (progress_of start) (start.samples.held ++ rest))
      ≡ Some (Block (take count x.samples.held))) → x.step ≡ steps.Samples →
      ComesTo followed steps.Samples result start y
  block_by start x y count (Ok (nexts.Request r)) few ok err has step =
      (λ ends. absurd (goes_on (sym (ok.1.step ∙ step) ∙ ends)), tt)
    where
      goes_on : steps.Samples ≡ steps.End → ⊥
      goes_on e = absurd cc
  block_by start x y count (Ok nexts.NotYet) few ok err has step = absurd ok.0
  block_by start x y count (Ok nexts.End) few ok err has step = absurd ok.0
  block_by start x y count (Err (faults.Unread place)) few ok err has step = absurd err.1
  block_by start x y count (Err (faults.PartFrame place)) few ok err has step = absurd err.1
  block_by start x y count (Err (faults.Empty place)) few ok err has step = absurd err.1
  block_by start x y count (Err faults.TooLong) few ok err has step = too_long x y count err.0 few err.1
  block_by start x y count (Err faults.Unsendable) few ok err has step = (Block (take count x.samples.held), err.1, has)
  block_by start x y count (Err faults.Memory) few ok err has step = tt

-- what is given of what was read is given of what was there before
pub given_of_read : (p : PcmProgress) (old new : HeldSamples) (rest : List ℕ) (result : Result NextRequest PcmFault)
    (left : Option (List ℕ)) (left' : List Request → Type 0) → (m : HoldsMore old rest new left) →
    GivesOf (sample_requests p (new.held ++ m.rest)) result left' →
    GivesOf (sample_requests p (old.held ++ rest)) result left'
given_of_read p old new rest result left left' m gives =
    subst (λ (s : List ℕ). GivesOf (sample_requests p s) result left') m.together gives

pub next_of_read : (p : PcmProgress) (old new : HeldSamples) (rest : List ℕ) (r : Request) (more : List Request)
    (left : Option (List ℕ)) → (m : HoldsMore old rest new left) →
    sample_requests p (new.held ++ m.rest) ≡ r ∷ more →
    next_step_of (sample_requests p (old.held ++ rest)) ≡ Some r
next_of_read p old new rest r more left m e =
    ap (λ (s : List ℕ). next_step_of (sample_requests p s)) (sym m.together) ∙ ap next_step_of e

-- nothing is left where none is to come
pub none_left : (xs : List ℕ) (left : Option (List ℕ)) → left ≡ Some xs → left ≡ Some [] → xs ≡ []
none_left xs left e h = some_inj (sym e ∙ h)
  where
    some_inj : {x y : List ℕ} → ◌≡◌ {A = Option (List ℕ)} (Some x) (Some y) → x ≡ y
    some_inj h = cc
