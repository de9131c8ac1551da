-- How far the giver of a plan's requests is, and which requests are still to come.
use Rattle.std.specs.Prelude.{◌≡◌, ℕ, suc, ◌+◌, ◌/◌, min, List, [], ◌∷◌, ◌++◌, map, drop}
use Rattle.std.specs.Prelude.{slice_range, Option, Some, None}
use Rattle.bw_model.specs.Take.{Request, Open, Block, Mark, SetField, Close, block_align}
use Rattle.bw_inspect.specs.declared.fault.InspectFault.{InspectFault}
use Rattle.bw_inspect.specs.declared.fault.InspectKind.TheVariants.{Truncated}
use Rattle.bw_inspect.specs.Places.{IsMissed}
use Rattle.bw_plan.specs.Recordings.{Outline, value_under}
use Rattle.bw_plan.specs.Plans.{field_requests, block_requests, mark_request}

-- the samples of a file, as far as they are read
pub record Samples : Type 0 where
  -- how many bytes a block has
  pub size : ℕ
  -- the block that was read last
  pub block : List ℕ
  -- where in the file the next one is
  pub place : ℕ
  -- how many bytes of samples there are from there on
  pub left : ℕ

-- which request is the next
pub data Stage : Type 0 where
  AtOpen : Stage
  -- the field with this tag
  AtField : ℕ → Stage
  -- the block that was read last
  AtBlock : Stage
  -- this identifier and frame, and the place of the marker after it
  AtMark : ℕ → ℕ → ℕ → Stage
  AtClose : Stage
  -- none: all were given
  AtEnd : Stage
  -- none: a block wasn't read
  AtFault : InspectFault → Stage

pub record Progress : Type 0 where
  pub outline : Outline
  pub samples : Samples
  pub stage : Stage

-- the samples in a file's bytes that aren't read yet
abbrev pub unread : Samples → List ℕ → List ℕ
unread s b = slice_range b s.place (s.place + s.left)

-- the requests from a marker on
abbrev pub marks_from : Outline → ℕ → List Request
marks_from o i =
    map mark_request (drop i o.markers) ++ Close (o.samples_len / block_align o.format) ∷ []

-- .. from the next block on
abbrev pub blocks_from : Outline → Samples → List ℕ → List Request
blocks_from o s b = block_requests s.size (unread s b) ++ marks_from o 0

-- the fields with a tag after this one
abbrev pub fields_after : ℕ → List (List ℕ) → List Request
fields_after tag values = field_requests (suc tag) (drop tag values)

-- the requests after this tag
abbrev pub requests_after : Outline → Samples → List ℕ → ℕ → List Request
requests_after o s b tag = fields_after tag o.values ++ blocks_from o s b

-- the requests from a stage on
abbrev pub requests_at : Outline → Samples → List ℕ → Stage → List Request
requests_at o s b AtOpen = Open o.format o.history ∷ requests_after o s b 0
requests_at o s b (AtField tag) = SetField tag (value_under o.values tag) ∷ requests_after o s b tag
requests_at o s b AtBlock = Block s.block ∷ blocks_from o s b
requests_at o s b (AtMark id frame next) = Mark id frame ∷ marks_from o next
requests_at o s b AtClose = Close (o.samples_len / block_align o.format) ∷ []
requests_at o s b AtEnd = []
requests_at o s b (AtFault f) = []

-- the requests that are still to come, of a file's bytes
abbrev pub remaining : Progress → List ℕ → List Request
remaining p b = requests_at p.outline p.samples b p.stage

-- the first one
abbrev pub next_step_of : List Request → Option Request
next_step_of [] = None
next_step_of (r ∷ rs) = Some r

-- the others
abbrev pub after_next : List Request → List Request
after_next [] = []
after_next (r ∷ rs) = rs

-- these requests are still to come, and the reader is where the next block is
pub record GoesOn (b : List ℕ) (requests : List Request) (p : Progress) (left : Option (List ℕ)) :
    Type 0 where
  pub requests_are : remaining p b ≡ requests
  pub stands : left ≡ Some (drop p.samples.place b)

-- the next block was read
pub record IsNextBlock (b : List ℕ) (old new : Samples) (left : Option (List ℕ)) : Type 0 where
  pub request : block_requests old.size (unread old b)
      ≡ Block new.block ∷ block_requests new.size (unread new b)
  pub stands : left ≡ Some (drop new.place b)

-- the file ends within the next block, or the reader failed there
abbrev pub IsBlockMissed : List ℕ → Samples → InspectFault → Option (List ℕ) → Type 0
IsBlockMissed b s f left =
    IsMissed b s.place (min s.left s.size) (record { kind = Truncated; offset = s.place }) f left

-- no block was missed
abbrev pub IsSoundPlan : Stage → Type 0
IsSoundPlan (AtFault f) = ⊥
IsSoundPlan _ = Unit {0}

-- these requests were given one after the other, each where the giver was after the one before,
-- and after the last one none was given
abbrev pub IsPlanRun : List ℕ → Progress → List (Request × Progress) → Type 0
IsPlanRun b p [] = next_step_of (remaining p b) ≡ None
IsPlanRun b p (x ∷ xs) =
    (next_step_of (remaining p b) ≡ Some x.0) × (remaining x.1 b ≡ after_next (remaining p b))
    × IsPlanRun b x.1 xs

-- a run gives just the requests that were still to come
abbrev pub RunsGivePlans : Type 0
RunsGivePlans = (b : List ℕ) (p : Progress) (run : List (Request × Progress)) → IsPlanRun b p run →
    map (λ x. x.0) run ≡ remaining p b
