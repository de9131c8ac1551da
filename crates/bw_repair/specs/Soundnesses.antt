-- Whether a file is sound, or without its sizes, or neither.
use Rattle.std.specs.Prelude.{◌≡◌, ◌⊎◌, ◌^◌, ◌<◌, ℕ, Bool, true, false, List, Result, Ok, Err}
use Rattle.bw_model.specs.Report.{frames_of}
use Rattle.bw_inspect.specs.declared.fault.InspectFault.{InspectFault}
use Rattle.bw_inspect.specs.declared.report.Report.{Report}
use Rattle.bw_inspect.specs.Faults.{bytes_fault}
use Rattle.bw_model.specs.Reading.{Fault}
use Rattle.std.specs.Prelude.{Some}
use Rattle.bw_repair.specs.DataHeads.{IsDataHead, LacksData, is_riff_wave}
use Rattle.bw_repair.specs.Decisions.{decided}
use Rattle.bw_repair.specs.Faults.{as_repair_fault}
use Rattle.bw_repair.specs.RepairedFiles.{FaultsAs, IsReadAs, with_sizes}
use Rattle.bw_repair.specs.declared.decision.Sizes.{Sizes}
use Rattle.bw_repair.specs.declared.fault.RepairFault.{RepairFault}
use Rattle.bw_repair.specs.declared.search.DataHead.{DataHead}
use Rattle.bw_repair.specs.declared.plan.SizePlan.{SizePlan}
use Rattle.bw_repair.specs.declared.plan.Soundness.{Soundness}
use Rattle.bw_repair.specs.declared.plan.Soundness.TheVariants.{Sound, Lacking}
use Rattle.bw_repair.specs.declared.plan.PlanFault.{PlanFault}
use Rattle.bw_repair.specs.declared.plan.PlanFault.TheVariants.{Unopened, Refused}

-- the sizes that a file gives
abbrev pub given_sizes : DataHead → Sizes
given_sizes h = record { form = h.form; «data» = h.size }

-- the sizes of a file with this head are certain, and these
pub record HasSizes (b : List ℕ) (h : DataHead) (s : Sizes) : Type 0 where
  pub head : IsDataHead b h
  pub certain : decided h ≡ Ok s

-- no size of the file is to change: it is no RIFF file, or has the sizes that it is to have
abbrev pub StandsAsItIs : List ℕ → Type 0
StandsAsItIs b = (is_riff_wave b ≡ false) ⊎ ((h : DataHead) × HasSizes b h (given_sizes h))

-- the bytes are read, and have so many frames
pub record HasFrames (b : List ℕ) (n : ℕ) : Type 0 where
  pub report : Report
  pub reads : IsReadAs b report
  pub counts : n ≡ frames_of report.data_size report.fmt.align

-- the file is to have other sizes, and is read with them
pub record LacksSizes (b : List ℕ) (p : SizePlan) : Type 0 where
  pub head : DataHead
  pub sizes : HasSizes b head p.new
  pub place : p.place ≡ head.place
  pub old : p.old ≡ given_sizes head
  pub reads : HasFrames (with_sizes b p.place p.new) p.frames

-- which of these the bytes are
abbrev pub IsSoundness : List ℕ → Soundness → Type 0
IsSoundness b (Sound n) = StandsAsItIs b × HasFrames b n
IsSoundness b (Lacking p) = LacksSizes b p

-- no sum of the places to be written overflows 64 bits
abbrev pub HasNearPlace : Soundness → Type 0
HasNearPlace (Sound n) = Unit {0}
HasNearPlace (Lacking p) = p.place < 2 ^ 62

-- where the fault is one of the bytes, they are a RIFF file without a `data` chunk's head
abbrev pub IsWithoutData : List ℕ → InspectFault → Type 0
IsWithoutData b f = (g : Fault) → bytes_fault f ≡ Some g → LacksData b g

-- why a file is refused, if it is read: it has no samples, no sizes of it are certain, it has a
-- fault with those that are, or with those that it has
abbrev pub IsRefusal : List ℕ → RepairFault → Type 0
IsRefusal b f =
    ((g : InspectFault) × (f ≡ as_repair_fault g) × IsWithoutData b g)
    ⊎ (((h : DataHead) × IsDataHead b h × (decided h ≡ Err f))
    ⊎ (((g : InspectFault) × (f ≡ as_repair_fault g) × (h : DataHead) × (s : Sizes) × HasSizes b h s
    × FaultsAs (with_sizes b h.place s) g)
    ⊎ ((g : InspectFault) × (f ≡ as_repair_fault g) × StandsAsItIs b × FaultsAs b g)))

-- .. or isn't opened
abbrev pub RefusesPlan : List ℕ → PlanFault → Type 0
RefusesPlan b (Unopened error) = Unit {0}
RefusesPlan b (Refused f) = IsRefusal b f

-- no call of the system failed
abbrev pub is_well_with : PlanFault → Bool
is_well_with (Unopened error) = false
is_well_with (Refused f) = true

abbrev pub is_plan_well : {X : Type 0} → Result X PlanFault → Bool
is_plan_well (Ok x) = true
is_plan_well (Err fault) = is_well_with fault
