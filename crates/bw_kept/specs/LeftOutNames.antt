-- Names that are left out, to be reported.
use Rattle.std.specs.Prelude.{ℕ, Bool, ◌||◌, nat_le, length, List, [], ◌∷◌, ◌++◌, if◌then◌else◌}
use Rattle.std.specs.List.{list_any}
use Rattle.std.specs.Str.{bytes_eq}
use Rattle.bw_recovery.specs.declared.finding.NameFault.{NameFault}
use Rattle.bw_kept.specs.declared.delay.Delay.{Delay}
use Rattle.bw_kept.specs.declared.delay.Delay.TheVariants.{CallFailed, NoMemory, LeftOut, TooManyNumbers}
use Rattle.bw_kept.specs.declared.delay.Delay.TheVariants.{TwoFolders, NoPlace}

-- how many may wait for their report
abbrev pub most_unreported : ℕ
most_unreported = 256

-- a name is among these
abbrev pub is_among : List ℕ → List (List ℕ) → Bool
is_among name names = list_any (λ other. bytes_eq other name) names

-- it waits to be reported
abbrev pub is_waiting : List ℕ → List (List ℕ × NameFault) → Bool
is_waiting name waiting = list_any (λ x. bytes_eq x.0 name) waiting

-- those that wait, once this name was left out: it comes last, unless it waits, or was reported, or too
-- many wait
abbrev pub with_left_out : List (List ℕ) → List ℕ → NameFault → List (List ℕ × NameFault) →
    List (List ℕ × NameFault)
with_left_out reported name fault waiting =
    if is_waiting name waiting || is_among name reported || nat_le most_unreported (length waiting)
    then waiting else waiting ++ (name, fault) ∷ []

-- this holds of what is wrong with a name that is put off for that
abbrev pub IfLeftOut : Delay → (NameFault → Type 0) → Type 0
IfLeftOut (LeftOut fault) Holds = Holds fault
IfLeftOut CallFailed Holds = Unit {0}
IfLeftOut NoMemory Holds = Unit {0}
IfLeftOut TooManyNumbers Holds = Unit {0}
IfLeftOut TwoFolders Holds = Unit {0}
IfLeftOut NoPlace Holds = Unit {0}
