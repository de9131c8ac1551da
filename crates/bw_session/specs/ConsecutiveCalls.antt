-- What is asked of a store, whatever store it is, while numbers of a name are done in a row.
use Rattle.std.specs.Prelude.{◌≡◌, ◌⊎◌, ℕ, zero, suc, ◌+◌, ◌-◌, ◌≤◌, nat_lt, nat_le, Bool, false, ◌||◌}
use Rattle.std.specs.Prelude.{IsFalse}
use Rattle.std.specs.Prelude.{if◌then◌else◌, Option, Some, None, is_some, List, [], ◌∷◌, ◌++◌, length}
use Rattle.std.specs.Prelude.{drop, replicate, slice_set}
use Rattle.std.specs.Bool.{MatchBool}
use Rattle.sha2.specs.Sha256.{sha256}
use Rattle.bw_model.specs.Bytes.{at}
use Rattle.bw_model.specs.Limits.{window as slots}
use Rattle.bw_model.specs.Take.{new_take, parts as parts_of}
use Rattle.bw_model.specs.Wire.{Message, message_body}
use Rattle.bw_store.specs.StoreSteps.{WasAsked, WasAskedFirst}
use Rattle.bw_store.specs.declared.store.TakeStore.{Ghosts as StoreGhosts}
use Rattle.bw_wire.specs.Bodies.{message_in}
use Rattle.bw_file.specs.GrowingFiles.{clean_file}
use Rattle.bw_session.specs.Executions.{judged_plan, StopsBeforeDone}
use Rattle.bw_session.specs.JudgedParts.{judged_in, KeepsJudged}
use Rattle.bw_session.specs.KeptParts.{Part}
use Rattle.bw_session.specs.declared.drains.Drained.{Drained}
use Rattle.bw_session.specs.declared.drains.Drained.TheVariants.{Idle, Done, Stopped}

-- The number of the first held body was done: the store was asked all that its judged request asks,
-- and its digest, verdict and request are kept.
pub record DoesFirst {X : Type 0} (S : StoreGhosts X) (a : Part) (x : X) (b : Part) (y : X) :
    Type 0 where
  pub body : List ℕ
  pub held : at a.window 0 ≡ Some body
  pub asked : WasAsked S (judged_plan a.growing a.parts (message_in body).request b.growing.made)
      x y
  pub growing : b.growing
      ≡ record a.growing { made = b.growing.made; dirty = false; ahead = false }
  pub parts : KeepsJudged a.parts (message_in body).request b.parts
  pub outcomes : b.outcomes ≡ a.outcomes
      ++ (sha256 body, judged_in a.parts (message_in body).request b.parts.taken) ∷ []
  pub window : b.window ≡ drop 1 a.window ++ None ∷ []

-- Nothing was done, and nothing was asked.
abbrev pub DoesNothing : {X : Type 0} → Part → X → Part → X → Type 0
DoesNothing a x b y = (b ≡ a) × (y ≡ x)

-- The number of the first held body was tried: the store was asked the first of what its judged
-- request asks, and the number isn't done. If only its note failed, another try asks for nothing.
pub record TriesFirst {X : Type 0} (S : StoreGhosts X) (a : Part) (x : X) (b : Part) (y : X) :
    Type 0 where
  pub body : List ℕ
  pub held : at a.window 0 ≡ Some body
  pub made : Bool
  pub asked : WasAskedFirst S (judged_plan a.growing a.parts (message_in body).request made) x y
  pub stop : StopsBeforeDone S a.parts a.growing (message_in body).request b.parts b.growing x y
  pub outcomes : b.outcomes ≡ a.outcomes
  pub window : b.window ≡ a.window

-- Nothing is held under the next number.
abbrev pub HoldsNoNext : Part → Type 0
HoldsNoNext a = at a.window 0 ≡ None

-- what draining one number asks
abbrev pub AsksNext : {X : Type 0} → StoreGhosts X → Drained → Part → X → Part → X → Type 0
AsksNext S Idle a x b y = HoldsNoNext a × DoesNothing a x b y
AsksNext S (Done v) a x b y = DoesFirst S a x b y
AsksNext S Stopped a x b y = TriesFirst S a x b y

-- This many numbers were done, one after another.
abbrev pub DoesConsecutively : {X : Type 0} → StoreGhosts X → ℕ → Part → X → Part → X → Type 0
DoesConsecutively S zero a x b y = DoesNothing a x b y
DoesConsecutively {X} S (suc n) a x b y =
    (mid : Part) × (z : X) × DoesConsecutively S n a x mid z × DoesFirst S mid z b y

-- Numbers were done one after another, at most this many, and where that stopped the next one was
-- tried.
pub record DoesRun {X : Type 0} (S : StoreGhosts X) (most : ℕ) (stopped : Bool) (a : Part) (x : X)
    (b : Part) (y : X) : Type 0 where
  pub count : ℕ
  pub within : count ≤ most
  pub last : Part
  pub reached : X
  pub done : DoesConsecutively S count a x last reached
  pub end : MatchBool stopped (TriesFirst S last reached b y) (DoesNothing last reached b y)
  -- if none stopped it, no number that could be done is left
  pub all : IsFalse stopped → HoldsNoNext last ⊎ (count ≡ most)

-- a window with a message's body in its slot, where the message is new in it
abbrev pub window_with : List (Option (List ℕ)) → ℕ → Message → List (Option (List ℕ))
window_with w done m =
    if nat_lt m.number done || nat_le (done + slots) m.number || is_some (at w (m.number - done))
    then w else slice_set w (m.number - done) (Some (message_body m))

-- what is kept and held, with the message
abbrev pub holding : Part → Message → Part
holding a m = record a { window = window_with a.window (length a.outcomes) m }

-- A message of a name was taken: with it held, numbers were done in a row; or nothing was asked, and
-- no number was done.
abbrev pub AsksInTurn : {X : Type 0} → StoreGhosts X → Message → Part → X → Part → X → Type 0
AsksInTurn S m a x b y =
    ((stopped : Bool) × DoesRun S slots stopped (holding a m) x b y)
    ⊎ ((y ≡ x) × (b.outcomes ≡ a.outcomes))

-- what is kept of a name of which nothing came
abbrev pub new_part : List ℕ → ℕ → Part
new_part name limit = record {
  parts = parts_of (new_take false);
  outcomes = [];
  window = replicate slots None;
  growing = clean_file name limit false;
}
