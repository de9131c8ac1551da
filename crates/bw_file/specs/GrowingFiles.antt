-- The growing file of a take: what it knows, and what its calls leave.
use Rattle.std.specs.Prelude.{◌≡◌, ℕ, Bool, true, false, Option, Some, None, IsSome, IsTrue}
use Rattle.std.specs.Prelude.{IsFalse, List, [], Result, MatchResult}
use Rattle.std.specs.Bool.{MatchBool}
use Rattle.bw_model.specs.Take.{Take, Parts, Request, SetField, Stored, judge, with_request}
use Rattle.bw_model.specs.Take.{with_field}
use Rattle.bw_model.specs.File.{file_of}
use Rattle.bw_model.specs.Holds.{IsBetween}
use Rattle.bw_store.specs.declared.store.Created.{Created}
use Rattle.bw_store.specs.declared.store.Created.TheVariants.{New, Exists}

-- what is known of the file of a take that grows
pub record Growing : Type 0 where
  pub name : List ℕ
  -- the largest form size of a RIFF file
  pub limit : ℕ
  -- it made the name
  pub made : Bool
  -- it isn't the take's file: its last call failed, or it is ahead
  pub dirty : Bool
  -- it is the file of the take with the request that waits
  pub ahead : Bool

-- the take's file, whole
abbrev pub clean_file : List ℕ → ℕ → Bool → Growing
clean_file name limit made = record {
  name = name;
  limit = limit;
  made = made;
  dirty = false;
  ahead = false;
}

-- The take's file is there, or if it is dirty what an earlier try of the request may have left.
abbrev pub IsReady : Growing → Take → Request → Option (List ℕ) → Type 0
IsReady g t r found = MatchBool g.dirty (IsBetween t g.limit r found) (found ≡ file_of t g.limit)

-- The file of the take with the request is there, or after a fault what another try repairs.
abbrev pub Leaves : {T E : Type 0} → Result T E → Growing → Take → Request →
    Option (List ℕ) → Type 0
Leaves answer g t r found =
    MatchResult answer
    (λ _. found ≡ file_of (with_request t r) g.limit)
    (λ _. IsBetween t g.limit r found)

-- A call stores the request in the file, or leaves what another try repairs.
abbrev pub Stores : {T E : Type 0} → Result T E → Growing → Take → Request →
    Option (List ℕ) → Option (List ℕ) → Type 0
Stores answer g t r before after = IsReady g t r before → Leaves answer g t r after

-- a request that is to be stored sets the fields to these
pub record SetsOneField (p : Parts) (set : List (List ℕ)) : Type 0 where
  pub tag : ℕ
  pub value : List ℕ
  pub stored : judge p (SetField tag value) ≡ Stored
  pub fields : set ≡ with_field p.fields tag value

-- a name that `create` made has a prefix of its file
abbrev pub IsBegun : Growing → Take → Request → Option (List ℕ) → Type 0
IsBegun g t r found = IsSome found × IsBetween t g.limit r found

-- A name that is made then has the file of the opened take, or after a fault a prefix of it.
abbrev pub BeginsFile : {T E : Type 0} → Result T E → Growing → Bool → Take → Request →
    Option (List ℕ) → Option (List ℕ) → Type 0
BeginsFile answer g made t r before after =
    (IsTrue g.made → IsBegun g t r before) → IsTrue made →
    MatchResult answer
    (λ _. after ≡ file_of (with_request t r) g.limit)
    (λ _. IsBegun g t r after)

-- whether a file was made
abbrev pub is_new : Created → Bool
is_new New = true
is_new Exists = false

-- A name is made if it wasn't there, and as long as it isn't made nothing under it changes.
pub record AsksForName (made_before made_after : Bool) (before after : Option (List ℕ)) :
    Type 0 where
  pub made : IsFalse made_before → IsTrue made_after → before ≡ None
  pub untouched : IsFalse made_after → after ≡ before
  pub keeps : IsTrue made_before → IsTrue made_after

-- a name that is made: as it was, or empty
abbrev pub IsFresh : Bool → Option (List ℕ) → Option (List ℕ) → Type 0
IsFresh true before after = after ≡ before
IsFresh false before after = after ≡ Some []
