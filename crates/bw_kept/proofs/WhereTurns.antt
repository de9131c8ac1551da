-- A turn on a folder's book and one on a table's.
use Rattle.std.proofs.Common.{◌≡◌, ℕ, Bool, true, false, cond, List, [], ◌∷◌, Option, Some, None}
use Rattle.std.proofs.Common.{refl, sym, ◌∙◌, ap, subst, ◌⊎◌, inl, inr}
use Rattle.std.specs.Prelude.{IsTrue, nat_le}
use Rattle.bw_model.specs.Wire.{Message, Frame, Says, Asks, Bye}
use Rattle.bw_model.specs.Replies.{Reply, Noticed, Next, TooFar, TableFull, NoRoom}
use Rattle.bw_model.specs.Book.{Log, Book, log_of, is_known}
use Rattle.bw_model.specs.Turn.{Faults, turn, turn_by, with_change, is_full, is_admissible, notice, window}
use Rattle.bw_model.specs.CountedTurn.{IsWithoutRoom, stops_short}
use Rattle.bw_kept.specs.FolderRuns.{name_of_frame, turn_where, stops_where, ends_with_request}
use Rattle.bw_kept.proofs.LogEnds.{turn_ends}
use Rattle.bw_kept.proofs.KeptForms.{never, no_some}

-- a known name's turn doesn't ask whether a further one fits
known_fits : (taken a b : Bool) (log : Log) (m : Message) (faults : Faults) (known : Bool) → (known ≡ true) ⊎ (a ≡ b) →
    turn_by taken known a log m faults ≡ turn_by taken known b log m faults
unfolding turn_by
known_fits taken a b log m faults true h = refl
known_fits taken a b log m faults false (inl e) = never e
known_fits taken a b log m faults false (inr e) = ap (λ (v : Bool). turn_by taken false v log m faults) e

-- a further name that doesn't fit changes nothing
none_fits : (taken known full : Bool) (log : Log) (m : Message) (faults : Faults) → known ≡ false → full ≡ true →
    (turn_by taken known full log m faults).1 ≡ None
unfolding turn_by
none_fits taken true full log m faults u f = never (sym u)
none_fits taken false false log m faults u f = never f
none_fits taken false true log m faults u f = go (nat_le window m.number)
  where
    go : (v : Bool) → (cond {A = List Reply × Option Log} v (notice m TooFar 0, None) (notice m TableFull 0, None)).1 ≡ None
    go true = refl
    go false = refl

-- what the folder's book says of a turn on the table's
module _ (existed existed' : List ℕ → Bool) (book table : Book) where
  pub same_turn : (full : Bool) (f : Frame) (faults : Faults) → is_known book (name_of_frame f) ≡ is_known table (name_of_frame f) →
      log_of book (name_of_frame f) ≡ log_of table (name_of_frame f) → existed' (name_of_frame f) ≡ existed (name_of_frame f) →
      ((m : Message) → f ≡ Says m → (full ≡ is_full table) ⊎ (is_known table m.name ≡ true)) →
      turn_where full existed book f faults ≡ turn_where (is_full table) existed' table f faults
  same_turn full (Says m) faults known log same fits =
      ap (λ (v : Bool). turn_by v (is_known book m.name) full (log_of book m.name) m faults) (sym same)
      ∙ ap (λ (v : Bool). turn_by (existed' m.name) v full (log_of book m.name) m faults) known
      ∙ ap (λ (l : Log). turn_by (existed' m.name) (is_known table m.name) full l m faults) log
      ∙ known_fits (existed' m.name) full (is_full table) (log_of table m.name) m faults (is_known table m.name)
      (elim (fits m refl) [ inl e ↦ inr e | inr k ↦ inl k ])
  same_turn full (Asks name n) faults known log same fits =
      ap (λ (l : Log). (Noticed name n Next l.done ∷ [], None)) log
  same_turn full Bye faults known log same fits = refl

-- a turn of the definitions, by its parts
pub replies_where : (existed : List ℕ → Bool) (table : Book) (f : Frame) (faults : Faults) →
    (turn_where (is_full table) existed table f faults).0 ≡ (turn existed table f faults).0
unfolding turn
replies_where existed table (Says m) faults = refl
replies_where existed table (Asks name n) faults = refl
replies_where existed table Bye faults = refl

pub later_where : (existed : List ℕ → Bool) (table : Book) (f : Frame) (faults : Faults) →
    with_change table (name_of_frame f) (turn_where (is_full table) existed table f faults).1
    ≡ (turn existed table f faults).1
unfolding turn
later_where existed table (Says m) faults = refl
later_where existed table (Asks name n) faults = refl
later_where existed table Bye faults = refl

pub stops_same : (existed : List ℕ → Bool) (table : Book) (f : Frame) (faults : Faults) →
    stops_where (is_full table) existed table f faults ≡ stops_short existed table f faults
stops_same existed table (Says m) faults = refl
stops_same existed table (Asks name n) faults = refl
stops_same existed table Bye faults = refl

pub room_same : (book table : Book) (f : Frame) (replies : List Reply) →
    log_of book (name_of_frame f) ≡ log_of table (name_of_frame f) → IsWithoutRoom table f replies → IsWithoutRoom book f replies
room_same book table (Says m) replies log w =
    subst (λ (l : Log). IsTrue (is_admissible l m.number) × (replies ≡ notice m NoRoom l.done)) (sym log) w
room_same book table (Asks name n) replies log w = w
room_same book table Bye replies log w = w

pub where_ends : (full : Bool) (existed : List ℕ → Bool) (book : Book) (f : Frame) (faults : Faults) →
    IsTrue (ends_with_request (log_of book (name_of_frame f))) → (later : Log) →
    (turn_where full existed book f faults).1 ≡ Some later → IsTrue (ends_with_request later)
where_ends full existed book (Says m) faults ends later e =
    turn_ends (existed m.name) (is_known book m.name) full (log_of book m.name) m faults ends later e
where_ends full existed book (Asks name n) faults ends later e = no_some e
where_ends full existed book Bye faults ends later e = no_some e

-- where no name fits, an unknown one's frame changes nothing
pub full_changes : (full : Bool) (existed : List ℕ → Bool) (book : Book) (f : Frame) (faults : Faults) →
    is_known book (name_of_frame f) ≡ false → full ≡ true → (turn_where full existed book f faults).1 ≡ None
full_changes full existed book (Says m) faults unknown is =
    none_fits (existed m.name) (is_known book m.name) full (log_of book m.name) m faults unknown is
full_changes full existed book (Asks name n) faults unknown is = refl
full_changes full existed book Bye faults unknown is = refl
