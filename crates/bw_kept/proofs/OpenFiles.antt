-- The file that a server has of a take is one that a stop leaves.
use Rattle.std.proofs.Common.{◌≡◌, inl, inr, Bool, true, false, List, ◌++◌, length, Option, Some, None, refl, ◌∙◌, ℕ}
use Rattle.std.specs.Bool.{MatchBool}
use Rattle.std.proofs.lemmas.List.{append_cancel_left, append_cancel_right}
use Rattle.bw_model.specs.Layout.{pad}
use Rattle.bw_model.specs.Take.{Take, Format, Request, Open, Block, Mark, SetField, Close, AreFields}
use Rattle.bw_model.specs.File.{file_of, header}
use Rattle.bw_model.specs.Holds.{IsBetween}
use Rattle.bw_journal.specs.Recovery.{IsOnTheWay, IsRepairedBy}
use Rattle.bw_journal.proofs.RecoveryLaws.{closed_files_are_whole}
use Rattle.bw_journal.proofs.RepairLaws.{open_file, files_are_repaired}
use Rattle.bw_recovery.specs.Left.{IsMendable, IsLeftOpen, IsLeftFile}

-- a take of this format
abbrev of_format : Take → Format → Take
of_format t f = record t { format = Some f }

samples_in : (hd a b p : List ℕ) → hd ++ (a ++ p) ≡ hd ++ (b ++ p) → a ≡ b
samples_in hd a b p e = append_cancel_right a b p (append_cancel_left hd (a ++ p) (b ++ p) e)

-- a file that is on its way is mendable
mendable : (t : Take) (f : Format) (limit : ℕ) (waits : Option Request) (found : List ℕ) → AreFields t.fields →
    t.closed ≡ false → IsOnTheWay (of_format t f) limit waits (Some found) → IsMendable (of_format t f) found
mendable t f limit waits found fields still way =
    let r : IsRepairedBy (of_format t f) f limit found =
    files_are_repaired (of_format t f) f limit waits found fields refl still way in
    record {
      long = r.long;
      samples = samples_in (header f t.fields t.history (length t.samples) 0 limit) _ t.samples (pad (length t.samples))
          (r.whole ∙ open_file (of_format t f) f limit fields still);
    }

none_some : {X : Type 0} {x : X} → None ≡ Some x → ⊥
none_some e = cc

-- and it is there
no_file : (t : Take) (f : Format) (limit : ℕ) (waits : Option Request) → IsOnTheWay (of_format t f) limit waits None → ⊥
no_file t f limit waits (inl e) = none_some e
no_file t f limit waits (inr w) = go w.request w.between
  where
    go : (r : Request) → IsBetween (of_format t f) limit r None → ⊥
    go (Open h history) between = between
    go (Block bytes) between = between
    go (Mark id frame) between = between
    go (SetField tag value) between = between
    go (Close total) between = between

-- of a take that is open
left_open : (t : Take) (limit : ℕ) (waits : Option Request) (o : Option Format) (found : Option (List ℕ)) →
    AreFields t.fields → t.closed ≡ false → IsOnTheWay (record t { format = o }) limit waits found →
    IsLeftOpen (record t { format = o }) o found
left_open t limit waits None found fields still way = tt
left_open t limit waits (Some f) None fields still way = no_file t f limit waits way
left_open t limit waits (Some f) (Some bytes) fields still way = mendable t f limit waits bytes fields still way

-- the file of a take whose name was free
left_free : (t : Take) (limit : ℕ) (waits : Option Request) (found : Option (List ℕ)) → AreFields t.fields →
    IsOnTheWay t limit waits found → IsLeftFile None t limit found
left_free t limit waits found fields way = go t.closed refl
  where
    go : (v : Bool) → t.closed ≡ v → MatchBool v (found ≡ file_of t limit) (IsLeftOpen t t.format found)
    go true e = closed_files_are_whole t limit waits found e way
    go false e = left_open t limit waits t.format found fields e way

-- the file of a take, by what stood under its name
pub left_file : (first : Option (List ℕ)) (t : Take) (limit : ℕ) (waits : Option Request) (found : Option (List ℕ)) →
    AreFields t.fields → ((bytes : List ℕ) → first ≡ Some bytes → found ≡ Some bytes) →
    (first ≡ None → IsOnTheWay t limit waits found) → IsLeftFile first t limit found
left_file (Some stood) t limit waits found fields same way = same stood refl
left_file None t limit waits found fields same way = left_free t limit waits found fields (way refl)
