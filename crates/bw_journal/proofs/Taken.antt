-- A take is taken from its beginning on, or never; and a verdict NameTaken shows it.
use Rattle.std.proofs.Common.{◌≡◌, ℕ, ◌%◌, Bool, true, false, cond, not, ◌&&◌, List, [], ◌∷◌, length, take, Option}
use Rattle.std.proofs.Common.{Some, None, refl, sym, ◌∙◌, ap}
use Rattle.std.specs.Prelude.{fold, is_some, nat_le, nat_lt, ◌==◌}
use Rattle.std.specs.List.{list_all, list_any}
use Rattle.bw_model.specs.Bytes.{at}
use Rattle.bw_model.specs.Take.{Take, Parts, Format, Request, Open, Block, Mark, SetField, Close, Verdict, Stored}
use Rattle.bw_model.specs.Take.{NameTaken, Closed, BadFormat, BadBlock, BadMarker, DuplicateMarker, TooManyMarkers}
use Rattle.bw_model.specs.Take.{BadField, WrongTotal, judge, judge_open, new_take, parts, after, verdict, is_stored}
use Rattle.bw_model.specs.Take.{with_request, is_format, is_history_byte, block_align, frames, field_fault}
use Rattle.bw_model.specs.Book.{made, step, verdict_at, verdict_by}

-- the taken flag is that of the beginning
taken-after : (t : Take) (r : Request) → (after t r).taken ≡ t.taken
taken-after t r = go (is_stored (verdict t r)) r
  where
    go : (v : Bool) (r : Request) → (cond v (with_request t r) t).taken ≡ t.taken
    go false r = refl
    go true (Open f history) = refl
    go true (Block bytes) = refl
    go true (Mark id frame) = refl
    go true (SetField tag value) = refl
    go true (Close total) = refl

taken-fold : (t : Take) (s : List (Option Request)) → (fold step t s).taken ≡ t.taken
taken-fold t [] = refl
taken-fold t (None ∷ s) = taken-fold t s
taken-fold t (Some r ∷ s) = taken-fold (after t r) s ∙ taken-after t r

pub taken-made : (existed : Bool) (s : List (Option Request)) (n : ℕ) → (parts (made existed s n)).taken ≡ existed
unfolding made
taken-made existed s n = taken-fold (new_take existed) (take n s)

-- the verdict NameTaken, as a test
abbrev is_name_taken : Verdict → Bool
is_name_taken NameTaken = true
is_name_taken v = false

other_two : (c : Bool) (v w : Verdict) → is_name_taken v ≡ false → is_name_taken w ≡ false →
    is_name_taken (cond c v w) ≡ false
other_two true v w a b = a
other_two false v w a b = b

-- only a taken take gets NameTaken
untaken_open : (p : Parts) (o : Option Format) (r : Request) → p.taken ≡ false →
    is_name_taken (judge_open p o r) ≡ false
untaken_open p (Some g) (Open f history) e = refl
untaken_open p None (Open f history) e =
    ap (λ (v : Bool). is_name_taken
    (cond (not (is_format f && list_all is_history_byte history)) BadFormat (cond v NameTaken Stored))) e
    ∙ other_two (not (is_format f && list_all is_history_byte history)) BadFormat Stored refl refl
untaken_open p None (Block bytes) e = refl
untaken_open p None (Mark id frame) e = refl
untaken_open p None (SetField tag value) e = refl
untaken_open p None (Close total) e = refl
untaken_open p (Some f) (Block bytes) e = other_two (length bytes % block_align f == 0) Stored BadBlock refl refl
untaken_open p (Some f) (Mark id frame) e =
    other_two (nat_lt (frames p) frame) BadMarker _ refl
    (other_two (list_any (λ m. m.0 == id) p.markers) DuplicateMarker _ refl
    (other_two (nat_le 1024 (length p.markers)) TooManyMarkers Stored refl refl))
untaken_open p (Some f) (SetField tag value) e = other_two (is_some (field_fault tag value)) BadField Stored refl refl
untaken_open p (Some f) (Close total) e = other_two (total == frames p) Stored WrongTotal refl refl

untaken : (p : Parts) (r : Request) → p.taken ≡ false → is_name_taken (judge p r) ≡ false
unfolding judge
untaken p r e = other_two p.closed Closed (judge_open p p.format r) refl (untaken_open p p.format r e)

untaken_by : (t : Take) (o : Option Request) → t.taken ≡ false → is_name_taken (verdict_by t o) ≡ false
untaken_by t None e = refl
untaken_by t (Some r) e = untaken (parts t) r e

false_true : false ≡ true → ⊥
false_true h = cc

pub taken_reported : (existed : Bool) (s : List (Option Request)) (n : ℕ) → verdict_at existed s n ≡ NameTaken → existed ≡ true
taken_reported true s n e = refl
taken_reported false s n e =
    absurd (false_true (sym (untaken_by (made false s n) (at s n) (taken-made false s n)) ∙ ap is_name_taken e))
