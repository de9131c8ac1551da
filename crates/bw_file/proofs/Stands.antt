-- What a name has between two tries of a request.
use Rattle.std.proofs.Common.{◌≡◌, ◌⊎◌, ◌∙◌, refl, sym, ap, ℕ, ◌+◌, ◌≤◌, Bool, true, false, List, length, Option, Some}
use Rattle.std.proofs.Common.{None, subst}
use Rattle.std.specs.Prelude.{option_map}
use Rattle.std.specs.Bool.{MatchBool}
use Rattle.bw_model.specs.Take.{Take, Format, Request, Open, Block, Mark, SetField, Close, with_request}
use Rattle.bw_model.specs.File.{file_with, file_of, Repairable, kept_from, kept_to}
use Rattle.bw_model.specs.Holds.{IsBetween}
use Rattle.bw_store.specs.Stores.{MayTear}
use Rattle.bw_file.proofs.RepairableContents.{repairable_torn, repairable_old}

-- bytes that are between these files
pub record Stands (old new : List ℕ) (from to : ℕ) (found : Option (List ℕ)) : Type 0 where
  pub bytes : List ℕ
  pub is : found ≡ Some bytes
  pub repairable : Repairable old new from to bytes

-- they are so after a write of what the request may change
pub stands_torn : (old new : List ℕ) (from to : ℕ) (before after : Option (List ℕ)) (place n : ℕ) → to ≤ length old →
    Stands old new from to before → MayTear before place n after → (place + n ≤ from) ⊎ (to ≤ place) →
    place + n ≤ length new → Stands old new from to after
stands_torn old new from to before after place n fits s w apart room =
    let t = w.1 s.bytes s.is in
    record {
      bytes = t.0;
      is = t.1;
      repairable = repairable_torn old new s.bytes t.0 from to place n fits s.repairable t.2 apart room;
    }

-- the requests on a take that is open
abbrev pub IsLater : Request → Type 0
IsLater (Open g history) = ⊥
IsLater (Block bytes) = Unit {0}
IsLater (Mark id frame) = Unit {0}
IsLater (SetField tag value) = Unit {0}
IsLater (Close total) = Unit {0}

-- a take with a format, for which the definition computes
abbrev with_format : Take → Format → Take
with_format t f = record t { format = Some f }

abbrev RepairableFor : Take → ℕ → Format → Request → List ℕ → Type 0
RepairableFor t limit f r bytes =
    let old = file_with f t limit in
    Repairable old (file_with f (with_request t r) limit) (kept_from t r) (kept_to t r (length old)) bytes

some_between : (t : Take) (limit : ℕ) (f : Format) (r : Request) (bytes : List ℕ) → IsLater r →
    IsBetween (with_format t f) limit r (Some bytes) → RepairableFor (with_format t f) limit f r bytes
some_between t limit f (Open g history) bytes later h = absurd later
some_between t limit f (Block samples) bytes later h = h
some_between t limit f (Mark id frame) bytes later h = h
some_between t limit f (SetField tag value) bytes later h = h
some_between t limit f (Close total) bytes later h = h

between_some : (t : Take) (limit : ℕ) (f : Format) (r : Request) (bytes : List ℕ) → IsLater r →
    RepairableFor (with_format t f) limit f r bytes → IsBetween (with_format t f) limit r (Some bytes)
between_some t limit f (Open g history) bytes later h = absurd later
between_some t limit f (Block samples) bytes later h = h
between_some t limit f (Mark id frame) bytes later h = h
between_some t limit f (SetField tag value) bytes later h = h
between_some t limit f (Close total) bytes later h = h

none_between : (t : Take) (limit : ℕ) (f : Format) (r : Request) → IsLater r →
    IsBetween (with_format t f) limit r None → ⊥
none_between t limit f (Open g history) later h = later
none_between t limit f (Block samples) later h = h
none_between t limit f (Mark id frame) later h = h
none_between t limit f (SetField tag value) later h = h
none_between t limit f (Close total) later h = h

file_later : (t : Take) (limit : ℕ) (f : Format) (r : Request) → IsLater r →
    file_of (with_request (with_format t f) r) limit ≡ Some (file_with f (with_request (with_format t f) r) limit)
file_later t limit f (Open g history) later = absurd later
file_later t limit f (Block samples) later = refl
file_later t limit f (Mark id frame) later = refl
file_later t limit f (SetField tag value) later = refl
file_later t limit f (Close total) later = refl

module _ (t : Take) (limit : ℕ) (f : Format) (format : t.format ≡ Some f) where
  abbrev old : List ℕ
  old = file_with f t limit

  abbrev new : Request → List ℕ
  new r = file_with f (with_request t r) limit

  abbrev pub StandsFor : Request → Option (List ℕ) → Type 0
  StandsFor r found = Stands old (new r) (kept_from t r) (kept_to t r (length old)) found

  has_format : with_format t f ≡ t
  has_format = sym (ap (λ (o : Option Format). record t { format = o }) format)

  file_is : file_of t limit ≡ Some old
  file_is = ap (option_map (λ (g : Format). file_with g t limit)) format

  pub file_after : (r : Request) → IsLater r → file_of (with_request t r) limit ≡ Some (new r)
  file_after r later = subst
      (λ (u : Take). file_of (with_request u r) limit ≡ Some (file_with f (with_request u r) limit)) has_format
      (file_later t limit f r later)

  -- the definition speaks of such bytes
  between_stands : (r : Request) (found : Option (List ℕ)) → IsLater r → IsBetween t limit r found → StandsFor r found
  between_stands r None later h =
      absurd (subst (λ (u : Take). IsBetween u limit r None → ⊥) has_format (none_between t limit f r later) h)
  between_stands r (Some bytes) later h = record {
    bytes = bytes;
    is = refl;
    repairable = subst (λ (u : Take). IsBetween u limit r (Some bytes) → RepairableFor u limit f r bytes) has_format
        (some_between t limit f r bytes later) h;
  }

  pub stands_between : (r : Request) (found : Option (List ℕ)) → IsLater r → StandsFor r found →
      IsBetween t limit r found
  stands_between r found later s =
      subst (IsBetween t limit r) (sym s.is)
      (subst (λ (u : Take). RepairableFor u limit f r s.bytes → IsBetween u limit r (Some s.bytes)) has_format
      (between_some t limit f r s.bytes later) s.repairable)

  pub ready_stands : (r : Request) (dirty : Bool) (found : Option (List ℕ)) → IsLater r → length old ≤ length (new r) →
      MatchBool dirty (IsBetween t limit r found) (found ≡ file_of t limit) → StandsFor r found
  ready_stands r true found later grows ready = between_stands r found later ready
  ready_stands r false found later grows ready =
      record { bytes = old; is = ready ∙ file_is; repairable = repairable_old old (new r) _ _ grows }

  -- for a clean file it is the old file
  pub ready_clean : (r : Request) (dirty : Bool) (found : Option (List ℕ)) →
      MatchBool dirty (IsBetween t limit r found) (found ≡ file_of t limit) → dirty ≡ false → found ≡ Some old
  ready_clean r true found ready e = cc
  ready_clean r false found ready e = ready ∙ file_is
