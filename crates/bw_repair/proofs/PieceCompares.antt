-- A file that is compared with the bytes of a reader, piece by piece.
use Rattle.std.proofs.Common.{◌≡◌, ◌∙◌, ◌↔◌, ℕ, ◌+◌, ◌-◌, ◌≤◌, ◌<◌, Bool, true, false, List, ◌++◌, length, take, drop}
use Rattle.std.proofs.Common.{Option, Some, Result, Ok, Err, IfOk, refl, sym, ap, arith, length-drop}
use Rattle.std.specs.Prelude.{option_map}
use Rattle.std.proofs.lemmas.List.{drop-drop, length-take-le, take_all, take_min}
use Rattle.std.proofs.Math.Seq.{take-add}
use Rattle.bw_model.proofs.Elements.{some_inj}
use Rattle.bw_stream.specs.Moves.{IsRead}
use Rattle.bw_stream.specs.Readers.{Of}
use Rattle.bw_disk.specs.Volumes.{ReadsPrefix}
use Rattle.bw_repair.specs.Comparisons.{Compares, HasPiece}

-- a piece is there exactly if what was read, up to the end of the file, is it
pub piece_there : (content : Option (List ℕ)) (place n count : ℕ) (room piece : List ℕ) (has : Bool)
    → n ≡ length piece → ReadsPrefix (option_map (drop place) content) n count room
    → (has ≡ true) ↔ (take count room ≡ piece) → HasPiece content place piece has
piece_there content place n count room piece has long read same found is =
    let rest = drop place found in
    let it = read rest (ap (option_map (drop place)) is) in
    let whole : take count room ≡ take (length piece) rest =
    it.1 ∙ ap (λ (n : ℕ). take n rest) it.0 ∙ take_min n rest
    ∙ ap (λ (k : ℕ). take k rest) long in
    (λ holds. sym whole ∙ same.0 holds, λ there. same.1 (whole ∙ there))

-- the content has the bytes of w up to a place
pub record SoFar (content : Option (List ℕ)) (w : List ℕ) (place : ℕ) (left : Option (List ℕ)) : Type 0 where
  pub within : place ≤ length w
  pub rest : left ≡ Some (drop place w)
  pub same : (found : List ℕ) → content ≡ Some found → take place found ≡ take place w

pub none_yet : (content : Option (List ℕ)) (w : List ℕ) (left : Option (List ℕ)) → left ≡ Some w
    → SoFar content w 0 left
none_yet content w left e = record { within = omega arith; rest = e; same = λ found is. refl }

-- one piece more is there
pub more : (content again : Option (List ℕ)) (w : List ℕ) (place most n : ℕ) (buf piece : List ℕ) (has : Bool)
    (left left' : Option (List ℕ)) → SoFar content w place left → IsRead (drop place w) most n buf left' → again ≡ content
    → piece ≡ take n buf → HasPiece again place piece has → has ≡ true → SoFar content w (place + n) left'
more content again w place most n buf piece has left left' far read the is there held =
    let long : length (drop place w) ≡ length w - place = length-drop place w in
    let few = read.within in
    let within = far.within in
    let count : length piece ≡ n = ap length (is ∙ read.given) ∙ length-take-le n (drop place w) few in record {
      within = omega (arith, long, few, within);
      rest = read.rest ∙ ap (λ (z : List ℕ). Some z) (drop-drop n place w);
      same = λ found stands.
          let here : take (length piece) (drop place found) ≡ piece = (there found (the ∙ stands)).0 held in
          take-add place n found ∙ ap (λ (z : List ℕ). z ++ take n (drop place found)) (far.same found stands)
          ∙ ap (λ (z : List ℕ). take place w ++ z)
          (ap (λ (k : ℕ). take k (drop place found)) (sym count) ∙ here ∙ is ∙ read.given) ∙ sym (take-add place n w);
    }

-- .. or isn't, so that the content is another one
pub differs : (content again : Option (List ℕ)) (w : List ℕ) (place most n : ℕ) (buf piece : List ℕ) (has : Bool)
    (left left' : Option (List ℕ)) → SoFar content w place left → IsRead (drop place w) most n buf left' → again ≡ content
    → piece ≡ take n buf → HasPiece again place piece has → has ≡ false → Compares content w false
differs content again w place most n buf piece has left left' far read the is there absent found stands =
    let count : length piece ≡ n = ap length (is ∙ read.given) ∙ length-take-le n (drop place w) read.within in (
      λ holds. (let bad : false ≡ true = holds in cc),
      λ all.
          let here : take (length piece) (drop place found) ≡ piece =
          ap (λ (z : List ℕ). take (length piece) (drop place z)) all
          ∙ ap (λ (k : ℕ). take k (drop place w)) count ∙ sym (is ∙ read.given) in
          let bad : false ≡ true = sym absent ∙ (there found (the ∙ stands)).1 here in cc,
    )

-- all of w is there, and more only if the content is longer
pub whole : (content again : Option (List ℕ)) (w : List ℕ) (place most n : ℕ) (buf : List ℕ) (ends : Bool)
    (left left' : Option (List ℕ)) → SoFar content w place left → IsRead (drop place w) most n buf left' → again ≡ content
    → n ≡ 0 → 0 < most → (option_map length again ≡ Some place) ↔ (ends ≡ true) → Compares content w ends
whole content again w place most n buf ends left left' far read the none room is found stands =
    let long : length (drop place w) ≡ length w - place = length-drop place w in
    let last : length (drop place w) ≡ 0 = ap length (read.end none room) in
    let within = far.within in
    let place_is : place ≡ length w = omega (arith, long, last, within) in (
      λ holds.
          let len : length found ≡ place = some_inj (sym (ap (option_map length) (the ∙ stands)) ∙ is.1 holds) in
          sym (take_all place found (omega (arith, len))) ∙ far.same found stands
          ∙ take_all place w (omega (arith, place_is)),
      λ all. is.0 (ap (option_map length) (the ∙ stands) ∙ ap (λ (z : List ℕ). Some (length z)) all
          ∙ ap (λ (k : ℕ). Some k) (sym place_is)),
    )

-- .. where it was found out or not
pub ended : {Y : Type 0} (told : Result Bool Y) (content again : Option (List ℕ)) (left : Option (List ℕ)) (place most n : ℕ)
    (buf : List ℕ) (left1 left2 : Option (List ℕ))
    → ((w : List ℕ) → left ≡ Some w → SoFar content w place left1)
    → ((xs : List ℕ) → left1 ≡ Some xs → IsRead xs most n buf left2)
    → again ≡ content → n ≡ 0 → 0 < most
    → IfOk told (λ ends. (option_map length again ≡ Some place) ↔ (ends ≡ true))
    → IfOk told (λ ends. Of left (λ w. Compares content w ends))
ended (Ok ends) content again left place most n buf left1 left2 far read the none room is = λ w begins.
    let so = far w begins in
    whole content again w place most n buf ends left1 left2 so (read _ so.rest) the none room is
ended (Err y) content again left place most n buf left1 left2 far read the none room is = tt
