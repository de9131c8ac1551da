-- Pieces that are printed one after the other.
use Rattle.std.proofs.Common.{◌≡◌, ◌∙◌, ℕ, ◌+◌, ◌<◌, List, [], ◌++◌, take, drop, Option, Some}
use Rattle.std.proofs.Common.{refl, sym, ap}
use Rattle.std.specs.Prelude.{unwrap_or}
use Rattle.std.proofs.lemmas.List.{append_assoc, append-nil, drop-drop, take-append-drop}
use Rattle.std.proofs.Math.Seq.{take-add}
use Rattle.bw_stream.specs.Moves.{Begins, Reads, Writes, one_more}
use Rattle.bw_stream.specs.Readers.{Of}
use Rattle.bw_stream.specs.declared.sink.Sink.{Ghosts as Writer}
use Rattle.bw_repair.specs.JoinedPrints.{FailsToPrint, PrintsPrefix, PrintsPiece, PrintsWhole, StopsPrint}
use Rattle.bw_repair.specs.declared.left_out.printing.PrintFault.{PrintFault}
use Rattle.bw_repair.specs.declared.left_out.printing.PrintFault.TheVariants.{Unread, Unwritable}

-- written after what was written
pub writes_on : (a b c : Option (List ℕ)) (s t : List ℕ) → Writes a s b → Writes b t c → Writes a (s ++ t) c
writes_on a b c s t f g xs e = g (xs ++ s) (f xs e) ∙ ap (λ (z : List ℕ). Some z) (append_assoc xs s t)

pub begins_on : (a b c : Option (List ℕ)) (s t : List ℕ) → Writes a s b → Begins b t c → Begins a (s ++ t) c
begins_on a b c s t f g xs e =
    let p = g (xs ++ s) (f xs e) in record {
      part = s ++ p.part;
      rest = p.rest;
      whole = append_assoc s p.part p.rest ∙ ap (λ (z : List ℕ). s ++ z) p.whole;
      stands = p.stands ∙ ap (λ (z : List ℕ). Some z) (append_assoc xs s p.part);
    }

pub begins_more : (a c : Option (List ℕ)) (s t : List ℕ) → Begins a s c → Begins a (s ++ t) c
begins_more a c s t g xs e =
    let p = g xs e in record {
      part = p.part;
      rest = p.rest ++ t;
      whole = sym (append_assoc p.part p.rest t) ∙ ap (λ (z : List ℕ). z ++ t) p.whole;
      stands = p.stands;
    }

pub writes_none : (a : Option (List ℕ)) → Writes a [] a
writes_none a xs e = e ∙ ap (λ (z : List ℕ). Some z) (sym (append-nil xs))

-- a piece
pub piece_printed : {W : Type 0} (w : Writer W) (left : Option (List ℕ)) (most n : ℕ) (buf : List ℕ)
    (left' : Option (List ℕ)) (old new : W) → 0 < most → Reads left most n buf left' →
    Writes (w.written old) (take n buf) (w.written new) → w.failures new ≡ w.failures old →
    PrintsPiece w left n left' old new
piece_printed w left most n buf left' old new room r wrote counted = record {
  part = take n buf;
  wrote = wrote;
  counted = counted;
  is = λ b e. (r b e).given;
  rest = λ b e. (r b e).rest;
  ended = λ b e z. (r b e).end z room;
}

pub piece_failed : {W : Type 0} (w : Writer W) (left : Option (List ℕ)) (most n : ℕ) (buf : List ℕ)
    (left' : Option (List ℕ)) (old new : W) → Reads left most n buf left' →
    Begins (w.written old) (take n buf) (w.written new) → w.failures new ≡ one_more (w.failures old) →
    FailsToPrint w left old new
piece_failed w left most n buf left' old new r begun counted = record {
  text = take n buf ++ unwrap_or left' [];
  is = λ b e.
      ap (λ (z : List ℕ). z ++ unwrap_or left' []) (r b e).given
      ∙ ap (λ (o : Option (List ℕ)). take n b ++ unwrap_or o []) (r b e).rest ∙ take-append-drop n b;
  begun = begins_more (w.written old) (w.written new) (take n buf) (unwrap_or left' []) begun;
  counted = counted;
}

pub nothing_read : {W : Type 0} (w : Writer W) (left : Option (List ℕ)) (old : W) → PrintsPrefix w left old old
nothing_read w left old = record {
  text = [];
  rest = unwrap_or left [];
  is = λ b e. ap (λ (o : Option (List ℕ)). unwrap_or o []) e;
  wrote = writes_none (w.written old);
  counted = refl;
}

-- the bytes up to a place are printed
pub record SoFar {W : Type 0} (w : Writer W) (left : Option (List ℕ)) (place : ℕ) (now : Option (List ℕ)) (old new : W)
    : Type 0 where
  pub text : List ℕ
  pub is : Of left (λ b. text ≡ take place b)
  pub rest : Of left (λ b. now ≡ Some (drop place b))
  pub wrote : Writes (w.written old) text (w.written new)
  pub counted : w.failures new ≡ w.failures old

pub none_yet : {W : Type 0} (w : Writer W) (left : Option (List ℕ)) (old : W) → SoFar w left 0 left old old
none_yet w left old = record {
  text = [];
  is = λ b e. refl;
  rest = λ b e. e;
  wrote = writes_none (w.written old);
  counted = refl;
}

pub one_on : {W : Type 0} (w : Writer W) (left : Option (List ℕ)) (place n : ℕ) (now later : Option (List ℕ))
    (old mid new : W) → SoFar w left place now old mid → PrintsPiece w now n later mid new →
    SoFar w left (place + n) later old new
one_on w left place n now later old mid new far piece = record {
  text = far.text ++ piece.part;
  is = λ b e.
      ap (λ (z : List ℕ). z ++ piece.part) (far.is b e)
      ∙ ap (λ (z : List ℕ). take place b ++ z) (piece.is (drop place b) (far.rest b e)) ∙ sym (take-add place n b);
  rest = λ b e.
      piece.rest (drop place b) (far.rest b e) ∙ ap (λ (z : List ℕ). Some z) (drop-drop n place b);
  wrote = writes_on (w.written old) (w.written mid) (w.written new) far.text piece.part far.wrote piece.wrote;
  counted = piece.counted ∙ far.counted;
}

pub all_printed : {W : Type 0} (w : Writer W) (left : Option (List ℕ)) (place n : ℕ) (now later : Option (List ℕ))
    (old mid new : W) → n ≡ 0 → SoFar w left place now old mid → PrintsPiece w now n later mid new →
    PrintsWhole w left old new
all_printed w left place n now later old mid new none far piece = record {
  text = far.text ++ piece.part;
  is = λ b e.
      let rest = far.rest b e in
      let last : piece.part ≡ drop place b =
      piece.is (drop place b) rest ∙ ap (λ (k : ℕ). take k (drop place b)) none
      ∙ sym (piece.ended (drop place b) rest none) in
      ap (λ (z : List ℕ). z ++ piece.part) (far.is b e) ∙ ap (λ (z : List ℕ). take place b ++ z) last
      ∙ take-append-drop place b;
  wrote = writes_on (w.written old) (w.written mid) (w.written new) far.text piece.part far.wrote piece.wrote;
  counted = piece.counted ∙ far.counted;
}

part_on : {W : Type 0} (w : Writer W) (left : Option (List ℕ)) (place : ℕ) (now : Option (List ℕ))
    (old mid new : W) → SoFar w left place now old mid → PrintsPrefix w now mid new → PrintsPrefix w left old new
part_on w left place now old mid new far stops = record {
  text = far.text ++ stops.text;
  rest = stops.rest;
  is = λ b e.
      append_assoc far.text stops.text stops.rest
      ∙ ap (λ (z : List ℕ). z ++ (stops.text ++ stops.rest)) (far.is b e)
      ∙ ap (λ (z : List ℕ). take place b ++ z) (stops.is (drop place b) (far.rest b e)) ∙ take-append-drop place b;
  wrote = writes_on (w.written old) (w.written mid) (w.written new) far.text stops.text far.wrote stops.wrote;
  counted = stops.counted ∙ far.counted;
}

fails_on : {W : Type 0} (w : Writer W) (left : Option (List ℕ)) (place : ℕ) (now : Option (List ℕ))
    (old mid new : W) → SoFar w left place now old mid → FailsToPrint w now mid new → FailsToPrint w left old new
fails_on w left place now old mid new far stops = record {
  text = far.text ++ stops.text;
  is = λ b e.
      ap (λ (z : List ℕ). z ++ stops.text) (far.is b e)
      ∙ ap (λ (z : List ℕ). take place b ++ z) (stops.is (drop place b) (far.rest b e)) ∙ take-append-drop place b;
  begun = begins_on (w.written old) (w.written mid) (w.written new) far.text stops.text far.wrote stops.begun;
  counted = stops.counted ∙ ap one_more far.counted;
}

pub stopped_on : {W : Type 0} (w : Writer W) (left : Option (List ℕ)) (place : ℕ) (now : Option (List ℕ))
    (fault : PrintFault) (old mid new : W) → SoFar w left place now old mid → StopsPrint w now fault mid new →
    StopsPrint w left fault old new
stopped_on w left place now (Unread at) old mid new far stops = part_on w left place now old mid new far stops
stopped_on w left place now Unwritable old mid new far stops = fails_on w left place now old mid new far stops

pub too_many : {W : Type 0} (w : Writer W) (left : Option (List ℕ)) (place : ℕ) (now : Option (List ℕ)) (old new : W) →
    SoFar w left place now old new → PrintsPrefix w left old new
too_many w left place now old new far = record {
  text = far.text;
  rest = unwrap_or now [];
  is = λ b e.
      ap (λ (z : List ℕ). z ++ unwrap_or now []) (far.is b e)
      ∙ ap (λ (o : Option (List ℕ)). take place b ++ unwrap_or o []) (far.rest b e) ∙ take-append-drop place b;
  wrote = far.wrote;
  counted = far.counted;
}
