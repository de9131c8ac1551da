-- Pieces that are copied one after the other.
use Rattle.std.proofs.Common.{◌≡◌, ◌∙◌, ℕ, ◌+◌, ◌-◌, ◌^◌, ◌≤◌, ◌<◌, List, [], length, take, drop, Option, Some, sym}
use Rattle.std.proofs.Common.{ap, subst, arith, length-drop}
use Rattle.std.specs.Prelude.{IsTrue, option_map}
use Rattle.std.proofs.lemmas.List.{drop-drop, take_all}
use Rattle.bw_stream.specs.Moves.{IsRead}
use Rattle.bw_model.proofs.Elements.{some_inj}
use Rattle.bw_store.specs.Stores.{Written, overwritten}
use Rattle.bw_disk.specs.Volumes.{WrittenInPart}
use Rattle.bw_disk.specs.declared.disk.Disk.{Ghosts}
use Rattle.bw_repair.specs.Copies.{IsPieceCopied, IsCopiedWhole, LeavesPart, StopsCopy}
use Rattle.bw_repair.specs.DiskSteps.{GrowsTo}
use Rattle.bw_repair.specs.declared.conversions.fault.ConvertFault.{ConvertFault}
use Rattle.bw_repair.specs.declared.conversions.fault.ConvertKind.{ConvertKind}
use Rattle.bw_repair.specs.declared.conversions.fault.ConvertKind.TheVariants.{TooLong, Unwritten}
use Rattle.bw_repair.proofs.OutWrites.{written_on, written_part}

-- a read and a write that succeed
pub copied : {D F : Type 0} (G : Ghosts D F) (path w : List ℕ) (place most n : ℕ) (buf : List ℕ) (old new : D)
    (left : Option (List ℕ)) → place ≤ length w → 0 < most → IsRead (drop place w) most n buf left →
    (IsTrue (G.honest old) → Written (G.contents old path) place (take n buf) (G.contents new path)) →
    IsPieceCopied G path w place n old new left
copied G path w place most n buf old new left there room read written =
    let long : length (drop place w) ≡ length w - place = length-drop place w in
    let few = read.within in record {
      within = omega (arith, long, few, there);
      rest = read.rest ∙ ap (λ (z : List ℕ). Some z) (drop-drop n place w);
      ended = λ z.
          let none : length (drop place w) ≡ 0 = ap length (read.end z room) in omega (arith, long, none, there);
      puts = λ h e.
          let put = written h in
          let was : put.0 ≡ take place w = some_inj (sym put.1 ∙ e) in
          put.2 ∙ ap (λ (z : List ℕ). Some (overwritten z place (take n buf))) was
          ∙ ap (λ (z : List ℕ). Some z) (written_on w place n (take n buf) there read.given);
    }

-- a write that fails
pub unwritten : {D F : Type 0} (G : Ghosts D F) (path w : List ℕ) (place most n : ℕ) (buf : List ℕ) (f : ConvertFault)
    (old new : D) (left : Option (List ℕ)) → place ≤ length w → IsRead (drop place w) most n buf left →
    (IsTrue (G.honest old) → WrittenInPart (G.contents old path) place (take n buf) (G.contents new path)) →
    f ≡ record { kind = Unwritten; offset = place } → StopsCopy G path w place f.kind old new
unwritten G path w place most n buf f old new left there read written is =
    subst (λ (x : ConvertFault). StopsCopy G path w place x.kind old new) (sym is) (record {
      reason = tt;
      part = λ h e.
          let put = written h in
          let part = written_part w place n put.0 (take n buf) there read.given in (
            part.0,
            put.1 ∙ ap (option_map (λ (z : List ℕ). overwritten z place (take put.0 (take n buf)))) e
                ∙ ap (λ (z : List ℕ). Some z) part.1,
          );
    })

-- the bytes of w up to a place are copied
pub record SoFar {D F : Type 0} (G : Ghosts D F) (path w : List ℕ) (place : ℕ) (old new : D)
    (left : Option (List ℕ)) : Type 0 where
  pub within : place ≤ length w
  pub rest : left ≡ Some (drop place w)
  pub has : GrowsTo G path [] (take place w) old new

pub none_yet : {D F : Type 0} (G : Ghosts D F) (path w : List ℕ) (d : D) (left : Option (List ℕ)) → left ≡ Some w →
    SoFar G path w 0 d d left
none_yet G path w d left e = record { within = omega arith; rest = e; has = λ h was. was }

-- one piece more
pub more : {D F : Type 0} (G : Ghosts D F) (path at w : List ℕ) (place n : ℕ) (a b c : D)
    (left left' : Option (List ℕ)) → at ≡ path → G.honest b ≡ G.honest a → SoFar G path w place a b left →
    IsPieceCopied G at w place n b c left' → SoFar G path w (place + n) a c left'
more G path at w place n a b c left left' same honest far piece = record {
  within = piece.within;
  rest = piece.rest;
  has = λ h e.
      subst (λ (p : List ℕ). GrowsTo G p (take place w) (take (place + n) w) b c) same piece.puts
      (subst IsTrue (sym honest) h) (far.has h e);
}

-- the last piece is empty
pub whole : {D F : Type 0} (G : Ghosts D F) (path at w : List ℕ) (place n : ℕ) (a b c : D)
    (left left' : Option (List ℕ)) → at ≡ path → G.honest b ≡ G.honest a → n ≡ 0 → SoFar G path w place a b left →
    IsPieceCopied G at w place n b c left' → IsCopiedWhole G path w place a c
whole G path at w place n a b c left left' same honest none far piece =
    let ends : place ≡ length w = piece.ended none in
    let far' = more G path at w place n a b c left left' same honest far piece in record {
      counts = ends;
      puts = λ h e. far'.has h e ∙ ap (λ (z : List ℕ). Some z) (take_all (place + n) w (omega (arith, ends)));
    }

-- a later piece stops
pub stopped_later : {D F : Type 0} (G : Ghosts D F) (path at w : List ℕ) (place : ℕ) (kind : ConvertKind) (a b c : D)
    (left : Option (List ℕ)) → at ≡ path → G.honest b ≡ G.honest a → SoFar G path w place a b left →
    StopsCopy G at w place kind b c → StopsCopy G path w 0 kind a c
stopped_later G path at w place kind a b c left same honest far stops = record {
  reason = stops.reason;
  part = λ h e.
      subst (λ (p : List ℕ). LeavesPart G p w place b c) same stops.part (subst IsTrue (sym honest) h) (far.has h e);
}

-- there are too many
pub too_long : {D F : Type 0} (G : Ghosts D F) (path w : List ℕ) (place : ℕ) (f : ConvertFault) (a b : D)
    (left : Option (List ℕ)) → f ≡ record { kind = TooLong; offset = place } → 2 ^ 62 < place →
    SoFar G path w place a b left → StopsCopy G path w 0 f.kind a b
too_long G path w place f a b left is over far =
    let within = far.within in
    subst (λ (x : ConvertFault). StopsCopy G path w 0 x.kind a b) (sym is) (record {
      reason = omega (arith, over, within);
      part = λ h e. (place, far.has h e);
    })
