-- A head that was put into the caller's memory, and the causes why none is.
use Rattle.std.proofs.Common.{◌≡◌, ℕ, ◌+◌, ◌-◌, ◌<◌, ◌≤◌, Bool, true, false, ◌&&◌, List, [], ◌∷◌, ◌++◌, length, take, drop}
use Rattle.std.proofs.Common.{refl, sym, ◌∙◌, ap, subst, arith, inl, inr}
use Rattle.std.specs.Prelude.{IsTrue, nat_le, nat_lt, ◌↔◌}
use Rattle.std.proofs.Math.Seq.{take-append_seam, drop-append_seam}
use Rattle.std.proofs.lemmas.Bool.{cases_lt, and_from, and_parts, le-leb, lt-ltb, leb-true, ltb-true}
use Rattle.std.proofs.lemmas.List.{length-append}
use Rattle.bw_model.specs.Take.{Request}
use Rattle.bw_model.specs.Wire.{Second, last_number, Frame, Asks, Bye, is_name, is_request, is_frame, body, framed}
use Rattle.bw_model.specs.World.{Sender as Defined, settled}
use Rattle.bw_model.specs.Requests.{carried_bytes}
use Rattle.bw_wire.specs.EncodedFrames.{IsFrameOf, said}
use Rattle.bw_c.specs.Heads.{has_place, CanWrite, WroteHead, CanSpell, WroteFrame}
use Rattle.bw_c.specs.PlainSenders.{sender_name, IsPlainSender, with_offer}
use Rattle.bw_c.specs.declared.sender.BwiSender.{BwiSender}

no_bool : true ≡ false → ⊥
no_bool e = cc

-- the parts of a message that can be spelled
pub sayable : (name : List ℕ) (n : ℕ) (r : Request) → IsTrue (is_frame Second (said name n r)) →
    (IsTrue (is_name name)) × (n ≤ last_number Second) × (IsTrue (is_request r))
sayable name n r e =
    let outer = and_parts (is_name name && nat_le n (last_number Second)) (is_request r) e in
    let inner = and_parts (is_name name) (nat_le n (last_number Second)) outer.0 in
    (inner.0, leb-true _ _ inner.1, outer.1)

pub refuses_offer : (x : BwiSender) (r : Request) (room : ℕ) → has_place x ≡ false → CanWrite x r room → ⊥
refuses_offer x r room e w =
    no_bool (sym (and_from (nat_le x.settled x.offered && nat_lt x.offered (x.settled + 16))
    (nat_le x.offered (last_number Second))
    (and_from (nat_le x.settled x.offered) (nat_lt x.offered (x.settled + 16)) (le-leb _ _ w.settled)
    (lt-ltb _ _ w.window)) (le-leb _ _ (sayable (sender_name x) x.offered r w.frame).1)) ∙ e)

pub refuses_request : (x : BwiSender) (r : Request) (room : ℕ) → is_request r ≡ false → CanWrite x r room → ⊥
refuses_request x r room e w = no_bool (sym (sayable (sender_name x) x.offered r w.frame).2 ∙ e)

pub refuses_name : (x : BwiSender) (r : Request) (room : ℕ) → (IsTrue (is_name (sender_name x)) → ⊥) →
    CanWrite x r room → ⊥
refuses_name x r room e w = e (sayable (sender_name x) x.offered r w.frame).0

-- the head and the carried bytes are as long as the frame
head_length : (f : Frame) (head carried : List ℕ) → IsFrameOf f (head ++ carried) →
    length head + length carried ≡ length (framed (body f))
head_length f head carried e = sym (length-append head carried) ∙ ap (length {A = ℕ}) e.spelled

pub refuses_room : (x : BwiSender) (r : Request) (room : ℕ) (head : List ℕ) →
    IsFrameOf (said (sender_name x) x.offered r) (head ++ carried_bytes r) → room < length head → CanWrite x r room → ⊥
refuses_room x r room head e small w =
    let all = head_length _ head (carried_bytes r) e in
    let enough = w.enough in
    omega (arith, all, enough, small)

pub can_write : (x : BwiSender) (r : Request) (room : ℕ) (head : List ℕ) → has_place x ≡ true →
    IsFrameOf (said (sender_name x) x.offered r) (head ++ carried_bytes r) → length head ≤ room → CanWrite x r room
can_write x r room head may e fits =
    let all = head_length _ head (carried_bytes r) e in
    let outer = and_parts (nat_le x.settled x.offered && nat_lt x.offered (x.settled + 16))
    (nat_le x.offered (last_number Second)) may in
    let inner = and_parts (nat_le x.settled x.offered) (nat_lt x.offered (x.settled + 16)) outer.0 in
    record {
      frame = e.fits;
      settled = leb-true _ _ inner.0;
      window = ltb-true _ _ inner.1;
      enough = omega (arith, all, fits);
    }

-- one more request is offered
pub offers_plain : (s : Defined) (x : BwiSender) (r : Request) → has_place x ≡ true → IsPlainSender s x →
    IsPlainSender (with_offer s r) (record x { offered = x.offered + 1 })
offers_plain s x r may f =
    let outer = and_parts (nat_le x.settled x.offered && nat_lt x.offered (x.settled + 16))
    (nat_le x.offered (last_number Second)) may in
    let inner = and_parts (nat_le x.settled x.offered) (nat_lt x.offered (x.settled + 16)) outer.0 in
    let free : x.offered < x.settled + 16 = ltb-true _ _ inner.1 in
    let len : length (s.offered ++ r ∷ []) ≡ length s.offered + 1 = length-append s.offered (r ∷ []) in
    let within = f.within in
    let all = f.offered in
    let done = f.settled in
    record {
      name = f.name;
      offered = omega (arith, len, all);
      within = omega (arith, len, within);
      few = omega (arith, len, all, done, free);
      prefix = f.prefix;
      settled = f.settled;
      slots = f.slots;
      stored = f.stored;
    }

pub wrote_head : (x : BwiSender) (r : Request) (head before after : List ℕ) (n : ℕ) → has_place x ≡ true →
    IsFrameOf (said (sender_name x) x.offered r) (head ++ carried_bytes r) → take n after ≡ head →
    drop n after ≡ drop n before → WroteHead x r before (record x { offered = x.offered + 1 }) after n
wrote_head x r head before after n may e put rest = record {
  frame = subst (λ (h : List ℕ). IsFrameOf (said (sender_name x) x.offered r) (h ++ carried_bytes r)) (sym put) e;
  rest = rest;
  counted = refl;
  offered = λ s f. offers_plain s x r may f;
}

-- it was put there, so there was room
pub put_room : (head before after : List ℕ) (n : ℕ) → (length before < length head → (n ≡ 0) × (after ≡ before)) →
    (n ≡ 0 → ⊥) → length head ≤ length before
put_room head before after n full some = elim (cases_lt (length before) (length head)) [
  | inl b ↦ absurd (some (full b).0)
  | inr b ↦ b
]

-- it wasn't, so there was none
pub put_full : (head before after : List ℕ) (n : ℕ)
    → (length head ≤ length before → (n ≡ length head) × (take n after ≡ head) × (drop n after ≡ drop n before)) →
    0 < length head → n ≡ 0 → length before < length head
put_full head before after n room some none = elim (cases_lt (length before) (length head)) [
  | inl b ↦ b
  | inr b ↦ let all = (room b).0 in absurd (omega (arith, all, some, none))
]

-- what was put at the start of bytes
pub put_taken : (x bytes items rest : List ℕ) → x ≡ bytes → bytes ≡ items → take (length bytes) (x ++ rest) ≡ items
put_taken x bytes items rest e f =
    ap (λ (m : ℕ). take m (x ++ rest)) (ap (length {A = ℕ}) (sym e)) ∙ take-append_seam x rest ∙ e ∙ f

pub put_dropped : (x bytes rest : List ℕ) → x ≡ bytes → drop (length bytes) (x ++ rest) ≡ rest
put_dropped x bytes rest e =
    ap (λ (m : ℕ). drop m (x ++ rest)) (ap (length {A = ℕ}) (sym e)) ∙ drop-append_seam x rest

-- a frame without a payload of the caller's that was put there, or wasn't
pub spelled_wrote : (f : Frame) (frame before after : List ℕ) (n : ℕ) → IsFrameOf f frame
    → (length frame ≤ length before → (n ≡ length frame) × (take n after ≡ frame) × (drop n after ≡ drop n before)) →
    (length before < length frame → (n ≡ 0) × (after ≡ before)) → 0 < n → WroteFrame f before after n
spelled_wrote f frame before after n e room full some =
    let put = room (put_room frame before after n full (λ none. omega (arith, none, some))) in
    record { frame = subst (IsFrameOf f) (sym put.1) e; rest = put.2 }

pub spelled_some : (f : Frame) (frame before after : List ℕ) (n : ℕ) → IsFrameOf f frame → 0 < length frame
    → (length frame ≤ length before → (n ≡ length frame) × (take n after ≡ frame) × (drop n after ≡ drop n before)) →
    (length before < length frame → (n ≡ 0) × (after ≡ before)) → 0 < n ↔ CanSpell f (length before)
spelled_some f frame before after n e long room full =
    let all : length frame ≡ length (framed (body f)) = ap (length {A = ℕ}) e.spelled in (
      λ some. record {
        frame = e.fits;
        enough = let fits = put_room frame before after n full (λ none. omega (arith, none, some)) in omega (arith, all, fits);
      },
      λ w. let enough = w.enough in let fits : length frame ≤ length before = omega (arith, all, enough) in
          let put = (room fits).0 in omega (arith, put, long),
    )

pub spelled_none : (frame before after : List ℕ) (n : ℕ) → 0 < length frame
    → (length frame ≤ length before → (n ≡ length frame) × (take n after ≡ frame) × (drop n after ≡ drop n before)) →
    (length before < length frame → (n ≡ 0) × (after ≡ before)) → n ≡ 0 → after ≡ before
spelled_none frame before after n long room full none = (full (put_full frame before after n room long none)).1

pub asks_named : (name : List ℕ) (room : ℕ) → CanSpell (Asks name 0) room → IsTrue (is_name name)
asks_named name room w = (and_parts (is_name name) (nat_le 0 (last_number Second)) w.frame).0
