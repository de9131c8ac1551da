-- A framer's parts after each prefix of its bytes.
use Rattle.std.proofs.Common.{◌≡◌, ◌≢◌, ℕ, ◌+◌, ◌-◌, ◌≤◌, Bool, true, false, List, length, take, drop, sym, ap, subst}
use Rattle.std.proofs.Common.{◌∙◌, arith, Option, Some, None, Ok, Err}
use Rattle.std.proofs.lemmas.Bool.Decides.{nat_tests}
use Rattle.std.proofs.lemmas.List.{drop-drop, length-drop}
use Rattle.std.specs.Prelude.{IfSome}
use Rattle.sha2.specs.Sha256.{sha256}
use Rattle.bw_model.specs.Wire.{Cut}
use Rattle.bw_wire.specs.declared.intake.Intake.{Intake}
use Rattle.bw_wire.specs.declared.intake.Phase.{Phase}
use Rattle.bw_wire.specs.declared.intake.Phase.TheVariants as phases
use Rattle.bw_wire.specs.declared.reason.Reason.{Reason as Cause}
use Rattle.bw_wire.specs.Codecs.{Codec}
use Rattle.bw_wire.specs.Framings.{body_at_prefix}
use Rattle.bw_wire.specs.Held.{Held, largest_kept, room_kept, nothing_held, without_prefix}
use Rattle.bw_wire.specs.Intakes.{phase_of, pending_in, LetsGo, IsIntake}
use Rattle.bw_wire.specs.FramerStates.{Pending, Left, Failed, Reported, Nothing, Gives, Fails, consumed, compacted, emptied, next_of}
use Rattle.bw_wire.specs.FramerStates.{reported_again, HoldsLittle}
use Rattle.bw_wire.specs.Reasons.{reason_meaning}
use Rattle.bw_wire.proofs.FramerLaws.{next_of-left, next_of-failed, next_of-partial, next_of-bad, next_of-value}
use Rattle.bw_wire.proofs.FramerLaws.{next_of-last}

-- the block that is kept isn't large
room_kept-bound : (room : ℕ) → room_kept room ≤ largest_kept
room_kept-bound room = grind (arith, nat_tests)

-- if everything was released, nothing is kept
nothing_kept : (n : ℕ) (held : Held) → held ≡ nothing_held → (length held.bytes ≤ n) × (held.room ≤ largest_kept)
nothing_kept n held gone =
    subst (λ (h : Held). (length h.bytes ≤ n) × (h.room ≤ largest_kept)) (sym gone) (omega arith, omega arith)

-- a framer with p that reports t and keeps q
pub record Steps (X : Type 0) (codec : Codec X) (p q : Pending) (t : Reported X) : Type 0 where
  pub next : q ≡ (next_of codec p).1
  pub reported : t ≡ (next_of codec p).0
  pub held : HoldsLittle codec (next_of codec p)

steps : {X : Type 0} (codec : Codec X) (p q : Pending) (t : Reported X) → next_of codec p ≡ (t, q) →
    HoldsLittle codec (t, q) → Steps X codec p q t
steps {X} codec p q t e h = record {
  next = sym (ap (λ (x : Reported X × Pending). x.1) e);
  reported = sym (ap (λ (x : Reported X × Pending). x.0) e);
  held = subst (HoldsLittle codec) (sym e) h;
}

pub left_steps : {X : Type 0} (codec : Codec X) (i : Intake) (last : Option X) → codec.last ≡ last →
    i.phase ≡ phases.Left → IsIntake i → Steps X codec (pending_in i) (pending_in i) (reported_again last)
left_steps {X} codec i last same e h =
    let p = pending_in i in
    let gone : i.buffer ≡ nothing_held = subst (λ (h : Phase). LetsGo h i.buffer) e h.let_go in
    steps codec p p (reported_again last)
    (next_of-left codec p (ap phase_of e) ∙ ap (λ o. (reported_again {X = X} o, p)) same) (little last gone)
  where
    little : (last : Option X) → i.buffer ≡ nothing_held → HoldsLittle codec (reported_again last, pending_in i)
    little None gone = nothing_kept codec.most_left i.buffer gone
    little (Some x) gone = λ _. nothing_kept codec.most_left i.buffer gone

pub failed_steps : {X : Type 0} (codec : Codec X) (i : Intake) (cause : Cause) → i.phase ≡ phases.Failed cause →
    IsIntake i → Steps X codec (pending_in i) (pending_in i) (Fails (reason_meaning cause) i.used)
failed_steps codec i cause e h =
    let p = pending_in i in
    let gone : i.buffer ≡ nothing_held = subst (λ (x : Phase). LetsGo x i.buffer) e h.let_go in
    steps codec p p (Fails (reason_meaning cause) i.used)
    (next_of-failed codec p (reason_meaning cause) (ap phase_of e))
    (nothing_kept codec.most_left i.buffer gone)

pub partial_steps : {X : Type 0} (codec : Codec X) (i later : Intake) → i.phase ≡ phases.Reading →
    later ≡ record i { buffer = without_prefix i.buffer i.start; start = 0 } →
    (codec.first (drop i.start i.buffer.bytes) ≡ Err Cut) × (length (drop i.start i.buffer.bytes) ≤ codec.most_left)
    → Steps X codec (pending_in i) (pending_in later) Nothing
partial_steps {X} codec i later e kept prefix =
    let p = pending_in i in
    subst (λ (x : Intake). Steps X codec p (pending_in x) Nothing) (sym kept)
    (steps codec p (compacted p) Nothing (next_of-partial codec p (ap phase_of e) prefix.0)
    (prefix.1, room_kept-bound i.buffer.room))

pub bad_steps : {X : Type 0} (codec : Codec X) (i later : Intake) (cause : Cause) → i.phase ≡ phases.Reading →
    later ≡ record i { buffer = nothing_held; start = 0; phase = phases.Failed cause } →
    (codec.first (drop i.start i.buffer.bytes) ≡ Err (reason_meaning cause)) × (reason_meaning cause ≢ Cut)
    → Steps X codec (pending_in i) (pending_in later) (Fails (reason_meaning cause) i.used)
bad_steps {X} codec i later cause e gone prefix =
    let p = pending_in i in
    subst (λ (x : Intake). Steps X codec p (pending_in x) (Fails (reason_meaning cause) i.used)) (sym gone)
    (steps codec p (emptied p i.used (Failed (reason_meaning cause))) (Fails (reason_meaning cause) i.used)
    (next_of-bad codec p (reason_meaning cause) (ap phase_of e) prefix.0 prefix.1) (omega arith, omega arith))

-- a whole frame uses up its length and its body
used_up : (bytes : List ℕ) (len : ℕ) → 4 + len ≤ length bytes → length bytes - length (drop (4 + len) bytes) ≡ 4 + len
used_up bytes len whole = omega (arith, length-drop (4 + len) bytes)

pub last_steps : {X : Type 0} (codec : Codec X) (i mid later : Intake) (len : ℕ) (x : X) → codec.is_last x ≡ true →
    i.phase ≡ phases.Reading → mid ≡ record i { start = i.start + 4 + len; used = i.used + (4 + len) } →
    later ≡ record mid { buffer = nothing_held; start = 0; phase = phases.Left } →
    4 + len ≤ length (drop i.start i.buffer.bytes) →
    codec.first (drop i.start i.buffer.bytes) ≡ Ok (x, drop (4 + len) (drop i.start i.buffer.bytes))
    → Steps X codec (pending_in i) (pending_in later) (Gives x)
last_steps {X} codec i mid later len x last e used gone whole first =
    let p = pending_in i in
    let more = drop (4 + len) (drop i.start i.buffer.bytes) in
    let all = gone ∙ ap (λ (m : Intake). record m { buffer = nothing_held; start = 0; phase = phases.Left }) used in
    subst (λ (h : Intake). Steps X codec p (pending_in h) (Gives x)) (sym all)
    (subst (λ (n : ℕ). Steps X codec p (emptied p (i.used + n) Left) (Gives x))
    (used_up (drop i.start i.buffer.bytes) len whole)
    (steps codec p (emptied p (i.used + (length (drop i.start i.buffer.bytes) - length more)) Left) (Gives x)
    (next_of-last codec p x more (ap phase_of e) first last) (λ _. (omega arith, omega arith))))

-- a framer that took a whole frame
consumed_prefix : (i : Intake) (len : ℕ) → 4 + len ≤ length (drop i.start i.buffer.bytes)
    → consumed (pending_in i) (drop (4 + len) (drop i.start i.buffer.bytes))
    ≡ pending_in (record i { start = i.start + 4 + len; used = i.used + (4 + len) })
consumed_prefix i len whole =
    let place : i.start + (4 + len) ≡ i.start + 4 + len = omega arith in
    ap (λ (n : ℕ). record {
      bytes = drop (4 + len) (drop i.start i.buffer.bytes);
      used = i.used + n;
      fed = i.fed;
      held = length i.buffer.bytes;
      room = i.buffer.room;
      phase = phase_of i.phase;
    })
    (used_up (drop i.start i.buffer.bytes) len whole)
    ∙ ap (λ (x : List ℕ). record {
      bytes = x;
      used = i.used + (4 + len);
      fed = i.fed;
      held = length i.buffer.bytes;
      room = i.buffer.room;
      phase = phase_of i.phase;
    })
    (drop-drop (4 + len) i.start i.buffer.bytes ∙ ap (λ (n : ℕ). drop n i.buffer.bytes) place)

pub value_steps : {X : Type 0} (codec : Codec X) (i later : Intake) (len : ℕ) (x : X) → codec.is_last x ≡ false →
    i.phase ≡ phases.Reading → later ≡ record i { start = i.start + 4 + len; used = i.used + (4 + len) } →
    4 + len ≤ length (drop i.start i.buffer.bytes) →
    codec.first (drop i.start i.buffer.bytes) ≡ Ok (x, drop (4 + len) (drop i.start i.buffer.bytes))
    → Steps X codec (pending_in i) (pending_in later) (Gives x)
value_steps {X} codec i later len x other e used whole first =
    let p = pending_in i in
    let more = drop (4 + len) (drop i.start i.buffer.bytes) in
    subst (λ (h : Intake). Steps X codec p (pending_in h) (Gives x)) (sym used)
    (subst (λ (q : Pending). Steps X codec p q (Gives x)) (consumed_prefix i len whole)
    (steps codec p (consumed p more) (Gives x) (next_of-value codec p x more (ap phase_of e) first other)
    (λ last. absurd (true_or_false (codec.is_last x) last other))))
  where
    true_or_false : (b : Bool) → b ≡ true → b ≡ false → ⊥
    true_or_false b is isnt = cc

-- the body that is borrowed
pub lent_body : (buffer items : List ℕ) (start len : ℕ) → buffer ≡ items →
    take (start + 4 + len - (start + 4)) (drop (start + 4) buffer) ≡ body_at_prefix len (drop start items)
lent_body buffer items start len e =
    ap (λ (n : ℕ). take n (drop (start + 4) buffer)) (omega arith)
    ∙ ap (λ (x : List ℕ). take len (drop (start + 4) x)) e
    ∙ ap (take len) (sym (drop-drop 4 start items))

-- the digest that is known of it
pub lent_digest : (digest : Option (List ℕ)) (buffer items : List ℕ) (start len : ℕ) → buffer ≡ items →
    IfSome digest (λ d. d ≡ sha256 (take len (drop (start + 4) items))) → (d : List ℕ) → digest ≡ Some d →
    d ≡ sha256 (take (start + 4 + len - (start + 4)) (drop (start + 4) buffer))
lent_digest digest buffer items start len same known d is =
    subst (λ (x : Option (List ℕ)). IfSome x (λ d. d ≡ sha256 (take len (drop (start + 4) items)))) is known
    ∙ ap (λ (x : List ℕ). sha256 (take len (drop (start + 4) x))) (sym same)
    ∙ ap (λ (n : ℕ). sha256 (take n (drop (start + 4) buffer))) (omega arith)
