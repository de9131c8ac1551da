-- Messages are said over a link one by one.
use Rattle.std.proofs.Common.{◌≡◌, ℕ, suc, ◌+◌, ◌<◌, ◌≤◌, Bool, true, false, List, [], ◌∷◌, ◌++◌, length, drop}
use Rattle.std.proofs.Common.{Option, Some, None, refl, sym, ap, subst, ◌∙◌, append_assoc, arith}
use Rattle.std.specs.Prelude.{Result, Ok, Err, IsTrue, IfErr, OnOk, slice_get, nat_le, cond}
use Rattle.std.specs.List.{list_all}
use Rattle.std.proofs.lemmas.Bool.{le-leb, lt-leb, and_from}
use Rattle.std.proofs.lemmas.Grind.{flat_map-append}
use Rattle.std.proofs.lemmas.List.{append-nil, length-append}
use Rattle.std.proofs.lemmas.List.Folds.{list_all-append}
use Rattle.bw_model.specs.Take.{Request}
use Rattle.bw_model.specs.Wire.{Second, Frame, is_frame, body, framed}
use Rattle.bw_model.specs.Stream.{is_turn, frames_bytes}
use Rattle.bw_model.specs.World.{Sender as Defined}
use Rattle.bw_stream.specs.Moves.{Writes, Begins}
use Rattle.bw_sender.proofs.EntryLaws.{drop_at}
use Rattle.bw_wire.specs.EncodedFrames.{said}
use Rattle.bw_sender.specs.declared.send_fault.SendFault.{SendFault}
use Rattle.bw_sender.specs.declared.send_fault.SendFault.TheVariants as faults
use Rattle.bw_sender.specs.Batches.{messages, WritesMessages, BreaksFrame}
use Rattle.bw_sender.specs.SaidMessages.{numbered_from, unsaid_messages, BreaksOffSaying}
use Rattle.bw_sender.proofs.Batching.{nothing_after, waiting}
use Rattle.bw_sender.proofs.Beginnings.{begins-before, begins-after}
use Rattle.bw_exchange.proofs.Reading.{writes-none, writes-on}

-- the bytes of some messages and of others
bytes_of_both : (fs gs : List Frame) → frames_bytes (fs ++ gs) ≡ frames_bytes fs ++ frames_bytes gs
bytes_of_both fs gs = flat_map-append (λ (f : Frame). framed (body f)) fs gs

-- ---- no message, one, and some after others

pub wrote_none : (w : Option (List ℕ)) → WritesMessages [] w w
wrote_none w = record { each = refl; taken = writes-none w }

pub wrote_one : (f : Frame) (w w' : Option (List ℕ)) → IsTrue (is_turn Second f) →
    Writes w (framed (body f)) w' → WritesMessages (f ∷ []) w w'
wrote_one f w w' fits taken = record {
  each = and_from (is_turn Second f) true fits refl;
  taken = subst (λ (x : List ℕ). Writes w x w') (sym (append-nil (framed (body f)))) taken;
}

pub wrote_on : (fs gs : List Frame) (a b c : Option (List ℕ)) → WritesMessages fs a b → WritesMessages gs b c →
    WritesMessages (fs ++ gs) a c
wrote_on fs gs a b c m n = record {
  each = list_all-append (is_turn Second) fs gs
      ∙ and_from (list_all (is_turn Second) fs) (list_all (is_turn Second) gs) m.each n.each;
  taken = subst (λ (x : List ℕ). Writes a x c) (sym (bytes_of_both fs gs))
      (writes-on a b c (frames_bytes fs) (frames_bytes gs) m.taken n.taken);
}

-- ---- where they break off

pub broke_one : (fault : SendFault) (f : Frame) (w w' : Option (List ℕ)) → BreaksFrame fault (framed (body f)) w w' →
    BreaksOffSaying fault (f ∷ []) w w'
broke_one faults.Read f w w' b = b
broke_one faults.Write f w w' b =
    subst (λ (x : List ℕ). Begins w x w') (sym (append-nil (framed (body f)))) b
broke_one faults.Memory f w w' b = record {
  sent = [];
  unsent = f ∷ [];
  all = refl;
  some = omega arith;
  prefix = record { each = refl; taken = λ xs e. b xs e ∙ ap Some (sym (append-nil xs)) };
}
broke_one faults.BadReply f w w' b = b
broke_one faults.TurnLimit f w w' b = b

-- more messages would have followed
pub broke_before : (fault : SendFault) (fs gs : List Frame) (w w' : Option (List ℕ)) → BreaksOffSaying fault fs w w' →
    BreaksOffSaying fault (fs ++ gs) w w'
broke_before faults.Read fs gs w w' b = b
broke_before faults.Write fs gs w w' b =
    subst (λ (x : List ℕ). Begins w x w') (sym (bytes_of_both fs gs))
    (begins-before w w' (frames_bytes fs) (frames_bytes gs) b)
broke_before faults.Memory fs gs w w' b =
    let len : length (b.unsent ++ gs) ≡ length b.unsent + length gs = length-append b.unsent gs in
    record {
      sent = b.sent;
      unsent = b.unsent ++ gs;
      all = sym (append_assoc b.sent b.unsent gs) ∙ ap (λ (x : List Frame). x ++ gs) b.all;
      some = omega (arith, len, b.some);
      prefix = b.prefix;
    }
broke_before faults.BadReply fs gs w w' b = b
broke_before faults.TurnLimit fs gs w w' b = b

-- some were written before
pub broke_after : (fault : SendFault) (fs gs : List Frame) (a b c : Option (List ℕ)) → WritesMessages fs a b →
    BreaksOffSaying fault gs b c → BreaksOffSaying fault (fs ++ gs) a c
broke_after faults.Read fs gs a b c m x = x
broke_after faults.Write fs gs a b c m x =
    subst (λ (y : List ℕ). Begins a y c) (sym (bytes_of_both fs gs))
    (begins-after a b c (frames_bytes fs) (frames_bytes gs) m.taken x)
broke_after faults.Memory fs gs a b c m x = record {
  sent = fs ++ x.sent;
  unsent = x.unsent;
  all = append_assoc fs x.sent x.unsent ∙ ap (λ (y : List Frame). fs ++ y) x.all;
  some = x.some;
  prefix = wrote_on fs x.sent a b c m x.prefix;
}
broke_after faults.BadReply fs gs a b c m x = x
broke_after faults.TurnLimit fs gs a b c m x = x

-- ---- one message, if it wasn't said

one_unsaid : (next : ℕ) (p : ℕ × Request) → next ≤ p.0 → numbered_from next (p ∷ []) ≡ p ∷ []
one_unsaid next p le = ap (λ (b : Bool). cond b (p ∷ []) []) (le-leb next p.0 le)

none_unsaid : (next : ℕ) (p : ℕ × Request) → p.0 < next → numbered_from next (p ∷ []) ≡ []
none_unsaid next p lt = ap (λ (b : Bool). cond b (p ∷ []) []) (lt-leb next p.0 lt)

pub passed_over : (name : List ℕ) (next : ℕ) (p : ℕ × Request) (w : Option (List ℕ)) → p.0 < next →
    WritesMessages (messages name (numbered_from next (p ∷ []))) w w
passed_over name next p w lt =
    subst (λ (ps : List (ℕ × Request)). WritesMessages (messages name ps) w w) (sym (none_unsaid next p lt))
    (wrote_none w)

pub was_said : {E : Type 0} (r : Result (Unit {0}) E) (name : List ℕ) (next : ℕ) (p : ℕ × Request)
    (w w' : Option (List ℕ)) → next ≤ p.0 → OnOk r (IsTrue (is_frame Second (said name p.0 p.1))) →
    OnOk r (Writes w (framed (body (said name p.0 p.1))) w') →
    OnOk r (WritesMessages (messages name (numbered_from next (p ∷ []))) w w')
was_said (Err e) name next p w w' le fits taken = tt
was_said (Ok u) name next p w w' le fits taken =
    subst (λ (ps : List (ℕ × Request)). WritesMessages (messages name ps) w w') (sym (one_unsaid next p le))
    (wrote_one (said name p.0 p.1) w w' fits taken)

pub was_broken : (r : Result (Unit {0}) SendFault) (name : List ℕ) (next : ℕ) (p : ℕ × Request)
    (w w' : Option (List ℕ)) → next ≤ p.0 →
    IfErr r (λ fault. BreaksFrame fault (framed (body (said name p.0 p.1))) w w') →
    IfErr r (λ fault. BreaksOffSaying fault (messages name (numbered_from next (p ∷ []))) w w')
was_broken (Ok u) name next p w w' le cut = tt
was_broken (Err fault) name next p w w' le cut =
    subst (λ (ps : List (ℕ × Request)). BreaksOffSaying fault (messages name ps) w w') (sym (one_unsaid next p le))
    (broke_one fault (said name p.0 p.1) w w' cut)

-- ---- place by place

-- the messages from a place on that weren't said
abbrev unsaid_from : Defined → ℕ → ℕ → List Frame
unsaid_from s next place = messages s.name (numbered_from next (drop place (waiting s)))

-- those before a place were written
pub record SaidTo (place : ℕ) (next : ℕ) (s : Defined) (w w' : Option (List ℕ)) : Type 0 where
  pub sent : List Frame
  pub all : sent ++ unsaid_from s next place ≡ unsaid_messages s next
  pub prefix : WritesMessages sent w w'

pub said_none : (next : ℕ) (s : Defined) (w : Option (List ℕ)) → SaidTo 0 next s w w
said_none next s w = record { sent = []; all = refl; prefix = wrote_none w }

numbered_from-cons : (next : ℕ) (p : ℕ × Request) (ps : List (ℕ × Request)) →
    numbered_from next (p ∷ ps) ≡ numbered_from next (p ∷ []) ++ numbered_from next ps
numbered_from-cons next p ps = go (nat_le next p.0)
  where
    go : (b : Bool) → cond b (p ∷ numbered_from next ps) (numbered_from next ps) ≡ cond b (p ∷ []) [] ++ numbered_from next ps
    go true = refl
    go false = refl

messages-append : (name : List ℕ) (ps qs : List (ℕ × Request)) →
    messages name (ps ++ qs) ≡ messages name ps ++ messages name qs
messages-append name [] qs = refl
messages-append name (p ∷ ps) qs = ap (λ (x : List Frame). said name p.0 p.1 ∷ x) (messages-append name ps qs)

one_more_unsaid : (s : Defined) (next place : ℕ) (p : ℕ × Request) → slice_get (waiting s) place ≡ Some p →
    unsaid_from s next place ≡ messages s.name (numbered_from next (p ∷ [])) ++ unsaid_from s next (place + 1)
one_more_unsaid s next place p e =
    let after : suc place ≡ place + 1 = omega arith in
    ap (λ (ps : List (ℕ × Request)). messages s.name (numbered_from next ps)) (drop_at place (waiting s) p e)
    ∙ ap (messages s.name) (numbered_from-cons next p (drop (suc place) (waiting s)))
    ∙ messages-append s.name (numbered_from next (p ∷ [])) (numbered_from next (drop (suc place) (waiting s)))
    ∙ ap (λ (n : ℕ). messages s.name (numbered_from next (p ∷ [])) ++ unsaid_from s next n) after

pub said_more : (place next : ℕ) (s : Defined) (name : List ℕ) (a b c : Option (List ℕ)) (p : ℕ × Request) →
    name ≡ s.name → slice_get (waiting s) place ≡ Some p → SaidTo place next s a b →
    WritesMessages (messages name (numbered_from next (p ∷ []))) b c → SaidTo (place + 1) next s a c
said_more place next s name a b c p same e f m =
    let here = messages s.name (numbered_from next (p ∷ [])) in
    record {
      sent = f.sent ++ here;
      all = append_assoc f.sent here (unsaid_from s next (place + 1))
          ∙ ap (λ (x : List Frame). f.sent ++ x) (sym (one_more_unsaid s next place p e)) ∙ f.all;
      prefix = wrote_on f.sent here a b c f.prefix
          (subst (λ (x : List ℕ). WritesMessages (messages x (numbered_from next (p ∷ []))) b c) same m);
    }

pub said_part : (fault : SendFault) (place next : ℕ) (s : Defined) (name : List ℕ) (a b c : Option (List ℕ))
    (p : ℕ × Request) → name ≡ s.name → slice_get (waiting s) place ≡ Some p → SaidTo place next s a b →
    BreaksOffSaying fault (messages name (numbered_from next (p ∷ []))) b c →
    BreaksOffSaying fault (unsaid_messages s next) a c
said_part fault place next s name a b c p same e f cut =
    let here = messages s.name (numbered_from next (p ∷ [])) in
    let rest = unsaid_from s next (place + 1) in
    subst (λ (fs : List Frame). BreaksOffSaying fault fs a c)
    (ap (λ (x : List Frame). f.sent ++ x) (sym (one_more_unsaid s next place p e)) ∙ f.all)
    (broke_after fault f.sent (here ++ rest) a b c f.prefix
    (broke_before fault here rest b c
    (subst (λ (x : List ℕ). BreaksOffSaying fault (messages x (numbered_from next (p ∷ []))) b c) same cut)))

pub said_all : (place next : ℕ) (s : Defined) (w w' : Option (List ℕ)) → slice_get (waiting s) place ≡ None →
    SaidTo place next s w w' → WritesMessages (unsaid_messages s next) w w'
said_all place next s w w' e f =
    let none = nothing_after place (waiting s) e in
    subst (λ (fs : List Frame). WritesMessages fs w w')
    (sym (append-nil f.sent)
    ∙ ap (λ (ps : List (ℕ × Request)). f.sent ++ messages s.name (numbered_from next ps)) (sym none) ∙ f.all)
    f.prefix
