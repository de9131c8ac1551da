-- A sender's messages are written one by one.
use Rattle.std.proofs.Common.{◌≡◌, ℕ, zero, suc, ◌+◌, ◌≤◌, List, [], ◌∷◌, ◌++◌, length, drop, Option, Some, None, refl}
use Rattle.std.proofs.Common.{sym, ap, subst, ◌∙◌, append_assoc, arith, true}
use Rattle.std.specs.Prelude.{Result, Ok, Err, IsTrue, IfErr, OnOk, OnErr, slice_get, is_some, if◌then◌else◌}
use Rattle.std.specs.List.{list_all}
use Rattle.std.proofs.lemmas.Bool.{and_from}
use Rattle.std.proofs.lemmas.Grind.{flat_map-append}
use Rattle.std.proofs.lemmas.List.{append-nil}
use Rattle.std.proofs.lemmas.List.Folds.{list_all-append}
use Rattle.std.proofs.lemmas.Option.{slice_get_past}
use Rattle.bw_model.specs.Take.{Request, Verdict}
use Rattle.bw_model.specs.Wire.{Second, Frame, Bye, is_frame, body, framed}
use Rattle.bw_model.specs.Stream.{SaidBye, end_at, end_by, is_turn, frames_bytes}
use Rattle.bw_model.specs.World.{Sender as Defined, settled, pending_from}
use Rattle.bw_model.proofs.FrameLaws.{first_frame-framed}
use Rattle.bw_stream.specs.Moves.{Keeps, Writes, Begins}
use Rattle.bw_sender.specs.Entries.{SenderEntry, entries, pending_entries}
use Rattle.bw_sender.specs.Senders.{IsSender}
use Rattle.bw_sender.specs.declared.sender.Sender.{Sender}
use Rattle.bw_sender.proofs.EntryLaws.{drop_at, drop_none, pending_in, pending_after}
use Rattle.bw_wire.specs.EncodedFrames.{said}
use Rattle.bw_sender.specs.declared.send_fault.SendFault.{SendFault}
use Rattle.bw_sender.specs.declared.send_fault.SendFault.TheVariants as faults
use Rattle.bw_sender.specs.Batches.{messages, pending_messages, batch_bytes, WritesMessages, WritesBatch}
use Rattle.bw_sender.specs.Batches.{LacksMemoryToSend, BreaksBytes, BreaksFrame}
use Rattle.bw_sender.proofs.Beginnings.{begins-before, begins-after}
use Rattle.bw_exchange.proofs.Reading.{writes-none, writes-on}

-- ---- the messages that are pending

-- the pending requests of a sender
abbrev pub waiting : Defined → List (ℕ × Request)
waiting s = pending_from 0 s.offered s.verdicts

few_entries : (n : ℕ) (es : List SenderEntry) → length (pending_entries n es) ≤ length es
few_entries n [] = omega arith
few_entries n (e ∷ es) = go e.verdict (few_entries (suc n) es)
  where
    go : (v : Option Verdict) → length (pending_entries (suc n) es) ≤ length es
        → length (if is_some v then pending_entries (suc n) es else (n, e.request) ∷ pending_entries (suc n) es)
        ≤ suc (length es)
    go None few = omega (arith, few)
    go (Some v) few = omega (arith, few)

-- there are at most as many as a window holds
pub few_pending : (s : Defined) (x : Sender) → IsSender s x → length (waiting s) ≤ 16
few_pending s x is =
    let es = entries s.offered s.verdicts in
    let k = settled s in
    let same : waiting s ≡ pending_entries (0 + k) (drop k es) =
    pending_in 0 s.offered s.verdicts ∙ pending_after k 0 s.offered s.verdicts is.prefix is.within in
    let len : length (waiting s) ≡ length (pending_entries (0 + k) (drop k es)) = ap length same in
    let window : length x.window ≡ length (drop k es) = ap length is.window in
    let few = few_entries (0 + k) (drop k es) in
    omega (arith, len, window, few, x.few)

pub none_after : (s : Defined) (x : Sender) (place : ℕ) → IsSender s x → 16 ≤ place →
    slice_get (waiting s) place ≡ None
none_after s x place is past =
    slice_get_past (waiting s) place (omega (arith, few_pending s x is, past))

-- the messages from a place on
abbrev messages_from : Defined → ℕ → List Frame
messages_from s place = messages s.name (drop place (waiting s))

-- the messages before a place were written
pub record SentTo (place : ℕ) (s : Defined) (written written' : Option (List ℕ)) : Type 0 where
  pub sent : List Frame
  pub all : sent ++ messages_from s place ≡ pending_messages s
  pub prefix : WritesMessages sent written written'

pub sent-none : (s : Defined) (w : Option (List ℕ)) → SentTo 0 s w w
sent-none s w = record { sent = []; all = refl; prefix = record { each = refl; taken = writes-none w } }

-- a message before the others
one_message : (s : Defined) (place : ℕ) (p : ℕ × Request) → slice_get (waiting s) place ≡ Some p →
    messages_from s place ≡ said s.name p.0 p.1 ∷ messages_from s (place + 1)
one_message s place p e =
    let next : suc place ≡ place + 1 = omega arith in
    ap (messages s.name) (drop_at place (waiting s) p e)
    ∙ ap (λ (n : ℕ). said s.name p.0 p.1 ∷ messages_from s n) next

-- the bytes of some messages and of others
bytes_on : (fs gs : List Frame) → frames_bytes (fs ++ gs) ≡ frames_bytes fs ++ frames_bytes gs
bytes_on fs gs = flat_map-append (λ (f : Frame). framed (body f)) fs gs

-- some messages were written, and one more
messages_more : (fs : List Frame) (f : Frame) (w w' w'' : Option (List ℕ)) → WritesMessages fs w w' →
    is_turn Second f ≡ true → Writes w' (framed (body f)) w'' → WritesMessages (fs ++ f ∷ []) w w''
messages_more fs f w w' w'' m fits taken = record {
  each = list_all-append (is_turn Second) fs (f ∷ [])
      ∙ and_from (list_all (is_turn Second) fs) (list_all (is_turn Second) (f ∷ [])) m.each
      (and_from (is_turn Second f) true fits refl);
  taken = subst (λ (x : List ℕ). Writes w x w'')
      (ap (λ (x : List ℕ). frames_bytes fs ++ x) (sym (append-nil (framed (body f)))) ∙ sym (bytes_on fs (f ∷ [])))
      (writes-on w w' w'' (frames_bytes fs) (framed (body f)) m.taken taken);
}

-- one message more
pub sent-more : (place : ℕ) (s : Defined) (name : List ℕ) (w w' w'' : Option (List ℕ)) (p : ℕ × Request) →
    name ≡ s.name → slice_get (waiting s) place ≡ Some p → SentTo place s w w' →
    IsTrue (is_frame Second (said name p.0 p.1)) → Writes w' (framed (body (said name p.0 p.1))) w'' →
    SentTo (place + 1) s w w''
sent-more place s name w w' w'' p same e f fits taken =
    let m = said s.name p.0 p.1 in
    record {
      sent = f.sent ++ m ∷ [];
      all = append_assoc f.sent (m ∷ []) (messages_from s (place + 1))
          ∙ ap (λ (x : List Frame). f.sent ++ x) (sym (one_message s place p e)) ∙ f.all;
      prefix = messages_more f.sent m w w' w'' f.prefix
          (subst (λ (x : List ℕ). IsTrue (is_frame Second (said x p.0 p.1))) same fits)
          (subst (λ (x : List ℕ). Writes w' (framed (body (said x p.0 p.1))) w'') same taken);
    }

-- a prefix of one more
sent-part : (place : ℕ) (s : Defined) (name : List ℕ) (w w' w'' : Option (List ℕ)) (p : ℕ × Request) →
    name ≡ s.name → slice_get (waiting s) place ≡ Some p → SentTo place s w w' →
    Begins w' (framed (body (said name p.0 p.1))) w'' → Begins w (frames_bytes (pending_messages s)) w''
sent-part place s name w w' w'' p same e f begun =
    let frame = framed (body (said s.name p.0 p.1)) in
    let rest = frames_bytes (messages_from s (place + 1)) in
    subst (λ (x : List ℕ). Begins w x w'')
    (ap (λ (fs : List Frame). frames_bytes f.sent ++ frames_bytes fs) (sym (one_message s place p e))
    ∙ sym (bytes_on f.sent (messages_from s place)) ∙ ap frames_bytes f.all)
    (begins-after w w' w'' (frames_bytes f.sent) (frame ++ rest) f.prefix.taken
    (begins-before w' w'' frame rest
    (subst (λ (x : List ℕ). Begins w' (framed (body (said x p.0 p.1))) w'') same begun)))

-- of one more nothing, for lack of memory
sent-lacking : (place : ℕ) (s : Defined) (w w' w'' : Option (List ℕ)) (p : ℕ × Request) →
    slice_get (waiting s) place ≡ Some p → SentTo place s w w' → Keeps w' w'' → LacksMemoryToSend s w w''
sent-lacking place s w w' w'' p e f kept =
    let len : length (messages_from s place) ≡ suc (length (messages_from s (place + 1))) =
    ap length (one_message s place p e) in
    record {
      sent = f.sent;
      unsent = messages_from s place;
      all = f.all;
      some = omega (arith, len);
      prefix = record {
        each = f.prefix.each;
        taken = λ xs h. kept (xs ++ frames_bytes f.sent) (f.prefix.taken xs h);
      };
    }

-- one more breaks off
pub sent-cut : (fault : SendFault) (place : ℕ) (s : Defined) (name : List ℕ) (w w' w'' : Option (List ℕ))
    (p : ℕ × Request) → name ≡ s.name → slice_get (waiting s) place ≡ Some p → SentTo place s w w' →
    BreaksFrame fault (framed (body (said name p.0 p.1))) w' w'' →
    BreaksBytes fault s (frames_bytes (pending_messages s)) w w''
sent-cut faults.Read place s name w w' w'' p same e f cut = cut
sent-cut faults.Write place s name w w' w'' p same e f cut = sent-part place s name w w' w'' p same e f cut
sent-cut faults.Memory place s name w w' w'' p same e f cut = sent-lacking place s w w' w'' p e f cut
sent-cut faults.BadReply place s name w w' w'' p same e f cut = cut
sent-cut faults.TurnLimit place s name w w' w'' p same e f cut = cut

-- where nothing stands, nothing comes after
pub nothing_after : (k : ℕ) (ps : List (ℕ × Request)) → slice_get ps k ≡ None → drop k ps ≡ []
nothing_after k ps h = drop_none k ps (past k ps h)
  where
    past : (k : ℕ) (ps : List (ℕ × Request)) → slice_get ps k ≡ None → length ps ≤ k
    past k [] h = omega arith
    past zero (q ∷ ps) h = absurd cc
    past (suc k) (q ∷ ps) h = let more = past k ps h in omega arith

-- there is no message more
pub sent-all : (place : ℕ) (s : Defined) (w w' : Option (List ℕ)) → slice_get (waiting s) place ≡ None →
    SentTo place s w w' → WritesMessages (pending_messages s) w w'
sent-all place s w w' e f =
    let none = nothing_after place (waiting s) e in
    subst (λ (fs : List Frame). WritesMessages fs w w')
    (sym (append-nil f.sent)
    ∙ ap (λ (ps : List (ℕ × Request)). f.sent ++ messages s.name ps) (sym none) ∙ f.all)
    f.prefix

-- ---- the whole batch

-- the frame that ends an exchange
abbrev pub bye_frame : List ℕ
bye_frame = 1 ∷ 0 ∷ 0 ∷ 0 ∷ 9 ∷ []

bye_framed : framed (body Bye) ≡ bye_frame
bye_framed = refl

batch_parts : (s : Defined) → frames_bytes (pending_messages s) ++ bye_frame ≡ batch_bytes s
batch_parts s =
    ap (λ (x : List ℕ). frames_bytes (pending_messages s) ++ x) (sym bye_framed ∙ sym (append-nil (framed (body Bye))))
    ∙ sym (flat_map-append (λ (f : Frame). framed (body f)) (pending_messages s) (Bye ∷ []))

-- it is read as the end
bye_ends : (place : ℕ) → end_at Second place bye_frame ≡ Some SaidBye
bye_ends place = ap (end_by place) (first_frame-framed Second Bye [] refl)

-- the messages were written, and the frame after them
pub batch_sent : {E : Type 0} (r : Result (Unit {0}) E) (s : Defined) (a b c : Option (List ℕ)) →
    WritesMessages (pending_messages s) a b → OnOk r (Writes b bye_frame c) → OnOk r (WritesBatch s a c)
batch_sent (Err e) s a b c f g = tt
batch_sent (Ok x) s a b c f g = record {
  taken = subst (λ (y : List ℕ). Writes a y c) (batch_parts s)
      (writes-on a b c (frames_bytes (pending_messages s)) bye_frame f.taken g);
  stream = record {
    rest = bye_frame;
    each = f.each;
    whole = sym (batch_parts s);
    ends = bye_ends (length (frames_bytes (pending_messages s)));
  };
}

-- the messages were written, and a prefix of that frame
pub batch_begun : (r : Result (Unit {0}) SendFault) (s : Defined) (a b c : Option (List ℕ)) →
    WritesMessages (pending_messages s) a b → OnErr r (Begins b bye_frame c) →
    IfErr r (λ fault. fault ≡ faults.Write) → IfErr r (λ fault. BreaksBytes fault s (batch_bytes s) a c)
batch_begun (Ok x) s a b c f g why = tt
batch_begun (Err fault) s a b c f g why =
    subst (λ (x : SendFault). BreaksBytes x s (batch_bytes s) a c) (sym why)
    (subst (λ (y : List ℕ). Begins a y c) (batch_parts s)
    (begins-after a b c (frames_bytes (pending_messages s)) bye_frame f.taken g))

-- the messages broke off
pub batch_cut : (fault : SendFault) (s : Defined) (a b : Option (List ℕ)) →
    BreaksBytes fault s (frames_bytes (pending_messages s)) a b → BreaksBytes fault s (batch_bytes s) a b
batch_cut faults.Read s a b f = f
batch_cut faults.Write s a b f =
    subst (λ (y : List ℕ). Begins a y b) (batch_parts s)
    (begins-before a b (frames_bytes (pending_messages s)) bye_frame f)
batch_cut faults.Memory s a b f = f
batch_cut faults.BadReply s a b f = f
batch_cut faults.TurnLimit s a b f = f
