-- What a server that is asked answers, and what it is then.
use Rattle.std.proofs.Common.{◌≡◌, inl, inr, ℕ, Bool, List, [], ◌∷◌, length, drop, take, ◌-◌, Option, Some, None}
use Rattle.std.proofs.Common.{refl, sym, ◌∙◌, ap, subst, arith}
use Rattle.std.specs.Prelude.{Result, Ok, IfOk}
use Rattle.std.proofs.lemmas.List.{take_rest}
use Rattle.bw_model.specs.Wire.{Second, Frame, Asks, Reason, body, framed, decoded}
use Rattle.bw_model.proofs.SpellingLaws.{spelled_is_read}
use Rattle.bw_model.specs.Replies.{Reply}
use Rattle.bw_model.specs.Book.{Book, log_of}
use Rattle.bw_model.specs.Exchange.{nothing_stands}
use Rattle.bw_model.specs.World.{World}
use Rattle.bw_kept.specs.LeftFolders.{LeavesAtLeast}
use Rattle.bw_delivery.specs.StoppedWorlds.{RunsInFolder, TurnsInFolder}
use Rattle.bw_wire.specs.EncodedFrames.{IsFrameOf}
use Rattle.bw_wire.specs.Frames.{frame_of, asked_name, asked_number}
use Rattle.bw_wire.specs.declared.message.Ask.{Ask as Asked}
use Rattle.bw_wire.specs.declared.message.Frame.{Frame as Read}
use Rattle.bw_wire.specs.declared.message.Frame.TheVariants as frames
use Rattle.bw_wire.specs.declared.reply.Reply.{Reply as WireReply}
use Rattle.bw_delivery.specs.Asks.{next_asked}
use Rattle.bw_delivery.specs.Machines.{IsRunning, ShowsNext, IsMachine, TurnsMachine, one_frame, written_to}
use Rattle.bw_delivery.specs.declared.machine.Machine.{Machine}
use Rattle.bw_delivery.specs.declared.machine.Machine.TheVariants.{Runs, Stopped}
use Rattle.bw_delivery.specs.declared.machine.Folder.{Folder}
use Rattle.bw_delivery.specs.declared.machine.Life.{Life}

-- A frame that spells an ask is read as that.

after_length : (bytes : List ℕ) → drop 4 (framed bytes) ≡ bytes
after_length bytes = refl

pub body_read : (name : List ℕ) (bytes : List ℕ) → IsFrameOf (Asks name 0) bytes →
    decoded Second (take (length bytes - 4) (drop 4 bytes)) ≡ Ok (Asks name 0)
body_read name bytes h =
    ap (decoded Second) (take_rest bytes 4)
    ∙ ap (λ (b : List ℕ). decoded Second (drop 4 b)) h.spelled
    ∙ ap (decoded Second) (after_length (body (Asks name 0)))
    ∙ spelled_is_read Second (Asks name 0) h.fits

pub asks_inj : (x : Result Frame Reason) (f : Read) (a : Asked) (name : List ℕ) (n : ℕ) → f ≡ frames.Ask a →
    Ok (frame_of f) ≡ x → x ≡ Ok (Asks name n) → (asked_name a ≡ name) × (asked_number a ≡ n)
asks_inj x f a name n is e read =
    let said : x ≡ Ok (Asks (asked_name a) (asked_number a)) = sym e ∙ ap (λ (y : Read). Ok (frame_of y)) is in
    (cc, cc)

-- the same of an ask with another name and number
pub asked_so : {E : Type 0} (limit : ℕ) (w : World) (said name : List ℕ) (n : ℕ) → said ≡ name → n ≡ 0 →
    (r : Result (Option WireReply × Machine) E) → IfOk r (λ x. TurnsMachine limit w (Asks said n) (written_to x.0) x.1) →
    IfOk r (λ x. TurnsMachine limit w (Asks name 0) (written_to x.0) x.1)
asked_so limit w said name n same none r h =
    subst (λ (z : List ℕ). IfOk r (λ x. TurnsMachine limit w (Asks z 0) (written_to x.0) x.1)) same
    (subst (λ (k : ℕ). IfOk r (λ x. TurnsMachine limit w (Asks said k) (written_to x.0) x.1)) none h)

-- What an ask's turn is.

-- the book stays
pub ask_keeps : (existed : List ℕ → Bool) (b later : Book) (name : List ℕ) (replies : List Reply) →
    TurnsInFolder existed b (Asks name 0) replies later → later ≡ b
ask_keeps existed b later name replies (inl (before, after, full, s)) = sym s.left
ask_keeps existed b later name replies (inr (off, same)) = same

-- and it is answered
ask_answered : (existed : List ℕ → Bool) (b later : Book) (name : List ℕ) →
    TurnsInFolder existed b (Asks name 0) [] later → ⊥
ask_answered existed b later name (inl (before, after, full, s)) = let e = s.answered in cc
ask_answered existed b later name (inr (off, same)) = cc

-- by how many are done, unless it is put off
ask_says : (existed : List ℕ → Bool) (b later : Book) (name : List ℕ) (r : Reply) (done : ℕ) →
    TurnsInFolder existed b (Asks name 0) (r ∷ []) later → next_asked r ≡ Some done → done ≡ (log_of b name).done
ask_says existed b later name r done (inl (before, after, full, s)) is =
    some_same (sym is ∙ ap next_asked (sym (head_same s.answered)))
  where
    head_same : {x y : Reply} → x ∷ [] ≡ y ∷ [] → x ≡ y
    head_same e = cc

    some_same : {x y : ℕ} → Some x ≡ Some y → x ≡ y
    some_same e = cc
ask_says existed b later name r done (inr (off, same)) is =
    absurd (none_some (sym (ap next_asked (head_same off)) ∙ is))
  where
    head_same : {x y : Reply} → x ∷ [] ≡ y ∷ [] → x ≡ y
    head_same e = cc

    none_some : {k : ℕ} → None ≡ Some k → ⊥
    none_some e = cc

-- all of a book is left of it
pub left_whole : (book : Book) → LeavesAtLeast book book book
left_whole book = record {
  numbers = record {
    names = λ n. refl;
    logs = λ n. record { kept = (log_of book n).done; is = refl; most = inl (omega arith) };
  };
  done = λ n. omega arith;
}

module _ (limit : ℕ) (w : World) (name : List ℕ) where
  pub asked_book : (replies : List Reply) (later : Book) →
      RunsInFolder nothing_stands w.book (one_frame (Asks name 0) replies) later → later ≡ w.book
  asked_book replies later (mid, turn, same) = same ∙ ask_keeps nothing_stands w.book mid name replies turn

  -- no reply is written: the server stopped
  pub looked_none : (machine : Machine) → TurnsMachine limit w (Asks name 0) [] machine →
      ShowsNext limit w name 0 machine
  looked_none (Runs life) g = absurd (ask_answered nothing_stands w.book g.next.1.0 name g.next.1.1)
  looked_none (Stopped folder) d = (
    d.left,
    subst (λ (b : Book). LeavesAtLeast w.book b d.left) (asked_book d.given d.later d.next.1) d.next.2,
    d.stands,
  )

  -- one is
  pub looked_some : (r : Reply) (done : ℕ) → next_asked r ≡ Some done → (machine : Machine) →
      TurnsMachine limit w (Asks name 0) (r ∷ []) machine → ShowsNext limit w name done machine
  looked_some r done is (Runs life) g = (
    ask_says nothing_stands w.book g.next.1.0 name r done g.next.1.1 is,
    subst (λ (b : Book). IsRunning limit b life) (asked_book (r ∷ []) g.later g.next.1) g.running,
  )
  looked_some r done is (Stopped folder) d = absurd (no_reply d.silent)
    where
      no_reply : r ∷ [] ≡ [] → ⊥
      no_reply e = cc

  -- no server runs
  pub looked_stopped : (machine : Machine) (folder : Folder) → machine ≡ Stopped folder → IsMachine limit w.book machine →
      ShowsNext limit w name 0 (Stopped folder)
  looked_stopped machine folder e is = (
    w.book,
    left_whole w.book,
    subst (IsMachine limit w.book) e is,
  )

  pub running_in : (machine : Machine) (life : Life) → machine ≡ Runs life → IsMachine limit w.book machine →
      IsRunning limit w.book life
  running_in machine life e is = subst (IsMachine limit w.book) e is
