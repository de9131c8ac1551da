-- The message of the next number, where it isn't held.
use Rattle.std.proofs.Common.{◌≡◌, ◌≢◌, ℕ, suc, ◌+◌, ◌<◌, ◌≤◌, true, false, List, [], ◌∷◌, ◌++◌, length, drop}
use Rattle.std.proofs.Common.{Option, Some, None, refl, sym, ◌∙◌, ap, subst, arith, ◌⊎◌, inl, inr}
use Rattle.std.specs.Prelude.{IsTrue, is_some, slice_set}
use Rattle.std.proofs.lemmas.Grind.{common_steps}
use Rattle.bw_model.specs.Bytes.{at}
use Rattle.sha2.specs.Sha256.{sha256}
use Rattle.bw_model.specs.Take.{Parts, Request, Verdict}
use Rattle.bw_model.specs.Book.{Log}
use Rattle.bw_model.specs.Wire.{Message, Second, last_number, is_request, message_body}
use Rattle.bw_model.proofs.Elements.{some_inj}
use Rattle.bw_file.specs.GrowingFiles.{Growing}
use Rattle.bw_wire.specs.Bodies.{message_in}
use Rattle.bw_session.specs.Windows.{count_held}
use Rattle.bw_session.specs.Executions.{Touches}
use Rattle.bw_session.specs.AdmittedMessages.{with_message}
use Rattle.bw_session.specs.Drains.{Fits, HoldsPart}
use Rattle.bw_session.specs.Prefixes.{HoldsPrefix}
use Rattle.bw_session.specs.NextNumbers.{IsNext}
use Rattle.bw_session.specs.Sessions.{HoldsLog, KeepsProgress, kept_with, part_of}
use Rattle.bw_session.specs.declared.numbering.Progress.{Progress}
use Rattle.bw_session.specs.declared.session.Session.{Session}
use Rattle.bw_session.proofs.AdmitForms.{at-set_same, at-set_other, count_set, near_or_not, no_false, part_put}
use Rattle.bw_session.proofs.DrainForms.{next_slot, held_prefix}

-- if the first slot is free, as many bodies are held after it
count_free : (w : List (Option (List ℕ))) → at w 0 ≡ None → count_held (drop 1 w ++ None ∷ []) ≡ count_held w
count_free [] e = refl
count_free (x ∷ xs) e = let none : is_some x ≡ false = ap is_some e in grind (arith, common_steps)

-- the number is done, from the borrowed body
pub fits_passed : (g g' : Growing) (p q : Parts) (done later room room' room'' places places' places'' : ℕ)
    (w w' : List (Option (List ℕ))) → Fits g p done room places w → at w 0 ≡ None → w' ≡ drop 1 w ++ None ∷ [] →
    later ≡ done + 1 → count_held w + 1 ≤ room' → room' ≤ room'' + 1 → count_held w + 1 ≤ places' →
    places' ≤ places'' + 1 → g'.dirty ≡ false → Fits g' q later room'' places'' w'
fits_passed g g' p q done later room room' room'' places places' places'' w w' f none moved more
    enough less enough' less' clean =
    let count = count_free w none in
    subst (Fits g' q later room'' places'') (sym moved) (record {
      storable = omega (arith, count, enough, less);
      keepable = omega (arith, count, enough', less');
      numbers = λ i some.
          let n : done + suc i ≤ last_number Second = f.numbers (suc i) (ap is_some (sym (next_slot w i)) ∙ some) in
          omega (arith, n, more);
      held = λ dirty. no_false (sym clean ∙ dirty);
      again = λ dirty. no_false (sym clean ∙ dirty);
    })

-- it still waits, in the first slot
pub fits_waiting : (g g' : Growing) (p q : Parts) (done later room room' places places' : ℕ)
    (w w' : List (Option (List ℕ))) (b : List ℕ) → Fits g p done room places w → at w 0 ≡ None → 0 < length w →
    w' ≡ slice_set w 0 (Some b) → later ≡ done → count_held w + 1 ≤ room' → count_held w + 1 ≤ places' →
    done ≤ last_number Second → (IsTrue g'.dirty → Touches q (message_in b).request) →
    Fits g' q later room' places' w'
fits_waiting g g' p q done later room room' places places' w w' b f none there set same enough enough' number touches =
    let count = count_set w 0 b none there in
    subst (Fits g' q later room' places') (sym set)
    (subst (λ (n : ℕ). Fits g' q n room' places' (slice_set w 0 (Some b))) (sym same) (record {
      storable = omega (arith, count, enough);
      keepable = omega (arith, count, enough');
      numbers = λ i some. by_slot i some (near_or_not i 0);
      held = λ dirty. ap is_some (at-set_same w 0 (Some b) there);
      again = λ dirty body is. subst (λ (x : List ℕ). Touches q (message_in x).request)
          (some_inj (sym (at-set_same w 0 (Some b) there) ∙ is)) (touches dirty);
    }))
  where
    by_slot : (i : ℕ) → is_some (at (slice_set w 0 (Some b)) i) ≡ true → (i ≡ 0) ⊎ (i ≢ 0) →
        done + i ≤ last_number Second
    by_slot i some (inl e) = omega (arith, number, e)
    by_slot i some (inr apart) = f.numbers i (ap is_some (sym (at-set_other w 0 i (Some b) apart)) ∙ some)

-- what is dropped after a body that was never held
pub passed_slot : (w : List (Option (List ℕ))) (b : List ℕ) → drop 1 (slice_set w 0 (Some b)) ≡ drop 1 w
passed_slot [] b = refl
passed_slot (x ∷ xs) b = refl

-- what an honest store has of the name, under another spelling of it
pub held_at : (first : Option (List ℕ)) (log : Log) (p : Parts) (finished : List (List ℕ × Verdict))
    (w : List (Option (List ℕ))) (g : Growing) (contents : List ℕ → Option (List ℕ)) (n name : List ℕ) → n ≡ name →
    HoldsPart first log p finished w g (contents n) → HoldsPart first log p finished w g (contents name)
held_at first log p finished w g contents n name same h =
    subst (λ (x : List ℕ). HoldsPart first log p finished w g (contents x)) same h

-- what is kept and held of the name, as if the message were held in the first slot
pub next_held : (first : Option (List ℕ)) (log : Log) (p q : Parts) (finished later : List (List ℕ × Verdict))
    (w : List (Option (List ℕ))) (g g' : Growing) (contents : List ℕ → Option (List ℕ)) (n name : List ℕ)
    (m : Message) → HoldsPart first log p finished w g (contents n) → m.name ≡ g.name → is_request m.request ≡ true →
    m.number ≡ length finished → at w 0 ≡ None → 0 < length w → g' ≡ g → q ≡ p → later ≡ finished → n ≡ name →
    HoldsPart first (with_message log m) q later (slice_set w 0 (Some (message_body m))) g' (contents name)
next_held first log p q finished later w g g' contents n name m h named fits next none there same same' same'' under =
    held_at first (with_message log m) q later (slice_set w 0 (Some (message_body m))) g' contents n name under
    (subst (λ (x : Growing). HoldsPart first (with_message log m) q later (slice_set w 0 (Some (message_body m))) x
    (contents n)) (sym same)
    (part_put first log p finished w g (contents n) h m 0 (slice_set w 0 (Some (message_body m))) (message_body m)
    q later named fits (omega (arith, next)) (omega arith) there none refl refl same' same''))

-- and the message as the next number of the log that admits it, on what is kept once there is room
pub next_prefix : (first : Option (List ℕ)) (log : Log) (s s' : Session) (contents : List ℕ → Option (List ℕ))
    (m : Message) (r : Request) (digest : List ℕ) → HoldsLog first log (part_of s) (contents s.progress.name) →
    KeepsProgress s.progress s'.progress → m.name ≡ s.progress.name → m.number ≡ length s.progress.ledger.outcomes →
    at s.window 0 ≡ None → length s.window ≡ 16 → r ≡ m.request → is_request r ≡ true →
    digest ≡ sha256 (message_body m) → HoldsPart first (with_message log m) s'.progress.state.parts s'.progress.ledger.outcomes
    (slice_set s.window 0 (Some (message_body m))) s'.progress.growing (contents s'.progress.name)
    × (IsNext s'.progress.name (with_message log m) r digest
    × HoldsPrefix first (with_message log m) s'.progress.state.parts s'.progress.ledger.outcomes r s'.progress.growing
    (contents s'.progress.name))
next_prefix first log s s' contents m r digest h kept name next free slots read fits summed =
    let there : 0 < length s.window = omega (arith, slots) in
    let w : List (Option (List ℕ)) = slice_set s.window 0 (Some (message_body m)) in
    let held = next_held first log s.progress.state.parts s'.progress.state.parts s.progress.ledger.outcomes
    s'.progress.ledger.outcomes s.window s.progress.growing s'.progress.growing contents s.progress.name
    s'.progress.name m h (name ∙ sym s.progress.same_name) (ap is_request (sym read) ∙ fits) next free there
    kept.growing kept.parts kept.outcomes (sym kept.name) in (
      held,
      held_prefix first (with_message log m) s'.progress.state.parts s'.progress.ledger.outcomes w
          s'.progress.growing (contents s'.progress.name) held m r digest (message_body m) s'.progress.name
          s'.progress.same_name (at-set_same s.window 0 (Some (message_body m)) there) refl read fits summed,
    )

-- of a message that is held in the first slot
pub prefix_here : (first : Option (List ℕ)) (log : Log) (p : Progress) (w : List (Option (List ℕ)))
    (found : Option (List ℕ)) → HoldsLog first log (kept_with p w) found → (m : Message) (r : Request)
    (digest b : List ℕ) → at w 0 ≡ Some b → b ≡ message_body m → r ≡ m.request → is_request r ≡ true →
    digest ≡ sha256 b →
    IsNext p.name log r digest × HoldsPrefix first log p.state.parts p.ledger.outcomes r p.growing found
prefix_here first log p w found h m r digest b here spelled read fits summed =
    held_prefix first log p.state.parts p.ledger.outcomes w p.growing found h m r digest b p.name p.same_name here spelled
    read fits summed
