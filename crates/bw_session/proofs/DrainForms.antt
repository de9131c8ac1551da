-- What is held of a name, where its next number is done or still waits.
use Rattle.std.proofs.Common.{◌≡◌, ℕ, zero, suc, ◌+◌, ◌≤◌, Bool, true, false, List, [], ◌∷◌, ◌++◌, length, drop}
use Rattle.std.proofs.Common.{Option, Some, None, refl, sym, ◌∙◌, ap, subst, arith, length-append}
use Rattle.std.specs.Prelude.{is_some, option_map}
use Rattle.std.specs.Bool.{MatchBool}
use Rattle.std.specs.List.{list_all}
use Rattle.std.proofs.lemmas.Bool.{and_parts}
use Rattle.std.proofs.lemmas.Grind.{common_steps}
use Rattle.std.proofs.lemmas.List.{drop_at}
use Rattle.sha2.specs.Sha256.{sha256}
use Rattle.bw_model.specs.Bytes.{at, le32}
use Rattle.bw_model.specs.Take.{Parts, Request, Verdict, after}
use Rattle.bw_model.specs.File.{file_of}
use Rattle.bw_model.specs.Wire.{Message, Second, last_number, kind, payload, request_of, is_request, message_body}
use Rattle.bw_model.specs.ReadBack.{is_admitted}
use Rattle.bw_model.specs.Book.{Log}
use Rattle.bw_model.specs.Holds.{IsInTheMiddle, body_of}
use Rattle.bw_model.proofs.Elements.{some_inj}
use Rattle.bw_model.proofs.Payloads.{reads_request}
use Rattle.bw_file.specs.GrowingFiles.{Growing}
use Rattle.bw_session.specs.Windows.{count_held}
use Rattle.bw_session.specs.Prefixes.{take_done, FileStands, FileFollows, StandsAhead, HoldsPrefix}
use Rattle.bw_session.specs.NextNumbers.{IsNext, with_done, IsDone}
use Rattle.bw_session.specs.Drains.{Fits, kept_as, NameStands, HoldsPart}

-- Bodies.

tail_same : (x y : ℕ) (xs ys : List ℕ) → x ∷ xs ≡ y ∷ ys → xs ≡ ys
tail_same x y xs ys e = ap (drop 1) e

abbrev first_or : List ℕ → ℕ → ℕ
first_or [] d = d
first_or (x ∷ xs) d = x

head_same : (x y : ℕ) (xs ys : List ℕ) → x ∷ xs ≡ y ∷ ys → x ≡ y
head_same x y xs ys e = ap (λ (zs : List ℕ). first_or zs x) e

after_same : (a b x y : List ℕ) → length a ≡ length b → a ++ x ≡ b ++ y → x ≡ y
after_same a b x y len e =
    sym (drop_at a x (length a) refl) ∙ ap (drop (length a)) e ∙ drop_at b y (length a) (sym len)

-- two messages of one body have one request
same_request : (a b : Message) → message_body a ≡ message_body b → is_request a.request ≡ true →
    is_request b.request ≡ true → a.request ≡ b.request
same_request a b e fits fits' =
    let kinds : kind a.request ≡ kind b.request = head_same _ _ _ _ e in
    let rest = tail_same _ _ _ _ e in
    let lengths : length a.name ≡ length b.name = head_same _ _ _ _ rest in
    let more = tail_same _ _ _ _ rest in
    let len : length (a.name ++ le32 a.number) ≡ length (b.name ++ le32 b.number) =
    length-append a.name (le32 a.number) ∙ ap (λ (n : ℕ). n + 4) lengths
    ∙ sym (length-append b.name (le32 b.number)) in
    let payloads : payload a.request ≡ payload b.request = after_same _ _ _ _ len more in
    sym (reads_request a.request fits).request_is
    ∙ ap (λ (k : ℕ). request_of k (payload a.request)) kinds
    ∙ ap (request_of (kind b.request)) payloads
    ∙ (reads_request b.request fits').request_is

-- Slots.

at-push : (xs : List (Option (List ℕ))) (i : ℕ) → at (xs ++ None ∷ []) i ≡ at xs i
at-push [] zero = refl
at-push [] (suc i) = refl
at-push (x ∷ xs) zero = refl
at-push (x ∷ xs) (suc i) = at-push xs i

at-tail : (w : List (Option (List ℕ))) (i : ℕ) → at (drop 1 w) i ≡ at w (suc i)
at-tail [] i = refl
at-tail (x ∷ xs) i = refl

-- the slots after the first is dropped
pub next_slot : (w : List (Option (List ℕ))) (i : ℕ) → at (drop 1 w ++ None ∷ []) i ≡ at w (suc i)
next_slot w i = at-push (drop 1 w) i ∙ at-tail w i

no_some : {A : Type 0} {x : List ℕ} → None ≡ Some x → A
no_some e = cc

pub count_prefix : (w : List (Option (List ℕ))) (b : List ℕ) → at w 0 ≡ Some b →
    count_held (drop 1 w ++ None ∷ []) + 1 ≡ count_held w
count_prefix [] b e = no_some e
count_prefix (x ∷ xs) b e = let some : is_some x ≡ true = ap is_some e in grind (arith, common_steps)

-- What holds whatever was sent.

pub fits_done : (g g' : Growing) (p q : Parts) (done later room room' places places' : ℕ)
    (w w' : List (Option (List ℕ))) (b : List ℕ) → Fits g p done room places w → at w 0 ≡ Some b →
    w' ≡ drop 1 w ++ None ∷ [] → later ≡ done + 1 → room ≤ room' + 1 → places ≤ places' + 1 → g'.dirty ≡ false →
    Fits g' q later room' places' w'
fits_done g g' p q done later room room' places places' w w' b f here moved more less less' clean =
    let count = count_prefix w b here in
    let r = f.storable in
    let s = f.keepable in
    subst (Fits g' q later room' places') (sym moved) (record {
      storable = omega (arith, count, r, less);
      keepable = omega (arith, count, s, less');
      numbers = λ i some.
          let n : done + suc i ≤ last_number Second = f.numbers (suc i) (ap is_some (sym (next_slot w i)) ∙ some) in
          omega (arith, n, more);
      held = λ dirty. no_false (sym clean ∙ dirty);
      again = λ dirty. no_false (sym clean ∙ dirty);
    })
  where
    no_false : {A : Type 0} → false ≡ true → A
    no_false e = cc

-- What the log says.

pub admitted_fits : (s : List (Option Request)) (n : ℕ) (r : Request) → list_all is_admitted s ≡ true → at s n ≡ Some r →
    is_request r ≡ true
admitted_fits [] n r h e = absurd (none e)
  where
    none : None ≡ Some r → ⊥
    none e = cc
admitted_fits (x ∷ xs) zero r h e =
    subst (λ (o : Option Request). is_admitted o ≡ true) e (and_parts (is_admitted x) (list_all is_admitted xs) h).0
admitted_fits (x ∷ xs) (suc n) r h e =
    admitted_fits xs n r (and_parts (is_admitted x) (list_all is_admitted xs) h).1 e

module _ (first : Option (List ℕ)) (log : Log) (p : Parts) (finished : List (List ℕ × Verdict))
    (w : List (Option (List ℕ))) (g : Growing) (found : Option (List ℕ))
    (h : HoldsPart first log p finished w g found) where
  -- what the first slot has
  pub first_slot : at w 0 ≡ option_map (body_of g.name log.done) (at log.admitted log.done)
  first_slot =
      let place : log.done + 0 ≡ log.done = omega arith in
      h.memory.held 0
      ∙ ap (λ (n : ℕ). option_map (body_of g.name n) (at log.admitted n)) place

  -- the request of the first held body is the log's next
  held_next : (m : Message) (digest : List ℕ) → at w 0 ≡ Some (message_body m) → is_request m.request ≡ true →
      digest ≡ sha256 (message_body m) → IsNext g.name log m.request digest
  held_next m digest e fits d = go (at log.admitted log.done) refl
    where
      go : (o : Option Request) → at log.admitted log.done ≡ o → IsNext g.name log m.request digest
      go None is = no_some (sym (ap (option_map (body_of g.name log.done)) is) ∙ sym first_slot ∙ e)
      go (Some r) is =
          let body : message_body m ≡ body_of g.name log.done r =
          some_inj (sym e ∙ first_slot ∙ ap (option_map (body_of g.name log.done)) is) in
          let same : r ≡ m.request = same_request (record { name = g.name; number = log.done; request = r }) m
          (sym body) (admitted_fits log.admitted log.done r h.fits is) fits in
          record {
            here = is ∙ ap Some same;
            digest_is = d ∙ ap sha256 (body ∙ ap (body_of g.name log.done) same);
          }

  pub prefix_of : (r : Request) → at log.admitted log.done ≡ Some r → HoldsPrefix first log p finished r g found
  prefix_of r here = record {
    memory = record {
      done = h.memory.done;
      finished_are = h.memory.finished;
      state_is = h.memory.state;
      taken = h.memory.taken;
      reported = h.memory.reported;
    };
    file = stands first h.file h.ahead;
  }
    where
      stands : (o : Option (List ℕ)) → NameStands o log g.limit (kept_as p finished w g) found →
          StandsAhead o log g found → FileStands o (take_done o log) r g found
      stands None f ahead = record {
        whole = subst (λ (x : Option Request). MatchBool g.dirty
            (IsInTheMiddle (take_done None log) g.limit x found) (found ≡ file_of (take_done None log) g.limit))
            here f.whole;
        made_here = f.made_here;
        ahead = λ has. let a = ahead has in (
          a.dirty,
          a.file ∙ ap (λ (q : Request). file_of (after (take_done None log) q) g.limit)
              (some_inj (sym a.waits ∙ here)),
        );
      }
      stands (Some bytes) f level = (f.0, f.1, level)

  -- both, where the message that the body spells was read
  pub held_prefix : (m : Message) (r : Request) (digest b name : List ℕ) → g.name ≡ name → at w 0 ≡ Some b →
      b ≡ message_body m → r ≡ m.request → is_request r ≡ true → digest ≡ sha256 b →
      IsNext name log r digest × HoldsPrefix first log p finished r g found
  held_prefix m r digest b name same e spelled is fits d =
      let next : IsNext g.name log r digest =
      subst (λ (x : Request). IsNext g.name log x digest) (sym is)
      (held_next m digest (e ∙ ap Some spelled) (ap is_request (sym is) ∙ fits) (d ∙ ap sha256 spelled)) in
      (subst (λ (x : List ℕ). IsNext x log r digest) same next, prefix_of r next.here)

  -- the number still waits
  pub part_waits : (q : Parts) (later : List (List ℕ × Verdict)) (r : Request) (g' : Growing)
      (found' : Option (List ℕ)) →
      at log.admitted log.done ≡ Some r → g'.name ≡ g.name → HoldsPrefix first log q later r g' found' →
      HoldsPart first log q later w g' found'
  part_waits q later r g' found' here name f = record {
    fits = h.fits;
    memory = record {
      done = f.memory.done;
      finished = f.memory.finished_are;
      held = λ i. h.memory.held i
          ∙ ap (λ (x : List ℕ). option_map (body_of x (log.done + i)) (at log.admitted (log.done + i))) (sym name);
      state = f.memory.state_is;
      taken = f.memory.taken;
      reported = f.memory.reported;
    };
    file = stands first f.file;
    ahead = has_next first f.file;
  }
    where
      has_next : (o : Option (List ℕ)) → FileStands o (take_done o log) r g' found' → StandsAhead o log g' found'
      has_next None f = λ has. let a = f.ahead has in
          record { request = r; waits = here; dirty = a.0; file = a.1 }
      has_next (Some bytes) f = f.2

      stands : (o : Option (List ℕ)) → FileStands o (take_done o log) r g' found' →
          NameStands o log g'.limit (kept_as q later w g') found'
      stands None f = record {
        whole = subst (λ (x : Option Request). MatchBool g'.dirty
            (IsInTheMiddle (take_done None log) g'.limit x found') (found' ≡ file_of (take_done None log) g'.limit))
            (sym here) f.whole;
        made_here = f.made_here;
      }
      stands (Some bytes) f = (f.0, f.1)

  -- the number is done
  pub part_done : (v : Verdict) (q : Parts) (later : List (List ℕ × Verdict)) (w' : List (Option (List ℕ)))
      (g' : Growing) (found' : Option (List ℕ)) → g'.name ≡ g.name → g'.dirty ≡ false →
      w' ≡ drop 1 w ++ None ∷ [] → IsDone first log v q later g' found' →
      HoldsPart first (with_done log) q later w' g' found'
  part_done v q later w' g' found' name clean moved d = record {
    fits = h.fits;
    memory = record {
      done = d.memory.done;
      finished = d.memory.finished_are;
      held = λ i.
          let place : log.done + suc i ≡ suc log.done + i = omega arith in
          ap (λ (x : List (Option (List ℕ))). at x i) moved ∙ next_slot w i ∙ h.memory.held (suc i)
          ∙ ap (λ (n : ℕ). option_map (body_of g.name n) (at log.admitted n)) place
          ∙ ap (λ (x : List ℕ). option_map (body_of x (suc log.done + i)) (at log.admitted (suc log.done + i)))
          (sym name);
      state = d.memory.state_is;
      taken = d.memory.taken;
      reported = d.memory.reported;
    };
    file = stands first d.file;
    ahead = level first d.file;
  }
    where
      level : (o : Option (List ℕ)) → FileFollows o (take_done o (with_done log)) g' found' →
          StandsAhead o (with_done log) g' found'
      level None f = λ has. true_false (sym has ∙ f.level)
        where
          true_false : {A : Type 0} → true ≡ false → A
          true_false e = cc
      level (Some bytes) f = f.2

      stands : (o : Option (List ℕ)) → FileFollows o (take_done o (with_done log)) g' found' →
          NameStands o (with_done log) g'.limit (kept_as q later w' g') found'
      stands None f = record {
        whole = subst (λ (b : Bool). MatchBool b (IsInTheMiddle (take_done None (with_done log)) g'.limit
            (at log.admitted (suc log.done)) found') (found' ≡ file_of (take_done None (with_done log)) g'.limit))
            (sym clean) f.whole;
        made_here = f.made_here;
      }
      stands (Some bytes) f = (f.0, f.1)
