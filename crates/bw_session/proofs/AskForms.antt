-- What is asked of a store while numbers are done.
use Rattle.std.proofs.Common.{◌≡◌, ℕ, suc, zero, Bool, true, false, cond, List, ◌∷◌, ◌++◌, [], Option, Some, None, refl}
use Rattle.std.proofs.Common.{sym, ◌∙◌, ap, subst, arith, Ok, Err, Result, inl, inr, ◌⊎◌}
use Rattle.std.specs.Prelude.{OnErr, IfOk}
use Rattle.bw_model.specs.Take.{Parts, Request, Open, Block, Mark, SetField, Close, Verdict, judge, is_stored}
use Rattle.bw_take.specs.States.{parts_with}
use Rattle.bw_store.specs.Calls.{StoreCall, GetsFirst}
use Rattle.bw_store.proofs.Asked.{gets_none}
use Rattle.sha2.specs.Sha256.{sha256}
use Rattle.std.specs.Prelude.{drop}
use Rattle.bw_model.specs.Bytes.{at}
use Rattle.bw_store.specs.StoreSteps.{WasAsked, WasAskedFirst}
use Rattle.bw_store.specs.declared.store.TakeStore.{Ghosts as StoreGhosts}
use Rattle.bw_wire.specs.Bodies.{message_in}
use Rattle.bw_session.specs.Executions.{judged_plan, StopsBeforeDone}
use Rattle.bw_session.specs.KeptParts.{Part}
use Rattle.bw_session.specs.JudgedParts.{judged_in, parts_under, KeepsJudged}
use Rattle.bw_session.specs.ConsecutiveCalls.{DoesFirst, TriesFirst, DoesConsecutively, DoesRun, HoldsNoNext, window_with, holding}
use Rattle.bw_session.specs.ConsecutiveCalls.{AsksInTurn}
use Rattle.bw_session.specs.ConsecutiveCalls.{new_part}
use Rattle.std.specs.Option.{option_map_or}
use Rattle.std.specs.Prelude.{slice_set, is_some, nat_lt, nat_le}
use Rattle.std.proofs.Common.{◌+◌, ◌-◌, ◌≤◌, ◌||◌, length}
use Rattle.std.proofs.lemmas.Bool.{lt-leb, le-ltb, le-leb}
use Rattle.bw_model.specs.Wire.{Message, message_body}
use Rattle.bw_session.specs.Sessions.{KeepsProgress, part_of}
use Rattle.bw_session.specs.declared.session.Session.{Session}

-- no call is the first of any
pub first_none : (plan : List StoreCall) (count : ℕ) (same : Option (List StoreCall)) →
    GetsFirst plan count count same same
first_none plan count same = record { count = 0; within = omega arith; gets = gets_none count same }

pub on_err : {T E : Type 0} {P : Type 0} (r : Result T E) → P → OnErr r P
on_err (Ok x) p = tt
on_err (Err e) p = p

-- what is known of the name is no part of the request
same_taken : (p : Parts) (r : Request) → (parts_with p r).taken ≡ p.taken
same_taken p (Open f history) = refl
same_taken p (Block bytes) = refl
same_taken p (Mark id frame) = refl
same_taken p (SetField tag value) = refl
same_taken p (Close total) = refl

under_taken : (b : Bool) (p : Parts) (r : Request) → (cond b (parts_with p r) p).taken ≡ p.taken
under_taken true p r = same_taken p r
under_taken false p r = refl

module _ (p q s : Parts) (r : Request) (v : Verdict) (known : q ≡ record p { taken = q.taken }) (judged : v ≡ judge q r)
    (kept : s ≡ parts_under v q r) where
  taken_is : s.taken ≡ q.taken
  taken_is = ap (λ (x : Parts). x.taken) kept ∙ under_taken (is_stored v) q r

  -- the verdict is by the parts before, and what is known of the name
  pub verdict_by : v ≡ judged_in p r s.taken
  verdict_by =
      judged ∙ ap (λ (x : Parts). judge x r) known ∙ ap (λ (b : Bool). judge (record p { taken = b }) r) (sym taken_is)

  -- and so is what is kept
  pub keeps_judged : KeepsJudged p r s
  keeps_judged =
      kept ∙ ap (λ (x : Verdict). parts_under x q r) verdict_by
      ∙ ap (λ (x : Parts). parts_under (judged_in p r s.taken) x r)
      (known ∙ ap (λ (b : Bool). record p { taken = b }) (sym taken_is))

-- no number is left, after one more
one_further : (a : Part) (count most : ℕ) → HoldsNoNext a ⊎ (count ≡ most) → HoldsNoNext a ⊎ (suc count ≡ suc most)
one_further a count most (inl idle) = inl idle
one_further a count most (inr all) = inr (ap suc all)

module _ {X : Type 0} (S : StoreGhosts X) where
  -- one number is done, where its request is read off its body
  pub does_first : (a b : Part) (x y : X) (body digest : List ℕ) (r : Request) (v : Verdict) →
      at a.window 0 ≡ Some body → r ≡ (message_in body).request → digest ≡ sha256 body →
      WasAsked S (judged_plan a.growing a.parts r b.growing.made) x y →
      b.growing ≡ record a.growing {
        made = b.growing.made;
        dirty = b.growing.dirty;
        ahead = b.growing.ahead;
      } → b.growing.dirty ≡ false → b.growing.ahead ≡ false →
      KeepsJudged a.parts r b.parts → v ≡ judged_in a.parts r b.parts.taken →
      b.outcomes ≡ a.outcomes ++ (digest, v) ∷ [] → b.window ≡ drop 1 a.window ++ None ∷ [] → DoesFirst S a x b y
  does_first a b x y body digest r v held read summed asked known clean level kept judged outcomes window = record {
    body = body;
    held = held;
    asked = subst (λ (q : Request). WasAsked S (judged_plan a.growing a.parts q b.growing.made) x y) read asked;
    growing = known
        ∙ ap (λ (d : Bool). record a.growing { made = b.growing.made; dirty = d; ahead = b.growing.ahead }) clean
        ∙ ap (λ (h : Bool). record a.growing { made = b.growing.made; dirty = false; ahead = h }) level;
    parts = subst (λ (q : Request). KeepsJudged a.parts q b.parts) read kept;
    outcomes = outcomes ∙ ap (λ (d : List ℕ). a.outcomes ++ (d, v) ∷ []) summed
        ∙ ap (λ (w : Verdict). a.outcomes ++ (sha256 body, w) ∷ [])
        (judged ∙ ap (λ (q : Request). judged_in a.parts q b.parts.taken) read);
    window = window;
  }

  -- or tried
  pub tries_first : (a b : Part) (x y : X) (body : List ℕ) (r : Request) →
      at a.window 0 ≡ Some body → r ≡ (message_in body).request →
      (made : Bool) × WasAskedFirst S (judged_plan a.growing a.parts r made) x y →
      StopsBeforeDone S a.parts a.growing r b.parts b.growing x y →
      b.outcomes ≡ a.outcomes → b.window ≡ a.window → TriesFirst S a x b y
  tries_first a b x y body r held read asked stop outcomes window = record {
    body = body;
    held = held;
    made = asked.0;
    asked = subst (λ (q : Request). WasAskedFirst S (judged_plan a.growing a.parts q asked.0) x y) read asked.1;
    stop = subst (λ (q : Request). StopsBeforeDone S a.parts a.growing q b.parts b.growing x y) read stop;
    outcomes = outcomes;
    window = window;
  }

  -- one number, and then this many more
  pub row_after : (n : ℕ) (a b c : Part) (x y z : X) → DoesFirst S a x b y → DoesConsecutively S n b y c z →
      DoesConsecutively S (suc n) a x c z
  row_after zero a b c x y z first none = (
    a,
    x,
    (refl, refl),
    subst (λ (t : X). DoesFirst S a x c t) (sym none.1)
        (subst (λ (p : Part). DoesFirst S a x p y) (sym none.0) first),
  )
  row_after (suc n) a b c x y z first row = (row.0, row.1, row_after n a b row.0 x y row.1 first row.2, row.3)

  pub run_after : (most : ℕ) (stopped : Bool) (a b c : Part) (x y z : X) → DoesFirst S a x b y →
      DoesRun S most stopped b y c z → DoesRun S (suc most) stopped a x c z
  run_after most stopped a b c x y z first run = let within = run.within in record {
    count = suc run.count;
    within = omega (arith, within);
    last = run.last;
    reached = run.reached;
    done = row_after run.count a b run.last x y run.reached first run.done;
    end = run.end;
    all = λ whole. one_further run.last run.count most (run.all whole);
  }

  -- if no reply was given yet sixteen numbers may be done, and after one reply fifteen
  pub run_from_none : {A : Type 0} (reported : List A) (stopped : Bool) (a b : Part) (x y : X) → reported ≡ [] →
      DoesRun S (16 - length reported) stopped a x b y → DoesRun S 16 stopped a x b y
  run_from_none {A} reported stopped a b x y none run =
      subst (λ (t : List A). DoesRun S (16 - length t) stopped a x b y) none run

  pub run_from_one : {A : Type 0} (old reported : List A) (r : A) (stopped : Bool) (a b : Part) (x y : X) → old ≡ [] →
      reported ≡ old ++ r ∷ [] → DoesRun S (16 - length reported) stopped a x b y → DoesRun S 15 stopped a x b y
  run_from_one {A} old reported r stopped a b x y none one run =
      subst (λ (t : List A). DoesRun S (16 - length t) stopped a x b y)
      (one ∙ ap (λ (t : List A). t ++ r ∷ []) none) run

  -- the first number was only tried
  pub run_tried : (most : ℕ) (a b : Part) (x y : X) → TriesFirst S a x b y → DoesRun S most true a x b y
  run_tried most a b x y tried = record {
    count = 0;
    within = omega arith;
    last = a;
    reached = x;
    done = (refl, refl);
    end = tried;
    all = λ whole. absurd cc;
  }

-- the place of a message that is the next and isn't held
pub window_next : (w : List (Option (List ℕ))) (done : ℕ) (m : Message) → m.number ≡ done → at w 0 ≡ None →
    window_with w done m ≡ slice_set w 0 (Some (message_body m))
window_next w done m same free =
    let first : m.number - done ≡ 0 = omega (arith, same) in
    let below : nat_lt m.number done ≡ false = le-ltb m.number done (omega (arith, same)) in
    let past : nat_le (done + 16) m.number ≡ false = lt-leb (done + 16) m.number (omega (arith, same)) in
    ap (λ (k : ℕ). cond (nat_lt m.number done || nat_le (done + 16) m.number || is_some (at w k)) w
    (slice_set w k (Some (message_body m)))) first
    ∙ ap (λ (b : Bool). cond (b || nat_le (done + 16) m.number || is_some (at w 0)) w
    (slice_set w 0 (Some (message_body m)))) below
    ∙ ap (λ (b : Bool). cond (b || is_some (at w 0)) w (slice_set w 0 (Some (message_body m)))) past
    ∙ ap (λ (o : Option (List ℕ)). cond (is_some o) w (slice_set w 0 (Some (message_body m)))) free

-- a message that is too far has no slot
pub holding_far : (a : Part) (m : Message) → length a.outcomes + 16 ≤ m.number → holding a m ≡ a
holding_far a m far =
    let w : List (Option (List ℕ)) = a.window in
    let done : ℕ = length a.outcomes in
    let below : nat_lt m.number done ≡ false = le-ltb m.number done (omega (arith, far)) in
    let past : nat_le (done + 16) m.number ≡ true = le-leb (done + 16) m.number far in
    ap (λ (x : List (Option (List ℕ))). record a { window = x })
    (ap (λ (b : Bool). cond (b || nat_le (done + 16) m.number || is_some (at w (m.number - done))) w
    (slice_set w (m.number - done) (Some (message_body m)))) below
    ∙ ap (λ (b : Bool). cond (b || is_some (at w (m.number - done))) w
    (slice_set w (m.number - done) (Some (message_body m)))) past)

-- a session that only got more room, and another window
pub part_kept : (s s' : Session) → KeepsProgress s.progress s'.progress →
    part_of s' ≡ record (part_of s) { window = s'.window }
part_kept s s' k =
    ap (λ x. record (part_of s') { parts = x }) k.parts
    ∙ ap (λ x. record (part_of s') { parts = s.progress.state.parts; outcomes = x }) k.outcomes
    ∙ ap (λ x. record (part_of s) { window = s'.window; growing = x }) k.growing

pub if_both : {T E : Type 0} {P Q R : T → Type 0} (r : Result T E) → ((x : T) → P x → Q x → R x) → IfOk r P → IfOk r Q →
    IfOk r R
if_both (Ok x) f p q = f x p q
if_both (Err e) f p q = tt

-- the part of a name that is in a table, and of one that isn't
abbrev part_at : Option Session → List ℕ → ℕ → Part
part_at o name limit = option_map_or part_of o (new_part name limit)

pub asks_at : {X : Type 0} (S : StoreGhosts X) (m : Message) (limit : ℕ) (a b : Part) (s s' : Option Session) (x y : X) →
    a ≡ part_at s m.name limit → b ≡ part_at s' m.name limit → AsksInTurn S m a x b y →
    AsksInTurn S m (part_at s m.name limit) x (part_at s' m.name limit) y
asks_at S m limit a b s s' x y before after asks =
    subst (λ (p : Part). AsksInTurn S m p x (part_at s' m.name limit) y) before
    (subst (λ (p : Part). AsksInTurn S m a x p y) after asks)
