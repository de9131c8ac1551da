-- What is written of requests, one after another.
use Rattle.std.proofs.Common.{◌≡◌, ℕ, ◌+◌, ◌<◌, ◌≤◌, Bool, true, false, List, [], ◌∷◌, ◌++◌, length, Option, Some, None, Result, Ok, Err}
use Rattle.std.proofs.Common.{inl, inr, refl, sym, ◌∙◌, ap, subst, arith, append_assoc, append-nil, length-append}
use Rattle.std.proofs.Math.Nat.{min-le_left}
use Rattle.std.specs.Prelude.{min, not}
use Rattle.std.proofs.lemmas.Grind.{flat_map-append}
use Rattle.bw_stream.specs.Moves.{Keeps, one_more}
use Rattle.bw_stream.specs.declared.sink.Sink.{Ghosts as Writer}
use Rattle.bw_model.specs.Take.{Request}
use Rattle.bw_inspect.specs.declared.fault.InspectFault.{InspectFault}
use Rattle.bw_inspect.specs.declared.fault.InspectKind.{InspectKind}
use Rattle.bw_inspect.specs.declared.fault.InspectKind.TheVariants as kinds
use Rattle.bw_inspect.specs.Faults.{is_failed_read}
use Rattle.bw_inspect.proofs.Writing.{writes_after, writes_none, begins_after}
use Rattle.bw_console.specs.Prints.{Whole, Part}
use Rattle.bw_console.specs.Text.{as_line}
use Rattle.bw_plan.specs.Progress.{Progress, Samples, GoesOn, IsBlockMissed, IsSoundPlan, next_step_of, after_next, remaining}
use Rattle.bw_recorder.specs.RequestLines.{request_hex, request_lines}
use Rattle.bw_recorder.specs.Puts.{AreFirst, AreUnsendable, GivesBefore, GivesNextOf, GivesRequests, GivesSoFar, HasCutText, HasPut}
use Rattle.bw_recorder.specs.Puts.{HasText, PutsNoLine, Stands, count_given, fault_going_on}
use Rattle.bw_recorder.specs.Packs.{FinishesPrint, IsPrintOfPack, has_unwritable}
use Rattle.bw_recorder.specs.declared.packing.PackFault.{PackFault}
use Rattle.bw_recorder.specs.declared.packing.PackFault.TheVariants.{Unread, Altered, Unsendable, Unwritable, Memory}

-- Texts.

pub no_text : {S : Type 0} (w : Writer S) (s : S) → HasText w [] s s
no_text w s = record { wrote = writes_none; counted = refl }

pub text_after : {S : Type 0} (w : Writer S) (a b : List ℕ) (old mid new : S) → HasText w a old mid → HasText w b mid new →
    HasText w (a ++ b) old new
text_after w a b old mid new first second =
    record { wrote = writes_after a b first.wrote second.wrote; counted = second.counted ∙ first.counted }

pub cut_after : {S : Type 0} (w : Writer S) (a b : List ℕ) (old mid new : S) → HasText w a old mid → HasCutText w b mid new →
    HasCutText w (a ++ b) old new
cut_after w a b old mid new first second =
    record { wrote = begins_after a b first.wrote second.wrote; counted = second.counted ∙ ap one_more first.counted }

-- one request's line
pub line_alone : (r : Request) → request_lines (r ∷ []) ≡ as_line (request_hex r)
line_alone r = append-nil (as_line (request_hex r))

pub lines_append : (xs ys : List Request) → request_lines (xs ++ ys) ≡ request_lines xs ++ request_lines ys
lines_append xs ys = flat_map-append (λ (r : Request). as_line (request_hex r)) xs ys

-- what a call puts after what was put before
pub put_after : {S X : Type 0} (w : Writer S) (xs ys : List Request) (result : Result X PackFault) (old mid new : S) →
    HasText w (request_lines xs) old mid → HasPut w ys result mid new → HasPut w (xs ++ ys) result old new
put_after {S} {X} w xs ys result old mid new first second = go result second
  where
    P : Type 0
    P = HasText w (request_lines ys) mid new

    whole : HasText w (request_lines ys) mid new → HasText w (request_lines (xs ++ ys)) old new
    whole s =
        subst (λ (t : List ℕ). HasText w t old new) (sym (lines_append xs ys))
        (text_after w (request_lines xs) (request_lines ys) old mid new first s)

    cut : HasCutText w (request_lines ys) mid new → HasCutText w (request_lines (xs ++ ys)) old new
    cut s =
        subst (λ (t : List ℕ). HasCutText w t old new) (sym (lines_append xs ys))
        (cut_after w (request_lines xs) (request_lines ys) old mid new first s)

    go : (result : Result X PackFault) → HasPut w ys result mid new → HasPut w (xs ++ ys) result old new
    go (Ok x) s = whole s
    go (Err (Unread f)) s = whole s
    go (Err Altered) s = whole s
    go (Err Unsendable) s = whole s
    go (Err Unwritable) s = cut s
    go (Err Memory) s = whole s

-- Requests.

none_next : {r : Request} → None ≡ Some r → ⊥
none_next h = cc

next_is : {x r : Request} → Some x ≡ Some r → x ≡ r
next_is h = cc

pub next_first : (requests : List Request) (r : Request) → next_step_of requests ≡ Some r →
    requests ≡ r ∷ after_next requests
next_first [] r h = absurd (none_next h)
next_first (x ∷ xs) r h = ap (λ (y : Request). y ∷ xs) (next_is h)

pub none_first : (requests : List Request) → next_step_of requests ≡ None → requests ≡ []
none_first [] h = refl
none_first (x ∷ xs) h = absurd (none_next (sym h))

-- a request whose line isn't written
pub record Unput {S : Type 0} (w : Writer S) (r : Request) (f : PackFault) (old new : S) : Type 0 where
  pub given : List Request
  pub put : HasPut {X = Bool} w given (Err f) old new
  pub gives : (requests : List Request) → next_step_of requests ≡ Some r → GivesBefore requests given f

pub no_line : {S : Type 0} (w : Writer S) (r : Request) (f : PackFault) (old new : S) → PutsNoLine w r f old new →
    Unput w r f old new
no_line w r (Unread f) old new h = absurd h
no_line w r Altered old new h = absurd h
no_line {S} w r Unsendable old new h = record {
  given = [];
  put = subst (λ (x : S). HasText w [] old x) (sym h.1) (no_text w old);
  gives = λ requests next. ((requests, refl), inl ([], r, after_next requests, next_first requests r next, h.0));
}
no_line w r Unwritable old new h = record {
  given = r ∷ [];
  put = subst (λ (t : List ℕ). HasCutText w t old new) (sym (line_alone r)) h;
  gives = λ requests next. (after_next requests, sym (next_first requests r next));
}
no_line {S} w r Memory old new h = record {
  given = [];
  put = subst (λ (x : S). HasText w [] old x) (sym h) (no_text w old);
  gives = λ requests next. (requests, refl);
}

-- a plan that doesn't go on, after a line was put
pub going_on_put : {S : Type 0} (w : Writer S) (given : List Request) (f : InspectFault) (old new : S) →
    HasText w (request_lines given) old new → HasPut {X = Bool} w given (Err (fault_going_on f)) old new
going_on_put w given f old new h = go f.kind
  where
    go : (k : InspectKind) →
        HasPut {X = Bool} w given (Err (elim k [ kinds.Read ↦ Unread f | kinds.Memory ↦ Memory | _ ↦ Altered ])) old new
    go kinds.Read = h
    go kinds.Memory = h
    go _ = h

pub going_on_gives : (b : List ℕ) (s : Samples) (f : InspectFault) (left : Option (List ℕ)) (requests given : List Request) →
    AreFirst given requests → s.place + s.left ≤ length b → IsBlockMissed b s f left →
    GivesBefore requests given (fault_going_on f)
going_on_gives b s f left requests given first there missed = go f.kind refl
  where
    never : not (is_failed_read f.kind) ≡ true → ⊥
    never t =
        let short : length b < s.place + min s.left s.size = (missed.cuts t).1 in
        let small = min-le_left s.left s.size in
        omega (arith, short, small, there)

    go : (k : InspectKind) → f.kind ≡ k →
        GivesBefore requests given (elim k [ kinds.Read ↦ Unread f | kinds.Memory ↦ Memory | _ ↦ Altered ])
    go kinds.Read e = (first, ap is_failed_read e)
    go kinds.Memory e = first
    go _ e = absurd (never (ap (λ (k : InspectKind). not (is_failed_read k)) e))

-- where a plan stands after its next request
pub goes_on : (b : List ℕ) (p q : Progress) (left left' : Option (List ℕ)) (r : Request) → Stands b p left →
    next_step_of (remaining p b) ≡ Some r → GoesOn b (after_next (remaining p b)) q left' → IsSoundPlan q.stage →
    q.samples.place + q.samples.left ≡ p.samples.place + p.samples.left →
    GivesNextOf b (remaining p b) (r ∷ []) (Ok false) q left'
goes_on b p q left left' r stands next on sound end =
    let there = stands.there in (
      r,
      (
        refl,
        (
          next_first (remaining p b) r next ∙ ap (λ (rs : List Request). r ∷ rs) (sym on.requests_are),
          record { sound = sound; at = on.stands; there = omega (arith, end, there) },
        ),
      ),
    )

-- All of them.

first_later : (xs ys requests more : List Request) → requests ≡ xs ++ more → AreFirst ys more → AreFirst (xs ++ ys) requests
first_later xs ys requests more e h =
    (h.0, append_assoc xs ys h.0 ∙ (ap (λ (z : List Request). xs ++ z) h.1 ∙ sym e))

unsendable_later : (xs requests more : List Request) → requests ≡ xs ++ more → AreUnsendable more → AreUnsendable requests
unsendable_later xs requests more e (inl h) =
    inl (xs ++ h.0, h.1, h.2, e ∙ (ap (λ (z : List Request). xs ++ z) h.3 ∙ sym (append_assoc xs h.0 (h.1 ∷ h.2))), h.4)
unsendable_later xs requests more e (inr h) =
    let n = ap length e in
    let l = length-append xs more in
    inr (omega (arith, n, l, h))

pub gives_later : (xs ys requests more : List Request) (f : PackFault) → requests ≡ xs ++ more → GivesBefore more ys f →
    GivesBefore requests (xs ++ ys) f
gives_later xs ys requests more (Unread f) e h = (first_later xs ys requests more e h.0, h.1)
gives_later xs ys requests more Altered e h = h
gives_later xs ys requests more Unsendable e h =
    (first_later xs ys requests more e h.0, unsendable_later xs requests more e h.1)
gives_later xs ys requests more Unwritable e h = first_later xs ys requests more e h
gives_later xs ys requests more Memory e h = first_later xs ys requests more e h

-- The flush at the end.

first_of_all : (given requests : List Request) → given ≡ requests → AreFirst given requests
first_of_all given requests e = ([], append-nil given ∙ e)

first_of : (given requests : List Request) (f : PackFault) → GivesBefore requests given f → AreFirst given requests
first_of given requests (Unread f) h = h.0
first_of given requests Altered h = absurd h
first_of given requests Unsendable h = h.0
first_of given requests Unwritable h = h
first_of given requests Memory h = h

given_first : (given requests : List Request) (put : Result (Unit {0}) PackFault) → GivesRequests requests given put →
    AreFirst given requests
given_first given requests (Ok x) h = first_of_all given requests h
given_first given requests (Err f) h = first_of given requests f h

pub no_flush : {S : Type 0} (w : Writer S) (given : List Request) (put : Result (Unit {0}) PackFault) (old new : S) →
    has_unwritable put ≡ true → HasPut w given put old new → FinishesPrint w given put put old new
no_flush w given (Ok x) old new t h = absurd (cc)
no_flush w given (Err (Unread f)) old new t h = absurd (cc)
no_flush w given (Err Altered) old new t h = absurd (cc)
no_flush w given (Err Unsendable) old new t h = absurd (cc)
no_flush w given (Err Unwritable) old new t h =
    (Part (request_lines given), refl, record { wrote = h.wrote; counted = h.counted }, λ requests g. g)
no_flush w given (Err Memory) old new t h = absurd (cc)

whole_put : {S : Type 0} (w : Writer S) (given : List Request) (put : Result (Unit {0}) PackFault) (old mid : S) →
    has_unwritable put ≡ false → HasPut w given put old mid → HasText w (request_lines given) old mid
whole_put w given (Ok x) old mid t h = h
whole_put w given (Err (Unread f)) old mid t h = h
whole_put w given (Err Altered) old mid t h = h
whole_put w given (Err Unsendable) old mid t h = h
whole_put w given (Err Unwritable) old mid t h = absurd (cc)
whole_put w given (Err Memory) old mid t h = h

whole_print : (given : List Request) (put : Result (Unit {0}) PackFault) → has_unwritable put ≡ false →
    IsPrintOfPack given put (Whole (request_lines given))
whole_print given (Ok x) t = refl
whole_print given (Err (Unread f)) t = inl refl
whole_print given (Err Altered) t = inl refl
whole_print given (Err Unsendable) t = inl refl
whole_print given (Err Unwritable) t = absurd (cc)
whole_print given (Err Memory) t = inl refl

pub failed_flush : {S : Type 0} (w : Writer S) (given : List Request) (put : Result (Unit {0}) PackFault) (old mid new : S) →
    has_unwritable put ≡ false → HasPut w given put old mid → Keeps (w.written mid) (w.written new) →
    w.failures new ≡ one_more (w.failures mid) → FinishesPrint w given put (Err Unwritable) old new
failed_flush w given put old mid new t h kept counted =
    let text = whole_put w given put old mid t h in (
      Part (request_lines given),
      refl,
      record {
        wrote = λ xs is. record {
          part = request_lines given;
          rest = [];
          whole = append-nil (request_lines given);
          stands = kept _ (text.wrote xs is);
        };
        counted = counted ∙ ap one_more text.counted;
      },
      λ requests g. given_first given requests put g,
    )

pub flushed : {S : Type 0} (w : Writer S) (given : List Request) (put : Result (Unit {0}) PackFault) (old mid new : S) →
    has_unwritable put ≡ false → HasPut w given put old mid → Keeps (w.written mid) (w.written new) →
    w.failures new ≡ w.failures mid → w.is_flushed new ≡ true → FinishesPrint w given put put old new
flushed w given put old mid new t h kept counted passed =
    let text = whole_put w given put old mid t h in (
      Whole (request_lines given),
      whole_print given put t,
      record {
        wrote = λ xs is. kept _ (text.wrote xs is);
        counted = counted ∙ text.counted;
        flushed = passed;
      },
      λ requests g. g,
    )

-- One after another.

pub one_text : {S : Type 0} (w : Writer S) (r : Request) (old new : S) → HasText w (as_line (request_hex r)) old new →
    HasText w (request_lines (r ∷ [])) old new
one_text w r old new h = subst (λ (t : List ℕ). HasText w t old new) (sym (line_alone r)) h

-- so many requests were put
pub record SoFar {W : Type 0} (w : Writer W) (n : ℕ) (p : Progress) (left : Option (List ℕ)) (old : W) (q : Progress)
    (left' : Option (List ℕ)) (new : W) : Type 0 where
  pub given : List Request
  pub text : HasText w (request_lines given) old new
  pub count : length given ≡ n
  pub gives : (b : List ℕ) → Stands b p left → GivesSoFar b (remaining p b) given q left'

pub so_far_none : {W : Type 0} (w : Writer W) (p : Progress) (left : Option (List ℕ)) (old : W) →
    SoFar w 0 p left old p left old
so_far_none w p left old = record {
  given = [];
  text = no_text w old;
  count = refl;
  gives = λ b s. record { whole = refl; stands = s };
}

-- what a call that puts all of them says
abbrev pub PutsAll : {W : Type 0} → Writer W → Progress → Option (List ℕ) → W → Result (Unit {0}) PackFault → W → Type 0
PutsAll w p left old result new =
    (given : List Request) × HasPut w given result old new
    × ((b : List ℕ) → Stands b p left → GivesRequests (remaining p b) given result)

-- .. and one that puts the next one
abbrev pub PutsNext : {W : Type 0} → Writer W → Progress → Option (List ℕ) → W → Result Bool PackFault → Progress →
    Option (List ℕ) → W → Type 0
PutsNext w p left old result q left' new =
    (given : List Request) × HasPut w given result old new × count_given result given
    × ((b : List ℕ) → Stands b p left → GivesNextOf b (remaining p b) given result q left')

pub so_far_more : {W : Type 0} (w : Writer W) (n : ℕ) (p q q' : Progress) (left left' left'' : Option (List ℕ))
    (old mid new : W) (v : Bool) → v ≡ false → SoFar w n p left old q left' mid →
    PutsNext w q left' mid (Ok v) q' left'' new → SoFar w (n + 1) p left old q' left'' new
so_far_more w n p q q' left left' left'' old mid new true e h x = absurd (cc)
so_far_more w n p q q' left left' left'' old mid new false e h x =
    let l = length-append h.given x.0 in
    let m = h.count in
    let one = x.2 in
    record {
      given = h.given ++ x.0;
      text = put_after {X = Bool} w h.given x.0 (Ok false) old mid new h.text x.1;
      count = omega (arith, l, m, one);
      gives = λ b s.
          let so = h.gives b s in
          let next = x.3 b so.stands in
          record {
            whole = so.whole
                ∙ (ap (λ (z : List Request). h.given ++ z)
                (next.1.1.0 ∙ ap (λ (z : List Request). z ++ remaining q' b) (sym next.1.0))
                ∙ sym (append_assoc h.given x.0 (remaining q' b)));
            stands = next.1.1.1;
          };
    }

pub all_put : {W : Type 0} (w : Writer W) (n : ℕ) (p q q' : Progress) (left left' left'' : Option (List ℕ))
    (old mid new : W) (v : Bool) → v ≡ true → SoFar w n p left old q left' mid →
    PutsNext w q left' mid (Ok v) q' left'' new → PutsAll w p left old (Ok tt) new
all_put w n p q q' left left' left'' old mid new false e h x = absurd (cc)
all_put w n p q q' left left' left'' old mid new true e h x = (
  h.given ++ x.0,
  put_after {X = Bool} w h.given x.0 (Ok true) old mid new h.text x.1,
  λ b s.
      let so = h.gives b s in
      let next = x.3 b so.stands in
      ap (λ (z : List Request). h.given ++ z) (next.0 ∙ sym next.1) ∙ sym so.whole,
)

retyped : {S : Type 0} (X Y : Type 0) (w : Writer S) (given : List Request) (f : PackFault) (old new : S) →
    HasPut {X = X} w given (Err f) old new → HasPut {X = Y} w given (Err f) old new
retyped X Y w given (Unread f) old new h = h
retyped X Y w given Altered old new h = h
retyped X Y w given Unsendable old new h = h
retyped X Y w given Unwritable old new h = h
retyped X Y w given Memory old new h = h

pub some_put : {W : Type 0} (w : Writer W) (n : ℕ) (p q q' : Progress) (left left' left'' : Option (List ℕ))
    (old mid new : W) (f : PackFault) → SoFar w n p left old q left' mid →
    PutsNext w q left' mid (Err f) q' left'' new → PutsAll w p left old (Err f) new
some_put w n p q q' left left' left'' old mid new f h x = (
  h.given ++ x.0,
  retyped Bool (Unit {0}) w (h.given ++ x.0) f old new
      (put_after {X = Bool} w h.given x.0 (Err f) old mid new h.text x.1),
  λ b s.
      let so = h.gives b s in
      gives_later h.given x.0 (remaining p b) (remaining q b) f so.whole (x.3 b so.stands),
)

pub too_many_put : {W : Type 0} (w : Writer W) (p q : Progress) (left left' : Option (List ℕ)) (old new : W) →
    SoFar w 16777217 p left old q left' new → PutsAll w p left old (Err Unsendable) new
too_many_put w p q left left' old new h = (
  h.given,
  h.text,
  λ b s.
      let so = h.gives b s in
      let n = ap length so.whole in
      let l = length-append h.given (remaining q b) in
      let m = h.count in
      ((remaining q b, sym so.whole), inr (omega (arith, n, l, m))),
)
