-- Inputs that are served one after another.
use Rattle.std.proofs.Common.{◌≡◌, ℕ, ◌+◌, ◌<◌, List, [], ◌∷◌, ◌++◌, length, take, drop, get_or}
use Rattle.std.proofs.Common.{refl, sym, ◌∙◌, ap, subst}
use Rattle.std.specs.Prelude.{map}
use Rattle.std.specs.List.{AllByRecursion}
use Rattle.std.proofs.lemmas.List.{map-append, append-nil, append_assoc, take_more, drop_more, take-append-drop}
use Rattle.std.proofs.lemmas.Grind.{flat_map-append}
use Rattle.bw_model.specs.Wire.{Frame}
use Rattle.bw_model.specs.Replies.{Reply}
use Rattle.bw_exchange.specs.AnsweredFrames.{Answered, AnswersAll}
use Rattle.bw_session.specs.IngestRuns.{ServedInput, WasServed, AreServed, AreFirstIn, answered_in}
use Rattle.bw_session.specs.IngestRuns.{input_bytes, ServesInput, ServesFirst, ServesInputs, ServesInPart}
use Rattle.bw_session.specs.declared.ingest.Reported.{Reported}
use Rattle.bw_exchange.proofs.Going.{answers_append}
use Rattle.bw_exchange.specs.declared.serving.ExchangeEnd.{ExchangeEnd}

each-append : {X : Type 0} (P : X → Type 0) (xs ys : List X) → AllByRecursion P xs → AllByRecursion P ys →
    AllByRecursion P (xs ++ ys)
each-append P [] ys h k = k
each-append P (x ∷ xs) ys h k = (h.0, each-append P xs ys h.1 k)

pub none_first : (left : List (List ℕ)) → AreFirstIn [] left
none_first [] = refl
none_first (input ∷ left) = (_, refl)

-- an element of a list, and those before and after it
around : {X : Type 0} (f : X → List ℕ) (xs : List X) (i : ℕ) (x : X) (y : List ℕ) → i < length xs →
    x ≡ get_or xs i x → y ≡ f x → map f (take i xs) ++ y ∷ map f (drop (i + 1) xs) ≡ map f xs
around f xs i x y below is same =
    ap (λ (z : List ℕ). map f (take i xs) ++ z ∷ map f (drop (i + 1) xs)) (same ∙ ap f is)
    ∙ sym (map-append f (take i xs) (get_or xs i x ∷ drop (i + 1) xs))
    ∙ ap (λ (zs : List _). map f (take i xs ++ zs)) (sym (drop_more xs i x below))
    ∙ ap (map f) (take-append-drop i xs)

module _ {T : Type 0} (answers : T → Frame → List Reply → T → Type 0) where
  pub inputs-none : (old : T) (reported : Reported) → reported.replies.items ≡ [] → reported.ends.items ≡ [] →
      ServesInputs answers old old [] reported
  inputs-none old reported replies ends = record {
    went = [];
    by_server = refl;
    are = record {
      inputs_are = refl;
      written_is = ap (map (λ v. v.items)) (sym replies);
      ends_are = sym ends;
      each = tt;
    };
  }

  -- what one input more leaves
  all_served : (old mid new : T) (inputs inputs' written written' : List (List ℕ))
      (ends ends' : List ExchangeEnd) (input bytes : List ℕ) (end : ExchangeEnd) (went : List ServedInput) →
      AnswersAll answers old (answered_in went) mid → AreServed went inputs written ends →
      inputs' ≡ inputs ++ input ∷ [] → written' ≡ written ++ bytes ∷ [] → ends' ≡ ends ++ end ∷ [] →
      ServesInput answers mid new input bytes end →
      (went' : List ServedInput) × AnswersAll answers old (answered_in went') new
      × AreServed went' inputs' written' ends'
  all_served old mid new inputs inputs' written written' ends ends' input bytes end went by_server are is ws es one = (
    went ++ last ∷ [],
    subst (λ (xs : List Answered). AnswersAll answers old xs new)
        (ap (λ (xs : List Answered). answered_in went ++ xs) (sym (append-nil one.answered))
        ∙ sym (flat_map-append (λ (x : ServedInput). x.answered) went (last ∷ [])))
        (answers_append answers (answered_in went) one.answered old mid new by_server one.by_server),
    record {
      inputs_are = map-append (λ (x : ServedInput). x.input) went (last ∷ [])
          ∙ ap (λ (xs : List (List ℕ)). xs ++ input ∷ []) are.inputs_are ∙ sym is;
      written_is = map-append (λ (x : ServedInput). x.written) went (last ∷ [])
          ∙ ap (λ (xs : List (List ℕ)). xs ++ bytes ∷ []) are.written_is ∙ sym ws;
      ends_are = map-append (λ (x : ServedInput). x.end) went (last ∷ [])
          ∙ ap (λ (xs : List ExchangeEnd). xs ++ end ∷ []) are.ends_are ∙ sym es;
      each = each-append WasServed went (last ∷ []) are.each (one.served, tt);
    },
  )
    where
      last : ServedInput
      last = record { input = input; answered = one.answered; written = bytes; end = end }

  pub inputs-more : (old mid new : T) (inputs inputs' : List (List ℕ)) (reported reported' : Reported)
      (input bytes : List ℕ) (end : ExchangeEnd) → inputs' ≡ inputs ++ input ∷ [] →
      input_bytes reported'.replies.items ≡ input_bytes reported.replies.items ++ bytes ∷ [] →
      reported'.ends.items ≡ reported.ends.items ++ end ∷ [] →
      ServesInputs answers old mid inputs reported → ServesInput answers mid new input bytes end →
      ServesInputs answers old new inputs' reported'
  inputs-more old mid new inputs inputs' reported reported' input bytes end is ws es h one =
      let all = all_served old mid new inputs inputs' (input_bytes reported.replies.items) (input_bytes reported'.replies.items)
      reported.ends.items reported'.ends.items input bytes end h.went h.by_server h.are is ws es one in
      record { went = all.0; by_server = all.1; are = all.2 }

  -- first frames of the next
  inputs-part : (old mid new : T) (inputs : List (List ℕ)) (reported : Reported) (input : List ℕ)
      (left : List (List ℕ)) → ServesInputs answers old mid inputs reported → ServesFirst answers mid new input →
      ServesInPart answers old new (inputs ++ input ∷ left)
  inputs-part old mid new inputs reported input left h one = record {
    went = h.went;
    next = one.answered;
    by_server = answers_append answers (answered_in h.went) one.answered old mid new h.by_server one.by_server;
    are = record {
      left = input ∷ left;
      inputs_are = ap (λ (xs : List (List ℕ)). xs ++ input ∷ left) h.are.inputs_are;
      each = h.are.each;
      first = one.first;
    };
  }

  -- the next whole, but its replies are lost
  inputs-whole : (old mid new : T) (inputs : List (List ℕ)) (reported : Reported) (input bytes : List ℕ)
      (end : ExchangeEnd) (left : List (List ℕ)) → ServesInputs answers old mid inputs reported →
      ServesInput answers mid new input bytes end → ServesInPart answers old new (inputs ++ input ∷ left)
  inputs-whole old mid new inputs reported input bytes end left h one =
      let all = all_served old mid new inputs (inputs ++ input ∷ []) (input_bytes reported.replies.items)
      (input_bytes reported.replies.items ++ bytes ∷ []) reported.ends.items (reported.ends.items ++ end ∷ []) input bytes end h.went
      h.by_server h.are refl refl refl one in
      record {
        went = all.0;
        next = [];
        by_server = subst (λ (xs : List Answered). AnswersAll answers old xs new)
            (sym (append-nil (answered_in all.0))) all.1;
        are = record {
          left = left;
          inputs_are = ap (λ (xs : List (List ℕ)). xs ++ left) all.2.inputs_are
              ∙ append_assoc inputs (input ∷ []) left;
          each = all.2.each;
          first = none_first left;
        };
      }

  -- of the inputs the next was begun
  pub next_begun : {X : Type 0} (f : X → List ℕ) (xs : List X) (i : ℕ) (x : X) (input : List ℕ) (old mid new : T)
      (reported : Reported) → i < length xs → x ≡ get_or xs i x → input ≡ f x →
      ServesInputs answers old mid (map f (take i xs)) reported → ServesFirst answers mid new input →
      ServesInPart answers old new (map f xs)
  next_begun f xs i x input old mid new reported below is same h one =
      subst (ServesInPart answers old new) (around f xs i x input below is same)
      (inputs-part old mid new (map f (take i xs)) reported input (map f (drop (i + 1) xs)) h one)

  -- the next was served, but its replies are lost
  pub next_lost : {X : Type 0} (f : X → List ℕ) (xs : List X) (i : ℕ) (x : X) (input bytes : List ℕ)
      (end : ExchangeEnd) (old mid new : T) (reported : Reported) → i < length xs → x ≡ get_or xs i x → input ≡ f x →
      ServesInputs answers old mid (map f (take i xs)) reported → ServesInput answers mid new input bytes end →
      ServesInPart answers old new (map f xs)
  next_lost f xs i x input bytes end old mid new reported below is same h one =
      subst (ServesInPart answers old new) (around f xs i x input below is same)
      (inputs-whole old mid new (map f (take i xs)) reported input bytes end (map f (drop (i + 1) xs)) h one)

-- One element of a list more.

pub one_taken : {X : Type 0} (f : X → List ℕ) (xs : List X) (i : ℕ) (x : X) (y : List ℕ) → i < length xs →
    x ≡ get_or xs i x → y ≡ f x → map f (take (i + 1) xs) ≡ map f (take i xs) ++ y ∷ []
one_taken f xs i x y below is same =
    ap (map f) (take_more xs i x below) ∙ map-append f (take i xs) (get_or xs i x ∷ [])
    ∙ ap (λ (z : List ℕ). map f (take i xs) ++ z ∷ []) (sym (same ∙ ap f is))

pub one_pushed : {X : Type 0} (f : X → List ℕ) (xs ys : List X) (x : X) → ys ≡ xs ++ x ∷ [] →
    map f ys ≡ map f xs ++ f x ∷ []
one_pushed f xs ys x e = ap (map f) e ∙ map-append f xs (x ∷ [])
