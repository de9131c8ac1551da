-- What comes over a link is a prefix of what was said, frame by frame.
use Rattle.std.proofs.Common.{length, ◌≡◌, ◌<◌, ℕ, suc, zero, true, List, [], ◌∷◌, ◌++◌, ◌^◌}
use Rattle.std.proofs.Common.{Option, Some, None, Result, Ok, refl, sym, ◌∙◌, ap, subst, arith, append_assoc, ◌⊎◌, inl, inr}
use Rattle.std.specs.List.{Contains, list_all}
use Rattle.std.proofs.lemmas.Bool.{and_parts}
use Rattle.std.proofs.lemmas.List.Elements.{Contains-append_left, Contains-append_right, Contains-append_cases}
use Rattle.bw_model.specs.Take.{Request, Verdict}
use Rattle.bw_model.specs.Wire.{Second, Message, Frame, Says, Asks, Bye, is_frame, body, framed, Reason}
use Rattle.bw_model.specs.Replies.{Reply, Judged, Refused, is_reply, reply_body, decoded_reply}
use Rattle.bw_model.specs.Stream.{End, EndOfInput, SaidBye, BadFrame, is_turn, frames_bytes, first_frame}
use Rattle.bw_model.specs.Exchange.{replies_bytes}
use Rattle.bw_model.proofs.FrameLaws.{first_frame-framed, reply_length}
use Rattle.bw_model.proofs.ReplyLaws.{spelled_reply_is_read}
use Rattle.bw_model.proofs.WireLaws.{frames_apart}
use Rattle.bw_exchange.specs.AnsweredFrames.{Answered, answered_frames, replies_of}
use Rattle.bw_exchange.specs.Done.{last_of}
use Rattle.bw_delivery.specs.Deliveries.{LinkBytes, WasTold, IsOwnLink}
use Rattle.bw_delivery.proofs.SoundTurns.{IsOneOf}

-- Lists that begin alike.

cons_nil : {X : Type 0} {x : X} {xs : List X} → x ∷ xs ≡ [] → ⊥
cons_nil e = cc

ok_inj : {X E : Type 0} {x y : X} → ◌≡◌ {A = Result X E} (Ok x) (Ok y) → x ≡ y
ok_inj e = cc

-- Frames.

turn_fits : (f : Frame) → is_turn Second f ≡ true → is_frame Second f ≡ true
turn_fits (Says m) h = h
turn_fits (Asks name number) h = h
turn_fits Bye h = absurd cc

same_frame : (f g : Frame) (a b : List ℕ) → is_frame Second f ≡ true → is_frame Second g ≡ true →
    framed (body f) ++ a ≡ framed (body g) ++ b → (f ≡ g) × (a ≡ b)
same_frame f g a b h k e =
    let same = ok_inj (sym (first_frame-framed Second f a h) ∙ ap (first_frame Second) e
    ∙ first_frame-framed Second g b k) in
    (ap (λ (z : Frame × List ℕ). z.0) same, ap (λ (z : Frame × List ℕ). z.1) same)

frames_first : (xs ys : List Frame) (w : List ℕ) → list_all (is_turn Second) xs ≡ true →
    list_all (is_frame Second) ys ≡ true → frames_bytes xs ++ w ≡ frames_bytes ys →
    (more : List Frame) × (xs ++ more ≡ ys)
frames_first [] ys w h k e = (ys, refl)
frames_first (x ∷ xs) [] w h k e =
    absurd (cons_nil (sym (append_assoc (framed (body x)) (frames_bytes xs) w) ∙ e))
frames_first (x ∷ xs) (y ∷ ys) w h k e =
    let hs = and_parts (is_turn Second x) (list_all (is_turn Second) xs) h in
    let ks = and_parts (is_frame Second y) (list_all (is_frame Second) ys) k in
    let s = same_frame x y (frames_bytes xs ++ w) (frames_bytes ys) (turn_fits x hs.0) ks.0
    (sym (append_assoc (framed (body x)) (frames_bytes xs) w) ∙ e) in
    let rest = frames_first xs ys w hs.1 ks.1 s.1 in
    (rest.0, ap (λ (z : Frame). z ∷ (xs ++ rest.0)) s.0 ∙ ap (λ (zs : List Frame). y ∷ zs) rest.1)

-- the messages that are answered are requests of the sender
pub answered_are : (name : List ℕ) (requests : List Request) (answered : List Answered) (l : LinkBytes) →
    IsOwnLink name requests answered l → (m : Message) → Contains (answered_frames answered) (Says m) →
    IsOneOf name requests (Says m)
answered_are name requests answered l h m has =
    let says = h.says in
    let there = h.unchanged.there in
    let answers = h.answers in
    let frames : List Frame = answered_frames answered in
    let unread : List ℕ = answers.read.0 ++ (there.0 ++ says.part.0) in
    let begins : frames_bytes frames ++ unread ≡ frames_bytes says.frames =
    sym (append_assoc (frames_bytes frames) answers.read.0 (there.0 ++ says.part.0))
    ∙ ap (λ (z : List ℕ). z ++ (there.0 ++ says.part.0)) answers.read.1
    ∙ sym (append_assoc l.received there.0 says.part.0)
    ∙ ap (λ (z : List ℕ). z ++ says.part.0) there.1 ∙ says.part.1 in
    let all = frames_first frames says.frames unread answers.spelled says.spelled begins in
    says.each m (subst (λ (fs : List Frame). Contains fs (Says m)) all.1
    (Contains-append_left frames all.0 (Says m) has))

-- Replies.

same_reply : (r s : Reply) (a b : List ℕ) → is_reply r ≡ true → is_reply s ≡ true →
    framed (reply_body r) ++ a ≡ framed (reply_body s) ++ b → (r ≡ s) × (a ≡ b)
same_reply r s a b h k e =
    let short = reply_length r h in
    let short' = reply_length s k in
    let apart = frames_apart (reply_body r) (reply_body s) a b (omega (arith, short.1)) (omega (arith, short'.1)) e in
    (ok_inj (sym (spelled_reply_is_read r h) ∙ ap decoded_reply apart.0 ∙ spelled_reply_is_read s k), apart.1)

head_apart : {a b : ℕ} {xs ys : List ℕ} → a ∷ xs ≡ b ∷ ys → a ≡ b
head_apart e = cc

-- a reply to a bad frame is no verdict
no_verdict : (reason : Reason) (place : ℕ) (name : List ℕ) (n : ℕ) (v : Verdict) →
    reply_body (Judged name n v) ≡ reply_body (Refused reason place) → ⊥
no_verdict reason place name n v e = let same : 129 ≡ 131 = head_apart e in omega (arith, same)

-- nothing is among the replies of no bytes
none_of_nothing : (xs : List Reply) (w : List ℕ) (r : Reply) → replies_bytes xs ++ w ≡ [] → Contains xs r → ⊥
none_of_nothing [] w r e (k, below, f) = omega arith
none_of_nothing (x ∷ xs) w r e has = cons_nil (sym (append_assoc (framed (reply_body x)) (replies_bytes xs) w) ∙ e)

-- a verdict among the replies with which such bytes begin is among those that were answered
judged_among : (xs rs : List Reply) (end : Option End) (w : List ℕ) (name : List ℕ) (n : ℕ) (v : Verdict) →
    list_all is_reply xs ≡ true → list_all is_reply rs ≡ true →
    replies_bytes xs ++ w ≡ replies_bytes (rs ++ last_of end) → Contains xs (Judged name n v) →
    Contains rs (Judged name n v)
judged_among [] rs end w name n v h k e (i, below, f) = absurd (omega arith)
judged_among (x ∷ xs) [] None w name n v h k e has = absurd (none_of_nothing (x ∷ xs) w (Judged name n v) e has)
judged_among (x ∷ xs) [] (Some EndOfInput) w name n v h k e has =
    absurd (none_of_nothing (x ∷ xs) w (Judged name n v) e has)
judged_among (x ∷ xs) [] (Some SaidBye) w name n v h k e has =
    absurd (none_of_nothing (x ∷ xs) w (Judged name n v) e has)
judged_among (x ∷ xs) [] (Some (BadFrame reason place)) w name n v h k e has =
    absurd (go (Contains-append_cases (x ∷ []) xs (Judged name n v) has))
  where
    short : length (reply_body x) < 2 ^ 32
    short = let most = reply_length x (and_parts (is_reply x) (list_all is_reply xs) h).0 in omega (arith, most.1)

    apart : (reply_body x ≡ reply_body (Refused reason place)) × (replies_bytes xs ++ w ≡ [])
    apart = frames_apart (reply_body x) (reply_body (Refused reason place)) (replies_bytes xs ++ w) [] short (omega arith)
        (sym (append_assoc (framed (reply_body x)) (replies_bytes xs) w) ∙ e)

    go : Contains (x ∷ []) (Judged name n v) ⊎ Contains xs (Judged name n v) → ⊥
    go (inl (zero, below, f)) = no_verdict reason place name n v (ap reply_body (sym f) ∙ apart.0)
    go (inl (suc i, below, f)) = omega arith
    go (inr there) = none_of_nothing xs w (Judged name n v) apart.1 there
judged_among (x ∷ xs) (y ∷ rs) end w name n v h k e has =
    let hs = and_parts (is_reply x) (list_all is_reply xs) h in
    let ks = and_parts (is_reply y) (list_all is_reply rs) k in
    let s = same_reply x y (replies_bytes xs ++ w) (replies_bytes (rs ++ last_of end)) hs.0 ks.0
    (sym (append_assoc (framed (reply_body x)) (replies_bytes xs) w) ∙ e) in
    go s.0 (judged_among xs rs end w name n v hs.1 ks.1 s.1) (Contains-append_cases (x ∷ []) xs (Judged name n v) has)
  where
    go : x ≡ y → (Contains xs (Judged name n v) → Contains rs (Judged name n v)) →
        Contains (x ∷ []) (Judged name n v) ⊎ Contains xs (Judged name n v) → Contains (y ∷ rs) (Judged name n v)
    go same rec (inl (zero, below, f)) = (0, omega arith, sym same ∙ f)
    go same rec (inl (suc i, below, f)) = absurd (omega arith)
    go same rec (inr there) = Contains-append_right (y ∷ []) rs (Judged name n v) (rec there)

-- a verdict that is heard was answered
pub heard_was_answered : (name : List ℕ) (requests : List Request) (answered : List Answered) (l : LinkBytes) →
    IsOwnLink name requests answered l → (n : ℕ) (v : Verdict) → WasTold name n v l.heard →
    Contains (replies_of answered) (Judged name n v)
heard_was_answered name requests answered l h n v told =
    let back = h.unchanged.back in
    let answers = h.answers in
    let all : List Reply = replies_of answered ++ last_of answers.end in
    let begins : replies_bytes told.replies ++ (told.part.0 ++ (back.0 ++ answers.part.0)) ≡ replies_bytes all =
    sym (append_assoc (replies_bytes told.replies) told.part.0 (back.0 ++ answers.part.0))
    ∙ ap (λ (z : List ℕ). z ++ (back.0 ++ answers.part.0)) told.part.1
    ∙ sym (append_assoc l.heard back.0 answers.part.0)
    ∙ ap (λ (z : List ℕ). z ++ answers.part.0) back.1 ∙ answers.part.1 in
    judged_among told.replies (replies_of answered) answers.end (told.part.0 ++ (back.0 ++ answers.part.0)) name n v
    told.spelled answers.spelled_back begins told.among
