-- Lines that begin with one word, and so with no other.
use Rattle.std.proofs.Common.{◌≡◌, ◌≢◌, ℕ, List, [], ◌∷◌, ◌++◌, length, take, drop, true, false, Option, Some, None}
use Rattle.std.proofs.Common.{sym, ◌∙◌, ap, subst, arith}
use Rattle.std.specs.Prelude.{codes}
use Rattle.std.specs.Prelude.{MatchOption}
use Rattle.std.specs.Cmp.Lexicographic.{same_text, other_text, pointwise}
use Rattle.std.specs.Prelude.{nat_eq}
use Rattle.std.specs.Str.{IsUtf8}
use Rattle.std.proofs.Common.{Bor, ◌+◌}
use Rattle.std.proofs.lemmas.Str.{IsUtf8-from_ascii}
use Rattle.std.proofs.lemmas.Fmt.{IsAscii-from_digits}
use Rattle.std.proofs.lemmas.List.{take-append-drop}
use Rattle.std.proofs.Math.Seq.{take-append_seam}
use Rattle.bw_model.specs.Take.{Request}
use Rattle.bw_model.specs.World.{Event, Offer, Send, Deliver, Bring, Ask, Foreign}
use Rattle.bw_wire.specs.RequestTexts.{IsRequestText}
use Rattle.bw_commands.specs.SaidEvents.{SaysEvent, IsIndexText}

-- the first byte
abbrev first : List ℕ → ℕ
first [] = 0
first (b ∷ bs) = b

-- the first byte of a line that says the event
abbrev head_of : Event → ℕ
head_of (Offer r) = 111
head_of (Send i) = 115
head_of (Deliver k) = 100
head_of (Bring k) = 98
head_of Ask = 97
head_of (Foreign f) = 0

heads : (line : List ℕ) (e : Event) → SaysEvent line e → first line ≡ head_of e
heads line (Offer r) h = ap first h.1
heads line (Send i) h = ap first h.1
heads line (Deliver k) h = ap first h.1
heads line (Bring k) h = ap first h.1
heads line Ask h = ap first h
heads line (Foreign f) h = absurd h

-- a line is no event if it is none of each kind
pub says_none : (line : List ℕ) → ((r : Request) → ¬ SaysEvent line (Offer r)) → ((i : ℕ) → ¬ SaysEvent line (Send i)) →
    ((k : ℕ) → ¬ SaysEvent line (Deliver k)) → ((k : ℕ) → ¬ SaysEvent line (Bring k)) → ¬ SaysEvent line Ask →
    (e : Event) → ¬ SaysEvent line e
says_none line offer send deliver bring ask (Offer r) = offer r
says_none line offer send deliver bring ask (Send i) = send i
says_none line offer send deliver bring ask (Deliver k) = deliver k
says_none line offer send deliver bring ask (Bring k) = bring k
says_none line offer send deliver bring ask Ask = ask
says_none line offer send deliver bring ask (Foreign f) = λ h. h

-- a line whose first byte differs from an event's doesn't say that event
apart : (line : List ℕ) (e : Event) (head : ℕ) → first line ≡ head → (head ≡ head_of e → ⊥) → ¬ SaysEvent line e
apart line e head h differ says = differ (sym h ∙ heads line e says)

pub none_offered : (line : List ℕ) (text : List ℕ) → line ≡ codes "offer " ++ text →
    ((r : Request) → ¬ IsRequestText text r) → (e : Event) → ¬ SaysEvent line e
none_offered line text is none =
    says_none line
    (λ r says. none r (subst (λ (t : List ℕ). IsRequestText t r) (sym (ap (drop 6) (sym is ∙ says.1))) says.2))
    (λ i. apart line (Send i) 111 (ap first is) (λ e. omega (arith, e)))
    (λ k. apart line (Deliver k) 111 (ap first is) (λ e. omega (arith, e)))
    (λ k. apart line (Bring k) 111 (ap first is) (λ e. omega (arith, e)))
    (apart line Ask 111 (ap first is) (λ e. omega (arith, e)))

-- What a word has after it.

pub begins : (r : Option (Bor (List ℕ))) (line word : List ℕ) →
    MatchOption r (pointwise nat_eq (take (length word) line) word ≡ false)
    (λ x. (pointwise nat_eq (take (length word) line) word ≡ true) × (x.now ≡ drop (length word) line)
    × (length x.now + length word ≡ length line)) →
    MatchOption r ((rest : List ℕ) → line ≢ word ++ rest) (λ rest. line ≡ word ++ rest.now)
begins (Some x) line word h =
    sym (take-append-drop (length word) line)
    ∙ ap (λ (w : List ℕ). w ++ drop (length word) line) (same_text (take (length word) line) word (sym h.0))
    ∙ ap (λ (w : List ℕ). word ++ w) (sym h.1)
begins None line word h = λ rest e.
    other_text (take (length word) line) word (sym h) (ap (take (length word)) e ∙ take-append_seam word rest)

-- digits are text
pub no_index : (text : List ℕ) → ¬ IsUtf8 text → ¬ IsIndexText text
no_index text none index = none (IsUtf8-from_ascii text (IsAscii-from_digits text index.0.1))

-- no request is spelled if none is read
pub no_request : (text : List ℕ) (o : Option Request) → o ≡ None →
    MatchOption o ((r : Request) → ¬ IsRequestText text r) (λ r. IsRequestText text r) →
    (r : Request) → ¬ IsRequestText text r
no_request text o e s = subst (λ (z : Option Request).
    MatchOption z ((r : Request) → ¬ IsRequestText text r) (λ r. IsRequestText text r)) e s
