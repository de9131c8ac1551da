-- The frames of one connection among those of all.
use Rattle.std.proofs.Common.{◌≡◌, ℕ, zero, suc, Bool, true, false, cond, List, [], ◌∷◌, refl, sym, ◌∙◌, ap, arith}
use Rattle.std.specs.Prelude.{map, filter, ◌==◌}
use Rattle.std.specs.List.{AllByRecursion, Contains}
use Rattle.std.proofs.lemmas.Bool.{eq-eqb, false≢true}
use Rattle.bw_model.specs.Take.{Request}
use Rattle.bw_model.specs.Wire.{Message, Frame, Says}
use Rattle.bw_exchange.specs.AnsweredFrames.{Answered, answered_frames}
use Rattle.bw_connections.specs.ConnectionTables.{Tagged, all_answered, own}
use Rattle.bw_delivery.proofs.Elements.{each-contains}
use Rattle.bw_delivery.proofs.SoundTurns.{IsOneOf}

-- an element is one of a longer list
later : {X : Type 0} (x y : X) (xs : List X) → Contains xs y → Contains (x ∷ xs) y
later x y xs (k, below, e) = (suc k, omega (arith, below), e)

first : {X : Type 0} (x : X) (xs : List X) → Contains (x ∷ xs) x
first x xs = (0, omega arith, refl)

-- what holds of each frame, whichever connection it came over, holds of all
pub of_each : (P : Answered → Type 0) (trace : List Tagged) → ((k : ℕ) (a : Answered) → Contains trace (k, a) → P a) →
    AllByRecursion P (all_answered trace)
of_each P [] h = tt
of_each P (t ∷ ts) h =
    (h t.0 t.1 (first t ts), of_each P ts (λ k a has. h k a (later t (k, a) ts has)))

-- the frame of one that was answered is among the frames
pub frame_among : (answered : List Answered) (a : Answered) (f : Frame) → Contains answered a → a.frame ≡ f →
    Contains (answered_frames answered) f
frame_among [] a f (k, below, e) is = absurd (omega (arith, below))
frame_among (x ∷ xs) a f (zero, below, e) is = (0, omega arith, ap (λ (b : Answered). b.frame) e ∙ is)
frame_among (x ∷ xs) a f (suc k, below, e) is =
    later x.frame f (answered_frames xs) (frame_among xs a f (k, omega (arith, below), e) is)

-- what came over one connection, among all, is its own
pub in_own : (k : ℕ) (trace : List Tagged) (a : Answered) → Contains trace (k, a) → Contains (own k trace) a
in_own k [] a (i, below, e) = absurd (omega (arith, below))
in_own k (t ∷ ts) a has = go (in_own k ts a) (t.0 == k) refl has
  where
    Rest : Type 0
    Rest = Contains ts (k, a) → Contains (own k ts) a

    go : Rest → (v : Bool) → (t.0 == k) ≡ v → Contains (t ∷ ts) (k, a) → Contains (map (λ x. x.1) (cond v
        (t ∷ filter (λ x. x.0 == k) ts) (filter (λ x. x.0 == k) ts))) a
    go rest true same (zero, below, e) = (0, omega arith, ap (λ (x : Tagged). x.1) e)
    go rest true same (suc i, below, e) = later t.1 a (own k ts) (rest (i, omega (arith, below), e))
    go rest false off (zero, below, e) =
        absurd (false≢true (sym off ∙ eq-eqb t.0 k (ap (λ (x : Tagged). x.0) e)))
    go rest false off (suc i, below, e) = rest (i, omega (arith, below), e)

-- each message among frames that are all requests is one
pub each_request : (name : List ℕ) (requests : List Request) (frames : List Frame) →
    AllByRecursion (IsOneOf name requests) frames → (m : Message) → Contains frames (Says m) →
    IsOneOf name requests (Says m)
each_request name requests frames h m has = each-contains (IsOneOf name requests) frames (Says m) h has
