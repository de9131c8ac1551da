-- The worked delivery computes.
use Rattle.std.proofs.Common.{◌≡◌, ℕ, suc, zero, ◌<◌, List, [], ◌∷◌, ◌++◌, Some, None, refl, ◌∙◌, ap, arith}
use Rattle.std.specs.Prelude.{map}
use Rattle.std.specs.List.{Contains}
use Rattle.bw_model.proofs.Computing.{computing}
use Rattle.bw_model.proofs.BookLaws.{empty_book}
use Rattle.bw_model.specs.Take.{Open, Block, Close, Stored}
use Rattle.bw_model.specs.Turn.{good}
use Rattle.bw_model.specs.Wire.{Message, Frame, Says, Asks, Bye}
use Rattle.bw_model.specs.Replies.{Reply, Judged}
use Rattle.bw_model.specs.ExampleWords.{a1, mono, two_frames, says, hex, close_2, judged_example}
use Rattle.bw_model.specs.ExamplesOfWorlds.{small_take}
use Rattle.bw_connections.specs.ConnectionTables.{own}
use Rattle.bw_delivery.specs.Deliveries.{LinkBytes, IsJoined, IsOwnLink, WasTold, WroteRequests}
use Rattle.bw_delivery.specs.ExamplesOfDeliveries.{all_said, cut_link, whole_link, other_block, worked_trace, worked_links}
use Rattle.bw_delivery.specs.ExamplesOfDeliveries.{WorkedDeliveryExample}
use Rattle.bw_delivery.proofs.Elements.{each-contains}
use Rattle.bw_delivery.proofs.OwnFrames.{each_request}

none_some : {X : Type 0} {x : X} → None ≡ Some x → ⊥
none_some e = cc

-- the whole take is said
pub take_said : WroteRequests a1 small_take all_said
unfolding computing
take_said = record {
  frames = says 0 (Open mono []) ∷ says 1 (Block two_frames) ∷ says 2 (Close 2) ∷ [];
  each = each_request a1 small_take (says 0 (Open mono []) ∷ says 1 (Block two_frames) ∷ says 2 (Close 2) ∷ [])
      ((refl, refl), ((refl, refl), ((refl, refl), tt)));
  spelled = refl;
  part = ([], refl);
}

cut : IsOwnLink a1 small_take (own 0 worked_trace) cut_link
unfolding computing
cut = record {
  unchanged = record {
    there = (hex "00020261310100000001000200" ++ close_2, refl);
    back = (judged_example 0 0, refl);
  };
  says = take_said;
  answers = record { spelled = refl; read = (hex "0c0000", refl); spelled_back = refl; end = None; part = ([], refl) };
}

whole : IsOwnLink a1 small_take (own 2 worked_trace) whole_link
unfolding computing
whole = record {
  unchanged = record { there = ([], refl); back = ([], refl) };
  says = take_said;
  answers = record { spelled = refl; read = ([], refl); spelled_back = refl; end = None; part = ([], refl) };
}

-- a frame that came over no link of the sender has no message of its name
abbrev IsLinked : ℕ → Frame → Type 0
IsLinked k f = (m : Message) → f ≡ Says m → m.name ≡ a1 → (l : LinkBytes) × Contains worked_links (k, l)

abbrev name_of : Frame → List ℕ
name_of (Says m) = m.name
name_of (Asks x n) = x
name_of Bye = []

other_linked : IsLinked 1 other_block
unfolding computing
other_linked m e same = absurd (let apart : 98 ≡ 97 = head (ap name_of e ∙ same) in omega (arith, apart))
  where
    head : {a b : ℕ} {xs ys : List ℕ} → a ∷ xs ≡ b ∷ ys → a ≡ b
    head e = cc

cut_linked : (f : Frame) → IsLinked 0 f
cut_linked f m e same = (cut_link, (0, omega arith, refl))

whole_linked : (f : Frame) → IsLinked 2 f
whole_linked f m e same = (whole_link, (1, omega arith, refl))

abbrev replies : List Reply
replies = Judged a1 0 Stored ∷ Judged a1 1 Stored ∷ Judged a1 2 Stored ∷ []

heard : (n : ℕ) → n < 3 → WasTold a1 n Stored whole_link.heard
unfolding computing
heard n below = record { replies = replies; spelled = refl; part = ([], refl); among = among n below }
  where
    among : (n : ℕ) → n < 3 → Contains replies (Judged a1 n Stored)
    among zero below = (0, omega arith, refl)
    among (suc zero) below = (1, omega arith, refl)
    among (suc (suc zero)) below = (2, omega arith, refl)
    among (suc (suc (suc n))) below = absurd (omega arith)

-- the links are the sender's, and no other
pub joined : IsJoined a1 small_take worked_links worked_trace
joined = record {
  own_links = λ n l has. each-contains (λ x. IsOwnLink a1 small_take (own x.0 worked_trace) x.1) worked_links (n, l)
      (cut, (whole, tt)) has;
  alone = λ k a m has e same. each-contains (λ t. IsLinked t.0 t.1.frame) worked_trace (k, a) (
    cut_linked (says 0 (Open mono [])),
    (
      other_linked,
      (
        whole_linked (says 0 (Open mono [])),
        (whole_linked (says 1 (Block two_frames)), (whole_linked (says 2 (Close 2)), tt)),
      ),
    ),
  ) has m e same;
}

pub worked : WorkedDeliveryExample
unfolding computing
worked = (
  record {
    is_book = empty_book;
    had = λ n r e. absurd (none_some e);
    trace = worked_trace;
    went = record {
      received = map (λ t. (t.1.frame, good)) worked_trace;
      answers = refl;
      left = refl;
    };
    joined = joined;
  },
  λ n below. (2, whole_link, (1, omega arith, refl), heard n below),
  refl,
)
