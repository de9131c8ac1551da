-- What a feed gives, request by request.
use Rattle.std.proofs.Common.{◌≡◌, ◌+◌, ◌∙◌, ℕ, suc, Bool, false, List, [], ◌∷◌, ◌++◌, length, ap, sym}
use Rattle.std.proofs.Common.{refl, arith, append_assoc, subst, length-append, append-nil}
use Rattle.std.specs.Prelude.{◌||◌}
use Rattle.std.specs.List.{list_any}
use Rattle.bw_model.specs.Take.{Request, Open, Block, Mark, SetField, Close}
use Rattle.bw_model.specs.Wire.{body, framed}
use Rattle.bw_model.specs.World.{is_close}
use Rattle.bw_wire.specs.EncodedFrames.{said}
use Rattle.std.proofs.lemmas.List.Folds.{list_any-append}
use Rattle.std.proofs.Common.{Ok}
use Rattle.bw_upload.specs.Feeds.{FeedsOf}
use Rattle.bw_upload.specs.declared.feed.Given.{Given}
use Rattle.bw_upload.specs.declared.feed.Given.TheVariants as gives
use Rattle.bw_send_file.specs.SkippedRequests.{SkipsFirst}
use Rattle.bw_send_file.specs.TakeOpenings.{IsNoBlock, first_block_len, frames_before_block}

pub none_skipped : (requests : List Request) (left : List Request → Type 0) → left requests → SkipsFirst 0 requests left
none_skipped requests left here = record {
  given = [];
  rest = requests;
  all = refl;
  many = refl;
  unclosed = refl;
  to_come = here;
}

pub one_skipped : (n : ℕ) (requests : List Request) (left left' : List Request → Type 0) (r : Request) → is_close r ≡ false →
    ((rs : List Request) → left rs → (rest : List Request) × (rs ≡ r ∷ rest) × left' rest) →
    SkipsFirst n requests left → SkipsFirst (n + 1) requests left'
one_skipped n requests left left' r other gives old =
    let next = gives old.rest old.to_come in
    record {
      given = old.given ++ r ∷ [];
      rest = next.0;
      all = old.all ∙ ap (λ (rs : List Request). old.given ++ rs) next.1 ∙ sym (append_assoc old.given (r ∷ []) next.0);
      many = length-append old.given (r ∷ []) ∙ ap (λ (k : ℕ). k + 1) old.many;
      unclosed = list_any-append is_close old.given (r ∷ [])
          ∙ ap (λ (b : Bool). b || list_any is_close (r ∷ [])) old.unclosed ∙ ap (λ (b : Bool). b || false) other;
      to_come = next.2;
    }

-- what comes before the first block, after these frames
pub record OpensAfter (name : List ℕ) (frames : List ℕ) (n : ℕ) (requests : List Request) (left : List Request → Type 0)
    : Type 0 where
  pub rest : List Request
  pub to_come : left rest
  pub framed_are : frames_before_block name 0 requests ≡ frames ++ frames_before_block name n rest
  pub block : first_block_len requests ≡ first_block_len rest

pub opens : (name : List ℕ) (requests : List Request) (left : List Request → Type 0) → left requests →
    OpensAfter name [] 0 requests left
opens name requests left here = record { rest = requests; to_come = here; framed_are = refl; block = refl }

frames_of : (name : List ℕ) (n : ℕ) (r : Request) (rs : List Request) → IsNoBlock r →
    frames_before_block name n (r ∷ rs) ≡ framed (body (said name n r)) ++ frames_before_block name (suc n) rs
frames_of name n (Open f h) rs other = refl
frames_of name n (Block bytes) rs other = absurd other
frames_of name n (Mark id frame) rs other = refl
frames_of name n (SetField tag value) rs other = refl
frames_of name n (Close total) rs other = refl

block_of : (r : Request) (rs : List Request) → IsNoBlock r → first_block_len (r ∷ rs) ≡ first_block_len rs
block_of (Open f h) rs other = refl
block_of (Block bytes) rs other = absurd other
block_of (Mark id frame) rs other = refl
block_of (SetField tag value) rs other = refl
block_of (Close total) rs other = refl

pub opens_after_one : (name frames frames' : List ℕ) (n : ℕ) (requests : List Request) (left left' : List Request → Type 0)
    (r : Request) → IsNoBlock r →
    ((rs : List Request) → left rs → (rest : List Request) × (rs ≡ r ∷ rest) × left' rest) →
    frames' ≡ frames ++ framed (body (said name n r)) →
    OpensAfter name frames n requests left → OpensAfter name frames' (n + 1) requests left'
opens_after_one name frames frames' n requests left left' r other gives put old =
    let next = gives old.rest old.to_come in
    let same : suc n ≡ n + 1 = omega arith in
    record {
      rest = next.0;
      to_come = next.2;
      framed_are = old.framed_are
          ∙ ap (λ (rs : List Request). frames ++ frames_before_block name n rs) next.1
          ∙ ap (λ (xs : List ℕ). frames ++ xs) (frames_of name n r next.0 other)
          ∙ sym (append_assoc frames (framed (body (said name n r))) (frames_before_block name (suc n) next.0))
          ∙ ap (λ (xs : List ℕ). xs ++ frames_before_block name (suc n) next.0) (sym put)
          ∙ ap (λ (m : ℕ). frames' ++ frames_before_block name m next.0) same;
      block = old.block ∙ ap first_block_len next.1 ∙ block_of r next.0 other;
    }

-- the block comes now
pub opening_at_block : (name frames : List ℕ) (n : ℕ) (requests : List Request) (left : List Request → Type 0)
    (bytes : List ℕ) → OpensAfter name frames n requests left →
    ((rs : List Request) → left rs → (rest : List Request) × (rs ≡ Block bytes ∷ rest)) →
    (frames_before_block name 0 requests ≡ frames) × (first_block_len requests ≡ length bytes)
opening_at_block name frames n requests left bytes old gives =
    let next = gives old.rest old.to_come in (
      old.framed_are ∙ ap (λ (rs : List Request). frames ++ frames_before_block name n rs) next.1 ∙ append-nil frames,
      old.block ∙ ap first_block_len next.1,
    )

-- there is none
pub opening_at_end : (name frames : List ℕ) (n : ℕ) (requests : List Request) (left : List Request → Type 0) →
    OpensAfter name frames n requests left → ((rs : List Request) → left rs → rs ≡ []) →
    (frames_before_block name 0 requests ≡ frames) × (first_block_len requests ≡ 0)
opening_at_end name frames n requests left old gives =
    let none = gives old.rest old.to_come in (
      old.framed_are ∙ ap (λ (rs : List Request). frames ++ frames_before_block name n rs) none ∙ append-nil frames,
      old.block ∙ ap first_block_len none,
    )

-- the request that was given comes first
pub given_is : (X : Type 0) (left left' : List Request → Type 0) (given : Given) (r : Request) → given ≡ gives.Request r →
    ((rs : List Request) → left rs → FeedsOf {X = X} rs (Ok given) left') →
    (rs : List Request) → left rs → (rest : List Request) × (rs ≡ r ∷ rest) × left' rest
given_is X left left' given r e h =
    subst (λ (x : Given). (rs : List Request) → left rs → FeedsOf {X = X} rs (Ok x) left') e h

pub none_is_given : (X : Type 0) (left left' : List Request → Type 0) (given : Given) → given ≡ gives.End →
    ((rs : List Request) → left rs → FeedsOf {X = X} rs (Ok given) left') → (rs : List Request) → left rs → rs ≡ []
none_is_given X left left' given e h = λ rs here.
    (subst (λ (x : Given). (rs : List Request) → left rs → FeedsOf {X = X} rs (Ok x) left') e h rs here).0
