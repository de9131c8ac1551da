-- Bytes are read one by one.
use Rattle.std.proofs.Common.{◌≡◌, ◌≤◌, ◌∙◌, ℕ, List, [], ◌∷◌, ◌++◌, Option, Some, length, take, drop}
use Rattle.std.proofs.Common.{get_or, ap, sym, refl, arith, append_assoc}
use Rattle.std.proofs.Common.{IfSome, None, Ok}
use Rattle.bw_model.specs.Bytes.{u32_at}
use Rattle.bw_model.specs.Replies.{Reply, decoded_reply}
use Rattle.bw_send_file.specs.Asks.{GivesReply}
use Rattle.bw_exchange.specs.WholeExchanges.{HasGiven}
use Rattle.bw_stream.specs.Moves.{Reads}

first_read : (buf xs : List ℕ) → 1 ≤ length buf → 1 ≤ length xs → take 1 buf ≡ take 1 xs →
    get_or buf 0 0 ∷ drop 1 xs ≡ xs
first_read [] xs h k e = absurd (omega arith)
first_read (b ∷ bs) [] h k e = absurd (omega arith)
first_read (b ∷ bs) (x ∷ xs) h k e = let same : b ≡ x = cc in ap (λ (y : ℕ). y ∷ xs) same

-- a byte that was read is the next one
pub one_given : (left left' : Option (List ℕ)) (n most : ℕ) (buf : List ℕ) → n ≡ 1 → 1 ≤ length buf →
    Reads left most n buf left' → HasGiven left (get_or buf 0 0 ∷ []) left'
one_given left left' n most buf e long reads = λ xs is.
    let r = reads xs is in (
      drop 1 xs,
      rw e at r.rest,
      first_read buf xs long (omega (arith, r.within, e)) (rw e at r.given),
    )

pub none_given : (left : Option (List ℕ)) → HasGiven left [] left
none_given left = λ xs is. (xs, is, refl)

pub more_given : (a b c : Option (List ℕ)) (xs ys : List ℕ) → HasGiven a xs b → HasGiven b ys c → HasGiven a (xs ++ ys) c
more_given a b c xs ys h k = λ all is.
    let first = h all is in
    let next = k first.0 first.1 in
    (next.0, next.1, append_assoc xs ys next.0 ∙ ap (λ (zs : List ℕ). xs ++ zs) next.2 ∙ first.2)

pub if_some : {X : Type 0} (r : Option X) (P Q : X → Type 0) → IfSome r P → ((x : X) → P x → Q x) → IfSome r Q
if_some None P Q h f = h
if_some (Some x) P Q h f = f x h

-- a reply is read after its length
pub reply_given : (left mid left' : Option (List ℕ)) (head body : List ℕ) (reply : Reply) → HasGiven left head mid →
    HasGiven mid body left' → length head ≡ 4 → u32_at head 0 ≡ length body → decoded_reply body ≡ Ok reply →
    GivesReply reply left
reply_given left mid left' head body reply h k four long spelled = λ xs is.
    let first = h xs is in
    let next = k first.0 first.1 in (
      head,
      body,
      next.0,
      sym first.2 ∙ ap (λ (zs : List ℕ). head ++ zs) (sym next.2) ∙ sym (append_assoc head body next.0),
      long,
      four,
      spelled,
    )
