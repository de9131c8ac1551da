-- The prefix of a stream's bytes, where replies are read.
use Rattle.std.proofs.Common.{◌≡◌, ◌≢◌, ℕ, ◌+◌, ◌-◌, Bool, true, false, cond, List, [], ◌∷◌, take, drop, Option, Some}
use Rattle.std.proofs.Common.{None, Result, Err, sym, ap, ◌∙◌, arith}
use Rattle.std.specs.Prelude.{◌==◌}
use Rattle.std.specs.Option.{ok_or}
use Rattle.bw_model.specs.Bytes.{u32_at, first_that_holds}
use Rattle.bw_model.specs.Wire.{Second, last_number, Reason, Kind, Name, Number, Payload, Cut, is_name_bad}
use Rattle.bw_model.specs.Wire.{is_number_bad, name_in, number_in, payload_in}
use Rattle.bw_model.specs.Replies.{Reply, decoded_reply, judged_by, noticed_by, refused_by}
use Rattle.bw_model.specs.Stream.{longest_reply, framing_faults, before, first_reply}
use Rattle.bw_model.proofs.FrameLaws.{first_by, first_reply-by}
use Rattle.bw_wire.specs.Framings.{HasPrefix}

-- a fault of the framing is the fault of the bytes
pub first_reply-framing : (bytes : List ℕ) (reason : Reason) →
    first_that_holds (framing_faults longest_reply bytes) ≡ Some reason → first_reply bytes ≡ Err reason
first_reply-framing bytes reason e =
    first_reply-by bytes
    ∙ ap (first_by (drop (4 + u32_at bytes 0) bytes) (decoded_reply (take (u32_at bytes 0) (drop 4 bytes)))) e

-- after sound framing the body decides
pub first_reply-prefix : (bytes : List ℕ) (len : ℕ) (read : Result Reply Reason) → HasPrefix longest_reply bytes len →
    read ≡ decoded_reply (take (4 + len - 4) (drop 4 bytes))
    → first_reply bytes ≡ before (drop (4 + len) bytes) read
first_reply-prefix bytes len read h e =
    first_reply-by bytes
    ∙ ap (first_by (drop (4 + u32_at bytes 0) bytes) (decoded_reply (take (u32_at bytes 0) (drop 4 bytes)))) h.framed
    ∙ ap (λ (n : ℕ). before (drop (4 + n) bytes) (decoded_reply (take n (drop 4 bytes)))) (sym h.len_is)
    ∙ ap (λ (n : ℕ). before (drop (4 + len) bytes) (decoded_reply (take n (drop 4 bytes)))) (omega arith)
    ∙ ap (before (drop (4 + len) bytes)) (sym e)

addressed_not_cut : (a b : Bool) (o : Option Reply) →
    cond a (Err Name) (cond b (Err Number) (ok_or o Payload)) ≡ Err Cut → ⊥
addressed_not_cut true b o e = cc
addressed_not_cut false true o e = cc
addressed_not_cut false false None e = cc
addressed_not_cut false false (Some r) e = cc

refused_not_cut : (o : Option Reply) → ok_or o Payload ≡ Err Cut → ⊥
refused_not_cut None e = cc
refused_not_cut (Some r) e = cc

by_kind_not_cut : (a b c : Bool) (x y z : Result Reply Reason) → (x ≡ Err Cut → ⊥) → (y ≡ Err Cut → ⊥) →
    (z ≡ Err Cut → ⊥) → cond a x (cond b y (cond c z (Err Kind))) ≡ Err Cut → ⊥
by_kind_not_cut true b c x y z hx hy hz e = hx e
by_kind_not_cut false true c x y z hx hy hz e = hy e
by_kind_not_cut false false true x y z hx hy hz e = hz e
by_kind_not_cut false false false x y z hx hy hz e = cc

-- a reply's body is never cut
reply-not_cut : (b : List ℕ) → decoded_reply b ≡ Err Cut → ⊥
unfolding decoded_reply
reply-not_cut [] e = cc
reply-not_cut (k ∷ rest) e =
    by_kind_not_cut (k == 0x81) (k == 0x82) (k == 0x83) _ _ _
    (addressed_not_cut (is_name_bad rest) (is_number_bad (last_number Second) rest)
    (judged_by (name_in rest) (number_in rest) (payload_in rest)))
    (addressed_not_cut (is_name_bad rest) (is_number_bad (last_number Second) rest)
    (noticed_by (name_in rest) (number_in rest) (payload_in rest)))
    (refused_not_cut (refused_by rest)) e

pub bad_reply_prefix : (bytes : List ℕ) (len : ℕ) (reason : Reason) → HasPrefix longest_reply bytes len →
    Err reason ≡ decoded_reply (take (4 + len - 4) (drop 4 bytes))
    → (first_reply bytes ≡ Err reason) × (reason ≢ Cut)
bad_reply_prefix bytes len reason h e = (
  first_reply-prefix bytes len (Err reason) h e,
  λ cut. reply-not_cut (take (4 + len - 4) (drop 4 bytes)) (sym e ∙ ap Err cut),
)
