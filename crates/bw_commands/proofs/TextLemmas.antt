-- The text of a run, a reply and an exchange at a time.
use Rattle.std.proofs.Common.{◌≡◌, ℕ, ◌+◌, ◌<◌, ◌≤◌, ◌^◌, ◌&&◌, Bool, true, false, List, [], ◌∷◌, ◌++◌, length, refl}
use Rattle.std.proofs.Common.{sym, ◌∙◌, ap, arith, append_assoc, append-nil, length-append}
use Rattle.std.specs.Prelude.{flat_map, codes, decimal, nat_le, Option, Some, Vec}
use Rattle.std.specs.declared.alloc.Global.{Global}
use Rattle.std.proofs.Common.{◌⊎◌, inl, inr}
use Rattle.bw_model.proofs.Elements.{some_inj}
use Rattle.bw_model.specs.Stream.{End}
use Rattle.bw_session.specs.IngestRuns.{ingested_end}
use Rattle.std.specs.List.{list_all}
use Rattle.std.proofs.lemmas.Bool.{leb-true}
use Rattle.hex.specs.Hex.{encode_lower}
use Rattle.bw_model.specs.Bytes.{is_within}
use Rattle.bw_model.specs.Wire.{framed, is_name, is_name_byte}
use Rattle.bw_model.specs.Replies.{Reply, Judged, Noticed, Refused, is_reply, reply_body}
use Rattle.bw_model.specs.Exchange.{replies_bytes}
use Rattle.bw_commands.specs.Runs.{ReportedExchange, AllReport}
use Rattle.bw_exchange.specs.EndNames.{end_name, name_of_end}
use Rattle.bw_commands.specs.Text.{reply_line, exchange_line, exchanges_text}
use Rattle.bw_console.specs.Text.{as_line}
use Rattle.bw_commands.specs.Text.{file_text_if, files_text}
use Rattle.std.specs.Prelude.{slice_get, get_or, drop}
use Rattle.std.proofs.lemmas.Option.{slice_get-get_or}
use Rattle.std.proofs.lemmas.List.{drop_more}
use Rattle.std.proofs.Math.ListN.{drop_of_length-le}
use Rattle.bw_exchange.specs.declared.serving.ExchangeEnd.{ExchangeEnd}
use Rattle.bw_exchange.specs.declared.serving.ExchangeEnd.TheVariants as ends

and_left : (a b : Bool) → a && b ≡ true → a ≡ true
and_left true b e = refl
and_left false b e = e

and_right : (a b : Bool) → a && b ≡ true → b ≡ true
and_right true b e = e
and_right false b e = absurd (cc)

-- a name has at most 32 bytes
name_short : (name : List ℕ) → is_name name ≡ true → length name ≤ 32
name_short name e =
    let sized : is_within 1 32 (length name) ≡ true =
    and_left (is_within 1 32 (length name)) (list_all is_name_byte name) e in
    leb-true (length name) 32 (and_right (nat_le 1 (length name)) (nat_le (length name) 32) sized)

-- a reply's body has a length of four bytes
reply_short : (r : Reply) → is_reply r ≡ true → length (reply_body r) < 2 ^ 32
reply_short (Judged name number v) e =
    let h = name_short name (and_left (is_name name) _ e) in
    simp length-append (omega (arith, h))
reply_short (Noticed name number n next) e =
    let h = name_short name (and_left (is_name name) _ (and_left (is_name name && _) _ e)) in
    simp length-append (omega (arith, h))
reply_short (Refused reason offset) e = omega arith

-- the first of the replies that are left is put
pub reply_step : (left : List Reply) (rest frame others out out' whole : List ℕ) → 0 < length rest →
    list_all is_reply left ≡ true → rest ≡ replies_bytes left → out ++ flat_map reply_line left ≡ whole →
    ((body more : List ℕ) → length body < 2 ^ 32 → rest ≡ framed body ++ more →
    (frame ≡ framed body) × (others ≡ more)) → out' ≡ out ++ as_line (codes "reply " ++ encode_lower frame) →
    (left' : List Reply) × (list_all is_reply left' ≡ true) × (others ≡ replies_bytes left')
    × (out' ++ flat_map reply_line left' ≡ whole)
reply_step [] rest frame others out out' whole h short e w f o = let n = ap length e in absurd (omega arith)
reply_step (r ∷ rs) rest frame others out out' whole h short e w f o =
    let q = f (reply_body r) (replies_bytes rs) (reply_short r (and_left (is_reply r) (list_all is_reply rs) short)) e
    in (
      rs,
      and_right (is_reply r) (list_all is_reply rs) short,
      q.1,
      ap (λ (z : List ℕ). z ++ flat_map reply_line rs)
          (o ∙ ap (λ (z : List ℕ). out ++ as_line (codes "reply " ++ encode_lower z)) q.0)
          ∙ (append_assoc out (reply_line r) (flat_map reply_line rs) ∙ w),
    )

pub no_reply_left : (left : List Reply) → length (replies_bytes left) ≡ 0 → flat_map reply_line left ≡ []
no_reply_left [] h = refl
no_reply_left (r ∷ rs) h = absurd (omega arith)

one_more : (i : ℕ) (t : ReportedExchange) (ts : List ReportedExchange) →
    exchanges_text i (t ∷ ts) ≡ exchange_line i t.end ++ (flat_map reply_line t.replies ++ exchanges_text (i + 1) ts)
unfolding exchanges_text
one_more i t ts = append_assoc (exchange_line i t.end) (flat_map reply_line t.replies) (exchanges_text (i + 1) ts)

-- an end that an exchange's bytes show has this name
named : (e : ExchangeEnd) (end : End) → ingested_end e ≡ Some end → name_of_end e ≡ end_name end
named ends.Bye end is = ap end_name (some_inj is)
named ends.EndOfInput end is = ap end_name (some_inj is)
named (ends.BadFrame fault) end is = ap end_name (some_inj is)
named ends.ReadFault end is = absurd (cc)
named ends.WriteFault end is = absurd (cc)
named (ends.NotKept cause) end is = absurd (cc)
named ends.TurnLimit end is = absurd (cc)
named ends.Memory end is = absurd (cc)

-- the first of the exchanges that are left is put
pub exchange_step : (left : List ReportedExchange) (r : Vec ℕ Global) (more : List (Vec ℕ Global)) (e : ExchangeEnd)
    (others : List ExchangeEnd) (i : ℕ) (out mid out' whole : List ℕ) →
    AllReport (r ∷ more) (e ∷ others) left → out ++ exchanges_text i left ≡ whole →
    mid ≡ out ++ as_line (codes "exchange " ++ decimal i ++ codes " " ++ name_of_end e) →
    ((rs : List Reply) → list_all is_reply rs ≡ true → r.items ≡ replies_bytes rs →
    out' ≡ mid ++ flat_map reply_line rs) →
    (left' : List ReportedExchange) × AllReport more others left' × (out' ++ exchanges_text (i + 1) left' ≡ whole)
exchange_step [] r more e others i out mid out' whole t w m put = absurd t
exchange_step (one ∷ rest) r more e others i out mid out' whole t w m put =
    let l : List ℕ = exchange_line i one.end in
    let q : List ℕ = flat_map reply_line one.replies in
    let left : List ℕ = exchanges_text (i + 1) rest in
    let made : out' ≡ (out ++ l) ++ q =
    put one.replies t.0.spelled t.0.replies
    ∙ ap (λ (z : List ℕ). z ++ q) (m ∙ ap (λ (z : List ℕ). out ++ as_line (codes "exchange " ++ decimal i ++ codes " " ++ z))
    (named e one.end t.0.ended)) in (
      rest,
      t.1,
      ap (λ (z : List ℕ). z ++ left) made
          ∙ (append_assoc (out ++ l) q left
          ∙ (append_assoc out l (q ++ left) ∙ (ap (λ (z : List ℕ). out ++ z) (sym (one_more i one rest)) ∙ w))),
    )

-- none is left where no replies or no ends are left
pub no_exchange_left : (left : List ReportedExchange) (rs : List (Vec ℕ Global)) (es : List ExchangeEnd) (i : ℕ)
    (out whole : List ℕ) → AllReport rs es left → (rs ≡ []) ⊎ (es ≡ []) → out ++ exchanges_text i left ≡ whole →
    out ≡ whole
unfolding exchanges_text
no_exchange_left [] rs es i out whole t none w = sym (append-nil out) ∙ w
no_exchange_left (one ∷ rest) [] [] i out whole t none w = absurd t
no_exchange_left (one ∷ rest) [] (e ∷ es) i out whole t none w = absurd t
no_exchange_left (one ∷ rest) (r ∷ rs) [] i out whole t none w = absurd t
no_exchange_left (one ∷ rest) (r ∷ rs) (e ∷ es) i out whole t (inl none) w = absurd (cc)
no_exchange_left (one ∷ rest) (r ∷ rs) (e ∷ es) i out whole t (inr none) w = absurd (cc)

one_file : (contents : List ℕ → Option (List ℕ)) (name : List ℕ) (names : List (List ℕ)) →
    files_text contents (name ∷ names) ≡ file_text_if name (contents name) ++ files_text contents names
unfolding files_text
one_file contents name names = refl

-- the first of the files that are left is put
pub file_step : (contents : List ℕ → Option (List ℕ)) (names : List (List ℕ)) (place : ℕ) (out out' whole : List ℕ) →
    place < length names → out ++ files_text contents (drop place names) ≡ whole →
    ((name : List ℕ) → slice_get names place ≡ Some name → out' ≡ out ++ file_text_if name (contents name)) →
    out' ++ files_text contents (drop (place + 1) names) ≡ whole
file_step contents names place out out' whole within w put =
    let name : List ℕ = get_or names place [] in
    let more : List ℕ = files_text contents (drop (place + 1) names) in
    ap (λ (z : List ℕ). z ++ more) (put name (slice_get-get_or names place [] within))
    ∙ (append_assoc out (file_text_if name (contents name)) more
    ∙ (ap (λ (z : List ℕ). out ++ z) (sym (ap (files_text contents) (drop_more names place [] within)
    ∙ one_file contents name (drop (place + 1) names))) ∙ w))

-- after the last name there is no file
pub no_file_left : (contents : List ℕ → Option (List ℕ)) (names : List (List ℕ)) (place : ℕ) (out whole : List ℕ) →
    length names ≤ place → out ++ files_text contents (drop place names) ≡ whole → out ≡ whole
unfolding files_text
no_file_left contents names place out whole past w =
    sym (append-nil out) ∙ (ap (λ (z : List (List ℕ)). out ++ files_text contents z) (sym (drop_of_length-le names past))
    ∙ w)
