-- The first frame of bytes, and how long a frame is.
use Rattle.std.proofs.Common.{◌≡◌, ℕ, ◌+◌, ◌^◌, ◌<◌, ◌≤◌, Bool, true, false, ◌&&◌, ◌||◌, List, [], ◌∷◌, ◌++◌, length}
use Rattle.std.proofs.Common.{take, drop, Option, Some, None, Result, Ok, Err, refl, sym, ap, ◌∙◌, arith}
use Rattle.std.specs.Prelude.{nat_lt, nat_le, ◌==◌}
use Rattle.std.specs.Int.{w32}
use Rattle.std.proofs.lemmas.Bool.{and_parts, or_parts, or_from, eqb-false, ne_eqb, ltb-false, le-ltb, leb-true}
use Rattle.std.proofs.lemmas.List.{take_at, drop_at, take-append-drop, length-take-le, length-append, length-drop}
use Rattle.std.proofs.lemmas.List.{drop-drop}
use Rattle.bw_model.specs.Bytes.{le32, u32_at, first_that_holds, is_within}
use Rattle.bw_model.specs.Take.{Request, Open, Block, Mark, SetField, Close}
use Rattle.bw_model.specs.Wire.{addressed, Version, First, Second, last_number, Frame, Says, Asks, Bye, payload, body}
use Rattle.bw_model.specs.Wire.{framed, is_below, are_bytes, is_name, is_request, is_frame, Reason, Length, Cut}
use Rattle.bw_model.specs.Wire.{decoded}
use Rattle.bw_model.specs.Replies.{Reply, Judged, Noticed, Refused, verdict_code, notice_code, is_addressed, is_reply}
use Rattle.bw_model.specs.Replies.{reply_body, decoded_reply}
use Rattle.bw_model.specs.Stream.{longest_reply, first_reply, longest_body, framing_faults, before, first_frame}
use Rattle.bw_model.proofs.ByteNumbers.{are_bytes-parts, wide32, written-number_at, number_at-written}
use Rattle.bw_model.proofs.ReplyLaws.{reply_read_is_spelled}
use Rattle.bw_model.proofs.SpellingLaws.{read_is_spelled, spelled_is_read}

-- a payload is no longer than the longest block
pub payload_length : (r : Request) → is_request r ≡ true → length (payload r) ≤ 32768
payload_length (Open f history) h =
    let four = and_parts (is_below (2 ^ 32) f.rate && is_below (2 ^ 16) f.channels && is_below (2 ^ 16) f.bits
    && nat_le (length history) 4096) (are_bytes history) h in
    let short = leb-true _ _
    (and_parts (is_below (2 ^ 32) f.rate && is_below (2 ^ 16) f.channels && is_below (2 ^ 16) f.bits)
    (nat_le (length history) 4096) four.0).1 in
    omega arith
payload_length (Block bytes) h =
    let within = (and_parts (is_within 1 32768 (length bytes)) (are_bytes bytes) h).0 in
    leb-true _ _ (and_parts (nat_le 1 (length bytes)) (nat_le (length bytes) 32768) within).1
payload_length (Mark id frame) h = omega arith
payload_length (SetField tag value) h =
    let short = leb-true _ _
    (and_parts (is_below 256 tag) (nat_le (length value) 256)
    (and_parts (is_below 256 tag && nat_le (length value) 256) (are_bytes value) h).0).1 in
    omega arith
payload_length (Close total) h = omega arith

name_length : (name : List ℕ) → is_name name ≡ true → length name ≤ 32
name_length name h =
    let within = (and_parts (is_within 1 32 (length name)) _ h).0 in
    leb-true _ _ (and_parts (nat_le 1 (length name)) (nat_le (length name) 32) within).1

-- how long a frame's body is
pub body_length : (v : Version) (f : Frame) → is_frame v f ≡ true →
    (1 ≤ length (body f)) × (length (body f) ≤ longest_body)
body_length v (Says m) h =
    let address = and_parts (is_name m.name && nat_le m.number (last_number v)) (is_request m.request) h in
    let n = name_length m.name (and_parts (is_name m.name) (nat_le m.number (last_number v)) address.0).0 in
    let p = payload_length m.request address.1 in (
      omega arith,
      omega (
        arith,
        length-append m.name (le32 m.number),
        length-append (m.name ++ le32 m.number) (payload m.request),
      ),
    )
body_length First (Asks name number) h = absurd cc
body_length Second (Asks name number) h =
    let n = name_length name (and_parts (is_name name) (nat_le number (last_number Second)) h).0 in
    (omega arith, omega (arith, length-append name (le32 number)))
body_length v Bye h = (omega arith, omega arith)

addressed_length : (k : ℕ) (name : List ℕ) (number : ℕ) (more : List ℕ) → length name ≤ 32 →
    length (addressed k name number ++ more) ≤ 38 + length more
addressed_length k name number more short =
    omega (arith, length-append name (le32 number), length-append (name ++ le32 number) more)

-- how long a reply's body is
pub reply_length : (r : Reply) → is_reply r ≡ true →
    (1 ≤ length (reply_body r)) × (length (reply_body r) ≤ longest_reply)
reply_length (Judged name number verdict) h =
    let short = name_length name (and_parts (is_name name) (nat_le number (last_number Second)) h).0 in
    (omega arith, omega (arith, addressed_length 0x81 name number (verdict_code verdict ∷ []) short))
reply_length (Noticed name number notice next) h =
    let short = name_length name
    (and_parts (is_name name) (nat_le number (last_number Second))
    (and_parts (is_addressed name number) (nat_le next (last_number Second + 1)) h).0).0 in
    (omega arith, omega (arith, addressed_length 0x82 name number (notice_code notice ∷ le32 next) short))
reply_length (Refused reason offset) h = (omega arith, omega arith)

-- bytes that begin without a fault of the framing
pub record HasBody (longest : ℕ) (bytes : List ℕ) : Type 0 where
  pub head : 4 ≤ length bytes
  pub some : 1 ≤ u32_at bytes 0
  pub short : u32_at bytes 0 ≤ longest
  pub whole : 4 + u32_at bytes 0 ≤ length bytes

three_pass : (a b c : Bool) → first_that_holds ((a, Cut) ∷ (b, Length) ∷ (c, Cut) ∷ []) ≡ None →
    (a ≡ false) × (b ≡ false) × (c ≡ false)
three_pass true b c e = absurd cc
three_pass false true c e = absurd cc
three_pass false false true e = absurd cc
three_pass false false false e = (refl, refl, refl)

pub has_body : (longest : ℕ) (bytes : List ℕ) → first_that_holds (framing_faults longest bytes) ≡ None →
    HasBody longest bytes
has_body longest bytes e =
    let tests = three_pass (nat_lt (length bytes) 4) ((u32_at bytes 0 == 0) || nat_lt longest (u32_at bytes 0))
    (nat_lt (length bytes) (4 + u32_at bytes 0)) e in
    let lens = or_parts (u32_at bytes 0 == 0) (nat_lt longest (u32_at bytes 0)) tests.1 in
    let some : u32_at bytes 0 ≡ 0 → ⊥ = eqb-false _ _ lens.0 in
    record {
      head = ltb-false _ _ tests.0;
      some = omega arith;
      short = ltb-false _ _ lens.1;
      whole = ltb-false _ _ tests.2;
    }

pub framing_passes : (longest : ℕ) (bytes : List ℕ) → HasBody longest bytes →
    first_that_holds (framing_faults longest bytes) ≡ None
framing_passes longest bytes h =
    let length_good = or_from (u32_at bytes 0 == 0) (nat_lt longest (u32_at bytes 0))
    (ne_eqb (u32_at bytes 0) 0 (omega (arith, h.some))) (le-ltb _ _ h.short) in
    none_of (le-ltb _ _ h.head) length_good (le-ltb _ _ h.whole)
  where
    none_of : {a b c : Bool} → a ≡ false → b ≡ false → c ≡ false →
        first_that_holds ((a, Cut) ∷ (b, Length) ∷ (c, Cut) ∷ []) ≡ None
    none_of ea eb ec = rw (ea, eb, ec) refl

-- a fault of the framing, or what the body says
abbrev pub first_by : {X : Type 0} → List ℕ → Result X Reason → Option Reason → Result (X × List ℕ) Reason
first_by more read (Some reason) = Err reason
first_by more read None = before more read

pub first_frame-by : (v : Version) (bytes : List ℕ)
    → first_frame v bytes ≡ first_by (drop (4 + u32_at bytes 0) bytes)
    (decoded v (take (u32_at bytes 0) (drop 4 bytes))) (first_that_holds (framing_faults longest_body bytes))
unfolding first_frame
first_frame-by v bytes = refl

pub first_reply-by : (bytes : List ℕ)
    → first_reply bytes ≡ first_by (drop (4 + u32_at bytes 0) bytes)
    (decoded_reply (take (u32_at bytes 0) (drop 4 bytes))) (first_that_holds (framing_faults longest_reply bytes))
unfolding first_reply
first_reply-by bytes = refl

-- the first frame of bytes that begin with a body
pub first_frame-body : (v : Version) (bytes : List ℕ) → HasBody longest_body bytes
    → first_frame v bytes ≡ before (drop (4 + u32_at bytes 0) bytes) (decoded v (take (u32_at bytes 0) (drop 4 bytes)))
first_frame-body v bytes h =
    first_frame-by v bytes
    ∙ ap (first_by (drop (4 + u32_at bytes 0) bytes) (decoded v (take (u32_at bytes 0) (drop 4 bytes))))
    (framing_passes longest_body bytes h)

pub first_reply-body : (bytes : List ℕ) → HasBody longest_reply bytes
    → first_reply bytes ≡ before (drop (4 + u32_at bytes 0) bytes)
    (decoded_reply (take (u32_at bytes 0) (drop 4 bytes)))
first_reply-body bytes h =
    first_reply-by bytes
    ∙ ap (first_by (drop (4 + u32_at bytes 0) bytes) (decoded_reply (take (u32_at bytes 0) (drop 4 bytes))))
    (framing_passes longest_reply bytes h)

-- the parts of bytes from whose start a value was read
pub record ReadsFirst {X : Type 0} (longest : ℕ) (bytes : List ℕ) (read : List ℕ → Result X Reason) (x : X)
    (more : List ℕ) : Type 0 where
  pub has : HasBody longest bytes
  pub reads : read (take (u32_at bytes 0) (drop 4 bytes)) ≡ Ok x
  pub rest : drop (4 + u32_at bytes 0) bytes ≡ more

read_by : {X : Type 0} (more : List ℕ) (read : Result X Reason) (fault : Option Reason) (x : X) (rest : List ℕ) →
    first_by more read fault ≡ Ok (x, rest) → (fault ≡ None) × (read ≡ Ok x) × (more ≡ rest)
read_by more read (Some reason) x rest e = absurd cc
read_by more (Err reason) None x rest e = absurd cc
read_by {X} more (Ok y) None x rest e =
    let same : (y, more) ≡ (x, rest) = cc in
    (refl, ap (λ (z : X × List ℕ). Ok z.0) same, ap (λ (z : X × List ℕ). z.1) same)

first_from : {X : Type 0} (longest : ℕ) (bytes : List ℕ) (read : List ℕ → Result X Reason) (x : X) (more : List ℕ)
    → first_by (drop (4 + u32_at bytes 0) bytes) (read (take (u32_at bytes 0) (drop 4 bytes)))
    (first_that_holds (framing_faults longest bytes)) ≡ Ok (x, more)
    → ReadsFirst longest bytes read x more
first_from longest bytes read x more e =
    let parts = read_by (drop (4 + u32_at bytes 0) bytes) (read (take (u32_at bytes 0) (drop 4 bytes)))
    (first_that_holds (framing_faults longest bytes)) x more e in
    record { has = has_body longest bytes parts.0; reads = parts.1; rest = parts.2 }

pub reads_frame : (v : Version) (bytes : List ℕ) (f : Frame) (more : List ℕ) → first_frame v bytes ≡ Ok (f, more) →
    ReadsFirst longest_body bytes (decoded v) f more
reads_frame v bytes f more e = first_from longest_body bytes (decoded v) f more (sym (first_frame-by v bytes) ∙ e)

pub reads_reply : (bytes : List ℕ) (r : Reply) (more : List ℕ) → first_reply bytes ≡ Ok (r, more) →
    ReadsFirst longest_reply bytes decoded_reply r more
reads_reply bytes r more e = first_from longest_reply bytes decoded_reply r more (sym (first_reply-by bytes) ∙ e)

-- bytes from whose start a value was read begin with its body after its length
stands : {X : Type 0} (longest : ℕ) (bytes : List ℕ) (read : List ℕ → Result X Reason) (x : X)
    (more spelling : List ℕ) → are_bytes bytes ≡ true → ReadsFirst longest bytes read x more
    → take (u32_at bytes 0) (drop 4 bytes) ≡ spelling → bytes ≡ framed spelling ++ more
stands longest bytes read x more spelling fits r spelled =
    let n = u32_at bytes 0 in
    let len : length (take n (drop 4 bytes)) ≡ n =
    length-take-le n (drop 4 bytes) (omega (arith, length-drop 4 bytes, r.has.whole)) in
    let head = (written-number_at w32 (2 ^ 32) wide32 bytes 0 fits r.has.head).0 in
    let tail : take n (drop 4 bytes) ++ more ≡ drop 4 bytes =
    ap (λ (x : List ℕ). take n (drop 4 bytes) ++ x) (sym r.rest ∙ sym (drop-drop n 4 bytes))
    ∙ take-append-drop n (drop 4 bytes) in
    sym head
    ∙ ap (λ (x : List ℕ). le32 n ++ x) (sym tail)
    ∙ ap (λ (k : ℕ). le32 k ++ (take n (drop 4 bytes) ++ more)) (sym len)
    ∙ ap (λ (x : List ℕ). le32 (length x) ++ (x ++ more)) spelled

body_fits : (bytes : List ℕ) → are_bytes bytes ≡ true → are_bytes (take (u32_at bytes 0) (drop 4 bytes)) ≡ true
body_fits bytes fits = (are_bytes-parts (u32_at bytes 0) (drop 4 bytes) (are_bytes-parts 4 bytes fits).1).0

-- a frame that was read is at the start, and what is left follows it
pub read_frame_stands : (v : Version) (bytes : List ℕ) (f : Frame) (more : List ℕ) → are_bytes bytes ≡ true →
    first_frame v bytes ≡ Ok (f, more)
    → (is_frame v f ≡ true) × (bytes ≡ framed (body f) ++ more)
read_frame_stands v bytes f more fits e =
    let r = reads_frame v bytes f more e in
    let s = read_is_spelled v (take (u32_at bytes 0) (drop 4 bytes)) f (body_fits bytes fits) r.reads in
    (s.fits, stands longest_body bytes (decoded v) f more (body f) fits r s.spelled)

pub read_reply_stands : (bytes : List ℕ) (r : Reply) (more : List ℕ) → are_bytes bytes ≡ true →
    first_reply bytes ≡ Ok (r, more)
    → (is_reply r ≡ true) × (bytes ≡ framed (reply_body r) ++ more)
read_reply_stands bytes r more fits e =
    let reads = reads_reply bytes r more e in
    let s = reply_read_is_spelled (take (u32_at bytes 0) (drop 4 bytes)) r (body_fits bytes fits) reads.reads in
    (s.fits, stands longest_reply bytes decoded_reply r more (reply_body r) fits reads s.spelled)

-- bytes that begin with a body after its length
framed_has : (longest : ℕ) (spelling more : List ℕ) → 1 ≤ length spelling → length spelling ≤ longest →
    length spelling < 2 ^ 32
    → HasBody longest (framed spelling ++ more) × (u32_at (framed spelling ++ more) 0 ≡ length spelling)
framed_has longest spelling more least most small =
    let bytes = framed spelling ++ more in
    let n-is : u32_at bytes 0 ≡ length spelling =
    number_at-written w32 (2 ^ 32) wide32 (length spelling) (spelling ++ more) small in (
      record {
        head = omega arith;
        some = omega arith;
        short = omega arith;
        whole = omega (arith, length-append spelling more);
      },
      n-is,
    )

first_of_framed : {X : Type 0} (read : List ℕ → Result X Reason) (x : X) (spelling more : List ℕ) →
    u32_at (framed spelling ++ more) 0 ≡ length spelling → read spelling ≡ Ok x
    → before (drop (4 + u32_at (framed spelling ++ more) 0) (framed spelling ++ more))
    (read (take (u32_at (framed spelling ++ more) 0) (spelling ++ more))) ≡ Ok (x, more)
first_of_framed read x spelling more n-is reads =
    let bytes = framed spelling ++ more in
    ap (λ (n : ℕ). before (drop (4 + n) bytes) (read (take n (spelling ++ more)))) n-is
    ∙ ap (λ (y : List ℕ). before (drop (4 + length spelling) bytes) (read y))
    (take_at spelling more (length spelling) refl)
    ∙ ap (before (drop (4 + length spelling) bytes)) reads
    ∙ ap (λ (y : List ℕ). Ok (x, y))
    (sym (drop-drop (length spelling) 4 bytes) ∙ drop_at spelling more (length spelling) refl)

-- a frame at the start is the first
pub first_frame-framed : (v : Version) (f : Frame) (more : List ℕ) → is_frame v f ≡ true →
    first_frame v (framed (body f) ++ more) ≡ Ok (f, more)
first_frame-framed v f more h =
    let len = body_length v f h in
    let has = framed_has longest_body (body f) more len.0 len.1 (omega (arith, len.1)) in
    first_frame-body v (framed (body f) ++ more) has.0
    ∙ first_of_framed (decoded v) f (body f) more has.1 (spelled_is_read v f h)
