-- A body is read as a reply exactly if it spells it.
use Rattle.std.proofs.Common.{◌≡◌, ℕ, ◌+◌, ◌^◌, Bool, true, false, ◌&&◌, cond, List, [], ◌∷◌, ◌++◌, length, Option}
use Rattle.std.proofs.Common.{Some, None, Ok, Err, refl, sym, ap, subst, ◌∙◌, append_assoc, arith}
use Rattle.std.specs.Prelude.{nat_le, ◌==◌, find, option_map, ok_or}
use Rattle.std.specs.Int.{w32, w64}
use Rattle.std.proofs.lemmas.Bool.{and_parts, and_from, or_from, eqb-true, leb-true, ltb-true, lt-ltb, le-ltb}
use Rattle.std.proofs.lemmas.List.{nil_from_length, drop_all}
use Rattle.bw_model.specs.Bytes.{le32, le64, u32_at, u64_at}
use Rattle.bw_model.specs.Take.{Verdict, Stored, NameTaken, AlreadyOpen, NotOpen, Closed, BadFormat, BadBlock}
use Rattle.bw_model.specs.Take.{BadMarker, DuplicateMarker, TooManyMarkers, BadField, WrongTotal}
use Rattle.bw_model.specs.Wire.{Second, last_number, is_below, are_bytes, is_name, Reason, Length, Kind, Name, Number}
use Rattle.bw_model.specs.Wire.{Payload, Cut, reason_code, name_in, number_in, payload_in, is_name_bad, is_number_bad}
use Rattle.bw_model.specs.Replies.{Notice, Held, TooFar, Conflict, TableFull, NoRoom, DelayedStore, Next, Reply, Judged}
use Rattle.bw_model.specs.Replies.{Noticed, Refused, verdict_code, notice_code, reply_body, is_addressed, is_reply}
use Rattle.bw_model.specs.Replies.{SpellsReply, verdicts, notices, reasons, verdict_of, notice_of, reason_of, judged_by}
use Rattle.bw_model.specs.Replies.{noticed_by, refused_by, addressed_reply, decoded_reply, DecodesReplySpellings}
use Rattle.bw_model.proofs.ByteNumbers.{wide32, wide64, written-number_at, number_at-written}
use Rattle.bw_model.proofs.Addresses.{addressed_from_tests, reads-addressed}

-- what is found passes the test
found_passes : {X : Type 0} (test : X → Bool) (xs : List X) (x : X) → find test xs ≡ Some x → test x ≡ true
found_passes test [] x e = absurd cc
found_passes test (y ∷ ys) x e = go (test y) refl (found_passes test ys x) e
  where
    go : (b : Bool) → test y ≡ b → (find test ys ≡ Some x → test x ≡ true) → cond b (Some y) (find test ys) ≡ Some x →
        test x ≡ true
    go true b-is later e = ap test (sym (some_is y x e)) ∙ b-is
      where
        some_is : {X : Type 0} (y x : X) → Some y ≡ Some x → y ≡ x
        some_is y x e = cc
    go false b-is later e = later e

mapped_some : {X Y : Type 0} (f : X → Y) (o : Option X) (y : Y) → option_map f o ≡ Some y →
    (x : X) × (o ≡ Some x) × (f x ≡ y)
mapped_some f None y e = absurd cc
mapped_some f (Some x) y e = (x, refl, cc)

guarded_some : {X : Type 0} (b : Bool) (o : Option X) (x : X) → cond b o None ≡ Some x → (b ≡ true) × (o ≡ Some x)
guarded_some true o x e = (refl, e)
guarded_some false o x e = absurd cc

or_fault : {X : Type 0} (o : Option X) (x : X) → ok_or o Payload ≡ Ok x → o ≡ Some x
or_fault None x e = absurd cc
or_fault (Some y) x e = cc

-- each code is one of its table
pub verdict_of-code : (v : Verdict) → verdict_of (verdict_code v) ≡ Some v
verdict_of-code Stored = refl
verdict_of-code NameTaken = refl
verdict_of-code AlreadyOpen = refl
verdict_of-code NotOpen = refl
verdict_of-code Closed = refl
verdict_of-code BadFormat = refl
verdict_of-code BadBlock = refl
verdict_of-code BadMarker = refl
verdict_of-code DuplicateMarker = refl
verdict_of-code TooManyMarkers = refl
verdict_of-code BadField = refl
verdict_of-code WrongTotal = refl

notice_of-code : (n : Notice) → notice_of (notice_code n) ≡ Some n
notice_of-code Held = refl
notice_of-code TooFar = refl
notice_of-code Conflict = refl
notice_of-code TableFull = refl
notice_of-code NoRoom = refl
notice_of-code DelayedStore = refl
notice_of-code Next = refl

reason_of-code : (r : Reason) → reason_of (reason_code r) ≡ Some r
reason_of-code Length = refl
reason_of-code Kind = refl
reason_of-code Name = refl
reason_of-code Number = refl
reason_of-code Payload = refl
reason_of-code Cut = refl

-- what follows name and number spells the reply
judged_spelled : (name : List ℕ) (number : ℕ) (p : List ℕ) (r : Reply) → judged_by name number p ≡ Some r →
    (v : Verdict) × (r ≡ Judged name number v) × (p ≡ verdict_code v ∷ [])
judged_spelled name number [] r e = absurd cc
judged_spelled name number (code ∷ more) r e =
    let g = guarded_some (length more == 0) (option_map (Judged name number) (verdict_of code)) r e in
    let m = mapped_some (Judged name number) (verdict_of code) r g.1 in
    let coded : verdict_code m.0 ≡ code =
    eqb-true _ _ (found_passes (λ v. verdict_code v == code) verdicts m.0 m.1) in (
      m.0,
      sym m.2,
      ap (λ (n : ℕ). n ∷ more) (sym coded)
          ∙ ap (λ (x : List ℕ). verdict_code m.0 ∷ x) (nil_from_length more (eqb-true _ _ g.0)),
    )

noticed_spelled : (name : List ℕ) (number : ℕ) (p : List ℕ) (r : Reply) → are_bytes p ≡ true →
    noticed_by name number p ≡ Some r
    → (n : Notice) × (next : ℕ) × (r ≡ Noticed name number n next) × (p ≡ notice_code n ∷ le32 next)
    × (nat_le next (last_number Second + 1) ≡ true)
noticed_spelled name number [] r fits e = absurd cc
noticed_spelled name number (code ∷ next) r fits e =
    let g = guarded_some ((length next == 4) && nat_le (u32_at next 0) (last_number Second + 1))
    (option_map (λ n. Noticed name number n (u32_at next 0)) (notice_of code)) r e in
    let tests = and_parts (length next == 4) (nat_le (u32_at next 0) (last_number Second + 1)) g.0 in
    let len : length next ≡ 4 = eqb-true _ _ tests.0 in
    let m = mapped_some (λ n. Noticed name number n (u32_at next 0)) (notice_of code) r g.1 in
    let coded : notice_code m.0 ≡ code = eqb-true _ _ (found_passes (λ n. notice_code n == code) notices m.0 m.1) in
    let written = written-number_at w32 (2 ^ 32) wide32 next 0 (and_parts (is_below 256 code) (are_bytes next) fits).1
    (omega arith) in
    let spelled : le32 (u32_at next 0) ≡ next =
    ap (λ (x : List ℕ). le32 (u32_at next 0) ++ x) (sym (drop_all 4 next (omega arith))) ∙ written.0 in (
      m.0,
      u32_at next 0,
      sym m.2,
      ap (λ (n : ℕ). n ∷ next) (sym coded)
          ∙ ap (λ (x : List ℕ). notice_code m.0 ∷ x) (sym spelled),
      tests.1,
    )

refused_spelled : (p : List ℕ) (r : Reply) → are_bytes p ≡ true → refused_by p ≡ Some r → SpellsReply (0x83 ∷ p) r
refused_spelled [] r fits e = absurd cc
refused_spelled (code ∷ offset) r fits e =
    let g = guarded_some (length offset == 8) (option_map (λ r. Refused r (u64_at offset 0)) (reason_of code)) r e in
    let len : length offset ≡ 8 = eqb-true _ _ g.0 in
    let m = mapped_some (λ r. Refused r (u64_at offset 0)) (reason_of code) r g.1 in
    let coded : reason_code m.0 ≡ code = eqb-true _ _ (found_passes (λ r. reason_code r == code) reasons m.0 m.1) in
    let written = written-number_at w64 (2 ^ 64) wide64 offset 0
    (and_parts (is_below 256 code) (are_bytes offset) fits).1 (omega arith) in
    let spelled : le64 (u64_at offset 0) ≡ offset =
    ap (λ (x : List ℕ). le64 (u64_at offset 0) ++ x) (sym (drop_all 8 offset (omega arith))) ∙ written.0 in
    subst (SpellsReply (0x83 ∷ code ∷ offset)) m.2 (record {
      fits = lt-ltb _ _ written.1;
      spelled = ap (λ (n : ℕ). 0x83 ∷ n ∷ offset) (sym coded)
          ∙ ap (λ (x : List ℕ). 0x83 ∷ reason_code m.0 ∷ x) (sym spelled);
    })

-- an addressed reply that is read
addressed_read : (rest : List ℕ) (reply_by : List ℕ → ℕ → List ℕ → Option Reply) (r : Reply) →
    addressed_reply rest reply_by ≡ Ok r
    → (is_name_bad rest ≡ false) × (is_number_bad (last_number Second) rest ≡ false)
    × (reply_by (name_in rest) (number_in rest) (payload_in rest) ≡ Some r)
addressed_read rest reply_by r e = go (is_name_bad rest) (is_number_bad (last_number Second) rest) e
  where
    go : (a b : Bool) → cond a (Err Name)
        (cond b (Err Number) (ok_or (reply_by (name_in rest) (number_in rest) (payload_in rest)) Payload)) ≡ Ok r
        → (a ≡ false) × (b ≡ false) × (reply_by (name_in rest) (number_in rest) (payload_in rest) ≡ Some r)
    go true b e = absurd cc
    go false true e = absurd cc
    go false false e = (refl, refl, or_fault _ r e)

judged_body : (rest : List ℕ) (r : Reply) → are_bytes rest ≡ true
    → (is_name_bad rest ≡ false) × (is_number_bad (last_number Second) rest ≡ false)
    × (judged_by (name_in rest) (number_in rest) (payload_in rest) ≡ Some r)
    → SpellsReply (0x81 ∷ rest) r
judged_body rest r fits read =
    let a = addressed_from_tests (last_number Second) rest fits read.0 read.1 in
    let j = judged_spelled (name_in rest) (number_in rest) (payload_in rest) r read.2 in
    subst (SpellsReply (0x81 ∷ rest)) (sym j.1) (record {
      fits = and_from (is_name (name_in rest)) (nat_le (number_in rest) (last_number Second)) a.0.named a.1;
      spelled =
          ap (λ (x : List ℕ). 0x81 ∷ x) a.0.spelled
          ∙ ap (λ (x : List ℕ). 0x81 ∷ length (name_in rest) ∷ (name_in rest ++ (le32 (number_in rest) ++ x))) j.2
          ∙ ap (λ (x : List ℕ). 0x81 ∷ length (name_in rest) ∷ x)
          (sym (append_assoc (name_in rest) (le32 (number_in rest)) (verdict_code j.0 ∷ [])));
    })

noticed_body : (rest : List ℕ) (r : Reply) → are_bytes rest ≡ true
    → (is_name_bad rest ≡ false) × (is_number_bad (last_number Second) rest ≡ false)
    × (noticed_by (name_in rest) (number_in rest) (payload_in rest) ≡ Some r)
    → SpellsReply (0x82 ∷ rest) r
noticed_body rest r fits read =
    let a = addressed_from_tests (last_number Second) rest fits read.0 read.1 in
    let j = noticed_spelled (name_in rest) (number_in rest) (payload_in rest) r a.0.payload_fits read.2 in
    subst (SpellsReply (0x82 ∷ rest)) (sym j.2) (record {
      fits =
          and_from (is_addressed (name_in rest) (number_in rest)) (nat_le j.1 (last_number Second + 1))
          (and_from (is_name (name_in rest)) (nat_le (number_in rest) (last_number Second)) a.0.named a.1) j.4;
      spelled =
          ap (λ (x : List ℕ). 0x82 ∷ x) a.0.spelled
          ∙ ap (λ (x : List ℕ). 0x82 ∷ length (name_in rest) ∷ (name_in rest ++ (le32 (number_in rest) ++ x))) j.3
          ∙ ap (λ (x : List ℕ). 0x82 ∷ length (name_in rest) ∷ x)
          (sym (append_assoc (name_in rest) (le32 (number_in rest)) (notice_code j.0 ∷ le32 j.1)));
    })

reply_spelled : (k : ℕ) (rest : List ℕ) (r : Reply) (verdict notice refusal : Bool) → are_bytes rest ≡ true
    → (k == 0x81) ≡ verdict → (k == 0x82) ≡ notice → (k == 0x83) ≡ refusal
    → cond verdict (addressed_reply rest judged_by)
    (cond notice (addressed_reply rest noticed_by) (cond refusal (ok_or (refused_by rest) Payload) (Err Kind))) ≡ Ok r
    → SpellsReply (k ∷ rest) r
reply_spelled k rest r true notice refusal fits k-is _ _ e =
    subst (λ (n : ℕ). SpellsReply (n ∷ rest) r) (sym (eqb-true k 0x81 k-is))
    (judged_body rest r fits (addressed_read rest judged_by r e))
reply_spelled k rest r false true refusal fits _ k-is _ e =
    subst (λ (n : ℕ). SpellsReply (n ∷ rest) r) (sym (eqb-true k 0x82 k-is))
    (noticed_body rest r fits (addressed_read rest noticed_by r e))
reply_spelled k rest r false false true fits _ _ k-is e =
    subst (λ (n : ℕ). SpellsReply (n ∷ rest) r) (sym (eqb-true k 0x83 k-is))
    (refused_spelled rest r fits (or_fault _ r e))
reply_spelled k rest r false false false fits _ _ _ e = absurd cc

-- what is read is spelled by the bytes
pub reply_read_is_spelled : (bytes : List ℕ) (r : Reply) → are_bytes bytes ≡ true → decoded_reply bytes ≡ Ok r →
    SpellsReply bytes r
unfolding decoded_reply
reply_read_is_spelled [] r fits e = absurd cc
reply_read_is_spelled (k ∷ rest) r fits e =
    reply_spelled k rest r (k == 0x81) (k == 0x82) (k == 0x83)
    (and_parts (is_below 256 k) (are_bytes rest) fits).1 refl refl refl e

addressed_reads : (name : List ℕ) (number : ℕ) (payload : List ℕ) (reply_by : List ℕ → ℕ → List ℕ → Option Reply)
    (r : Reply) → is_addressed name number ≡ true
    → reply_by name number payload ≡ Some r →
    addressed_reply (length name ∷ ((name ++ le32 number) ++ payload)) reply_by ≡ Ok r
addressed_reads name number payload reply_by r h given =
    let tests = and_parts (is_name name) (nat_le number (last_number Second)) h in
    let low = leb-true _ _ tests.1 in
    let q = reads-addressed name number payload tests.0 (omega arith) in
    let number_good : is_number_bad (last_number Second) (length name ∷ (name ++ (le32 number ++ payload))) ≡ false =
    or_from _ _ q.long (le-ltb _ _ (rw q.number_is low)) in
    ap (λ (x : List ℕ). addressed_reply (length name ∷ x) reply_by) (append_assoc name (le32 number) payload)
    ∙ rw (q.name_good, number_good, q.name_is, q.number_is, q.payload_is, given) refl

-- what the bytes spell is read
pub spelled_reply_is_read : (r : Reply) → is_reply r ≡ true → decoded_reply (reply_body r) ≡ Ok r
unfolding decoded_reply
spelled_reply_is_read (Judged name number verdict) h =
    addressed_reads name number (verdict_code verdict ∷ []) judged_by (Judged name number verdict) h
    (ap (option_map (Judged name number)) (verdict_of-code verdict))
spelled_reply_is_read (Noticed name number notice next) h =
    let tests = and_parts (is_addressed name number) (nat_le next (last_number Second + 1)) h in
    let low = leb-true _ _ tests.1 in
    let next_is : u32_at (le32 next) 0 ≡ next = number_at-written w32 (2 ^ 32) wide32 next [] (omega arith) in
    addressed_reads name number (notice_code notice ∷ le32 next) noticed_by (Noticed name number notice next) tests.0
    (rw (next_is, tests.1, notice_of-code notice) refl)
spelled_reply_is_read (Refused reason offset) h =
    let offset_is : u64_at (le64 offset) 0 ≡ offset =
    number_at-written w64 (2 ^ 64) wide64 offset [] (ltb-true _ _ h) in
    rw (offset_is, reason_of-code reason) refl

pub decodes_reply_spellings : DecodesReplySpellings
decodes_reply_spellings bytes r fits =
    (reply_read_is_spelled bytes r fits, λ s. ap decoded_reply s.spelled ∙ spelled_reply_is_read r s.fits)
