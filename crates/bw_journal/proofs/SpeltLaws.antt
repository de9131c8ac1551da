-- If an entry is read, its bytes are there.
use Rattle.std.proofs.Common.{◌≡◌, ℕ, suc, ◌+◌, ◌^◌, ◌≢◌, Bool, true, false, cond, ◌&&◌, Option, Some, None}
use Rattle.std.proofs.Common.{Result, Ok, Err, List, [], ◌∷◌, ◌++◌, length, take, drop, refl, sym, ap, subst, ◌∙◌}
use Rattle.std.proofs.Common.{inl, inr, arith}
use Rattle.std.specs.Prelude.{option_map, option_and_then, nat_lt, ◌==◌, find}
use Rattle.std.specs.Int.{w32}
use Rattle.std.proofs.lemmas.Bool.{and_parts, and_from, eqb-true, cases_lt, lt-ltb}
use Rattle.std.proofs.lemmas.List.{drop_all, take-append-drop}
use Rattle.std.proofs.lemmas.List.Folds.{list_all-append}
use Rattle.bw_model.specs.Bytes.{le32, u32_at, zeros, is_within}
use Rattle.bw_model.specs.Take.{Request, Open, Block, Mark, SetField, Close, Verdict}
use Rattle.bw_model.specs.Wire.{kind, payload, are_bytes, is_below, request_of, decoded_request, Reason}
use Rattle.bw_model.specs.Replies.{verdict_code, verdict_of, verdicts}
use Rattle.bw_model.proofs.ByteNumbers.{are_bytes-parts, wide32, written-number_at}
use Rattle.bw_model.proofs.Elements.{some_inj}
use Rattle.bw_journal.specs.Lines.{journal_lines, stuffed}
use Rattle.bw_journal.specs.Seals.{check, sealed_line, sealed, opened}
use Rattle.bw_journal.specs.Entries.{JournalEntry, noted, content, sealed_entry, entry_in, entry_with_len, first_entry}
use Rattle.bw_journal.specs.Entries.{content_of_first, first_content, made_of}
use Rattle.bw_journal.specs.Entries.{request_in, block_noted, value_in}
use Rattle.bw_journal.specs.NotedJournals.{ReadEntriesStand}
use Rattle.bw_journal.proofs.EntryReads.{decoded, zeros-length}
use Rattle.bw_journal.proofs.LineLaws.{line_taken}
use Rattle.bw_journal.proofs.SealLaws.{opened_stands}
use Rattle.bw_journal.proofs.StuffLaws.{few, many}

none_some : {X : Type 0} {x : X} → None ≡ Some x → ⊥
none_some e = cc

-- a line's content has bytes
unstuffed_bytes : (bs : List ℕ) → are_bytes (stuffed bs) ≡ true → are_bytes bs ≡ true
unstuffed_bytes [] h = refl
unstuffed_bytes (b ∷ bs) h = elim (cases_lt b 3) [
  | inl low ↦
      let more = and_parts (is_below 256 (b + 3)) (are_bytes (stuffed bs)) (ap are_bytes (sym (few b bs low)) ∙ h) in
      and_from (is_below 256 b) (are_bytes bs) (lt-ltb b 256 (omega (arith, low))) (unstuffed_bytes bs more.1)
  | inr high ↦
      let more = and_parts (is_below 256 b) (are_bytes (stuffed bs)) (ap are_bytes (sym (many b bs high)) ∙ h) in
      and_from (is_below 256 b) (are_bytes bs) more.0 (unstuffed_bytes bs more.1)
]

first_bytes : (xs ys : List ℕ) → are_bytes (xs ++ ys) ≡ true → are_bytes xs ≡ true
first_bytes xs ys h = (and_parts (are_bytes xs) (are_bytes ys) (sym (list_all-append (is_below 256) xs ys) ∙ h)).0

content_bytes : (l c : List ℕ) → opened l ≡ Some c → are_bytes l ≡ true → are_bytes c ≡ true
unfolding sealed_line
content_bytes l c e fits =
    first_bytes c (check c)
    (unstuffed_bytes (c ++ check c) (ap are_bytes (opened_stands l c e) ∙ fits))

are_bytes-of_line : (bytes l : List ℕ) → are_bytes bytes ≡ true → take (suc (length l)) bytes ≡ l ++ 2 ∷ [] →
    are_bytes l ≡ true
are_bytes-of_line bytes l fits e =
    first_bytes l (2 ∷ []) (ap are_bytes (sym e) ∙ (are_bytes-parts (suc (length l)) bytes fits).0)

found_passes : {X : Type 0} (test : X → Bool) (xs : List X) (x : X) → find test xs ≡ Some x → test x ≡ true
found_passes test [] x e = absurd (none_some e)
found_passes test (y ∷ ys) x e = go (test y) refl (found_passes test ys x) e
  where
    go : (b : Bool) → test y ≡ b → (find test ys ≡ Some x → test x ≡ true) → cond b (Some y) (find test ys) ≡ Some x →
        test x ≡ true
    go true p further e = subst (λ (z : _). test z ≡ true) (some_inj e) p
    go false p further e = further e

code_of_verdict : (code : ℕ) (v : Verdict) → verdict_of code ≡ Some v → verdict_code v ≡ code
code_of_verdict code v e = eqb-true _ _ (found_passes (λ v. verdict_code v == code) verdicts v e)

-- a request that isn't a block is noted by its kind and its payload
plainly_noted : (r : Request) → kind r ≢ 2 → noted r ≡ kind r ∷ payload r
plainly_noted (Block bytes) h = absurd (h refl)
plainly_noted (Open f history) h = refl
plainly_noted (Mark id frame) h = refl
plainly_noted (SetField tag value) h = refl
plainly_noted (Close total) h = refl

block_stands : (p : List ℕ) (r : Request) → are_bytes p ≡ true → block_noted p ≡ Some r → noted r ≡ 2 ∷ p
block_stands p r fits e = go ((length p == 4) && is_within 1 32768 (u32_at p 0)) refl e
  where
    go : (b : Bool) → ((length p == 4) && is_within 1 32768 (u32_at p 0)) ≡ b →
        cond b (Some (Block (zeros (u32_at p 0)))) None ≡ Some r → noted r ≡ 2 ∷ p
    go false t e = absurd (none_some e)
    go true t e =
        let four = eqb-true _ _ (and_parts (length p == 4) (is_within 1 32768 (u32_at p 0)) t).0 in
        let number = (written-number_at w32 (2 ^ 32) wide32 p 0 fits (omega arith)).0 in
        let whole : le32 (u32_at p 0) ≡ p =
        sym (nothing (le32 (u32_at p 0)))
        ∙ ap (λ (x : List ℕ). le32 (u32_at p 0) ++ x) (sym (drop_all 4 p (omega arith))) ∙ number in
        ap noted (sym (some_inj e)) ∙ ap (λ (k : ℕ). 2 ∷ le32 k) (zeros-length (u32_at p 0))
        ∙ ap (λ (x : List ℕ). 2 ∷ x) whole
      where
        nothing : (xs : List ℕ) → xs ++ [] ≡ xs
        nothing [] = refl
        nothing (x ∷ xs) = ap (λ (z : List ℕ). x ∷ z) (nothing xs)

request_stands : (b : List ℕ) (r : Request) → are_bytes b ≡ true → request_in b ≡ Some r → noted r ≡ b
request_stands [] r fits e = absurd (none_some e)
request_stands (k ∷ p) r fits e = go (k == 2) refl e
  where
    go : (v : Bool) → (k == 2) ≡ v → cond v (block_noted p) (value_in (decoded_request (k ∷ p))) ≡ Some r →
        noted r ≡ k ∷ p
    go true t e =
        block_stands p r (and_parts (is_below 256 k) (are_bytes p) fits).1 e
        ∙ ap (λ (n : ℕ). n ∷ p) (sym (eqb-true k 2 t))
    go false t e = found (decoded_request (k ∷ p)) refl e
      where
        found : (x : Result Request Reason) → decoded_request (k ∷ p) ≡ x → value_in x ≡ Some r → noted r ≡ k ∷ p
        found (Err f) d e = absurd (none_some e)
        found (Ok q) d e =
            let whole = decoded k p q fits d in
            let same : request_of k p ≡ r = whole.read ∙ some_inj e in
            let is_kind : kind r ≡ k = ap kind (sym same) ∙ whole.spelled.kind_is in
            let is_payload_of : payload r ≡ p = ap payload (sym same) ∙ whole.spelled.payload_is in
            plainly_noted r (λ two. other (sym is_kind ∙ two)) ∙ ap (λ (n : ℕ). n ∷ payload r) is_kind
            ∙ ap (λ (x : List ℕ). k ∷ x) is_payload_of
          where
            other : k ≡ 2 → ⊥
            other two = false_true (sym t ∙ ap (λ (n : ℕ). n == 2) two)
              where
                false_true : false ≡ true → ⊥
                false_true h = cc

made_parts : (v : Option Verdict) (d : List ℕ) (r : Option Request) (e : JournalEntry) → made_of v d r ≡ Some e →
    (v ≡ Some e.verdict) × (r ≡ Some e.request) × (d ≡ e.digest)
made_parts None d r e h = absurd (none_some h)
made_parts (Some v) d None e h = absurd (none_some h)
made_parts (Some v) d (Some r) e h = (
  ap (λ (x : JournalEntry). Some x.verdict) (some_inj h),
  ap (λ (x : JournalEntry). Some x.request) (some_inj h),
  ap
      (λ (x : JournalEntry). x.digest) (some_inj h),
)

-- the content is the entry's
pub content_stands : (c : List ℕ) (e : JournalEntry) → are_bytes c ≡ true → entry_in c ≡ Some e → content e ≡ c
unfolding entry_in content
content_stands [] e fits h = absurd (none_some h)
content_stands (k ∷ b) e fits h = go (nat_lt (length (k ∷ b)) 34) h
  where
    go : (v : Bool) → cond v None (made_of (verdict_of k) (take 32 b) (request_in (drop 32 b))) ≡ Some e →
        content e ≡ k ∷ b
    go true h = absurd (none_some h)
    go false h =
        let m = made_parts (verdict_of k) (take 32 b) (request_in (drop 32 b)) e h in
        let rest =
        request_stands (drop 32 b) e.request
        (are_bytes-parts 32 b (and_parts (is_below 256 k) (are_bytes b) fits).1).1 m.1 in
        ap (λ (n : ℕ). n ∷ (e.digest ++ noted e.request)) (code_of_verdict k e.verdict m.0)
        ∙ ap (λ (x : List ℕ). k ∷ (e.digest ++ x)) rest
        ∙ ap (λ (x : List ℕ). k ∷ (x ++ drop 32 b)) (sym m.2)
        ∙ ap (λ (x : List ℕ). k ∷ x) (take-append-drop 32 b)

pub read_entries_stand : ReadEntriesStand
unfolding first_entry first_content
read_entries_stand bytes e n fits h = go (journal_lines bytes) refl h
  where
    go : (ls : List (List ℕ)) → journal_lines bytes ≡ ls → option_and_then entry_with_len (content_of_first ls) ≡ Some (e, n) →
        take n bytes ≡ sealed_entry e
    go [] p h = absurd (none_some h)
    go (l ∷ ls) p h = read (opened l) refl h
      where
        there : take (suc (length l)) bytes ≡ l ++ 2 ∷ []
        there = line_taken bytes l ls p

        read : (o : Option (List ℕ)) → opened l ≡ o →
            option_and_then entry_with_len (option_map {U = List ℕ × ℕ} (λ c. (c, suc (length l))) o) ≡ Some (e, n) →
            take n bytes ≡ sealed_entry e
        read None q h = absurd (none_some h)
        read (Some c) q h = found (entry_in c) refl h
          where
            fits_here : are_bytes c ≡ true
            fits_here = content_bytes l c q (are_bytes-of_line bytes l fits there)

            found : (x : Option JournalEntry) → entry_in c ≡ x →
                option_map {U = JournalEntry × ℕ} (λ y. (y, suc (length l))) x ≡ Some (e, n) → take n bytes ≡ sealed_entry e
            found None r h = absurd (none_some h)
            found (Some y) r h =
                let pair : (y, suc (length l)) ≡ (e, n) = some_inj h in
                ap (λ (k : ℕ). take k bytes) (sym (ap (λ (z : JournalEntry × ℕ). z.1) pair)) ∙ there
                ∙ ap (λ (x : List ℕ). x ++ 2 ∷ []) (sym (opened_stands l c q))
                ∙ ap sealed (sym (content_stands c y fits_here r)) ∙ ap (λ (z : JournalEntry × ℕ). sealed_entry z.0) pair
