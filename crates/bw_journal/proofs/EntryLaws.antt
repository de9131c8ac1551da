-- Entries are read back as they were written, and none from a prefix of one.
use Rattle.std.proofs.Common.{◌≡◌, ℕ, suc, ◌+◌, ◌-◌, ◌≤◌, ◌<◌, ◌^◌, Bool, true, cond, ◌&&◌, Option, Some, None, List, []}
use Rattle.std.proofs.Common.{◌∷◌, length, take, drop, refl, sym, ap, ◌∙◌, arith}
use Rattle.std.specs.Prelude.{option_map, option_and_then, nat_le}
use Rattle.std.specs.Int.{w32}
use Rattle.std.proofs.lemmas.Bool.{and_parts, leb-true}
use Rattle.std.proofs.lemmas.List.{take_at, drop_at, take_rest, length-append}
use Rattle.bw_model.specs.Bytes.{le32, u32_at, zeros, is_within}
use Rattle.bw_model.specs.Take.{Request, Open, Block, Mark, SetField, Close}
use Rattle.bw_model.specs.Wire.{kind, payload, is_request, are_bytes, is_below, decoded_request}
use Rattle.bw_model.proofs.ByteNumbers.{wide32, number_at-written}
use Rattle.bw_model.proofs.FrameLaws.{payload_length}
use Rattle.bw_model.proofs.Payloads.{reads_request}
use Rattle.bw_model.proofs.ReplyLaws.{verdict_of-code}
use Rattle.bw_journal.specs.Lines.{journal_lines}
use Rattle.bw_journal.specs.Seals.{sealed_line}
use Rattle.bw_journal.specs.Entries.{JournalEntry, bare, noted, content, sealed_entry, entry_in, entry_with_len}
use Rattle.bw_journal.specs.Entries.{content_of_first, first_content, first_entry, request_in, value_in}
use Rattle.bw_journal.specs.NotedJournals.{IsNotable, bare_entry, JournalEntriesReadBack, EntriesAreShort, CutEntriesAreNone}
use Rattle.bw_journal.specs.NotedJournals.{EntriesAreClean}
use Rattle.bw_journal.proofs.EntryReads.{entry_reads}
use Rattle.bw_journal.proofs.Lengths.{content-long, sealed-length}
use Rattle.bw_journal.proofs.SealLaws.{line_clean, sealed_first, opened-line, cut_sealed}

-- a request that isn't a block is read from its kind and its payload
decoded_again : (r : Request) → is_request r ≡ true → value_in (decoded_request (kind r ∷ payload r)) ≡ Some r
decoded_again r h =
    let reads = reads_request r h in
    rw (reads.kind_fits, reads.passes, reads.request_is) refl

pub request_again : (r : Request) → is_request r ≡ true → request_in (noted r) ≡ Some (bare r)
request_again (Open f history) h = decoded_again (Open f history) h
request_again (Block bytes) h =
    let within = (and_parts (is_within 1 32768 (length bytes)) (are_bytes bytes) h).0 in
    let few = leb-true _ _ (and_parts (nat_le 1 (length bytes)) (nat_le (length bytes) 32768) within).1 in
    let n : u32_at (le32 (length bytes)) 0 ≡ length bytes =
    number_at-written w32 (2 ^ 32) wide32 (length bytes) [] (omega arith) in
    ap (λ (k : ℕ). cond (is_within 1 32768 k) (Some (Block (zeros k))) None) n
    ∙ ap (λ (b : Bool). cond b (Some (Block (zeros (length bytes)))) None) within
request_again (Mark id frame) h = decoded_again (Mark id frame) h
request_again (SetField tag value) h = decoded_again (SetField tag value) h
request_again (Close total) h = decoded_again (Close total) h

pub noted-length : (r : Request) → is_request r ≡ true → (1 ≤ length (noted r)) × (length (noted r) ≤ 32769)
noted-length (Block bytes) h = (omega arith, omega arith)
noted-length (Open f history) h = let p = payload_length (Open f history) h in (omega arith, omega (arith, p))
noted-length (Mark id frame) h = (omega arith, omega arith)
noted-length (SetField tag value) h = let p = payload_length (SetField tag value) h in (omega arith, omega (arith, p))
noted-length (Close total) h = (omega arith, omega arith)

pub content-length : (e : JournalEntry) → IsNotable e → (34 ≤ length (content e)) × (length (content e) < 2 ^ 16)
unfolding content
content-length e h =
    let n = noted-length e.request h.0 in
    let whole : length (content e) ≡ 1 + (length e.digest + length (noted e.request)) =
    ap suc (length-append e.digest (noted e.request)) ∙ omega arith in
    (omega (arith, whole, n, h.1), omega (arith, whole, n, h.1))

pub entry_again : (e : JournalEntry) → IsNotable e → entry_in (content e) ≡ Some (bare_entry e)
unfolding content
entry_again e h =
    let c = content e in
    let long = (content-length e h).0 in
    let rest : take (length c - 33) (drop 33 c) ≡ noted e.request =
    take_rest c 33 ∙ drop_at e.digest (noted e.request) 32 h.1 in
    sym (entry_reads c e.verdict (bare e.request) long (verdict_of-code e.verdict) (sym (ap request_in rest
    ∙ request_again e.request h.0)))
    ∙ ap (λ (d : List ℕ). Some (record { request = bare e.request; verdict = e.verdict; digest = d }))
    (take_at e.digest (noted e.request) 32 h.1)

pub entries_read_back : JournalEntriesReadBack
unfolding first_entry first_content
entries_read_back e more h =
    let long : suc (length (sealed_line (content e))) ≡ length (sealed_entry e) =
    omega (arith, length-append (sealed_line (content e)) (2 ∷ [])) in
    ap (λ (x : List (List ℕ)). option_and_then entry_with_len (content_of_first x)) (sealed_first (content e) more)
    ∙ ap (λ (o : Option (List ℕ)).
    option_and_then entry_with_len (option_map (λ c. (c, suc (length (sealed_line (content e))))) o)) (opened-line (content e))
    ∙ ap (option_map (λ x. (x, suc (length (sealed_line (content e)))))) (entry_again e h)
    ∙ ap (λ (n : ℕ). Some (bare_entry e, n)) long

pub cut_entries_are_none : CutEntriesAreNone
unfolding first_entry first_content
cut_entries_are_none tail h =
    ap (λ (x : List (List ℕ)). option_and_then entry_with_len (content_of_first x))
    (ap (λ (x : List ℕ). journal_lines x) h.prefix ∙ cut_sealed (content h.entry) h.count h.short)

-- what is noted of a request is no longer than of an OPEN with the longest history
pub noted_short : (r : Request) → is_request r ≡ true → length (noted r) ≤ 4107
noted_short (Open f history) h =
    let four = and_parts
    (is_below (2 ^ 32) f.rate && is_below (2 ^ 16) f.channels && is_below (2 ^ 16) f.bits && nat_le (length history)
    4096)
    (are_bytes history) h in
    let short = leb-true _ _
    (and_parts (is_below (2 ^ 32) f.rate && is_below (2 ^ 16) f.channels && is_below (2 ^ 16) f.bits)
    (nat_le (length history) 4096) four.0).1 in
    omega arith
noted_short (Block bytes) h = omega arith
noted_short (Mark id frame) h = omega arith
noted_short (SetField tag value) h =
    let short = leb-true _ _
    (and_parts (is_below 256 tag) (nat_le (length value) 256)
    (and_parts (is_below 256 tag && nat_le (length value) 256) (are_bytes value) h).0).1 in
    omega arith
noted_short (Close total) h = omega arith

pub entries_are_short : EntriesAreShort
entries_are_short e h =
    omega (arith, (sealed-length (content e)).1, content-long e h.1, noted_short e.request h.0)

pub entries_are_clean : EntriesAreClean
entries_are_clean e = line_clean (content e)
