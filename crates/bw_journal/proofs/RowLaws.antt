-- A table gets one row for each entry.
use Rattle.std.proofs.Common.{◌≡◌, ℕ, zero, suc, ◌+◌, ◌*◌, ◌/◌, ◌≤◌, true, List, [], ◌∷◌, ◌++◌, length, drop, ap, ◌∙◌}
use Rattle.std.proofs.Common.{refl, length-append, arith}
use Rattle.std.specs.Prelude.{◌<◌, is_some, slice_index}
use Rattle.std.proofs.lemmas.Bool.{and_parts, and_from}
use Rattle.std.proofs.lemmas.List.{nil_from_length, drop-append-le, get_or_append_left, length-drop, get_or_at}
use Rattle.bw_model.specs.Limits.{longest_block}
use Rattle.bw_model.specs.Take.{Parts, Verdict}
use Rattle.bw_model.specs.Replies.{verdict_code, verdict_of}
use Rattle.bw_journal.specs.Entries.{longest_entry}
use Rattle.bw_journal.specs.JournalHeaders.{header_len}
use Rattle.bw_journal.specs.Rows.{have_codes, IsWholeTable}
use Rattle.bw_model.proofs.ReplyLaws.{verdict_of-code}

codes_push : (n : ℕ) (table digest : List ℕ) (v : Verdict) → length table ≡ 33 * n → length digest ≡ 32 →
    have_codes n table ≡ true → have_codes (suc n) (table ++ (digest ++ verdict_code v ∷ [])) ≡ true
unfolding have_codes
codes_push zero table d v e h c =
    let nil : table ≡ [] = nil_from_length table (omega (arith, e)) in
    rw (nil, get_or_at d (verdict_code v) [] 0 32 h, verdict_of-code v) refl
codes_push (suc n) table d v e h c =
    let long : 33 ≤ length table = omega (arith, e) in
    let below : 32 < length table = omega (arith, e) in
    let rest : length (drop 33 table) ≡ 33 * n = omega (arith, length-drop 33 table, e) in
    let more : List ℕ = d ++ verdict_code v ∷ [] in
    let parts = and_parts (is_some (verdict_of (slice_index table 32))) (have_codes n (drop 33 table)) c in
    rw (get_or_append_left table more 0 32 below, drop-append-le 33 table more long)
    (and_from _ _ parts.0 (codes_push n (drop 33 table) d v rest h parts.1))

-- before any entry
pub no_rows : (p : Parts) (table : List ℕ) (used : ℕ) → p.samples_len ≡ 0 → table ≡ [] → used ≤ header_len →
    IsWholeTable p table used
unfolding have_codes
no_rows p table used none empty few = rw empty (record {
  whole = refl;
  coded = refl;
  samples = omega (arith, none);
  notes = omega (arith, few);
})

-- after one more
pub one_more_row : (p q : Parts) (table table' : List ℕ) (used len : ℕ) (digest : List ℕ) (v : Verdict) →
    IsWholeTable p table used → table' ≡ table ++ (digest ++ verdict_code v ∷ []) → length digest ≡ 32 →
    q.samples_len ≤ p.samples_len + longest_block → len ≤ longest_entry → IsWholeTable q table' (used + len)
one_more_row p q table table' used len digest v h is long more short =
    let i = h.whole in
    let whole : length table ≡ 33 * (length table / 33) = grind arith in
    let row : length (digest ++ verdict_code v ∷ []) ≡ 33 = omega (arith, length-append digest (verdict_code v ∷ []), long) in
    let len' : length table' ≡ length table + 33 =
    ap length is ∙ length-append table (digest ++ verdict_code v ∷ []) ∙ ap (λ (k : ℕ). length table + k) row in
    let count : length table' / 33 ≡ suc (length table / 33) = grind arith in
    record {
      whole = grind arith;
      coded = rw (count, is) (codes_push (length table / 33) table digest v whole long h.coded);
      samples = omega (arith, count, h.samples, more);
      notes = omega (arith, count, h.notes, short);
    }
