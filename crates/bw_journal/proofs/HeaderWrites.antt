-- A header is written as it is defined, and read as it is written.
use Rattle.std.proofs.Common.{◌≡◌, ℕ, ◌-◌, ◌<◌, ◌≤◌, Bool, true, false, cond, ◌&&◌, Option, Some, None, List, [], ◌∷◌, ◌++◌, length}
use Rattle.std.proofs.Common.{take, drop, refl, sym, ap, ◌∙◌, arith}
use Rattle.std.specs.Prelude.{◌==◌, slice_index}
use Rattle.std.specs.Str.{bytes_eq}
use Rattle.std.proofs.lemmas.Bool.{eq-eqb}
use Rattle.std.proofs.lemmas.List.{take_at, take_rest, drop_at, append-nil}
use Rattle.bw_model.specs.Bytes.{u32_at}
use Rattle.bw_journal.specs.Lines.{before_zero}
use Rattle.bw_journal.specs.Seals.{check}
use Rattle.bw_journal.specs.JournalHeaders.{Header, flag_of, header_content, header_len, header_with, header_in, first_header}
use Rattle.bw_journal.proofs.HeaderReads.{first_header_long}
use Rattle.bw_journal.proofs.Lengths.{header_content_len}
use borrow.Rule.Slice.PartMut.{put_mid}

-- bytes that are written over
abbrev zeros_8 : List ℕ
zeros_8 = 0 ∷ 0 ∷ 0 ∷ 0 ∷ 0 ∷ 0 ∷ 0 ∷ 0 ∷ []

-- content and check, each in its place
pub plain_written : (c k name : List ℕ) (h : Header) → c ≡ header_content name h → k ≡ check c →
    put_mid 13 8 (c ++ zeros_8) k ≡ header_content name h ++ check (header_content name h)
plain_written c k name h is checked =
    let long : length c ≡ 13 = ap length is ∙ header_content_len name h in
    ap (λ (x : List ℕ). x ++ (k ++ drop 8 (drop 13 (c ++ zeros_8)))) (take_at c zeros_8 13 long)
    ∙ ap (λ (x : List ℕ). c ++ (k ++ drop 8 x)) (drop_at c zeros_8 13 long)
    ∙ ap (λ (x : List ℕ). c ++ x) (append-nil k ∙ checked)
    ∙ ap (λ (x : List ℕ). x ++ check x) is

pub unchecked : (p : List ℕ) → bytes_eq (drop 13 p) (check (take 13 p)) ≡ false → None ≡ header_in p
unfolding header_in
unchecked p wrong = go (length p == 21) wrong
  where
    go : (v : Bool) → bytes_eq (drop 13 p) (check (take 13 p)) ≡ false →
        None ≡ cond (v && bytes_eq (drop 13 p) (check (take 13 p)))
        (header_with (u32_at p 0) (flag_of (slice_index p 4)) (take 8 (drop 5 p))) None
    go true e = rw e refl
    go false e = refl

pub header_read : (p : List ℕ) (limit : ℕ) (existed : Bool) (digest : List ℕ) → length p ≡ 21 →
    bytes_eq (take 8 (drop 13 p)) (check (take 13 p)) ≡ true → limit ≡ u32_at p 0 → flag_of (slice_index p 4) ≡ Some existed →
    digest ≡ take 8 (drop 5 p) → Some (record { limit = limit; existed = existed }, digest) ≡ header_in p
unfolding header_in
header_read p limit existed digest long checked number flag named =
    ap (λ (n : ℕ). Some (record { limit = n; existed = existed }, digest)) number
    ∙ ap (λ (d : List ℕ). Some (record { limit = u32_at p 0; existed = existed }, d)) named
    ∙ sym (rw (eq-eqb (length p) 21 long, passes) (rw flag refl))
  where
    last : take 8 (drop 13 p) ≡ drop 13 p
    last = ap (λ (n : ℕ). take n (drop 13 p)) (let e : 8 ≡ length p - 13 = omega (arith, long) in e) ∙ take_rest p 13

    passes : bytes_eq (drop 13 p) (check (take 13 p)) ≡ true
    passes = ap (λ (x : List ℕ). bytes_eq x (check (take 13 p))) (sym last) ∙ checked

pub unflagged : (p : List ℕ) → flag_of (slice_index p 4) ≡ None → None ≡ header_in p
unfolding header_in
unflagged p none = go ((length p == 21) && bytes_eq (drop 13 p) (check (take 13 p)))
  where
    go : (v : Bool) → None ≡ cond v (header_with (u32_at p 0) (flag_of (slice_index p 4)) (take 8 (drop 5 p))) None
    go true = rw none refl
    go false = refl

kept-length : (bytes : List ℕ) → length (before_zero bytes) ≤ length bytes
kept-length [] = omega arith
kept-length (b ∷ bs) = go (b == 0) (kept-length bs)
  where
    go : (v : Bool) → length (before_zero bs) ≤ length bs →
        length (cond v [] (b ∷ before_zero bs)) ≤ length (b ∷ bs)
    go true h = omega arith
    go false h = omega (arith, h)

pub short_none : (bytes : List ℕ) → length bytes < header_len → None ≡ first_header bytes
short_none bytes short = go (first_header bytes) refl
  where
    go : (o : Option (Header × List ℕ)) → first_header bytes ≡ o → None ≡ o
    go None e = refl
    go (Some x) e = absurd (omega (arith, first_header_long bytes x e, kept-length bytes, short))
