-- The file with a request is between the one without it and itself.
use Rattle.std.proofs.Common.{◌≡◌, ◌≢◌, ℕ, ◌+◌, ◌-◌, ◌%◌, ◌≤◌, Bool, true, false, cond, List, [], ◌++◌, length, take}
use Rattle.std.proofs.Common.{Option}
use Rattle.std.proofs.Common.{Some, None, refl, sym, ◌∙◌, ap, subst, arith, append_assoc, length-append}
use Rattle.std.specs.Prelude.{slice_range, flat_map}
use Rattle.std.proofs.lemmas.List.{take_at, drop_at}
use Rattle.bw_model.specs.Layout.{pad, chunk}
use Rattle.bw_model.specs.Take.{Take, Parts, Format, Request, Open, Block, Mark, SetField, Close, Verdict, Stored}
use Rattle.bw_model.specs.Take.{Closed, judge, judge_open, AreFields, parts, with_request, with_field}
use Rattle.bw_model.specs.File.{file_of, file_with, header, data_place, Repairable, cue_chunks}
use Rattle.bw_model.specs.Holds.{IsBetween}
use Rattle.bw_model.proofs.HeaderLaws.{header_of_file, length-header}
use Rattle.bw_model.proofs.FieldLaws.{fields-with}
use Rattle.bw_take.proofs.StoredLemmas.{opened_once, set_without_fault}
use Rattle.bw_journal.specs.Recovery.{NewFilesAreBetween}
use Rattle.bw_journal.proofs.EntryReads.{zeros-length}
use Rattle.bw_journal.proofs.RepairLaws.{open_file, nothing_more}

still_open : (c : Bool) (v : Verdict) → cond c Closed v ≡ Stored → (c ≡ false) × (v ≡ Stored)
still_open true v e = absurd cc
still_open false v e = (refl, e)

-- a stored request finds the take open
stored_open : (p : Parts) (r : Request) → judge p r ≡ Stored → (p.closed ≡ false) × (judge_open p p.format r ≡ Stored)
unfolding judge
stored_open p r e = still_open p.closed (judge_open p p.format r) e

range_at : (prefix kept tail : List ℕ) (from to : ℕ) → length prefix ≡ from → from + length kept ≡ to →
    slice_range (prefix ++ (kept ++ tail)) from to ≡ kept
range_at prefix kept tail from to f t =
    let n : to - from ≡ length kept = omega arith in
    ap (take (to - from)) (drop_at prefix (kept ++ tail) from f) ∙ take_at kept tail (to - from) (sym n)

kept_same : (old new hd hd' mid rest rest' : List ℕ) (from to : ℕ) → old ≡ hd ++ (mid ++ rest) →
    new ≡ hd' ++ (mid ++ rest') → length hd ≡ from → length hd' ≡ from
    → from + length mid ≡ to → length old ≤ length new → Repairable old new from to new
kept_same old new hd hd' mid rest rest' from to e e' h h' n longer = record {
  no_shorter = longer;
  no_longer = omega arith;
  kept = ap (λ (z : List ℕ). slice_range z from to) e' ∙ range_at hd' mid rest' from to h' n
      ∙ sym (ap (λ (z : List ℕ). slice_range z from to) e ∙ range_at hd mid rest from to h n);
}

length-three : (a b c : List ℕ) → length (a ++ (b ++ c)) ≡ length a + (length b + length c)
length-three a b c = length-append a (b ++ c) ∙ ap (λ (n : ℕ). length a + n) (length-append b c)

-- a take of this format
abbrev of_format : Take → Format → Take
of_format t f = record t { format = Some f }

block_between : (t : Take) (f : Format) (limit : ℕ) (bytes : List ℕ) → AreFields t.fields → t.closed ≡ false
    → IsBetween (of_format t f) limit (Block bytes) (file_of (with_request (of_format t f) (Block bytes)) limit)
block_between t f limit bytes fields still =
    let s = t.samples in
    let place = data_place (length t.history) in
    let hd = header f t.fields t.history (length s) 0 limit in
    let hd' = header f t.fields t.history (length (s ++ bytes)) 0 limit in
    let p = pad (length s) in
    let p' = pad (length (s ++ bytes)) in
    let old = open_file (of_format t f) f limit fields still in
    let new =
    open_file (with_request (of_format t f) (Block bytes)) f limit fields still
    ∙ ap (λ (z : List ℕ). hd' ++ z) (append_assoc s bytes p') in
    let h : length hd ≡ place = length-header f t.fields t.history (length s) 0 limit fields in
    let h' : length hd' ≡ place = length-header f t.fields t.history (length (s ++ bytes)) 0 limit fields in
    let old_len = ap length old ∙ length-three hd s p in
    let new_len = ap length new ∙ length-three hd' s (bytes ++ p') in
    let a : length p ≡ length s % 2 = zeros-length (length s % 2) in
    let b : length p' ≡ length (s ++ bytes) % 2 = zeros-length (length (s ++ bytes) % 2) in
    kept_same _ _ hd hd' s p (bytes ++ p') place (place + length s) old new h h' refl
    (omega (arith, old_len, new_len, a, b, h, h', length-append s bytes, length-append bytes p'))

mark_between : (t : Take) (f : Format) (limit id frame : ℕ) → AreFields t.fields → t.closed ≡ false
    → IsBetween (of_format t f) limit (Mark id frame) (file_of (with_request (of_format t f) (Mark id frame)) limit)
mark_between t f limit id frame fields still =
    let same =
    open_file (with_request (of_format t f) (Mark id frame)) f limit fields still
    ∙ sym (open_file (of_format t f) f limit fields still) in
    let len = ap length same in
    record {
      no_shorter = omega (arith, len);
      no_longer = omega arith;
      kept = ap (λ (z : List ℕ). slice_range z 0 (length (file_with f (of_format t f) limit))) same;
    }

field_between : (t : Take) (f : Format) (limit tag : ℕ) (value : List ℕ) → AreFields t.fields →
    AreFields (with_field t.fields tag value) → t.closed ≡ false
    → IsBetween (of_format t f) limit (SetField tag value)
    (file_of (with_request (of_format t f) (SetField tag value)) limit)
field_between t f limit tag value fields set still =
    let s = t.samples in
    let place = data_place (length t.history) in
    let hd = header f t.fields t.history (length s) 0 limit in
    let hd' = header f (with_field t.fields tag value) t.history (length s) 0 limit in
    let p = pad (length s) in
    let whole : s ++ p ≡ (s ++ p) ++ [] = sym (nothing_more (s ++ p)) in
    let old = open_file (of_format t f) f limit fields still ∙ ap (λ (z : List ℕ). hd ++ z) whole in
    let new =
    open_file (with_request (of_format t f) (SetField tag value)) f limit set still
    ∙ ap (λ (z : List ℕ). hd' ++ z) whole in
    let h : length hd ≡ place = length-header f t.fields t.history (length s) 0 limit fields in
    let h' : length hd' ≡ place = length-header f (with_field t.fields tag value) t.history (length s) 0 limit set in
    let old_len = ap length old ∙ length-three hd (s ++ p) [] in
    let new_len = ap length new ∙ length-three hd' (s ++ p) [] in
    kept_same _ _ hd hd' (s ++ p) [] [] place _ old new h h' (omega (arith, old_len, h))
    (omega (arith, old_len, new_len, h, h'))

close_between : (t : Take) (f : Format) (limit total : ℕ) → AreFields t.fields → t.closed ≡ false
    → IsBetween (of_format t f) limit (Close total) (file_of (with_request (of_format t f) (Close total)) limit)
close_between t f limit total fields still =
    let s = t.samples in
    let place = data_place (length t.history) in
    let hd = header f t.fields t.history (length s) 0 limit in
    let hd' = header f t.fields t.history (length s) (length t.markers) limit in
    let p = pad (length s) in
    let cue = flat_map chunk (cue_chunks t.markers) in
    let old =
    open_file (of_format t f) f limit fields still ∙ ap (λ (z : List ℕ). hd ++ z) (sym (nothing_more (s ++ p))) in
    let new =
    header_of_file f (with_request (of_format t f) (Close total)) limit fields
    ∙ ap (λ (z : List ℕ). z ++ cue) (append_assoc hd' s p)
    ∙ append_assoc hd' (s ++ p) cue in
    let h : length hd ≡ place = length-header f t.fields t.history (length s) 0 limit fields in
    let h' : length hd' ≡ place = length-header f t.fields t.history (length s) (length t.markers) limit fields in
    let old_len = ap length old ∙ length-three hd (s ++ p) [] in
    let new_len = ap length new ∙ length-three hd' (s ++ p) cue in
    kept_same _ _ hd hd' (s ++ p) [] cue place _ old new h h' (omega (arith, old_len, h))
    (omega (arith, old_len, new_len, h, h'))

-- an OPEN on a take without a file
open_between : (t : Take) (limit : ℕ) (f : Format) (history : List ℕ)
    → IsBetween (record t { format = None }) limit (Open f history)
    (file_of (with_request (record t { format = None }) (Open f history)) limit)
open_between t limit f history = omega arith

abbrev Between : Take → ℕ → Request → Option Format → Type 0
Between t limit r o =
    IsBetween (record t { format = o }) limit r (file_of (with_request (record t { format = o }) r) limit)

-- of a request that is stored in an open take alone, what holds with each format
by_format : (t : Take) (limit : ℕ) (r : Request) → judge_open (parts t) None r ≢ Stored →
    judge_open (parts t) t.format r ≡ Stored → ((f : Format) → Between t limit r (Some f)) → Between t limit r t.format
by_format t limit r unopened stored each = go t.format refl
  where
    go : (o : Option Format) → t.format ≡ o → Between t limit r t.format
    go None e = absurd (unopened (subst (λ (o : Option Format). judge_open (parts t) o r ≡ Stored) e stored))
    go (Some f) e = subst (Between t limit r) (sym e) (each f)

pub new_files_are_between : NewFilesAreBetween
new_files_are_between t limit r fields stored = go r stored (stored_open (parts t) r stored)
  where
    go : (r : Request) → judge (parts t) r ≡ Stored →
        ((parts t).closed ≡ false) × (judge_open (parts t) t.format r ≡ Stored) →
        IsBetween t limit r (file_of (with_request t r) limit)
    go (Open f history) stored ready =
        subst (Between t limit (Open f history)) (sym (opened_once (parts t) f history stored))
        (open_between t limit f history)
    go (Block bytes) stored ready = by_format t limit (Block bytes) (λ e. cc) ready.1
        (λ f. block_between t f limit bytes fields ready.0)
    go (Mark id frame) stored ready = by_format t limit (Mark id frame) (λ e. cc) ready.1
        (λ f. mark_between t f limit id frame fields ready.0)
    go (SetField tag value) stored ready = by_format t limit (SetField tag value) (λ e. cc) ready.1
        (λ f. field_between t f limit tag value fields
        (fields-with t.fields tag value fields (set_without_fault (parts t) tag value stored)) ready.0)
    go (Close total) stored ready = by_format t limit (Close total) (λ e. cc) ready.1
        (λ f. close_between t f limit total fields ready.0)
