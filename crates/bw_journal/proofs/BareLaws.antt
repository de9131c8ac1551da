-- Without its samples a request is judged the same way, and leaves the same parts.
use Rattle.std.proofs.Common.{◌≡◌, ℕ, ◌+◌, ◌%◌, Bool, true, false, cond, Option, Some, None, List, length, refl, sym}
use Rattle.std.proofs.Common.{ap, ◌∙◌, length-append}
use Rattle.std.specs.Prelude.{◌==◌, if◌then◌else◌}
use Rattle.std.proofs.lemmas.Bool.{eq-eqb}
use Rattle.bw_model.specs.Take.{Take, Parts, Format, Request, Open, Block, Mark, SetField, Close, Verdict, Stored}
use Rattle.bw_model.specs.Take.{BadBlock, Closed, judge, judge_open, block_align, parts, verdict, is_stored}
use Rattle.bw_model.specs.Take.{with_request, after}
use Rattle.bw_model.specs.Replies.{verdict_code}
use Rattle.bw_take.specs.States.{parts_with}
use Rattle.bw_journal.specs.Entries.{bare}
use Rattle.bw_journal.specs.Replays.{parts_after, is_judged}
use Rattle.bw_journal.proofs.EntryReads.{zeros-length}

judged_open_alike : (p : Parts) (o : Option Format) (r : Request) → judge_open p o (bare r) ≡ judge_open p o r
judged_open_alike p (Some f) (Block bytes) =
    ap (λ (n : ℕ). if n % block_align f == 0 then Stored else BadBlock) (zeros-length (length bytes))
judged_open_alike p None (Block bytes) = refl
judged_open_alike p o (Open f history) = refl
judged_open_alike p o (Mark id frame) = refl
judged_open_alike p o (SetField tag value) = refl
judged_open_alike p o (Close total) = refl

pub judged_alike : (p : Parts) (r : Request) → judge p (bare r) ≡ judge p r
unfolding judge
judged_alike p r = ap (λ (v : Verdict). if p.closed then Closed else v) (judged_open_alike p p.format r)

stored_alike : (t : Take) (r : Request) → parts_with (parts t) (bare r) ≡ parts (with_request t r)
stored_alike t (Block bytes) =
    ap (λ (n : ℕ). record {
      format = t.format;
      fields = t.fields;
      history = t.history;
      samples_len = n;
      markers = t.markers;
      taken =
          t.taken;
      closed = t.closed;
    })
    (ap (λ (n : ℕ). length t.samples + n) (zeros-length (length bytes)) ∙ sym (length-append t.samples bytes))
stored_alike t (Open f history) = refl
stored_alike t (Mark id frame) = refl
stored_alike t (SetField tag value) = refl
stored_alike t (Close total) = refl

pub parts_alike : (t : Take) (r : Request) → parts_after (parts t) (verdict t r) (bare r) ≡ parts (after t r)
parts_alike t r = go (is_stored (verdict t r)) refl
  where
    go : (v : Bool) → is_stored (verdict t r) ≡ v →
        cond v (parts_with (parts t) (bare r)) (parts t) ≡ parts (cond v (with_request t r) t)
    go true e = stored_alike t r
    go false e = refl

-- an entry with the verdict of a take is judged as it says
pub entry_judged : (t : Take) (r : Request) (digest : List ℕ) →
    is_judged (parts t) (record { request = bare r; verdict = verdict t r; digest = digest }) ≡ true
entry_judged t r digest = eq-eqb _ _ (ap verdict_code (judged_alike (parts t) r))
