-- What is shown of the first reply of bytes, and what it was to the sender.
use Rattle.std.proofs.Common.{◌≡◌, ◌≢◌, ℕ, ◌+◌, ◌-◌, ◌≤◌, Bool, true, false, List, length, drop, Result, Ok, Err}
use Rattle.std.proofs.Common.{refl, sym, ◌∙◌, ap, subst, arith}
use Rattle.std.specs.Prelude.{if◌then◌else◌}
use Rattle.std.proofs.lemmas.List.{length-drop}
use Rattle.bw_model.specs.Wire.{Reason, Length, Kind, Name, Number, Payload, Cut, reason_code}
use Rattle.bw_model.specs.Replies.{Reply, Judged, Noticed, Refused}
use Rattle.bw_model.specs.World.{Sender as Defined, heard}
use Rattle.bw_sender.specs.HeardReplies.{heard_of, heard_number}
use Rattle.bw_sender.specs.declared.heard.Heard.{Heard}
use Rattle.bw_sender.specs.declared.heard.Heard.TheVariants as heards
use Rattle.bw_c.specs.PlainSenders.{IsPlainSender}
use Rattle.bw_c.specs.ShownReplies.{is_cut, without_numbers, shown_reply, shown, used, hear_first, heard_code, heard_first}
use Rattle.bw_c.specs.declared.hearing.BwiReply.{BwiReply}
use Rattle.bw_c.specs.declared.sender.BwiSender.{BwiSender}

isnt_cut : (r : Reason) → r ≢ Cut → is_cut r ≡ false
isnt_cut Length h = refl
isnt_cut Kind h = refl
isnt_cut Name h = refl
isnt_cut Number h = refl
isnt_cut Payload h = refl
isnt_cut Cut h = absurd (h refl)

-- bytes that are no reply
pub shown_bad : (h : ℕ) (r : Reason) → r ≢ Cut → shown h (Err r) ≡ without_numbers 4 (reason_code r)
shown_bad h r e =
    ap (λ (b : Bool). if b then without_numbers 0 0 else without_numbers 4 (reason_code r)) (isnt_cut r e)

shown_heard : (h : ℕ) (r : Reply) → (shown_reply h r).heard ≡ h
shown_heard h (Judged name n v) = refl
shown_heard h (Noticed name n code next) = refl
shown_heard h (Refused reason place) = refl

heard_coded : (h : Heard) → heard_code (heard_of h) ≡ heard_number h
heard_coded heards.Counted = refl
heard_coded heards.Known = refl
heard_coded heards.Noted = refl
heard_coded heards.Stranger = refl

-- what is shown names what it was
pub shown_as : (y : BwiReply) (h : ℕ) (r : Reply) → y ≡ shown_reply h r → y.heard ≡ h
shown_as y h r e = ap (λ (z : BwiReply). z.heard) e ∙ shown_heard h r

pub shown_whole : (y : BwiReply) (h : ℕ) (first : Result (Reply × List ℕ) Reason) (r : Reply) (more : List ℕ) →
    first ≡ Ok (r, more) → y ≡ shown_reply h r → y ≡ shown y.heard first
shown_whole y h first r more e shows =
    shows ∙ ap (λ (k : ℕ). shown_reply k r) (sym (shown_as y h r shows)) ∙ sym (ap (shown y.heard) e)

pub used_whole : (bytes : List ℕ) (n : ℕ) (first : Result (Reply × List ℕ) Reason) (r : Reply) →
    first ≡ Ok (r, drop n bytes) → n ≤ length bytes → n ≡ used (length bytes) first
used_whole bytes n first r e within =
    let left = length-drop n bytes in
    let same : n ≡ length bytes - length (drop n bytes) = omega (arith, left, within) in
    same ∙ sym (ap (used (length bytes)) e)

pub heard_whole : (s : Defined) (y : BwiReply) (taken : Heard) (h : ℕ) (first : Result (Reply × List ℕ) Reason)
    (r : Reply) (more : List ℕ) → first ≡ Ok (r, more) → y ≡ shown_reply h r → h ≡ heard_number taken →
    heard_of taken ≡ heard s r → y.heard ≡ heard_first s first
heard_whole s y taken h first r more e shows code was =
    shown_as y h r shows ∙ code ∙ sym (heard_coded taken) ∙ ap heard_code was ∙ sym (ap (heard_first s) e)

pub uncounted_whole : (y : BwiReply) (taken : Heard) (h : ℕ) (r : Reply) → y ≡ shown_reply h r →
    h ≡ heard_number taken → y.heard ≢ 1 → taken ≢ heards.Counted
uncounted_whole y taken h r shows code isnt counted =
    isnt (shown_as y h r shows ∙ code ∙ ap heard_number counted)
