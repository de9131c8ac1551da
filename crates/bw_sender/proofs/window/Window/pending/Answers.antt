use Rattle.std.proofs.Common.{◌≡◌, ℕ, suc, ◌+◌, List, drop, ◌∙◌, ap, sym, arith}
use Rattle.std.specs.Prelude.{slice_get, option_copied}
use Rattle.bw_model.specs.Take.{Request}
use Rattle.bw_sender.specs.Entries.{SenderEntry, pending_entries}
use Rattle.bw_sender.proofs.EntryLaws.{pending_some, pending_none, get_past, get_first}
use Rattle.bw_sender.proofs.window.Window.pending.Goals as goal
use Rattle.bw_sender.proofs.window.Window.pending.Goals.{in-Some+else-left-eq0, in_default}

one_more : (w : List SenderEntry) (first slot : ℕ) → pending_entries (suc (first + slot)) (drop (suc slot) w)
    ≡ pending_entries (first + (slot + 1)) (drop (slot + 1) w)
one_more w first slot =
    let next : suc slot ≡ slot + 1 = omega arith in
    let number : suc (first + slot) ≡ first + (slot + 1) = omega arith in
    ap (λ (n : ℕ). pending_entries n (drop (suc slot) w)) number
    ∙ ap (λ (n : ℕ). pending_entries (first + (slot + 1)) (drop n w)) next

pub returns-then-left-eq0-clause-value : goal.returns-then-left-eq0-clause-value
returns-then-left-eq0-clause-value c =
    sym (c.loop-slot.invariant.rest
    ∙ ap (λ (ps : List (ℕ × Request)). slice_get ps c.loop-slot.left)
    (pending_some c.loop-slot.slot (c.args.first + c.loop-slot.slot) c.args.self.now c.in-Some.request.now
    (sym c.request_pending.ensures ∙ ap option_copied c.in-Some.is))
    ∙ get_first _ _ c.loop-slot.left c.if-left-eq0.true)

pub loop-slot-preserved : goal.loop-slot-preserved
loop-slot-preserved c =
    elim c.match-request_pending.branch [
      | in-Some+else-left-eq0 w ↦ record {
        rest = c.loop-slot.invariant.rest
            ∙ ap (λ (ps : List (ℕ × Request)). slice_get ps c.loop-slot.left)
            (pending_some c.loop-slot.slot (c.args.first + c.loop-slot.slot) c.args.self.now w.in-Some.request.now
            (sym c.request_pending.ensures ∙ ap option_copied w.in-Some.is))
            ∙ get_past _ _ c.loop-slot.left _ (omega (arith, w.left-is, w.if-left-eq0.false))
            ∙ ap (λ (ps : List (ℕ × Request)). slice_get ps c.match-request_pending.left)
            (one_more c.args.self.now c.args.first c.loop-slot.slot);
      }
      | in_default w ↦ record {
        rest = c.loop-slot.invariant.rest
            ∙ ap (λ (ps : List (ℕ × Request)). slice_get ps c.loop-slot.left)
            (pending_none c.loop-slot.slot (c.args.first + c.loop-slot.slot) c.args.self.now
            (sym c.request_pending.ensures ∙ ap option_copied w.in_default.is))
            ∙ ap (λ (ps : List (ℕ × Request)). slice_get ps c.loop-slot.left)
            (one_more c.args.self.now c.args.first c.loop-slot.slot)
            ∙ ap (slice_get _) (sym w.left-is);
      }
    ]
