use Rattle.std.proofs.Common.{◌≡◌, ℕ, ◌+◌, suc, List, drop, Option, ◌∙◌, ap, sym, arith, Bor}
use Rattle.std.specs.Prelude.{option_map, option_copied}
use Rattle.std.specs.List.{list_any}
use Rattle.bw_sender.specs.declared.window.Offered.{Offered}
use Rattle.bw_sender.specs.Entries.{SenderEntry, closes}
use Rattle.bw_sender.specs.Offers.{sender_entry}
use Rattle.bw_sender.proofs.EntryLaws.{drop_at, drop_past, or_left}
use Rattle.bw_sender.proofs.window.Window.has_closed.Goals as goal
use Rattle.bw_sender.proofs.window.Window.has_closed.Goals.{in-Some+else-closes, in_default}

abbrev lent : Option (Bor Offered) → Option SenderEntry
lent o = option_map sender_entry (option_copied o)

one_more : (w : List SenderEntry) (slot : ℕ) → list_any closes (drop (suc slot) w) ≡ list_any closes (drop (slot + 1) w)
one_more w slot = let same : suc slot ≡ slot + 1 = omega arith in ap (λ (n : ℕ). list_any closes (drop n w)) same

pub returns-then-closes : goal.returns-then-closes
returns-then-closes c =
    sym (c.loop-slot.invariant.none
    ∙ ap (list_any closes) (drop_at c.loop-slot.slot c.args.self.now (sender_entry c.in-Some.offered.now)
    (sym c.get.ensures.value ∙ ap lent c.in-Some.is))
    ∙ or_left _ (sym c.closes.ensures ∙ c.if-closes.true))

pub loop-slot-preserved : goal.loop-slot-preserved
loop-slot-preserved c =
    elim c.match-get.branch [
      | in-Some+else-closes w ↦ record {
        none = c.loop-slot.invariant.none
            ∙ ap (list_any closes) (drop_at c.loop-slot.slot c.args.self.now (sender_entry w.in-Some.offered.now)
            (sym c.get.ensures.value ∙ ap lent w.in-Some.is))
            ∙ or_left _ (sym w.closes.ensures ∙ w.if-closes.false)
            ∙ one_more c.args.self.now c.loop-slot.slot;
      }
      | in_default w ↦ record {
        none = c.loop-slot.invariant.none
            ∙ ap (list_any closes) (drop_past c.loop-slot.slot c.args.self.now
            (sym c.get.ensures.value ∙ ap lent w.in_default.is))
            ∙ one_more c.args.self.now c.loop-slot.slot;
      }
    ]
