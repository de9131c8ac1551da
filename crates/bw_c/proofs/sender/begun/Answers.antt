use Rattle.std.proofs.Common.{◌≡◌, ℕ, ◌+◌, ◌≤◌, length, sym, ◌∙◌, ap, arith}
use Rattle.std.proofs.lemmas.List.{get_or-replicate}
use Rattle.bw_sender.proofs.Resumed.{resumed_settled, resumed_within, resumed_stored}
use Rattle.bw_c.proofs.SlotLaws.{padded_name, begun_slot}
use Rattle.bw_c.proofs.sender.begun.Goals as goal

pub returns : goal.returns
returns c = λ s h.
    let name = c.args.name.now in
    let count = c.args.stored in
    let all = resumed_settled name count s h in
    let within = resumed_within name count s h in
    record {
      name = padded_name _ _ _ c.copy_from_slice.ensures.after ∙ c.as_bytes-bytes.ensures.value ∙ sym h.name_is;
      offered = sym h.offered;
      within = within;
      few = omega (arith, all, h.offered);
      prefix = omega arith;
      settled = sym all;
      slots = λ i small. get_or-replicate 16 i 0 0 small ∙ begun_slot s i (omega (arith, within, all, h.offered));
      stored = sym (resumed_stored name count s h);
    }
