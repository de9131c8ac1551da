use Rattle.std.proofs.Common.{◌∙◌, List, ap, subst, sym, ℕ}
use Rattle.bw_send_file.specs.FoundCounts.{SaysOfTake, may_begin_state}
use Rattle.bw_send_file.proofs.place.find_count.Goals as goal

pub returns-clause-found : goal.returns-clause-found
returns-clause-found g c = λ xs at. (
  sym (ap may_begin_state (c.as_slice.ensures.value ∙ c.in_ok-bytes.ensures.ok xs at))
      ∙ sym c.may_be_state.ensures ∙ c.if-not-may_be_state.false,
  subst (λ (b : List ℕ). SaysOfTake c.args.header.now b c.found_in.result)
      (c.as_slice-2.ensures.value ∙ c.in_ok-bytes.ensures.ok xs at) c.found_in.ensures.says,
)
