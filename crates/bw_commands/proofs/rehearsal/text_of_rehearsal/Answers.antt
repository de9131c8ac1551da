use Rattle.bw_commands.proofs.rehearsal.text_of_rehearsal.Goals as goal

pub returns-clause-ok : goal.returns-clause-ok
returns-clause-ok c = record {
  within = c.requires;
  events = _;
  said = c.in_ok-events.ensures.ok;
  right = rw c.as_slice.ensures.value at c.in_ok-world_text.ensures;
}
