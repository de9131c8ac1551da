use Rattle.std.proofs.Common.{◌≡◌, ◌∙◌, ℕ, List, inr, subst}
use Rattle.bw_console.specs.Text.{as_line}
use Rattle.bw_ports.specs.Counts.{settled_text}
use Rattle.bw_stream.specs.Moves.{Begins}
use Rattle.bw_send_file.proofs.keeper.StateKeeper.note.Goals as goal

pub returns-in-Err-clause-count : goal.returns-in-Err-clause-count
returns-in-Err-clause-count g c = λ s is.
    let text : c.as_bytes.result.now ≡ as_line (settled_text c.in-Some.count) =
    c.as_bytes.ensures.value ∙ c.as_str.ensures.value ∙ c.settled_line.ensures in
    inr (
      c.in-Some.count,
      c.in-Some.ensures s is,
      inr (subst (λ (t : List ℕ). Begins (g.L.StateLog.written c.args.self.now.log) t
          (g.L.StateLog.written c.append.new.self)) text c.in-Err.ensures.err),
    )
