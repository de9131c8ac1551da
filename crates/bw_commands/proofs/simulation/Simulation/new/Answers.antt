use Rattle.std.proofs.Common.{refl, subst, ap, List, [], ℕ, Option, map}
use Rattle.std.proofs.Math.Path.{fun_ext}
use Rattle.bw_session.specs.Books.{HoldsBook}
use Rattle.bw_wire.specs.Replies.{reply_of}
use Rattle.bw_commands.proofs.Staging.{no_frames}
use Rattle.bw_commands.proofs.simulation.Simulation.new.Goals as goal

pub returns-clause-simulated : goal.returns-clause-simulated
returns-clause-simulated c = record {
  sender = c.in_ok-sender.ensures;
  offered = refl;
  sent = no_frames _ c.new-4.ensures.items;
  replies = ap (map reply_of) c.new-5.ensures.items;
  limited = c.in-Ok.ensures.limit;
  held = subst (λ (first : List ℕ → Option (List ℕ)). HoldsBook _ _ first c.in-Ok.server [])
      (fun_ext c.new-2.ensures.empty) c.in-Ok.ensures.book;
}
