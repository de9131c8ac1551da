use Rattle.std.proofs.Common.{◌≡◌, ℕ, ◌+◌, ◌≤◌, length, arith}
use Rattle.std.specs.Prelude.{nat_eq, nat_le}
use Rattle.std.proofs.lemmas.Bool.Decides.{nat_tests}
use Rattle.bw_model.specs.World.{settled}
use Rattle.bw_sender.proofs.SenderLaws.{counted}
use Rattle.bw_sender.proofs.sender.Sender.is_full.Goals as goal

all_there : (n k o : ℕ) → k + n ≡ o → n ≤ 16 → nat_eq n 16 ≡ nat_le (k + 16) o
all_there n k o e few = grind (arith, nat_tests)

pub returns : goal.returns
returns c = λ s f.
    let all = counted (settled s) s c.args.self.now f in
    all_there c.len.result (settled s) (length s.offered)
    (omega (arith, all, f.offered, c.len.ensures.value)) c.len.ensures.few
