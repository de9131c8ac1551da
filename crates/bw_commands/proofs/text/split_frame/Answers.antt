use Rattle.std.proofs.Common.{arith, ◌≡◌, ◌∙◌, ◌+◌, length}
use Rattle.std.proofs.lemmas.List.{take_rest}
use Rattle.std.proofs.lemmas.Nat.{from_le_bytes-to_le_bytes_4}
use Rattle.std.proofs.Math.Seq.{drop-append_seam, take-append_seam}
use Rattle.bw_model.specs.Wire.{framed}
use Rattle.bw_commands.proofs.text.split_frame.Goals as goal

pub returns-then-count-rest-clause-frame : goal.returns-then-count-rest-clause-frame
returns-then-count-rest-clause-frame c body more h e =
    let count : c.from_le_bytes-count.result ≡ length body =
    (rw e at c.from_le_bytes-count.ensures) ∙ from_le_bytes-to_le_bytes_4 (length body) h in
    let whole : 4 + c.from_le_bytes-count.result ≡ length (framed body) = omega arith in
    rw (take_rest c.args.bytes.now (4 + c.from_le_bytes-count.result), whole, e)
    (take-append_seam (framed body) more, drop-append_seam (framed body) more)
