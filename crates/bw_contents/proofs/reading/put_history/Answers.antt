use Rattle.std.proofs.Common.{◌≡◌, ◌-◌, arith, drop, length, take, length-drop}
use Rattle.std.proofs.lemmas.Bool.{lt-ltb}
use Rattle.std.proofs.lemmas.List.{take_all}
use Rattle.bw_contents.proofs.reading.put_history.Goals as goal

pub returns-then-bytes-gt602 : goal.returns-then-bytes-gt602
returns-then-bytes-gt602 c =
    let bytes = c.args.bytes.now in
    let rest : take (length bytes - 602) (drop 602 bytes) ≡ drop 602 bytes =
    take_all (length bytes - 602) (drop 602 bytes) (omega (arith, length-drop 602 bytes)) in
    rw (lt-ltb 602 (length bytes) c.if-bytes-gt602.true) (rw rest at c.put_text.ensures)
