use Rattle.std.proofs.Common.{◌≡◌, ◌-◌, []}
use Rattle.bw_contents.specs.Documents.{none_open, said_after_pieces}
use Rattle.bw_contents.proofs.document.read_pieces.Given as goal

abbrev pub invariant-loop : goal.invariant-loop
invariant-loop l = said_after_pieces (l.most - l.counter) l.elements l.tag l.rest
    ≡ said_after_pieces l.most none_open [] l.bytes
