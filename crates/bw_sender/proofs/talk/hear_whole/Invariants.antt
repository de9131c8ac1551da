use Rattle.std.proofs.Common.{List, length}
use Rattle.bw_model.specs.Replies.{Reply}
use Rattle.bw_sender.specs.LinkReplies.{HearsThese, NotesStop}
use Rattle.bw_sender.proofs.talk.hear_whole.Given as goal

abbrev pub invariant-loop-stop : goal.invariant-loop-stop
invariant-loop-stop l = (heard : List Reply) × HearsThese heard l.fn.sender l.sender l.fn.framer l.framer
    × NotesStop l.first heard l.fn.sender

abbrev pub decreases-loop-stop : goal.decreases-loop-stop
decreases-loop-stop l = length l.framer.bytes
