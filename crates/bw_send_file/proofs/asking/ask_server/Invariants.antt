use Rattle.bw_send_file.specs.Asks.{AsksInVain}
use Rattle.bw_send_file.proofs.asking.ask_server.Given as goal

abbrev pub invariant-loop-fruitless : goal.invariant-loop-fruitless
invariant-loop-fruitless g l =
    AsksInVain g.P.Pause g.D.Dial g.D.Reader.Source g.D.Writer.Sink l.name l.most l.fruitless
    (record { pause = l.fn.pause; dial = l.fn.dial }) (record { pause = l.pause; dial = l.dial })
