use Rattle.std.proofs.Common.{rules, ℕ, List, [], ◌∷◌, map, refl, ◌∙◌, ap}
use Rattle.bw_model.specs.Replies.{Noticed, DelayedStore}
use Rattle.bw_model.specs.Wire.{Says}
use Rattle.bw_wire.specs.Frames.{message_of}
use Rattle.bw_wire.specs.Replies.{reply_of}
use Rattle.bw_kept.proofs.TurnForms.{known_turn_of, new_turn_of, put_off_turn_of}
use Rattle.bw_kept.proofs.keeping.KeptServerFolderStoreFolderJournalTurns.turn.Goals as goal

pub returns-in-Known-clause-answered : goal.returns-in-Known-clause-answered
returns-in-Known-clause-answered g c =
    known_turn_of _ _ _ _ c.args.self.now.server c.find.new.server c.serve.new.self.server
    (Says (message_of c.args.message.now)) (map reply_of c.serve.new.replies.items) c.name-name.result c.name-name.ensures (search rules)
    c.find.ensures.counts c.in-Known.ensures.inside c.in-Known.ensures.found c.in-Known.ensures.books c.serve.ensures.turned

pub returns-in-New-clause-answered : goal.returns-in-New-clause-answered
returns-in-New-clause-answered g c =
    new_turn_of _ _ _ _ c.args.self.now.server c.find.new.server c.serve-in-New.new.self.server
    c.close_unknown.new.server (Says (message_of c.args.message.now)) (map reply_of c.serve-in-New.new.replies.items)
    c.name-name.result c.name-name.ensures (search rules) c.find.ensures.counts c.in-New.ensures.inside c.in-New.ensures.books
    c.serve-in-New.ensures.turned (c.in-New.ensures.place refl) c.close_unknown.ensures.kept
    c.close_unknown.ensures.sessions

pub returns-in-PutOff-clause-answered : goal.returns-in-PutOff-clause-answered
returns-in-PutOff-clause-answered g c =
    put_off_turn_of _ _ _ _ _ c.args.self.now.server c.find.new.server (Says (message_of c.args.message.now))
    (map reply_of c.put_off.new.replies.items) c.name-name.result c.name-name.ensures (search rules) c.find.ensures.counts
    c.in-PutOff.ensures.inside c.in-PutOff.ensures.books
    (c.put_off.ensures.replies
    ∙ ap (λ (n : List ℕ). Noticed n c.number.result DelayedStore 0 ∷ []) c.name-name.ensures
    ∙ ap (λ (k : ℕ). Noticed (message_of c.args.message.now).name k DelayedStore 0 ∷ []) c.number.ensures.value)
