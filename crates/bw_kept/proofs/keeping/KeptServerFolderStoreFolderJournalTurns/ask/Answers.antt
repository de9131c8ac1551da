use Rattle.std.proofs.Common.{rules, ℕ, List, [], ◌∷◌, refl, ◌∙◌, ap}
use Rattle.bw_model.specs.Replies.{Reply, Noticed, DelayedStore}
use Rattle.bw_model.specs.Wire.{Asks}
use Rattle.bw_wire.specs.Frames.{asked_name, asked_number}
use Rattle.bw_wire.specs.Replies.{reply_of}
use Rattle.bw_kept.proofs.TurnForms.{known_turn_of, new_turn_of, put_off_turn_of}
use Rattle.bw_kept.proofs.keeping.KeptServerFolderStoreFolderJournalTurns.ask.Goals as goal

pub returns-in-Known-clause-answered : goal.returns-in-Known-clause-answered
returns-in-Known-clause-answered g c =
    known_turn_of _ _ _ _ c.args.self.now.server c.find.new.server c.answer.new.self.server
    (Asks (asked_name c.args.ask.now) (asked_number c.args.ask.now)) (reply_of c.answer.result ∷ []) c.name-name.result
    c.name-name.ensures (search rules) c.find.ensures.counts c.in-Known.ensures.inside c.in-Known.ensures.found c.in-Known.ensures.books
    c.answer.ensures.turned

pub returns-in-New-clause-answered : goal.returns-in-New-clause-answered
returns-in-New-clause-answered g c =
    new_turn_of _ _ _ _ c.args.self.now.server c.find.new.server c.answer-reply.new.self.server
    c.close_unknown.new.server (Asks (asked_name c.args.ask.now) (asked_number c.args.ask.now))
    (reply_of c.answer-reply.result ∷ []) c.name-name.result c.name-name.ensures (search rules) c.find.ensures.counts
    c.in-New.ensures.inside c.in-New.ensures.books c.answer-reply.ensures.turned (c.in-New.ensures.place refl)
    c.close_unknown.ensures.kept c.close_unknown.ensures.sessions

pub returns-in-PutOff-clause-answered : goal.returns-in-PutOff-clause-answered
returns-in-PutOff-clause-answered g c =
    put_off_turn_of _ _ _ _ _ c.args.self.now.server c.find.new.server
    (Asks (asked_name c.args.ask.now) (asked_number c.args.ask.now)) (reply_of c.delayed.result ∷ []) c.name-name.result
    c.name-name.ensures (search rules) c.find.ensures.counts c.in-PutOff.ensures.inside c.in-PutOff.ensures.books
    (ap (λ (r : Reply). r ∷ []) (c.delayed.ensures.reply
    ∙ ap (λ (n : List ℕ). Noticed n c.number.result DelayedStore 0) c.name-name.ensures
    ∙ ap (λ (k : ℕ). Noticed (asked_name c.args.ask.now) k DelayedStore 0) c.number.ensures.value))
