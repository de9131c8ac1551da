use Rattle.std.proofs.Common.{◌∙◌, arith, take_all}
use Rattle.std.specs.Prelude.{is_some}
use Rattle.bw_model.specs.Book.{is_known}
use Rattle.bw_serve_status.proofs.ShownTakes.{each_more, known_at, names_more}
use Rattle.bw_serve_status.proofs.takes.takes_under.Goals as goal

pub loop-name-preserved : goal.loop-name-preserved
loop-name-preserved g c = record {
  names = names_more c.args.names.now c.loop-name.name-index c.name-item.result c.loop-name.takes.items _ _
      (omega arith) c.name-item.is c.in_ok-push.ensures.items c.in_ok-take_of.ensures.name
      c.loop-name.invariant.names;
  each = λ first book holds known. each_more (λ name. is_some (first name)) book c.args.tallies.now
      c.args.peers.now c.args.around c.name-item.result c.loop-name.takes.items _ _ c.in_ok-push.ensures.items
      c.in_ok-take_of.ensures.name (c.in_ok-take_of.ensures.take first book holds
      (known_at (is_known book) c.args.names.now c.loop-name.name-index c.name-item.result (omega arith)
      c.name-item.is known)) (c.loop-name.invariant.each first book holds known);
}

pub returns-clause-names : goal.returns-clause-names
returns-clause-names g c = c.loop-name.invariant.names
    ∙ take_all c.loop-name.name-index c.args.names.now (omega arith)
