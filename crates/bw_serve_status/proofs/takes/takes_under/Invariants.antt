use Rattle.std.proofs.Common.{◌≡◌, ℕ, List, Option, map, take}
use Rattle.std.specs.Prelude.{IsTrue, is_some}
use Rattle.std.specs.List.{All}
use Rattle.bw_model.specs.Book.{Book, is_known}
use Rattle.bw_session.specs.Books.{HoldsBook}
use Rattle.bw_serve_status.specs.Takes.{ShowsOf, take_name}
use Rattle.bw_serve_status.proofs.takes.takes_under.Given as goal

abbrev pub invariant-loop-name : goal.invariant-loop-name
invariant-loop-name g l = record {
  names : map take_name l.takes.items ≡ take l.name-index l.names;
  each : (first : List ℕ → Option (List ℕ)) (book : Book) → HoldsBook g.S.TakeStore g.J.Journal first l.fn.server book →
      All (λ name. IsTrue (is_known book name)) l.names →
      All (ShowsOf (λ name. is_some (first name)) book l.fn.tallies l.fn.peers l.fn.around) l.takes.items;
}
