use Rattle.bw_journal.proofs.CutLaws.{books_are_cut, cut_books_are_books}
use Rattle.bw_journal.proofs.StopLaws.{each_world_goes_on}
use Rattle.bw_journal.proofs.laws.law_stops.Goals as goal

pub returns : goal.returns
returns c = search (books_are_cut, cut_books_are_books, each_world_goes_on)
