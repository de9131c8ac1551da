use Rattle.bw_model.proofs.BookLaws.{empty_book, turns_keep_books, no_name_twice, names_report_the_length}
use Rattle.bw_model.proofs.law_books.Goals as goal

pub returns : goal.returns
returns c = record { start = empty_book; turns = turns_keep_books; once = no_name_twice; len = names_report_the_length }
