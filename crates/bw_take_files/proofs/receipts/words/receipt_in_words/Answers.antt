use Rattle.bw_take_files.proofs.LineLemmas.{no_count, no_words, text_says}
use Rattle.bw_take_files.proofs.receipts.words.receipt_in_words.Goals as goal

pub returns-in_default : goal.returns-in_default
returns-in_default c = no_words c.args.line.now c.in_default.ensures

pub returns-in_default-count_of : goal.returns-in_default-count_of
returns-in_default-count_of c = no_count c.args.line.now _ _ _ c.in-Some.ensures c.in_default-count_of.ensures

pub returns : goal.returns
returns c = text_says c.args.line.now _ _ _ _ _ c.in-Some.ensures c.in-Some-count_of.ensures c.receipt_of.ensures
