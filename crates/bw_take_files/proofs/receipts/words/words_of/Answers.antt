use Rattle.std.proofs.Common.{rules}
use Rattle.bw_take_files.proofs.receipts.words.words_of.Goals as goal

pub returns : goal.returns
returns c = record {
  address = c.in_ok-_address._address.now;
  source = c.in_ok-_address._source.now;
  after_word = c.in_ok-rest.rest.now;
  after_name = c.in_ok-name.after_name.now;
  after_count = c.in_ok-count.after_count.now;
  after_label = c.in_ok-label.after_label.now;
  after_digits = c.in_ok-digits.after_digits.now;
  begins = search rules;
  name_next = search rules;
  count_next = search rules;
  label_next = search rules;
  digits_next = search rules;
  address_next = search rules;
}
