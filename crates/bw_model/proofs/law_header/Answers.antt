use Rattle.bw_model.proofs.HeaderLaws.{header_of_file, length-header, form_len-form_size}
use Rattle.bw_model.proofs.law_header.Goals as goal

pub returns : goal.returns
returns c = record { prefix = header_of_file; end = length-header; size = form_len-form_size }
