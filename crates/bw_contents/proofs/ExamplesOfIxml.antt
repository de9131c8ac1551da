-- The worked `iXML` chunks hold.
use Rattle.std.proofs.Common.{refl}
use Rattle.std.specs.Char.{encode_utf8}
use Rattle.std.specs.Str.{chars, is_utf8}
use Rattle.bw_contents.specs.Markup.{name_at, char_named, char_written}
use Rattle.bw_contents.specs.Pieces.{after_quoted, after_value, attribute_at, begin_at, cdata_at, comment_at}
use Rattle.bw_contents.specs.Pieces.{content_piece_at, data_at, end_tag_at, instruction_at, piece_at}
use Rattle.bw_contents.specs.Pieces.{reference_at, tag_part_at}
use Rattle.bw_contents.specs.ExamplesOfIxml.{IxmlExample, MalformedIxmlExample}

pub ixml_example : IxmlExample
unfolding chars encode_utf8 is_utf8 name_at char_named char_written after_quoted after_value attribute_at begin_at cdata_at
    comment_at content_piece_at data_at end_tag_at instruction_at piece_at reference_at tag_part_at
ixml_example = refl

pub malformed_ixml_example : MalformedIxmlExample
unfolding chars encode_utf8 is_utf8 name_at char_named char_written after_quoted after_value attribute_at begin_at cdata_at
    comment_at content_piece_at data_at end_tag_at instruction_at piece_at reference_at tag_part_at
malformed_ixml_example = refl
