use Rattle.std.proofs.Common.{◌≡◌, ◌∙◌, false, ap, sym}
use Rattle.std.specs.Str.{is_utf8}
use Rattle.bw_contents.specs.XmlChunks.{before_padding, is_utf16}
use Rattle.bw_contents.proofs.xml.put_unread.Goals as goal

pub returns-then-not-is_text : goal.returns-then-not-is_text
returns-then-not-is_text c =
    let utf16 : is_utf16 c.args.bytes.now ≡ false = sym c.is_utf16.ensures ∙ c.if-is_utf16.false in
    let other : is_utf8 (before_padding c.args.bytes.now) ≡ false =
    ap is_utf8 (sym c.before_padding-text.ensures) ∙ sym c.is_text.ensures ∙ c.if-not-is_text.true in
    rw (utf16, other) c.put_text-then-not-is_text.ensures
