use Rattle.std.proofs.Common.{◌∙◌, inl, inr, refl, sym}
use Rattle.bw_program.proofs.sources.send_pcm_there.Goals as goal

pub returns-then-is_odd : goal.returns-then-is_odd
returns-then-is_odd g c =
    let l = c.refuse_kind.ensures in (
      (
        c.kind_at-kind.result,
        rw c.as_str-path.ensures.value at c.kind_at-kind.ensures,
        inl (record {
          odd = sym c.is_odd.ensures ∙ c.if-is_odd.true;
          print = l.0;
          says = rw c.as_str-path.ensures.value at l.1;
          unread = refl;
          unpaused = refl;
          unprinted = refl;
          reports = l.2;
        }),
      ),
      refl,
      refl,
      refl,
      refl,
    )

pub returns-then-sender : goal.returns-then-sender
returns-then-sender g c =
    let sent = c.send_pcm_watched.ensures in (
      (
        c.kind_at-kind.result,
        rw c.as_str-path.ensures.value at c.kind_at-kind.ensures,
        inr (sym c.is_odd.ensures ∙ c.if-is_odd.false, sent.sent),
      ),
      sent.well,
      sent.unused,
      sent.unread,
      sent.kept,
    )

pub returns : goal.returns
returns g c =
    let sent = c.send_pcm_watched-2.ensures in (
      (
        c.kind_at-kind.result,
        rw c.as_str-path.ensures.value at c.kind_at-kind.ensures,
        inr (sym c.is_odd.ensures ∙ c.if-is_odd.false, sent.sent),
      ),
      sent.well,
      sent.unused,
      sent.unread,
      sent.kept,
    )
