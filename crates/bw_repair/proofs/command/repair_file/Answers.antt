use Rattle.std.proofs.Common.{◌≡◌, ◌∙◌, inl, inr, true, refl}
use Rattle.bw_console.specs.Outcomes.{PrintsText}
use Rattle.bw_repair.specs.Texts.{sound_text}
use Rattle.bw_repair.proofs.command.repair_file.Goals as goal

pub returns-in-Ok-Sound : goal.returns-in-Ok-Sound
returns-in-Ok-Sound g c =
    let p = c.print_text.ensures in
    let is : c.as_bytes.result.now ≡ sound_text c.in-Ok-Sound.frames =
    c.as_bytes.ensures.value ∙ (c.as_str.ensures.value ∙ c.sound_text.ensures) in
    let printed : PrintsText (sound_text c.in-Ok-Sound.frames) p.0 = rw is at p.2 in (
      p.0,
      p.1,
      true,
      inl (record {
        frames = c.in-Ok-Sound.frames;
        right = rw c.in-Ok-Sound.field-0-is at c.in-Ok-Sound.ensures.ok;
        kept = c.in-Ok-Sound.ensures.contents;
        gives = refl;
        prints = printed;
      }),
      c.in-Ok-Sound.ensures.count,
      p.3,
    )

pub returns-in-Err-Refused : goal.returns-in-Err-Refused
returns-in-Err-Refused g c =
    let r = c.refuse.ensures in (
      r.0,
      r.1,
      true,
      inr (inr (inl (record {
        fault = c.in-Err-Refused.fault;
        right = rw c.in-Err-Refused.field-0-is at c.in-Err-Refused.ensures.err;
        kept = c.in-Err-Refused.ensures.contents;
        gives = refl;
        reports = r.2;
      }))),
      rw c.in-Err-Refused.field-0-is at c.in-Err-Refused.ensures.count,
      record { printed = rw r.2.prints refl; reported = r.3 },
    )
