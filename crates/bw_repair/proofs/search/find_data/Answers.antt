use Rattle.std.proofs.Common.{◌∙◌, sym, ap, Some}
use Rattle.std.proofs.lemmas.Result.{err_from_is_err_and}
use Rattle.bw_model.specs.Bytes.{u32_at}
use Rattle.bw_repair.specs.DataHeads.{is_riff_wave}
use Rattle.bw_repair.proofs.Heads.{none_wave, rest_fault, some_wave, wave_long}
use Rattle.bw_repair.proofs.search.find_data.Goals as goal

pub returns-in_default-clause-ok : goal.returns-in_default-clause-ok
returns-in_default-clause-ok g c b e =
    none_wave (is_riff_wave b) (u32_at b 4) (sym c.in_default.is ∙ c.in_ok-form.ensures.ok b e)

pub returns-in_err-reached-clause-err : goal.returns-in_err-reached-clause-err
returns-in_err-reached-clause-err g c =
    let p = err_from_is_err_and c.from_residual-in_err-reached.result c.from_residual-in_err-reached.ensures.1 in
    rw (p.1, p.2) (λ b e fault is.
    let w = some_wave (is_riff_wave b) (u32_at b 4) c.in-Some.form (sym c.in-Some.is ∙ c.in_ok-form.ensures.ok b e) in
    let h = c.in_err-reached.ensures.err b (c.in_ok-form.ensures.left b e w.0) (wave_long b w.0) fault is in
    record { wave = w.0; count = h.count; place = h.place; align = h.align; before = h.before; faulted = h.faulted })

pub returns-in_err-rest-clause-err : goal.returns-in_err-rest-clause-err
returns-in_err-rest-clause-err g c =
    let p = err_from_is_err_and c.from_residual-in_err-rest.result c.from_residual-in_err-rest.ensures.1 in
    rw (p.1, p.2) (λ b e fault is.
    let w = some_wave (is_riff_wave b) (u32_at b 4) c.in-Some.form (sym c.in-Some.is ∙ c.in_ok-form.ensures.ok b e) in
    let h = c.in_ok-reached.ensures.ok b (c.in_ok-form.ensures.left b e w.0) (wave_long b w.0) in
    let l = c.in_err-rest.ensures.large fault is in
    record {
      wave = w.0;
      count = h.count;
      place = c.in_ok-reached.reached.place;
      align = c.in_ok-reached.reached.align;
      before = h.before;
      faulted = rest_fault b h.count c.in_ok-reached.reached.place h.few h.found.named
          (l.1 b h.found.rest h.found.there) ∙ ap Some (sym l.0);
    })

pub returns-clause-ok : goal.returns-clause-ok
returns-clause-ok g c b e =
    let w = some_wave (is_riff_wave b) (u32_at b 4) c.in-Some.form (sym c.in-Some.is ∙ c.in_ok-form.ensures.ok b e) in
    let h = c.in_ok-reached.ensures.ok b (c.in_ok-form.ensures.left b e w.0) (wave_long b w.0) in
    record {
      wave = w.0;
      count = h.count;
      few = h.few;
      before = h.before;
      named = h.found.named;
      form = w.1;
      size = h.found.sized;
      rest = c.in_ok-rest.ensures.ok b h.found.rest h.found.there;
    }
