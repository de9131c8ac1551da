use Rattle.std.proofs.Common.{List, inl, inr, refl, subst, sym}
use Rattle.bw_args.specs.Lines.{IsLineOf}
use Rattle.bw_console.specs.declared.exit.Exit.TheVariants.{Memory}
use Rattle.bw_model.proofs.Elements.{some_inj}
use Rattle.clap.specs.Walk.{Text}
use Rattle.bw_program.proofs.ProgramLemmas.{reports_alone}
use Rattle.bw_program.proofs.program.answer.Goals as goal

pub returns-in-Ok : goal.returns-in-Ok
returns-in-Ok g c = inl (record {
  line = c.in-Ok.line;
  comes = λ given e. subst (λ (words : List Text). IsLineOf words c.in-Ok.line) (some_inj e) c.in-Ok.ensures.line;
  done = c.perform.ensures;
})

pub returns-in-Err : goal.returns-in-Err
returns-in-Err g c =
    let l = c.give_up.ensures.line in
    inr (reports_alone _ _ _ _ _ _ _ l.0 Memory (sym c.give_up.ensures.exit)
    (record { exit_is = refl; reads = refl; prints = refl; reports = l.1 }) l.2)
