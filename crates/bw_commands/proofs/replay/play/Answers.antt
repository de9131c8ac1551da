use Rattle.std.proofs.Common.{refl}
use Rattle.std.proofs.lemmas.Result.{err_from_is_err_and}
use Rattle.bw_console.specs.Prints.{Nothing, Whole, Part}
use Rattle.bw_commands.proofs.EventLemmas.{refuses_run, run_printed}
use Rattle.bw_commands.proofs.replay.play.Goals as goal

pub returns-in-Ok-clause-prints : goal.returns-in-Ok-clause-prints
returns-in-Ok-clause-prints g c = (
  Whole c.as_slice-2.result.now,
  run_printed c.args.limit c.args.fuse _ _ Whole _ _ c.in_ok-inputs.ensures.ok
      (rw c.as_slice.ensures.value at c.in_ok-text.ensures) c.as_slice-2.ensures.value,
  c.in-Ok.ensures.ok,
)

pub returns-clause-prints : goal.returns-clause-prints
returns-clause-prints g c = (
  Part c.as_slice-2.result.now,
  run_printed c.args.limit c.args.fuse _ _ Part _ _ c.in_ok-inputs.ensures.ok
      (rw c.as_slice.ensures.value at c.in_ok-text.ensures) c.as_slice-2.ensures.value,
  c.in-Err.ensures.err,
)

pub returns-in_err-inputs-clause-prints : goal.returns-in_err-inputs-clause-prints
returns-in_err-inputs-clause-prints g c =
    let answer = err_from_is_err_and c.from_residual.result c.from_residual.ensures.1 in (
      Nothing,
      rw (answer.1, answer.2) (refuses_run c.args.limit c.args.fuse _ c.in_err-inputs.field-0.0
          c.in_err-inputs.ensures.err c.in_err-inputs.ensures.own),
      refl,
    )
