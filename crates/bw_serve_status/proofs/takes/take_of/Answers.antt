use Rattle.std.proofs.Common.{◌∙◌, ◌-◌, ap}
use Rattle.std.specs.Prelude.{is_some, option_map}
use Rattle.bw_model.specs.Book.{log_of}
use Rattle.bw_model.specs.Take.{frames as frames_of, parts}
use Rattle.bw_session.specs.Books.{count_waiting}
use Rattle.bw_serve_status.specs.Takes.{if_format, lasting_in, take_of_log}
use Rattle.bw_serve_status.proofs.ShownTakes.{known_closed, known_or, shown_state}
use Rattle.bw_serve_status.proofs.takes.take_of.Goals as goal

pub returns-clause-take : goal.returns-clause-take
returns-clause-take g c = λ first book holds known.
    let name = c.args.name.now in
    let existed = is_some (first name) in
    let shown = c.format_of-format.result in
    let format = c.format_of-format.ensures first book holds in
    let frames = c.unwrap_or-frames.ensures
    ∙ known_or book name (λ log. frames_of (parts (take_of_log existed log))) c.frames.result known
    (c.frames.ensures first book holds) in
    record {
      stood = c.is_taken.result;
      knows = c.is_taken.ensures.value first book holds;
      state_is = c.state_for.ensures ∙ shown_state c.is_taken.result c.is_closed.result _ shown _
          (known_closed book name (take_of_log existed (log_of book name)).closed c.is_closed.result known
          (c.is_closed.ensures first book holds)) format;
      format_is = format;
      frames_are = c.if_format.ensures ∙ ap (if_format shown) frames;
      ms_are = c.lasting_in.ensures ∙ ap (lasting_in shown) frames;
      next_is = c.from.ensures ∙ c.unwrap_or.ensures
          ∙ known_or book name (λ log. log.done) c.done.result known (c.done.ensures.value first book holds);
      held_are = c.unwrap_or-2.ensures
          ∙ known_or book name count_waiting c.held.result known (c.held.ensures.value first book holds);
      replied = (ap (λ p. p.0) c.replied_of-refused.ensures, ap (λ p. p.1) c.replied_of-refused.ensures);
      quiet_is = c.quiet_for.ensures ∙ ap (option_map (λ at. c.args.around.now - at)) c.grown_at.ensures;
      peer_is = c.peer_of.ensures;
    }
