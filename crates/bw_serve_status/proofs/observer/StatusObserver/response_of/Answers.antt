use Rattle.std.proofs.Common.{◌∙◌, sym, refl, subst}
use Rattle.bw_serve_status.proofs.LookSteps.{if_ok, same_moment}
use Rattle.bw_serve_status.proofs.observer.StatusObserver.response_of.Goals as goal

pub returns-clause-kept : goal.returns-clause-kept
returns-clause-kept g c = same_moment _ _ _ _ _ _ _ (c.begins.ensures.time ∙ (c.has_folder.ensures.time
    ∙ (c.lines_dropped.ensures.time ∙ (c.memory.ensures.time ∙ c.left_out.ensures.time))))
    (c.begins.ensures.started ∙ (c.has_folder.ensures.started
    ∙ (c.lines_dropped.ensures.started ∙ (c.memory.ensures.started ∙ c.left_out.ensures.started))))

pub returns-clause-shows : goal.returns-clause-shows
returns-clause-shows g c = if_ok _ _ c.response.result (λ bytes is. record {
  around = _;
  surrounds = record {
    now = c.requires ∙ sym (c.begins.ensures.time ∙ (c.has_folder.ensures.time
        ∙ (c.lines_dropped.ensures.time ∙ (c.memory.ensures.time ∙ c.left_out.ensures.time))));
    since = c.since.ensures ∙ sym (c.begins.ensures.started
        ∙ (c.has_folder.ensures.started ∙ (c.lines_dropped.ensures.started ∙ c.memory.ensures.started)));
    resumed = refl;
    growth = c.as_slice.ensures.value;
    allow = refl;
    has_folder = (_, c.has_folder.ensures.usable);
    begins = (_, c.begins.ensures.beginning);
    memory = (_, c.memory.ensures.used);
    lines_dropped = (_, c.lines_dropped.ensures.dropped);
  };
  snapshot = c.in_ok-snapshot.snapshot;
  shows = record {
    counts = c.in_ok-snapshot.ensures.counts;
    takes = c.in_ok-snapshot.ensures.takes;
  };
  left_out = (
    _,
    subst (λ v. g.P.StatusPort.omitted c.left_out.new.self v.items) (sym c.in_ok-snapshot.ensures.left_out)
        c.in_ok-left_out.ensures.omitted,
  );
  is = is;
}) c.response.ensures
