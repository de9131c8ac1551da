use Rattle.std.proofs.Common.{◌∙◌, Err, Ok, inr, refl, subst, sym}
use Rattle.bw_queue.specs.QueueOpenings.{ReportsQueueFault}
use Rattle.bw_queue.specs.Queues.{given_path}
use Rattle.bw_queue.proofs.OpeningLemmas.{passed_same, passed_still}
use Rattle.bw_queue.proofs.opening.open_queue.Goals as goal

pub returns-in-Ok : goal.returns-in-Ok
returns-in-Ok g c =
    let kinds = g.F.FileKinds.kinds c.args.files.now in
    let names = given_path c.args.request.now.names in
    let receipts = given_path c.args.request.now.receipts in
    let first = c.in_default.ensures in
    let second = c.in_default-pass_kind.ensures in
    inr (
      passed_still kinds g.E.Sink names _ _ first _,
      passed_still kinds g.E.Sink receipts _ _ second _,
      record {
        planned = Ok c.in-Ok.queue;
        counts = c.in-Ok.ensures.counts;
        whole = c.in-Ok.ensures.disk;
        plans = c.in-Ok.ensures.plans;
        ends = (refl, passed_same kinds g.E.Sink receipts _ _ second ∙ passed_same kinds g.E.Sink names _ _ first);
      },
    )

pub returns-in-Err-plan_queue : goal.returns-in-Err-plan_queue
returns-in-Err-plan_queue g c =
    let kinds = g.F.FileKinds.kinds c.args.files.now in
    let names = given_path c.args.request.now.names in
    let receipts = given_path c.args.request.now.receipts in
    let first = c.in_default.ensures in
    let second = c.in_default-pass_kind.ensures in
    let same = passed_same kinds g.E.Sink receipts _ _ second ∙ passed_same kinds g.E.Sink names _ _ first in
    inr (
      passed_still kinds g.E.Sink names _ _ first _,
      passed_still kinds g.E.Sink receipts _ _ second _,
      record {
        planned = Err c.in-Err-plan_queue.fault;
        counts = c.in-Err-plan_queue.ensures.counts;
        whole = c.in-Err-plan_queue.ensures.disk;
        plans = c.in-Err-plan_queue.ensures.plans;
        ends = (
          c.report_fault.result,
          refl,
          subst (λ e. ReportsQueueFault g.E.Sink c.in-Err-plan_queue.fault
              c.report_fault.result e c.report_fault.new.faults) same c.report_fault.ensures,
        );
      },
    )
