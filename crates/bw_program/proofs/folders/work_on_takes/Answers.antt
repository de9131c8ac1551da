use Rattle.std.proofs.Common.{refl}
use Rattle.bw_program.proofs.FolderLemmas.{works_on}
use Rattle.bw_program.proofs.folders.work_on_takes.Goals as goal

pub returns-in-Report : goal.returns-in-Report
returns-in-Report g c =
    let l = c.show_takes.ensures in (
      works_on _ _ c.args.listing.now _ _ _ c.in-Report.is c.as_str-folder.ensures.value (record {
        did = l.0;
        ends = l.1;
        is = (rw c.report_form-form.ensures at l.2, l.3, refl);
        writes = l.4;
        unpaused = refl;
      }),
      refl,
      refl,
      refl,
    )

pub returns-in-Watch : goal.returns-in-Watch
returns-in-Watch g c = (
  works_on _ _ c.args.listing.now _ _ _ c.in-Watch.is c.as_str-folder.ensures.value (record {
    watches = c.watch_takes.ensures.watches;
    disk = c.watch_takes.ensures.disk;
    unlocked = refl;
  }),
  refl,
  refl,
  refl,
)

pub returns-in-GiveUp : goal.returns-in-GiveUp
returns-in-GiveUp g c =
    let l = c.give_up_locked.ensures in (
      works_on _ _ c.args.listing.now _ _ _ c.in-GiveUp.is c.as_str-folder.ensures.value (record {
        did = l.0;
        ends = l.1;
        is = (l.2, l.3, l.4);
        writes = l.5;
        unpaused = refl;
      }),
      refl,
      refl,
      refl,
    )
