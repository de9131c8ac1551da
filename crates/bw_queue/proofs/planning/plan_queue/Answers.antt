use Rattle.std.proofs.Common.{List, inl, inr, map, string_bytes, subst, sym, ℕ, String, Global}
use Rattle.bw_disk.proofs.DiskChains.{stays_twice}
use Rattle.bw_queue.specs.FolderRecordings.{EachGives, SaysEmptyFolder, SaysUnlisted, StandsForPaths}
use Rattle.bw_queue.specs.QueueSides.{queue_side}
use Rattle.bw_queue.specs.Queues.{AreNamedBy, SaysRefused, SaysUnnamed, SaysUnread, given_path, names_path}
use Rattle.bw_queue.proofs.NamedLemmas.{says_more}
use Rattle.bw_queue.proofs.PlanningLemmas.{all_stood_before, empty_before, receipts_before}
use Rattle.bw_queue.proofs.planning.plan_queue.Goals as goal

pub returns-in-Err-find_recordings-clause-plans : goal.returns-in-Err-find_recordings-clause-plans
returns-in-Err-find_recordings-clause-plans g c =
    let kinds = g.F.FileKinds in
    let files = c.args.files.now in
    let first = c.args.disk.now in
    let later = c.receipts_at.new.disk in
    let side = queue_side kinds files g.D.Disk first in
    let then = queue_side kinds files g.D.Disk later in
    let paths = map string_bytes c.args.request.now.paths.now in
    let stays = stays_twice g.D.Disk first c.names_text.new.disk later c.in-Ok.ensures.disk c.in-Ok-receipts_at.ensures.disk in
    says_more (SaysEmptyFolder then paths) (SaysUnlisted then paths) (SaysRefused side c.args.request.now)
    (SaysUnread side c.args.request.now)
    (λ line says. inr (inl (empty_before kinds files g.D.Disk first later stays paths line says)))
    (λ line says. inr (inr says)) c.in-Err-find_recordings.fault c.in-Err-find_recordings.ensures.found

pub returns-in-Ok-name_all-clause-plans : goal.returns-in-Ok-name_all-clause-plans
returns-in-Ok-name_all-clause-plans g c =
    let kinds = g.F.FileKinds in
    let files = c.args.files.now in
    let first = c.args.disk.now in
    let later = c.receipts_at.new.disk in
    let stays = stays_twice g.D.Disk first c.names_text.new.disk later c.in-Ok.ensures.disk c.in-Ok-receipts_at.ensures.disk in
    let paths = map string_bytes c.in-Ok-find_recordings.paths.items in
    record {
      text = c.in-Ok.text.items;
      given = c.in-Ok.ensures.text;
      paths = paths;
      found = all_stood_before kinds files g.D.Disk first later stays (map string_bytes c.args.request.now.paths.now) paths
          c.in-Ok-find_recordings.ensures.found;
      named = subst (λ (t : List ℕ). AreNamedBy t paths c.in-Ok-name_all.recordings.items) c.deref.ensures.value
          (subst (λ (ps : List (String Global)). AreNamedBy c.deref.result.now (map string_bytes ps)
          c.in-Ok-name_all.recordings.items) c.deref-2.ensures.value c.in-Ok-name_all.ensures);
      known = receipts_before g.D.Disk first c.names_text.new.disk (given_path c.args.request.now.receipts)
          c.in-Ok-receipts_at.receipts.items c.in-Ok.ensures.disk c.in-Ok-receipts_at.ensures.receipts;
    }

pub returns-clause-plans : goal.returns-clause-plans
returns-clause-plans g c =
    let kinds = g.F.FileKinds in
    let files = c.args.files.now in
    let first = c.args.disk.now in
    let later = c.receipts_at.new.disk in
    let side = queue_side kinds files g.D.Disk first in
    let stays = stays_twice g.D.Disk first c.names_text.new.disk later c.in-Ok.ensures.disk c.in-Ok-receipts_at.ensures.disk in
    let paths = map string_bytes c.in-Ok-find_recordings.paths.items in
    let names = names_path (given_path c.args.request.now.names) in
    says_more (SaysUnnamed names c.deref.result.now (map string_bytes c.deref-2.result.now)) (λ line. ⊥)
    (SaysRefused side c.args.request.now) (SaysUnread side c.args.request.now)
    (λ line says. inr (inr (
      c.in-Ok.text.items,
      c.in-Ok.ensures.text,
      (
        paths,
        all_stood_before kinds files g.D.Disk first later stays (map string_bytes c.args.request.now.paths.now)
            paths c.in-Ok-find_recordings.ensures.found,
        subst (λ (t : List ℕ). SaysUnnamed names t paths line) c.deref.ensures.value
            (subst (λ (ps : List (String Global)). SaysUnnamed names c.deref.result.now (map string_bytes ps) line)
            c.deref-2.ensures.value says),
      ),
    ))) (λ line says. absurd says) c.in-Err-name_all.fault c.in-Err-name_all.ensures
