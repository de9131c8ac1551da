use Rattle.std.proofs.Common.{rules, refl, ap, ◌∙◌, [], ◌∷◌}
use Rattle.bw_model.specs.Wire.{Asks}
use Rattle.bw_wire.specs.Frames.{asked_name, asked_number}
use Rattle.bw_wire.specs.Replies.{reply_of}
use Rattle.bw_disk.specs.MemoryDisks.{content_at}
use Rattle.bw_disk.specs.declared.memory_disk.MemoryDisk.{MemoryDisk}
use Rattle.bw_journal.specs.Stops.{cut_book}
use Rattle.bw_kept.specs.KeptServers.{table_server}
use Rattle.bw_kept.proofs.LeftFolders.{committed_books_are_covered, kept_servers_leave_done}
use Rattle.bw_delivery.specs.Machines.{one_frame}
use Rattle.bw_delivery.proofs.LifeLemmas.{turn_stays}
use Rattle.bw_delivery.proofs.ServedWorlds.{turns_of_worlds, stops_are_steps}
use Rattle.bw_commands.specs.RehearsedWorlds.{no_contents}
use Rattle.bw_session.proofs.OrderLaws.{waiting_in_order}
use Rattle.bw_delivery.proofs.MachineForms.{left_at}
use Rattle.bw_delivery.proofs.machine.ask.Goals as goal

pub returns-then-goes_on : goal.returns-then-goes_on
returns-then-goes_on c = λ limit w is.
    let one = c.commit-kept.ensures.answered c.args.life.server _ _ c.ask-reply.ensures.answered in
    let t = turns_of_worlds _ _ _ _ (committed_books_are_covered _ _ (waiting_in_order _ _)) no_contents w _ _
    (one_frame (Asks (asked_name c.args.ask.now) (asked_number c.args.ask.now)) (reply_of c.ask-reply.result ∷ [])) is.holds (tt, tt)
    (table_server c.commit-kept.new.self, one, refl) (c.commit-kept.ensures.commits.all (c.goes_on.ensures.kept c.if-goes_on.true)) in
    let stays = turn_stays _ _ _ _ _ _ (record { frame = _; replies = _ }) one in
    record {
      later = t.later;
      next = t.next;
      running = record {
        limited = stays.limit ∙ is.limited;
        holds = t.serves;
        takes_live = search rules;
        notes_live = search rules;
      };
    }

pub returns : goal.returns
returns c = λ limit w is.
    let one = c.commit-kept.ensures.answered c.args.life.server _ _ c.ask-reply.ensures.answered in
    let apart = c.in_ok-folder.ensures in
    let d = stops_are_steps _ _ _ _ (kept_servers_leave_done _ _ (waiting_in_order _ _)) no_contents w _ _
    (one_frame (Asks (asked_name c.args.ask.now) (asked_number c.args.ask.now)) (reply_of c.ask-reply.result ∷ [])) _ is.holds (tt, tt)
    (table_server c.commit-kept.new.self, one, refl) apart.on_disk in
    let stays = turn_stays _ _ _ _ _ _ (record { frame = _; replies = _ }) one in
    record {
      silent = refl;
      given = _;
      later = d.later;
      left = d.left;
      next = d.next;
      stands = left_at limit _ (cut_book d.left) _ _ _ _ _ _ (stays.limit ∙ is.limited) apart.journal apart.store
          (ap (λ (m : MemoryDisk). content_at m.files.items) apart.notes)
          (ap (λ (m : MemoryDisk). content_at m.files.items) apart.takes) d.stands;
    }
