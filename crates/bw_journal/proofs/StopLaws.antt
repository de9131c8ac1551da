-- Worlds continue after stops of their servers.
use Rattle.std.proofs.Common.{◌≡◌, ℕ, ◌<◌, Bool, List, [], ◌∷◌, Some, refl, sym, ◌∙◌, subst}
use Rattle.bw_model.specs.Bytes.{at}
use Rattle.bw_model.specs.Take.{Request, Verdict}
use Rattle.bw_model.specs.Replies.{Reply, Judged}
use Rattle.bw_model.specs.Book.{Log, log_of, verdict_at}
use Rattle.bw_model.specs.World.{World, new_world}
use Rattle.bw_model.proofs.Elements.{Each, each-map, each-get}
use Rattle.bw_model.proofs.TrueReplies.{IsSound, IsTrueReply}
use Rattle.bw_model.proofs.SenderSteps.{WasOffered, IsKept}
use Rattle.bw_model.proofs.WorldLaws.{event_true, faithful, start}
use Rattle.bw_journal.specs.Stops.{cut_log, cut_book, Step, Happens, Stops, after_step, after_steps, EachWorldGoesOn}
use Rattle.bw_journal.proofs.CutLaws.{at-take, at-take_some, verdict-cut, logs_cut}

-- what is sound stays so if the log is cut
sound_cut : (offered : List Request) (log : Log) → IsSound offered log → IsSound offered (cut_log log)
sound_cut offered log h = record {
  admitted = λ n r e. h.admitted n r (at-take_some log.done n log.admitted r e);
  filled = λ k below. let x = h.filled k below in (x.0, at-take log.done k log.admitted below ∙ x.1);
}

true_cut : (taken : Bool) (name : List ℕ) (log : Log) (r : Reply) → IsTrueReply taken name log r →
    IsTrueReply taken name (cut_log log) r
true_cut taken name log r h = record {
  judged = λ n v e. let x = h.judged n v e in (x.0, x.1 ∙ sym (verdict-cut taken log.admitted log.done n x.0));
  welcome = h.welcome;
}

-- the sender's part of a world stays true if the log is cut
cut_kept : (existed : List ℕ → Bool) (w : World) → IsKept existed w → IsKept existed (record w { book = cut_book w.book })
cut_kept existed w k =
    let name = w.sender.name in
    let log = log_of w.book name in
    let same : cut_log log ≡ log_of (cut_book w.book) name = sym (logs_cut w.book name) in
    record {
      sound = subst (IsSound w.sender.offered) same (sound_cut w.sender.offered log k.sound);
      were = subst (λ (l : Log). Each (WasOffered name w.sender.offered l.done) w.sent) same k.were;
      reported = subst (λ (l : Log). Each (IsTrueReply (existed name) name l) w.replies) same
          (each-map (IsTrueReply (existed name) name log) (IsTrueReply (existed name) name (cut_log log)) w.replies
          (true_cut (existed name) name log) k.reported);
      known = subst (λ (l : Log). (n : ℕ) (v : Verdict) → at w.sender.verdicts n ≡ Some v →
          (n < l.done) × (v ≡ verdict_at (existed name) l.admitted n)) same
          (λ n v e. let x = k.known n v e in (x.0, x.1 ∙ sym (verdict-cut (existed name) log.admitted log.done n x.0)));
      near = k.near;
    }

steps_true : (existed : List ℕ → Bool) (w : World) (steps : List Step) → IsKept existed w →
    IsKept existed (after_steps existed w steps)
steps_true existed w [] k = k
steps_true existed w (Happens e faults ∷ ss) k =
    steps_true existed (after_step existed w (Happens e faults)) ss (event_true existed w e faults k)
steps_true existed w (Stops ∷ ss) k = steps_true existed (record w { book = cut_book w.book }) ss (cut_kept existed w k)

pub each_world_goes_on : EachWorldGoesOn
each_world_goes_on existed name steps =
    let w = after_steps existed (new_world name) steps in
    let k = steps_true existed (new_world name) steps (start existed name) in (
      faithful existed w k,
      λ i n v e.
          (each-get (IsTrueReply (existed w.sender.name) w.sender.name (log_of w.book w.sender.name)) w.replies i
          (Judged w.sender.name n v) k.reported e).judged n v refl,
    )
