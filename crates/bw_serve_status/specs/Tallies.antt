-- What a server was sent and replied, counted.
use Rattle.std.specs.Prelude.{ℕ, ◌+◌, ◌-◌, Bool, if◌then◌else◌, List, [], length, fold}
use Rattle.std.specs.Prelude.{replicate, slice_index_or, slice_set}
use Rattle.bw_model.specs.Replies.{Reply, Judged, Noticed, Refused, Notice, notice_code, verdict_code}
use Rattle.bw_model.specs.CountedTurn.{is_delay}
use Rattle.bw_model.specs.Take.{Request, Open, Block, Mark, SetField, Close, is_stored}
use Rattle.bw_model.specs.Wire.{Frame, Says, Asks, Bye, message_body}
use Rattle.bw_exchange.specs.AnsweredFrames.{Answered}
use Rattle.bw_exchange.specs.LinkCounts.{up_to_last}
use Rattle.bw_serve_status.specs.declared.name_tally.Change.{Change}
use Rattle.bw_serve_status.specs.declared.name_tally.Change.TheVariants as changes
use Rattle.bw_serve_status.specs.declared.name_tally.NameTally.{NameTally}
use Rattle.bw_serve_status.specs.Names.{on_name}

-- what is counted: messages by their kind and asks, the bytes of messages' bodies, verdicts by
-- their codes, notices by theirs from 32 on, and what was replied of the names that were counted
-- last, with how many changes of names there were
pub record Tally : Type 0 where
  pub kinds : List ℕ
  pub bytes : ℕ
  pub verdicts : List ℕ
  pub notices : List ℕ
  pub changes : ℕ
  pub names : List NameTally

-- nothing is counted yet
abbrev pub none_tallied : Tally
none_tallied = record {
  kinds = replicate 6 0;
  bytes = 0;
  verdicts = replicate 12 0;
  notices = replicate 8 0;
  changes = 0;
  names = [];
}

-- these counts with one at a place raised by one
abbrev pub raised_at : ℕ → List ℕ → List ℕ
raised_at place counts = slice_set counts place (up_to_last (slice_index_or counts place 0 + 1))

-- the place of a request's kind: OPEN, BLOCK, MARK, BEXT, CLOSE; then come asks
abbrev pub request_kind : Request → ℕ
request_kind (Open format history) = 0
request_kind (Block bytes) = 1
request_kind (Mark id frame) = 2
request_kind (SetField tag value) = 3
request_kind (Close total) = 4

-- a frame more
abbrev pub tallied_frame : Tally → Frame → Tally
tallied_frame t (Says m) = record t {
  kinds = raised_at (request_kind m.request) t.kinds;
  bytes = up_to_last (t.bytes + length (message_body m));
}
tallied_frame t (Asks name number) = record t { kinds = raised_at 5 t.kinds }
tallied_frame t Bye = t

-- what a verdict says of its name
abbrev pub change_by : Bool → Change
change_by stored = if stored then changes.Stored else changes.Refused

-- a change of a name more
abbrev pub tallied_change : Change → List ℕ → Tally → Tally
tallied_change change name t = record t {
  changes = up_to_last (t.changes + 1);
  names = on_name change (up_to_last (t.changes + 1)) name t.names;
}

-- after a notice: it counts for its name if it says that the store failed
abbrev pub tallied_notice : Notice → List ℕ → Tally → Tally
tallied_notice notice name t = if is_delay notice then tallied_change changes.Delayed name t else t

-- a reply more
abbrev pub tallied_reply : Tally → Reply → Tally
tallied_reply t (Judged name number verdict) = tallied_change (change_by (is_stored verdict)) name
    (record t { verdicts = raised_at (verdict_code verdict) t.verdicts })
tallied_reply t (Noticed name number notice next) = tallied_notice notice name
    (record t { notices = raised_at (notice_code notice - 32) t.notices })
tallied_reply t (Refused reason offset) = t

-- a frame more, and its replies
abbrev pub tallied : Tally → Frame → List Reply → Tally
tallied t frame replies = fold tallied_reply (tallied_frame t frame) replies

-- these frames, one after another, and the replies to each
abbrev pub tallied_all : Tally → List Answered → Tally
tallied_all t answered = fold (λ so_far a. tallied so_far a.frame a.replies) t answered
