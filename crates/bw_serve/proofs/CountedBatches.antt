-- What a server that counts its frames has committed, the server in it has.
use Rattle.std.proofs.Common.{ℕ, List}
use Rattle.std.specs.Prelude.{Result}
use Rattle.bw_model.specs.Wire.{Frame}
use Rattle.bw_model.specs.Replies.{Reply}
use Rattle.bw_stream.specs.declared.sink.Sink.{Ghosts as Writer}
use Rattle.bw_stream.specs.declared.source.Source.{Ghosts as Reader}
use Rattle.bw_console.specs.declared.exit.Exit.{Exit}
use Rattle.bw_exchange.specs.AnsweredFrames.{AnswersAll}
use Rattle.bw_exchange.specs.Commits.{CommitsUntil}
use Rattle.bw_exchange.specs.MeteredServers.{AnswersCounted, metered_server}
use Rattle.bw_exchange.specs.declared.link_stats.Metered.{Metered}
use Rattle.bw_exchange.specs.declared.serving.ExchangeEnd.{ExchangeEnd}
use Rattle.bw_exchange.specs.declared.turns.NotKept.{NotKept}
use Rattle.bw_serve.specs.GuardedServers.{metered_commits}
use Rattle.bw_serve.specs.ServedOne.{ServesTo}
use Rattle.bw_serve.proofs.Through.{until_through}

-- the batches of an exchange are those of the server itself
pub until_by_server : {S : Type 0} (answers : S → Frame → List Reply → S → Type 0)
    (commits : S → Result (Unit {0}) NotKept → S → Type 0) (end : ExchangeEnd) (t t' : Metered S) →
    CommitsUntil (AnswersCounted answers) (metered_commits commits) end t t' →
    CommitsUntil answers commits end t.server t'.server
until_by_server {S} answers commits end t t' h =
    until_through metered_server (λ t. Unit {0}) (AnswersCounted answers) answers
    (λ t frame replies t' keeps turn. (turn.by_server, tt)) (metered_commits commits) commits
    (λ t r t' keeps closed. (closed, tt)) end t t' tt h

-- An exchange of one server is one of another that gave the same answers and committed them.
abbrev pub serves_by : {T S R W O : Type 0} (outer : T → Frame → List Reply → T → Type 0)
    (closes : T → Result (Unit {0}) NotKept → T → Type 0) (answers : S → Frame → List Reply → S → Type 0)
    (commits : S → Result (Unit {0}) NotKept → S → Type 0) (reader : Reader R) (writer : Writer W) (out : Writer O)
    (index : ℕ) (end : ExchangeEnd) (exit : Exit) (t t' : T) (s s' : S) (r r' : R) (w w' : W) (o o' : O)
    (to : ServesTo outer closes reader writer out index end exit t t' r r' w w' o o') →
    AnswersAll answers s to.serves.answered s' → CommitsUntil answers commits end s s' →
    ServesTo answers commits reader writer out index end exit s s' r r' w w' o o'
serves_by outer closes answers commits reader writer out index end exit t t' s s' r r' w w' o o' to by_server batches =
    let serves = to.serves in
    record {
      serves = record {
        answered = serves.answered;
        by_server = by_server;
        input = serves.input;
        given = serves.given;
        no_further = serves.no_further;
        output = serves.output;
        taken = serves.taken;
        prefix = serves.prefix;
        spelled = serves.spelled;
        by_end = serves.by_end;
      };
      batches = batches;
      reads = to.reads;
      writes = to.writes;
      calls = to.calls;
      limit = to.limit;
      ends = to.ends;
    }
