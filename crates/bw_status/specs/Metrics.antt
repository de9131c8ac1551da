-- Metrics in Prometheus' text format, version 0.0.4.
use Rattle.std.specs.Prelude.{ℕ, ◌==◌, Bool, List, [], ◌++◌, codes, decimal, flat_map, length}
use Rattle.std.specs.Prelude.{Option, Some, None}
use Rattle.std.specs.List.{count_by}
use Rattle.bw_status.specs.declared.snapshot.Count.{Count}
use Rattle.bw_status.specs.declared.snapshot.Snapshot.{Snapshot}
use Rattle.bw_status.specs.declared.snapshot.ShownState.{ShownState}
use Rattle.bw_status.specs.declared.snapshot.ShownState.TheVariants.{Unopened, Open, Closed, Stood}
use Rattle.bw_status.specs.declared.snapshot.TakeStatus.{TakeStatus}
use Rattle.bw_status.specs.Words.{take_state_word}

-- what a metric is: its name, its help, and whether it is a gauge or a counter
unfoldable pub metric_head : List ℕ → List ℕ → List ℕ → List ℕ
metric_head name help kind = (codes "# HELP " ++ name) ++ (codes " " ++ help)
    ++ (codes "\n# TYPE " ++ name) ++ (codes " " ++ kind) ++ codes "\n"

-- a metric of one value
unfoldable pub metric : List ℕ → List ℕ → List ℕ → ℕ → List ℕ
metric name help kind value =
    metric_head name help kind ++ (name ++ codes " ") ++ decimal value ++ codes "\n"

-- the line of a kind, under this label
unfoldable pub kind_line : List ℕ → List ℕ → List ℕ → ℕ → List ℕ
kind_line name label kind count = (name ++ codes "{") ++ (label ++ codes "=\"")
    ++ (kind ++ codes "\"} ") ++ decimal count ++ codes "\n"

abbrev pub count_line : List ℕ → List ℕ → Count → List ℕ
count_line name label c = kind_line name label c.kind.now c.count

-- a counter that has a value for each kind
unfoldable pub family : List ℕ → List ℕ → List ℕ → List Count → List ℕ
family name help label counts =
    metric_head name help (codes "counter") ++ flat_map (count_line name label) counts

-- a number for each state
abbrev pub state_rank : ShownState → ℕ
state_rank Unopened = 0
state_rank Open = 1
state_rank Closed = 2
state_rank Stood = 3

-- a take is in a state
abbrev pub in_state : ShownState → TakeStatus → Bool
in_state state t = state_rank t.state == state_rank state

-- how many takes are in a state
unfoldable pub state_line : List TakeStatus → ShownState → List ℕ
state_line takes state = kind_line (codes "bwingest_takes") (codes "state") (take_state_word state)
    (count_by (in_state state) takes)

-- the names that are left out
abbrev pub left_out_metric : Snapshot → List ℕ
left_out_metric s = metric (codes "bwingest_takes_left_out")
    (codes "Names left out, since something is wrong with their journals or files.") (codes "gauge")
    (length s.left_out.items)

-- the takes
abbrev pub take_metrics : Snapshot → List ℕ
take_metrics s = metric_head (codes "bwingest_takes") (codes "Takes by state.") (codes "gauge")
    ++ state_line s.takes.items Unopened ++ state_line s.takes.items Open
    ++ state_line s.takes.items Closed ++ state_line s.takes.items Stood
    ++ metric (codes "bwingest_takes_resumed") (codes "Takes resumed at the start.") (codes "gauge")
    s.resumed
    ++ left_out_metric s

-- how many connections ended, by cause
abbrev pub ended_metric : Snapshot → List ℕ
ended_metric s = family (codes "bwingest_connections_ended_total")
    (codes "Connections that ended, by cause.") (codes "cause") s.ended_by.items

-- the connections
abbrev pub connection_metrics : Snapshot → List ℕ
connection_metrics s =
    metric (codes "bwingest_connections") (codes "Connections of recorders.") (codes "gauge")
    s.connections
    ++ metric (codes "bwingest_connection_places") (codes "Connections there may be.")
    (codes "gauge") s.places
    ++ ended_metric s

-- how many messages and asks came
abbrev pub message_metric : Snapshot → List ℕ
message_metric s = family (codes "bwingest_messages_total") (codes "Messages and asks by kind.")
    (codes "kind") s.messages.items

-- how many verdicts were sent
abbrev pub verdict_metric : Snapshot → List ℕ
verdict_metric s = family (codes "bwingest_verdicts_total") (codes "Verdicts sent.")
    (codes "verdict") s.verdicts.items

-- how many notices were sent
abbrev pub notice_metric : Snapshot → List ℕ
notice_metric s = family (codes "bwingest_notices_total") (codes "Notices sent.") (codes "notice")
    s.notices.items

-- what was turned away
abbrev pub turned_away_metric : Snapshot → List ℕ
turned_away_metric s = metric (codes "bwingest_turned_away_total")
    (codes "Messages and asks whose names aren't taken from their peers.") (codes "counter")
    s.turned_away

-- what came and what was replied
abbrev pub reply_metrics : Snapshot → List ℕ
reply_metrics s =
    metric (codes "bwingest_message_bytes_total") (codes "Bytes of messages.") (codes "counter")
    s.bytes
    ++ message_metric s ++ verdict_metric s ++ notice_metric s ++ turned_away_metric s

-- the process's memory, if it is known
abbrev pub memory_metric : Option ℕ → List ℕ
memory_metric None = []
memory_metric (Some bytes) =
    metric (codes "process_resident_memory_bytes") (codes "Memory in use.") (codes "gauge") bytes

-- the process
abbrev pub process_metrics : Snapshot → List ℕ
process_metrics s =
    metric (codes "process_start_time_seconds") (codes "When the process began.") (codes "gauge")
    s.since
    ++ metric (codes "bwingest_lines_dropped_total")
    (codes "Lines left out, since they couldn't be written at once.") (codes "counter")
    s.lines_dropped
    ++ memory_metric s.memory

-- the metrics
abbrev pub metrics : Snapshot → List ℕ
metrics s = take_metrics s ++ connection_metrics s ++ reply_metrics s ++ process_metrics s
