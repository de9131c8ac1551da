use Rattle.std.proofs.Common.{◌≡◌, ◌+◌, map, drop}
use Rattle.httparse.specs.Spans.{header_bytes}
use Rattle.bw_status.specs.Answers.{host_count}
use Rattle.bw_status.proofs.request.host_count.Given as goal

abbrev pub invariant-loop-field : goal.invariant-loop-field
invariant-loop-field l = l.count + host_count (map (header_bytes l.fn.held) (drop l.field-index l.fields))
    ≡ host_count (map (header_bytes l.fn.held) l.fields)
