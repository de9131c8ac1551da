use Rattle.std.proofs.Common.{◌≡◌, ◌++◌}
use Rattle.std.specs.HashMap.{keys}
use Rattle.bw_session.proofs.server.Server.known_names.Given as goal

-- the names so far, and those to come, are those of the table
abbrev pub invariant-loop-name : goal.invariant-loop-name
invariant-loop-name g l = l.names.items ++ l.name-iterator ≡ keys l.fn.self.sessions
