-- What happens to a take, by what a server's table has of its name before a turn and after it.
use Rattle.std.specs.Prelude.{Bool, not, ◌&&◌, ◌||◌}

-- It is opened, or closed, in this turn: it is so after it, and wasn't before. What was in the folder
-- alone before is so only if the turn's own message asks for it; no other was held.
abbrev pub comes_about : Bool → Bool → Bool → Bool → Bool
comes_about known was is asked = is && not was && (known || asked)
