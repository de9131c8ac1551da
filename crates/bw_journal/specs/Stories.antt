-- What the code knows after a replay.
use Rattle.bw_journal.specs.Replays.{Story}
use Rattle.bw_journal.specs.declared.story.Replayed.{Replayed}

-- the story, in the definitions' words
abbrev pub story_of : Replayed → Story
story_of r = record { parts = r.state.parts; table = r.table.items; used = r.used }
