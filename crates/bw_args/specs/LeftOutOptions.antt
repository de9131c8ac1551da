-- The option of `send` and `pack` that keeps the chunks that a take doesn't carry.
use Rattle.std.specs.Prelude.{◌&&◌, ◌||◌, Bool, Option, codes, is_some}
use Rattle.clap.specs.Walk.{Text}
use Rattle.bw_args.specs.Given.{is_set}

-- chunks are to be kept of a recording that is refused if it has any, of headerless samples, which have none,
-- or of a file that is followed, whose chunks aren't all written yet
abbrev pub is_left_out_mixed : (Text → Option Text) → Bool
is_left_out_mixed given = is_some (given (codes "keep-left-out"))
    && (is_set (given (codes "strict")) || (is_some (given (codes "pcm")) || (is_some (given (codes "spool"))
    || is_set (given (codes "follow")))))
