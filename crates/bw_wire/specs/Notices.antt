-- What notices mean, and their codes.
use Rattle.std.specs.Prelude.{◌≡◌, ℕ, Some, None, Result, MatchResult}
use Rattle.bw_model.specs.Replies as model
use Rattle.bw_wire.specs.declared.reason.UnknownCode.{UnknownCode}
use Rattle.bw_wire.specs.declared.reply.Notice.{Notice}
use Rattle.bw_wire.specs.declared.reply.Notice.TheVariants.{Held, TooFar, Conflict, TableFull}
use Rattle.bw_wire.specs.declared.reply.Notice.TheVariants.{NoRoom, DelayedStore, Next}

-- the notice, in the definitions' words
abbrev pub notice_meaning : Notice → model.Notice
notice_meaning Held = model.Held
notice_meaning TooFar = model.TooFar
notice_meaning Conflict = model.Conflict
notice_meaning TableFull = model.TableFull
notice_meaning NoRoom = model.NoRoom
notice_meaning DelayedStore = model.DelayedStore
notice_meaning Next = model.Next

-- the notice with this code, or that there is none
abbrev pub DecodesNotice : ℕ → Result Notice UnknownCode → Type 0
DecodesNotice code r =
    MatchResult r (λ notice. model.notice_of code ≡ Some (notice_meaning notice))
    (λ e. (model.notice_of code ≡ None) × (e.0 ≡ code))
