-- What frames, messages and asks mean.
use Rattle.std.specs.Prelude.{◌≡◌, ℕ, Result, Ok, Err, List}
use Rattle.bw_model.specs.Take as take
use Rattle.bw_model.specs.Wire as model
use Rattle.bw_model.specs.declared.request.RequestRef.{RequestRef}
use Rattle.bw_model.specs.Requests.{meaning}
use Rattle.bw_wire.specs.declared.message.Message.{Message}
use Rattle.bw_wire.specs.declared.message.Ask.{Ask}
use Rattle.bw_wire.specs.declared.message.Frame.{Frame}
use Rattle.bw_wire.specs.declared.message.Frame.TheVariants as frames
use Rattle.bw_wire.specs.declared.reason.Reason.{Reason}
use Rattle.bw_wire.specs.Reasons.{reason_meaning}
use Rattle.bw_wire.specs.Bodies.{body_name, body_number, message_in}

-- the message that a message's body spells
abbrev pub message_of : Message → model.Message
message_of m = message_in m.body.now

-- the name that an ask's body spells
abbrev pub asked_name : Ask → List ℕ
asked_name a = body_name a.body.now

-- the number that an ask's body spells, which the reply repeats
abbrev pub asked_number : Ask → ℕ
asked_number a = body_number a.body.now

-- a frame, in the definitions' words
abbrev pub frame_of : Frame → model.Frame
frame_of (frames.Message m) = model.Says (message_of m)
frame_of (frames.Ask a) = model.Asks (asked_name a) (asked_number a)
frame_of frames.Bye = model.Bye

-- what a decoder returns
abbrev pub frame_read : Result Frame Reason → Result model.Frame model.Reason
frame_read (Ok f) = Ok (frame_of f)
frame_read (Err reason) = Err (reason_meaning reason)

-- what was read of a request, in the definitions' words
abbrev pub request_read : Result RequestRef Reason → Result take.Request model.Reason
request_read (Ok r) = Ok (meaning r)
request_read (Err reason) = Err (reason_meaning reason)

-- a message's body is the whole of these bytes
abbrev pub Borrows : Frame → List ℕ → Type 0
Borrows (frames.Message m) bytes = m.body.now ≡ bytes
Borrows (frames.Ask a) bytes = a.body.now ≡ bytes
Borrows frames.Bye bytes = Unit {0}
