-- What a server is doing, as JSON. The members of an object stand in the order of their keys, as they
-- are printed.
use Rattle.std.specs.Prelude.{ℕ, List, fold, map, Option, Some, None, codes, string_bytes}
use Rattle.std.specs.Net.Text.{socket_text}
use Rattle.std.specs.declared.net.socket_addr.SocketAddr.{SocketAddr}
use Rattle.serde_json.specs.Data.{Data, null, number, string, unsigned, array, object, member}
use Rattle.serde_json.specs.Data.{Members, no_members, put}
use Rattle.serde_json.specs.View.{items_of}
use Rattle.bw_status.specs.declared.snapshot.Count.{Count}
use Rattle.bw_status.specs.declared.snapshot.LeftOutName.{LeftOutName}
use Rattle.bw_status.specs.declared.snapshot.Snapshot.{Snapshot}
use Rattle.bw_status.specs.declared.snapshot.SoundFormat.{SoundFormat}
use Rattle.bw_status.specs.declared.snapshot.TakeStatus.{TakeStatus}
use Rattle.bw_status.specs.Words.{health_text, take_state_word}

-- a number
abbrev pub unsigned_data : ℕ → Data
unsigned_data n = number (unsigned n)

-- a number, or null
abbrev pub unsigned_or_null : Option ℕ → Data
unsigned_or_null None = null
unsigned_or_null (Some n) = unsigned_data n

-- a number of a format, or null
abbrev pub format_number : (SoundFormat → ℕ) → Option SoundFormat → Data
format_number field None = null
format_number field (Some f) = unsigned_data (field f)

-- an address, or null
abbrev pub peer_data : Option SocketAddr → Data
peer_data None = null
peer_data (Some peer) = string (socket_text peer)

-- a take, with what isn't always known
abbrev pub take_object : TakeStatus → Data → Data → Data → Data → Data → Data → Data → Data
take_object t bits channels count ms peer quiet rate = object
    (member (codes "bits") bits
    (member (codes "channels") channels
    (member (codes "delayed") (unsigned_data t.delayed)
    (member (codes "frames") count
    (member (codes "held") (unsigned_data t.held)
    (member (codes "ms") ms
    (member (codes "name") (string (string_bytes t.name))
    (member (codes "next") (unsigned_data t.next)
    (member (codes "peer") peer
    (member (codes "quiet_ms") quiet
    (member (codes "rate") rate
    (member (codes "refused") (unsigned_data t.refused)
    (member (codes "state") (string (take_state_word t.state)) no_members)))))))))))))

-- a take
unfoldable pub take_data : TakeStatus → Data
take_data t = take_object t (format_number (λ (f : SoundFormat). f.bits) t.format)
    (format_number (λ (f : SoundFormat). f.channels) t.format) (unsigned_or_null t.frames)
    (unsigned_or_null t.ms) (peer_data t.peer) (unsigned_or_null t.quiet_ms)
    (format_number (λ (f : SoundFormat). f.rate) t.format)

-- members with a take's name, state and peer
abbrev pub with_take_words : TakeStatus → Members → Members
with_take_words t members = put (codes "name") (string (string_bytes t.name))
    (put (codes "peer") (peer_data t.peer)
    (put (codes "state") (string (take_state_word t.state)) members))

-- members with a take's counts
abbrev pub with_take_counts : TakeStatus → Members → Members
with_take_counts t members = put (codes "delayed") (unsigned_data t.delayed)
    (put (codes "held") (unsigned_data t.held)
    (put (codes "next") (unsigned_data t.next)
    (put (codes "refused") (unsigned_data t.refused) members)))

-- members with how long a take is, and how long ago it grew
abbrev pub with_take_times : TakeStatus → Members → Members
with_take_times t members = put (codes "frames") (unsigned_or_null t.frames)
    (put (codes "ms") (unsigned_or_null t.ms)
    (put (codes "quiet_ms") (unsigned_or_null t.quiet_ms) members))

-- members with a format
abbrev pub with_sound_format : Option SoundFormat → Members → Members
with_sound_format f members = put (codes "bits") (format_number (λ (f : SoundFormat). f.bits) f)
    (put (codes "channels") (format_number (λ (f : SoundFormat). f.channels) f)
    (put (codes "rate") (format_number (λ (f : SoundFormat). f.rate) f) members))

-- how often something happened
abbrev pub count_data : Count → Data
count_data c = object
    (member (codes "count") (unsigned_data c.count)
    (member (codes "kind") (string c.kind.now) no_members))

-- a name that is left out, and why
abbrev pub left_out_data : LeftOutName → Data
left_out_data n = object
    (member (codes "cause") (string (string_bytes n.cause))
    (member (codes "name") (string (string_bytes n.name)) no_members))

-- a server, with the members that are lists, or aren't always known
abbrev pub snapshot_object : Snapshot → Data → Data → Data → Data → Data → Data → Data → Data
snapshot_object s ended_by left_out memory messages notices takes verdicts = object
    (member (codes "bytes") (unsigned_data s.bytes)
    (member (codes "connections") (unsigned_data s.connections)
    (member (codes "ended") (unsigned_data s.ended)
    (member (codes "ended_by") ended_by
    (member (codes "health") (string (health_text s.health))
    (member (codes "left_out") left_out
    (member (codes "lines_dropped") (unsigned_data s.lines_dropped)
    (member (codes "memory") memory
    (member (codes "messages") messages
    (member (codes "notices") notices
    (member (codes "places") (unsigned_data s.places)
    (member (codes "resumed") (unsigned_data s.resumed)
    (member (codes "since") (unsigned_data s.since)
    (member (codes "takes") takes
    (member (codes "turned_away") (unsigned_data s.turned_away)
    (member (codes "uptime_ms") (unsigned_data s.uptime_ms)
    (member (codes "verdicts") verdicts no_members)))))))))))))))))

-- how often each of these happened
abbrev pub counts_data : List Count → Data
counts_data counts = array (items_of (map count_data counts))

-- these counts as an object, with a member for each kind
abbrev pub kinds_data : List Count → Data
kinds_data counts =
    object (fold (λ members c. put c.kind.now (unsigned_data c.count) members) no_members counts)

-- these names are left out
abbrev pub left_outs_data : List LeftOutName → Data
left_outs_data names = array (items_of (map left_out_data names))

-- what a server is doing
abbrev pub snapshot_data : Snapshot → Data
snapshot_data s = snapshot_object s (kinds_data s.ended_by.items) (left_outs_data s.left_out.items)
    (unsigned_or_null s.memory) (counts_data s.messages.items) (counts_data s.notices.items)
    (array (items_of (map take_data s.takes.items))) (counts_data s.verdicts.items)

-- members with those that are lists
abbrev pub with_lists : Snapshot → Members → Members
with_lists s members = put (codes "left_out") (left_outs_data s.left_out.items)
    (put (codes "messages") (counts_data s.messages.items)
    (put (codes "notices") (counts_data s.notices.items)
    (put (codes "takes") (array (items_of (map take_data s.takes.items)))
    (put (codes "verdicts") (counts_data s.verdicts.items) members))))

-- members with how the server is, and for how long it has been running
abbrev pub with_server : Snapshot → Members → Members
with_server s members = put (codes "health") (string (health_text s.health))
    (put (codes "lines_dropped") (unsigned_data s.lines_dropped)
    (put (codes "memory") (unsigned_or_null s.memory)
    (put (codes "since") (unsigned_data s.since)
    (put (codes "uptime_ms") (unsigned_data s.uptime_ms) members))))

-- members with the counts of connections, of takes that were resumed, of bytes, and of what was turned
-- away
abbrev pub with_links : Snapshot → Members → Members
with_links s members = put (codes "bytes") (unsigned_data s.bytes)
    (put (codes "connections") (unsigned_data s.connections)
    (put (codes "ended") (unsigned_data s.ended)
    (put (codes "ended_by") (kinds_data s.ended_by.items)
    (put (codes "places") (unsigned_data s.places)
    (put (codes "resumed") (unsigned_data s.resumed)
    (put (codes "turned_away") (unsigned_data s.turned_away) members))))))
