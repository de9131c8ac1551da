-- A take as JSON. The members of an object are in the order of their keys, as they are printed.
use Rattle.std.specs.Prelude.{ℕ, ◌*◌, ◌/◌, ◌^◌, nat_lt, true, false, if◌then◌else◌}
use Rattle.std.specs.Prelude.{List, Option, Some, None, codes}
use Rattle.hex.specs.Hex.{encode_lower}
use Rattle.serde_json.specs.Data.{Data, Members, null, boolean, number, string, unsigned}
use Rattle.serde_json.specs.Data.{object, member, no_members, put}
use Rattle.bw_takes.specs.TakeLines.{state_word}
use Rattle.bw_takes.specs.TakeSummaries.{TakeSummary, Stands, Unopened, Opened, Faulty, Changed}
use Rattle.bw_takes.specs.declared.hashing.SampleDigest.{SampleDigest}
use Rattle.bw_takes.specs.declared.hashing.SampleDigest.TheVariants.{Unasked, Missing, Known}

-- a number
abbrev pub take_number : ℕ → Data
take_number n = number (unsigned n)

-- a number, or null
abbrev pub take_number_or_null : Option ℕ → Data
take_number_or_null None = null
take_number_or_null (Some n) = take_number n

-- how long so many frames at a rate last, in whole milliseconds; null where the number needs more than
-- 64 bits
abbrev pub duration_data : ℕ → ℕ → Data
duration_data count rate =
    if nat_lt (count * 1000 / rate) (2 ^ 64) then take_number (count * 1000 / rate) else null

-- a take without samples of the server's: its state, and the next number
abbrev pub still_object : List ℕ → List ℕ → ℕ → Data
still_object name state next = object
    (member (codes "block") null
    (member (codes "fault") null
    (member (codes "frames") null
    (member (codes "ms") null
    (member (codes "name") (string name)
    (member (codes "next") (take_number next)
    (member (codes "ok") (boolean true)
    (member (codes "rate") null
    (member (codes "state") (string state) no_members)))))))))

-- a take with so many frames at a rate: its state, and the next number
abbrev pub opened_object : List ℕ → List ℕ → ℕ → ℕ → ℕ → Data
opened_object name state count rate next = object
    (member (codes "block") null
    (member (codes "fault") null
    (member (codes "frames") (take_number count)
    (member (codes "ms") (duration_data count rate)
    (member (codes "name") (string name)
    (member (codes "next") (take_number next)
    (member (codes "ok") (boolean true)
    (member (codes "rate") (take_number rate)
    (member (codes "state") (string state) no_members)))))))))

-- a take with which this is wrong, and the number whose samples are others, if that is what is wrong
abbrev pub faulty_object : List ℕ → List ℕ → Option ℕ → Data
faulty_object name cause block = object
    (member (codes "block") (take_number_or_null block)
    (member (codes "fault") (string cause)
    (member (codes "frames") null
    (member (codes "ms") null
    (member (codes "name") (string name)
    (member (codes "next") null
    (member (codes "ok") (boolean false)
    (member (codes "rate") null
    (member (codes "state") null no_members)))))))))

-- a take of which this is reported
abbrev pub summary_data : List ℕ → TakeSummary → Data
summary_data name (Stands next) = still_object name (codes "stood") next
summary_data name (Unopened next) = still_object name (codes "unopened") next
summary_data name (Opened closed count rate next) =
    opened_object name (state_word closed) count rate next
summary_data name (Faulty cause) = faulty_object name cause None
summary_data name (Changed block) = faulty_object name (codes "ChangedBlock") (Some block)

-- members with the SHA-256 of the samples in hex, where it is asked for: null where there is none
abbrev pub with_digest : SampleDigest → Members → Members
with_digest Unasked members = members
with_digest Missing members = put (codes "sha256") null members
with_digest (Known digest) members = put (codes "sha256") (string (encode_lower digest)) members

-- an object with it
abbrev pub digest_added : SampleDigest → Data → Data
digest_added digest (object members) = object (with_digest digest members)
digest_added digest other = other

-- a take of which this is reported, and the digest of its samples
abbrev pub summary_with_digest : List ℕ → TakeSummary → SampleDigest → Data
summary_with_digest name summary digest = digest_added digest (summary_data name summary)
