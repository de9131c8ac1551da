-- What is said of the SHA-256 of a take's samples: of a closed take, with which nothing is wrong.
use Rattle.std.specs.Prelude.{ℕ, Bool, true, false, Option, Some, None, List, if◌then◌else◌}
use Rattle.bw_model.specs.Take.{Parts}
use Rattle.bw_take_files.specs.SampleDigests.{samples_sha256}
use Rattle.bw_takes.specs.JudgedTakes.{JudgedTake, Lone, Blank, Wrong, Noted, Altered}
use Rattle.bw_takes.specs.declared.hashing.SampleDigest.{SampleDigest}
use Rattle.bw_takes.specs.declared.hashing.SampleDigest.TheVariants.{Unasked, Missing, Known}

-- a take that is closed, by what its journal says; one whose name existed before has no file of the
-- server's
abbrev pub closed_story : Parts → Option Parts
closed_story p = if p.taken then None else if p.closed then Some p else None

-- the same of a take that is judged to be this: none where something is wrong
abbrev pub closed_judged : JudgedTake → Option Parts
closed_judged Lone = None
closed_judged Blank = None
closed_judged (Wrong cause) = None
closed_judged (Noted p next) = closed_story p
closed_judged (Altered number) = None

-- a digest that is known, if there is one
abbrev pub known_or_missing : Option (List ℕ) → SampleDigest
known_or_missing None = Missing
known_or_missing (Some digest) = Known digest

-- what is said, where digests are asked for or not, of a take that is closed, if it is, and this file
abbrev pub digest_said : Bool → Option Parts → Option (List ℕ) → SampleDigest
digest_said false closed file = Unasked
digest_said true None file = Missing
digest_said true (Some p) file = known_or_missing (samples_sha256 p file)
