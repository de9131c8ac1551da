-- What is answered to a request (RFC 9110, RFC 9112).
use Rattle.std.specs.Prelude.{◌≡◌, ◌⊎◌, ◌≤◌, ◌<◌, ◌==◌, ◌&&◌, ◌||◌, ℕ, Bool, List, map, length}
use Rattle.std.specs.Prelude.{not, take, Option, Some, None, codes, nat_lt, if◌then◌else◌}
use Rattle.std.specs.List.{count_by, prefix_len}
use Rattle.std.specs.Str.{bytes_eq}
use Rattle.std.specs.Char.{to_ascii_lowercase}
use Rattle.httparse.specs.Grammar.{RequestHead, ReadsRequest, HasNoRequest, MayBecomeRequest}
use Rattle.httparse.specs.Grammar.{NeverHasRequest}
use Rattle.httparse.specs.Spans.{RequestOverflows, name_and_value}
use Rattle.httparse.specs.declared.Error.{Error}
use Rattle.httparse.specs.declared.Error.TheVariants.{TooManyHeaders, Version, HeaderName}
use Rattle.httparse.specs.declared.Error.TheVariants.{HeaderValue, NewLine, Status, Token}
use Rattle.bw_status.specs.declared.answer.Answer.{Answer}
use Rattle.bw_status.specs.declared.answer.Content.{Content}
use Rattle.bw_status.specs.declared.answer.Content.TheVariants.{Page, Takes, Metrics, Health}
use Rattle.bw_status.specs.declared.answer.Content.TheVariants.{BadRequest, NotFound, BadMethod}
use Rattle.bw_status.specs.declared.answer.Content.TheVariants.{TooLarge, BadVersion}
use Rattle.bw_status.specs.declared.answer.ResponsePart.{ResponsePart}
use Rattle.bw_status.specs.declared.answer.ResponsePart.TheVariants.{Whole, Head}

-- the most bytes that are held of a request, and the most fields of its head
abbrev pub longest_request : ℕ
longest_request = 8192

abbrev pub most_fields : ℕ
most_fields = 64

-- a field's name is `Host`, in letters of either case
abbrev pub is_host : List ℕ → Bool
is_host name = bytes_eq (map to_ascii_lowercase name) (codes "host")

-- one host is named; under HTTP/1.0 none, or one
abbrev pub is_hosted : ℕ → ℕ → Bool
is_hosted minor hosts = (hosts == 1) || ((minor == 0) && (hosts == 0))

-- what is at a path
abbrev pub path_content : List ℕ → Option Content
path_content path =
    if bytes_eq path (codes "/") then Some Page
    else if bytes_eq path (codes "/takes.json") then Some Takes
    else if bytes_eq path (codes "/metrics") then Some Metrics
    else if bytes_eq path (codes "/healthz") then Some Health
    else None

-- what is at a target: what is at its path, which ends where a question mark begins its query
abbrev pub target_content : List ℕ → Option Content
target_content target = path_content (take (prefix_len (λ c. not (c == 63)) target) target)

-- a method that only reads
abbrev pub is_reading : List ℕ → Bool
is_reading method = bytes_eq method (codes "GET") || bytes_eq method (codes "HEAD")

-- how much of a response is sent
abbrev pub part_for : List ℕ → ResponsePart
part_for method = if bytes_eq method (codes "HEAD") then Head else Whole

-- what is at the target, if it is only read
abbrev pub read_content : List ℕ → Option Content → Content
read_content method None = NotFound
read_content method (Some content) = if is_reading method then content else BadMethod

-- what a response contains
abbrev pub content_for : List ℕ → List ℕ → ℕ → ℕ → Content
content_for method target minor hosts =
    if is_hosted minor hosts then read_content method (target_content target) else BadRequest

-- what is answered to a request with these parts
abbrev pub answer_for : List ℕ → List ℕ → ℕ → ℕ → Answer
answer_for method target minor hosts =
    record { content = content_for method target minor hosts; part = part_for method }

-- how many of these fields name a host
abbrev pub host_count : List (List ℕ × List ℕ) → ℕ
host_count fields = count_by (λ (f : List ℕ × List ℕ). is_host f.0) fields

-- what is answered to a request with this head
abbrev pub request_answer : RequestHead → Answer
request_answer h = answer_for h.method h.target h.minor (host_count (map name_and_value h.fields))

-- a whole response with this content
abbrev pub whole_answer : Content → Answer
whole_answer content = record { content = content; part = Whole }

-- the bytes are answered as the request that they begin with
abbrev pub IsReadable : List ℕ → Answer → Type 0
IsReadable held a = (h : RequestHead) × (rest : List ℕ) × ReadsRequest held h rest
    × (a ≡ request_answer h)

-- they are too many, or every request that they may begin has too many fields
abbrev pub IsTooLarge : List ℕ → Answer → Type 0
IsTooLarge held a = (a ≡ whole_answer TooLarge)
    × ((HasNoRequest held × (longest_request ≤ length held)) ⊎ RequestOverflows most_fields held)

-- whatever follows them, they begin no request
abbrev pub IsUnreadable : List ℕ → Answer → Type 0
IsUnreadable held a = ((a ≡ whole_answer BadRequest) ⊎ (a ≡ whole_answer BadVersion))
    × NeverHasRequest held

-- what is answered to the bytes that have come so far, or none while more are waited for
abbrev pub AnswersRequest : List ℕ → Option Answer → Type 0
AnswersRequest held None = HasNoRequest held × MayBecomeRequest held × (length held < longest_request)
AnswersRequest held (Some a) = IsReadable held a ⊎ (IsTooLarge held a ⊎ IsUnreadable held a)

-- what is answered to so many bytes that may become a request
abbrev pub part_answer : ℕ → Option Answer
part_answer count = if nat_lt count longest_request then None else Some (whole_answer TooLarge)

-- what is answered to bytes of which the parser reports this
abbrev pub error_content : Error → Content
error_content TooManyHeaders = TooLarge
error_content Version = BadVersion
error_content HeaderName = BadRequest
error_content HeaderValue = BadRequest
error_content NewLine = BadRequest
error_content Status = BadRequest
error_content Token = BadRequest
