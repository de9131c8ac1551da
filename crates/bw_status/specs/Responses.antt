-- A response (RFC 9112).
use Rattle.std.specs.Prelude.{ℕ, List, [], ◌++◌, codes, decimal, length}
use Rattle.serde_json.specs.Written.{compact_text}
use Rattle.bw_status.specs.declared.answer.Answer.{Answer}
use Rattle.bw_status.specs.declared.answer.Content.{Content}
use Rattle.bw_status.specs.declared.answer.Content.TheVariants.{Page, Takes, Metrics, Health}
use Rattle.bw_status.specs.declared.answer.Content.TheVariants.{BadRequest, NotFound, BadMethod}
use Rattle.bw_status.specs.declared.answer.Content.TheVariants.{TooLarge, BadVersion}
use Rattle.bw_status.specs.declared.answer.ResponsePart.{ResponsePart}
use Rattle.bw_status.specs.declared.answer.ResponsePart.TheVariants.{Whole, Head}
use Rattle.bw_status.specs.declared.page_text.TheConstants.{PAGE_POLICY}
use Rattle.bw_status.specs.declared.snapshot.Health.{Health as HealthOf}
use Rattle.bw_status.specs.declared.snapshot.Health.TheVariants.{Ready, Folder, Full, Store}
use Rattle.bw_status.specs.declared.snapshot.Snapshot.{Snapshot}
use Rattle.bw_status.specs.Metrics.{metrics}
use Rattle.bw_status.specs.Objects.{snapshot_data}
use Rattle.bw_status.specs.Pages.{status_page}
use Rattle.bw_status.specs.Words.{health_text}

-- a text and a line feed
abbrev pub line_text : List ℕ → List ℕ
line_text text = text ++ codes "\n"

-- the status that says whether a server is well
abbrev pub health_status : HealthOf → List ℕ
health_status Ready = codes "200 OK"
health_status Folder = codes "503 Service Unavailable"
health_status Store = codes "503 Service Unavailable"
health_status Full = codes "503 Service Unavailable"

-- the status of a response
abbrev pub response_status : Content → HealthOf → List ℕ
response_status Page health = codes "200 OK"
response_status Takes health = codes "200 OK"
response_status Metrics health = codes "200 OK"
response_status Health health = health_status health
response_status BadRequest health = codes "400 Bad Request"
response_status NotFound health = codes "404 Not Found"
response_status BadMethod health = codes "405 Method Not Allowed"
response_status TooLarge health = codes "431 Request Header Fields Too Large"
response_status BadVersion health = codes "505 HTTP Version Not Supported"

-- the type of what it contains
abbrev pub type_of : Content → List ℕ
type_of Page = codes "text/html; charset=utf-8"
type_of Takes = codes "application/json"
type_of Metrics = codes "text/plain; version=0.0.4; charset=utf-8"
type_of _ = codes "text/plain; charset=utf-8"

-- what it contains: of a refusal its status
abbrev pub response_body : Content → Snapshot → List ℕ
response_body Page s = status_page s
response_body Takes s = line_text (compact_text (snapshot_data s))
response_body Metrics s = metrics s
response_body Health s = line_text (health_text s.health)
response_body BadRequest s = line_text (codes "400 Bad Request")
response_body NotFound s = line_text (codes "404 Not Found")
response_body BadMethod s = line_text (codes "405 Method Not Allowed")
response_body TooLarge s = line_text (codes "431 Request Header Fields Too Large")
response_body BadVersion s = line_text (codes "505 HTTP Version Not Supported")

-- a field of the head
unfoldable pub field_text : List ℕ → List ℕ → List ℕ
field_text start value = start ++ value ++ codes "\r\n"

-- the fields that every response has: among others no sniffing of its type, no framing, no caching
abbrev pub fields_text : List ℕ
fields_text = field_text (codes "Content-Security-Policy: ") PAGE_POLICY.now
    ++ field_text (codes "X-Content-Type-Options: ") (codes "nosniff")
    ++ field_text (codes "X-Frame-Options: ") (codes "DENY")
    ++ field_text (codes "Referrer-Policy: ") (codes "no-referrer")
    ++ field_text (codes "Cache-Control: ") (codes "no-store")
    ++ field_text (codes "Allow: ") (codes "GET, HEAD")
    ++ field_text (codes "Connection: ") (codes "close") ++ codes "\r\n"

-- the head of a response with a body of so many bytes
abbrev pub response_head : List ℕ → List ℕ → ℕ → List ℕ
response_head status kind count = field_text (codes "HTTP/1.1 ") status
    ++ field_text (codes "Content-Type: ") kind ++ codes "Content-Length: " ++ decimal count
    ++ codes "\r\n" ++ fields_text

-- as much of the body as is sent
abbrev pub sent_body : ResponsePart → List ℕ → List ℕ
sent_body Whole bytes = bytes
sent_body Head bytes = []

-- a response to a request
abbrev pub response_text : Answer → Snapshot → List ℕ
response_text a s = response_head (response_status a.content s.health) (type_of a.content)
    (length (response_body a.content s)) ++ sent_body a.part (response_body a.content s)
