-- The page. Its texts that never change are constants of the code.
use Rattle.std.specs.Prelude.{ℕ, List, ◌++◌, codes, decimal, flat_map, string_bytes}
use Rattle.bw_status.specs.declared.page_text.TheConstants.{PAGE_COUNTS, PAGE_END, PAGE_FACTS}
use Rattle.bw_status.specs.declared.page_text.TheConstants.{PAGE_START, PAGE_TAKES}
use Rattle.bw_status.specs.declared.snapshot.Count.{Count}
use Rattle.bw_status.specs.declared.snapshot.LeftOutName.{LeftOutName}
use Rattle.bw_status.specs.declared.snapshot.Snapshot.{Snapshot}
use Rattle.bw_status.specs.Rows.{row}
use Rattle.bw_status.specs.Texts.{duration_text, html_escaped}
use Rattle.bw_status.specs.Words.{health_text}

-- the start of a fact of this name
unfoldable pub fact_start : List ℕ → List ℕ
fact_start name = codes "<div><dt>" ++ html_escaped name ++ codes "</dt><dd>"

-- how often something happened
unfoldable pub count_fact : List ℕ → ℕ → List ℕ
count_fact name count = fact_start name ++ decimal count ++ codes "</dd></div>\n"

abbrev pub counts_facts : List Count → List ℕ
counts_facts counts = flat_map (λ (c : Count). count_fact c.kind.now c.count) counts

-- how many of the places have a connection
abbrev pub places_fact : ℕ → ℕ → List ℕ
places_fact connections places = fact_start (codes "Connections") ++ decimal connections
    ++ codes " of " ++ decimal places ++ codes "</dd></div>\n"

-- whether the server is well, and how long it has been running
unfoldable pub server_facts : Snapshot → List ℕ
server_facts s = fact_start (codes "Server") ++ html_escaped (health_text s.health)
    ++ codes "</dd></div>\n" ++ fact_start (codes "Up") ++ duration_text s.uptime_ms
    ++ codes "</dd></div>\n"

-- what is reported of the server
abbrev pub facts : Snapshot → List ℕ
facts s = server_facts s ++ places_fact s.connections s.places ++ count_fact (codes "Ended") s.ended
    ++ count_fact (codes "Resumed") s.resumed ++ count_fact (codes "Bytes") s.bytes
    ++ count_fact (codes "Lines left out") s.lines_dropped

-- how many messages came, and what was replied
abbrev pub all_counts : Snapshot → List ℕ
all_counts s = counts_facts s.messages.items ++ counts_facts s.verdicts.items
    ++ counts_facts s.notices.items

-- a name that is left out, and why
abbrev pub left_out_item : LeftOutName → List ℕ
left_out_item n = codes "<li>" ++ html_escaped (string_bytes n.name) ++ codes ": "
    ++ html_escaped (string_bytes n.cause) ++ codes ", left out</li>\n"

-- the start of the page: the names that are left out, and the server
abbrev pub page_start : Snapshot → List ℕ
page_start s = PAGE_START.now ++ flat_map left_out_item s.left_out.items ++ PAGE_FACTS.now ++ facts s

-- the page: that, a row for each take, and the counts
abbrev pub status_page : Snapshot → List ℕ
status_page s = page_start s ++ PAGE_TAKES.now ++ flat_map row s.takes.items
    ++ PAGE_COUNTS.now ++ all_counts s ++ PAGE_END.now
