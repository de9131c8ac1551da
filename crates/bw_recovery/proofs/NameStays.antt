-- A name that an earlier server left is left of the same log, whichever call to restore it fails.
use Rattle.std.proofs.Common.{◌≡◌, ◌⊎◌, inl, inr, ℕ, ◌+◌, ◌-◌, ◌%◌, ◌<◌, ◌≤◌, Bool, true, false, ◌||◌, List, [], ◌∷◌, ◌++◌}
use Rattle.std.proofs.Common.{length, take, drop, Option, Some, None, is_some, option_map, Result, Err, IsTrue}
use Rattle.std.proofs.Common.{refl, sym, ◌∙◌, ap, subst, arith, length-append}
use Rattle.std.specs.Bool.{MatchBool}
use Rattle.std.proofs.lemmas.Bool.{cases_lt}
use Rattle.std.proofs.lemmas.List.{take_all, take-take, length-take, length-replicate}
use Rattle.std.proofs.Math.Seq.{take-append-add}
use Rattle.bw_model.specs.Layout.{pad}
use Rattle.bw_model.specs.Take.{Take, Parts, Format, AreFields, parts}
use Rattle.bw_model.specs.File.{file_of, data_place, cues}
use Rattle.bw_model.specs.Book.{Log, made}
use Rattle.bw_model.proofs.HeaderLaws.{length-header}
use Rattle.bw_disk.specs.Volumes.{IsCutInPart}
use Rattle.bw_journal.specs.JournalHeaders.{Header, header_bytes}
use Rattle.bw_journal.specs.NotedJournals.{AdmitsDone, journal_of, story_of_log}
use Rattle.bw_journal.specs.Replays.{Story, JournalFault, NotBegun, replay}
use Rattle.bw_journal.specs.Stories.{story_of}
use Rattle.bw_journal.proofs.Prefixes.{cut_shorter}
use Rattle.bw_journal.proofs.Taken.{taken-made}
use Rattle.bw_recovery.specs.Files.{header_by, mended, file_after}
use Rattle.bw_recovery.specs.Left.{IsLeftOpen, IsLeftFile}
use Rattle.bw_recovery.specs.LeftNames.{header_beside, IsLeftName, IsLeftTorn}
use Rattle.bw_recovery.specs.Adoptions.{with_header, shortened, with_pad, patched, adopted, SparesSamples, SparesTake}
use Rattle.bw_recovery.specs.Adoptions.{MendsAround, MendsInPart, AdoptsInPart}
use Rattle.bw_recovery.specs.Names.{file_beside}
use Rattle.bw_recovery.specs.Findings.{IsBegunAs}
use Rattle.bw_recovery.specs.StaysLeft.{StaysLeft}
use Rattle.bw_recovery.specs.declared.adoption.Mending.{Mending}
use Rattle.bw_recovery.specs.declared.adoption.Adoption.{Adoption}
use Rattle.bw_recovery.specs.declared.adoption.Adoption.TheVariants.{Keep, SetAside, Mend}
use Rattle.bw_recovery.specs.declared.finding.Begun.{Begun}
use Rattle.bw_recovery.proofs.FileLemmas.{after_open}
use Rattle.bw_recovery.proofs.MadeLemmas.{made_fields}
use Rattle.bw_recovery.proofs.PartForms.{headed_length, shortened_length}
use Rattle.bw_recovery.proofs.StoryForms.{begun_story, torn_story, ok_no_err, same_story}

none_some : (x : List ℕ) → None ≡ Some x → ⊥
none_some x e = cc

some_same : (x y : List ℕ) → Some x ≡ Some y → x ≡ y
some_same x y e = cc

true_false : true ≡ false → ⊥
true_false e = cc

left_holds : (a b : Bool) → a ≡ true → IsTrue (a || b)
left_holds a b e = rw e refl

right_holds : (a b : Bool) → b ≡ true → IsTrue (a || b)
right_holds true b e = refl
right_holds false b e = e

aside_no_keep : SetAside ≡ Keep → ⊥
aside_no_keep e = cc

mend_no_keep : (m : Mending) → Mend m ≡ Keep → ⊥
mend_no_keep m e = cc

-- a pad byte is appended only to samples without one
pad_fits : (limit : ℕ) (t : Take) (f : Format) (m : Mending) (header bytes : List ℕ) → AreFields t.fields →
    patched m header bytes ≡ mended limit (parts t) f bytes → length header ≤ length bytes → m.pad ≡ true →
    length (shortened m.cut bytes) ≤ data_place (length t.history) + length t.samples
pad_fits limit t f m header bytes fields same front pads =
    let n = length t.samples in
    let rest = take n (drop (data_place (length t.history)) bytes) in
    let before = shortened m.cut (with_header m.header header bytes) in
    let head = header_by limit (parts t) f in
    let a = ap (λ (v : Bool). length (with_pad v before)) pads in
    let b = length-append before (0 ∷ []) in
    let c = ap (λ (z : List ℕ). length z) same in
    let d = length-append head (rest ++ pad n) in
    let e = length-append rest (pad n) in
    let h : length head ≡ data_place (length t.history) =
    length-header f t.fields t.history n (length (cues t.closed t.markers)) limit fields in
    let r = length-take n (drop (data_place (length t.history)) bytes) in
    let p = length-replicate {A = ℕ} (n % 2) 0 in
    let s = shortened_length m.cut (with_header m.header header bytes) bytes (headed_length m.header header bytes front) in
    omega (arith, a, b, c, d, e, h, r, p, s)

-- the file of an open take that is mended
mend_stays : (limit : ℕ) (t : Take) (m : Mending) (header : List ℕ) (file later : Option (List ℕ)) (closed : Bool)
    (o : Option Format) → AreFields t.fields → t.taken ≡ false → t.closed ≡ closed → t.format ≡ o →
    (IsTrue (t.taken || t.closed) → Mend m ≡ Keep) →
    option_map (patched m header) file ≡ file_after limit (parts t) file → SparesSamples (parts t) m header →
    ((place count : ℕ) → MendsInPart place count m header file later) →
    MatchBool closed (file ≡ file_of t limit) (IsLeftOpen t o file) →
    MatchBool closed (later ≡ file_of t limit) (IsLeftOpen t o later)
mend_stays limit t m header file later true o fields free c e keeps after spares part left =
    absurd (mend_no_keep m (keeps (right_holds t.taken t.closed c)))
mend_stays limit t m header file later false None fields free c e keeps after spares part left =
    absurd (true_false (sym spares.opened ∙ ap is_some e))
mend_stays limit t m header None later false (Some f) fields free c e keeps after spares part left = absurd left
mend_stays limit t m header (Some bytes) later false (Some f) fields free c e keeps after spares part left =
    let place = data_place (length t.history) in
    let n = length t.samples in
    let long : place + n ≤ length bytes = left.long in
    let front : length header ≤ place = spares.front in
    let same : patched m header bytes ≡ mended limit (parts t) f bytes =
    some_same _ _ (after ∙ after_open limit (parts t) (Some f) (Some bytes) free c e) in
    let around : MendsAround place n m header bytes = record {
      front = front;
      long = long;
      cut = spares.cut;
      pad = pad_fits limit t f m header bytes fields same (omega (arith, long, front));
    } in
    let k = part place n bytes refl around in
    subst (IsLeftOpen t (Some f)) (sym k.stands) (record { long = k.long; samples = k.samples ∙ left.samples })

-- what stands under the name of a take that isn't opened
aside_stays : (limit : ℕ) (t : Take) (file later : Option (List ℕ)) (closed : Bool) (o : Option Format) →
    t.taken ≡ false → t.closed ≡ closed → t.format ≡ o → (IsTrue (t.taken || t.closed) → SetAside ≡ Keep) →
    None ≡ file_after limit (parts t) file → (later ≡ file) ⊎ (later ≡ None) →
    MatchBool closed (file ≡ file_of t limit) (IsLeftOpen t o file) →
    MatchBool closed (later ≡ file_of t limit) (IsLeftOpen t o later)
aside_stays limit t file later true o free c e keeps after part left =
    absurd (aside_no_keep (keeps (right_holds t.taken t.closed c)))
aside_stays limit t file later false None free c e keeps after (inl same) left =
    subst (IsLeftOpen t None) (sym same) left
aside_stays limit t file later false None free c e keeps after (inr none) left =
    subst (IsLeftOpen t None) (sym none) tt
aside_stays limit t None later false (Some f) free c e keeps after part left = absurd left
aside_stays limit t (Some bytes) later false (Some f) free c e keeps after part left =
    absurd (none_some _ (after ∙ after_open limit (parts t) (Some f) (Some bytes) free c e))

file_stays : (limit : ℕ) (first : Option (List ℕ)) (t : Take) (a : Adoption) (header : List ℕ) (file later : Option (List ℕ)) →
    AreFields t.fields → t.taken ≡ is_some first → (IsTrue (t.taken || t.closed) → a ≡ Keep) →
    adopted a header file ≡ file_after limit (parts t) file → SparesTake (parts t) a header →
    ((place count : ℕ) → AdoptsInPart place count a header file later) →
    IsLeftFile first t limit file → IsLeftFile first t limit later
file_stays limit first t Keep header file later fields taken keeps after spares part left =
    subst (IsLeftFile first t limit) (sym (part 0 0)) left
file_stays limit (Some stood) t SetAside header file later fields taken keeps after spares part left =
    absurd (aside_no_keep (keeps (left_holds t.taken t.closed taken)))
file_stays limit (Some stood) t (Mend m) header file later fields taken keeps after spares part left =
    absurd (mend_no_keep m (keeps (left_holds t.taken t.closed taken)))
file_stays limit None t SetAside header file later fields taken keeps after spares part left =
    aside_stays limit t file later t.closed t.format taken refl refl keeps after (part 0 0) left
file_stays limit None t (Mend m) header file later fields taken keeps after spares part left =
    mend_stays limit t m header file later t.closed t.format fields taken refl refl keeps after spares part left

-- of each log whose take has these parts, what a stop left as its file is changed to what one may leave
abbrev pub FileStays : ℕ → Parts → Option (List ℕ) → Option (List ℕ) → Type 0
FileStays limit p file later =
    (first : Option (List ℕ)) (log : Log) → AdmitsDone log → p ≡ parts (made (is_some first) log.admitted log.done) →
    IsLeftFile first (made (is_some first) log.admitted log.done) limit file →
    IsLeftFile first (made (is_some first) log.admitted log.done) limit later

pub same_file : (limit : ℕ) (p : Parts) (file later : Option (List ℕ)) → later ≡ file → FileStays limit p file later
same_file limit p file later same first log whole is left =
    subst (IsLeftFile first (made (is_some first) log.admitted log.done) limit) (sym same) left

pub adopted_file : (limit : ℕ) (name journal : List ℕ) (file later : Option (List ℕ)) (b : Begun) →
    IsBegunAs limit name journal file b → SparesTake b.replayed.state.parts b.adoption b.header.items →
    ((place count : ℕ) → AdoptsInPart place count b.adoption b.header.items file later) →
    FileStays limit b.replayed.state.parts file later
adopted_file limit name journal file later b found spares part first log whole is left =
    file_stays limit first (made (is_some first) log.admitted log.done) b.adoption b.header.items file later
    (made_fields (is_some first) log whole) (taken-made (is_some first) log.admitted log.done)
    (λ h. found.kept (subst (λ (p : Parts). IsTrue (p.taken || p.closed)) (sym is) h))
    (found.after ∙ ap (λ (r : Result Story JournalFault). file_beside limit r file) found.story
    ∙ ap (λ (p : Parts). file_after limit p file) is)
    (subst (λ (p : Parts). SparesTake p b.adoption b.header.items) is spares) part left

-- a name whose journal is begun: some bytes past its entries were cut, and its file is one that stays
pub begun_left : (limit : ℕ) (name journal : List ℕ) (file later_journal later : Option (List ℕ)) (b : Begun) →
    IsBegunAs limit name journal file b → IsCutInPart (Some journal) b.replayed.used later_journal →
    FileStays limit b.replayed.state.parts file later → StaysLeft limit name (Some journal) file later_journal later
begun_left limit name journal file later_journal later b found part stays small first log whole (inr left) =
    ok_no_err (story_of b.replayed) NotBegun (replay limit name journal) found.story
    (torn_story limit first name log journal file small left)
begun_left limit name journal file later_journal later b found (kept, more, e) stays small first log whole (inl left) =
    let h : Header = header_beside limit first in
    let bytes : List ℕ = journal_of h name log in
    let same : story_of b.replayed ≡ story_of_log h name log =
    same_story (story_of b.replayed) (story_of_log h name log) (replay limit name journal) found.story
    (begun_story limit first name log journal file small whole left) in
    let used : b.replayed.used ≡ length bytes = ap (λ (s : Story). s.used) same in
    let past : kept ≡ length bytes + (kept - length bytes) = omega (arith, used, more) in
    subst (λ (o : Option (List ℕ)). IsLeftName limit first name log o later) (sym e)
    (inl (record {
      tail = take (kept - length bytes) left.tail;
      cut = cut_shorter left.tail (kept - length bytes) left.cut;
      notes = ap (take kept) left.notes ∙ ap (λ (n : ℕ). take n (bytes ++ left.tail)) past
          ∙ take-append-add bytes left.tail (kept - length bytes);
      file = stays first log whole (ap (λ (s : Story). s.parts) same) left.file;
    }))

-- a name whose journal isn't begun: some bytes of it were cut
pub torn_left : (limit : ℕ) (name journal : List ℕ) (file later_journal later : Option (List ℕ)) →
    replay limit name journal ≡ Err NotBegun → IsCutInPart (Some journal) 0 later_journal → later ≡ file →
    StaysLeft limit name (Some journal) file later_journal later
torn_left limit name journal file later_journal later torn part same small first log whole (inl left) =
    ok_no_err (story_of_log (header_beside limit first) name log) NotBegun (replay limit name journal)
    (begun_story limit first name log journal file small whole left) torn
torn_left limit name journal file later_journal later torn (kept, more, e) same small first log whole (inr left) =
    subst (λ (o : Option (List ℕ)). IsLeftName limit first name log o later) (sym e)
    (subst (IsLeftName limit first name log (Some (take kept journal))) (sym same) (inr (go (cases_lt kept left.count))))
  where
    bytes : List ℕ
    bytes = header_bytes name (header_beside limit first)

    go : (kept < left.count) ⊎ (left.count ≤ kept) → IsLeftTorn limit first name log (take kept journal) file
    go (inl below) = record {
      none = left.none;
      count = kept;
      short = (let s = left.short in omega (arith, below, s));
      notes = ap (take kept) left.notes ∙ take-take kept left.count bytes (omega (arith, below));
      file = left.file;
      foreign = left.foreign;
    }
    go (inr above) =
        let l = ap (λ (z : List ℕ). length z) left.notes in
        let n = length-take left.count bytes in
        record {
          none = left.none;
          count = left.count;
          short = left.short;
          notes = take_all kept journal (omega (arith, l, n, above)) ∙ left.notes;
          file = left.file;
          foreign = left.foreign;
        }

-- a name of which nothing was changed
pub same_left : (limit : ℕ) (name : List ℕ) (journal file later_journal later : Option (List ℕ)) → later_journal ≡ journal →
    later ≡ file → StaysLeft limit name journal file later_journal later
same_left limit name journal file later_journal later j f small first log whole left =
    subst (λ (o : Option (List ℕ)). IsLeftName limit first name log o later) (sym j)
    (subst (IsLeftName limit first name log journal) (sym f) left)
