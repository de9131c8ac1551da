-- One more file after those that were looked at.
use Rattle.std.proofs.Common.{◌≡◌, ◌∙◌, ◌⊎◌, inl, inr, Bool, true, false, ℕ, ◌+◌, ◌<◌, List, [], ◌∷◌, ◌++◌, length, map}
use Rattle.std.proofs.Common.{get_or, take, drop, Option, Some, None, Ok, Err}
use Rattle.std.proofs.Common.{refl, sym, ap, subst, arith, string_bytes, String}
use Rattle.std.specs.Prelude.{All, option_map, nat_lt}
use Rattle.std.specs.declared.alloc.Global.{Global}
use Rattle.std.proofs.lemmas.List.{map-append, take-append-drop, take_more}
use Rattle.std.proofs.lemmas.List.Elements.{All-append, All-cons}
use Rattle.std.proofs.lemmas.List.Sums.{fold-append}
use Rattle.bw_model.proofs.Elements.{some_inj}
use Rattle.bw_ports.specs.declared.recording_files.FileStamp.{FileStamp}
use Rattle.bw_stream.specs.Readers.{Of}
use Rattle.bw_stream.specs.declared.sink.Sink.{Ghosts as Writer}
use Rattle.bw_model.specs.Reading.{Fault as BytesFault, FaultKind}
use Rattle.bw_inspect.specs.Faults.{bytes_fault, kind_of}
use Rattle.bw_inspect.specs.declared.fault.InspectFault.{InspectFault}
use Rattle.bw_inspect.specs.declared.fault.InspectKind.{InspectKind}
use Rattle.bw_inspect.specs.declared.fault.InspectKind.TheVariants.{Read as FailedRead}
use Rattle.bw_inspect.specs.declared.report.Report.{Report}
use Rattle.bw_contents.specs.Texts.{Said}
use Rattle.bw_commands.specs.Inspections.{IsPrintOfText}
use Rattle.std.specs.declared.io.ErrorKind.{ErrorKind}
use Rattle.bw_console.specs.Faults.{exit_on, input_fault_text}
use Rattle.bw_console.specs.FailedOpenings.{IsUnopened}
use Rattle.bw_console.specs.Outcomes.{IsOutOfMemory, Outcome}
use Rattle.bw_console.specs.Prints.{IsOf, IsPrint, Nothing, Print, Whole, failures_if}
use Rattle.bw_console.specs.Text.{as_line}
use Rattle.bw_console.specs.declared.exit.Exit.{Exit}
use Rattle.bw_console.specs.declared.exit.Exit.TheVariants.{Done, Refused, Usage, Device, Memory as OutOfMemory}
use Rattle.bw_console.specs.declared.fault.Fault.{Fault}
use Rattle.bw_report.specs.Entries.{entry_text}
use Rattle.bw_report.specs.FileFindings.{HasReportAndDigest, IsFoundInBytes, exit_of_found, worse}
use Rattle.bw_report.specs.FileLooks.{IsOpening, IsReportedUnopened}
use Rattle.bw_report.specs.FileLooks.{AreChunksRead, ArePrints, IsStoppedEarly, IsFoundByLook, IsLookAt, IsLookIn, IsShown}
use Rattle.bw_report.specs.FileLooks.{FilesThere, Look, files_there, look_entry, shows_contents}
use Rattle.bw_report.specs.FileLooks.{failures_after_looks, worst}
use Rattle.bw_report.specs.declared.entry.Wanted.{Wanted}
use Rattle.bw_report.specs.declared.found.Found.{Found}
use Rattle.bw_report.specs.declared.found.Found.TheVariants.{Read, Unopened}

-- the look at a file that was opened: nothing is reported of that
abbrev pub opened_look : List ℕ → Found → Look
opened_look path found = record { path = path; found = found; is_opened = true; reported = Nothing }

-- what is reported of a file that can't be opened, without the kind of the error
pub unopened : (path : List ℕ) (kind : ErrorKind) (did : Outcome) → IsUnopened path kind did ⊎ IsOutOfMemory did
    → IsReportedUnopened path did
unopened path kind did (inl is) = inl (kind, is)
unopened path kind did (inr is) = inr is

-- a fault of reading is none of the bytes
pub no_bytes_fault : (f : InspectFault) (met : BytesFault) → f.kind ≡ FailedRead → bytes_fault f ≡ Some met → ⊥
no_bytes_fault f met is same =
    let none : bytes_fault f ≡ None =
    ap (λ (k : InspectKind). option_map (λ (x : FaultKind). record { kind = x; offset = f.offset }) (kind_of k)) is in
    let bad : None ≡ Some met = sym none ∙ same in cc

-- .. nor is one of no kind of theirs
pub no_fault : (f : InspectFault) (met : BytesFault) → bytes_fault f ≡ None → bytes_fault f ≡ Some met → ⊥
no_fault f met none same =
    let bad : None ≡ Some met = sym none ∙ same in cc

-- no exit is better than that of what succeeded
pub none_worse : (exit : Exit) → exit ≡ worse exit Done
none_worse Done = refl
none_worse Refused = refl
none_worse Usage = refl
none_worse Device = refl
none_worse OutOfMemory = refl

-- what is found in a file that was opened: nothing was reported
pub found_opened : {E : Type 0} (reported : Writer E) (bytes_at : List ℕ → Option (List ℕ)) (digest read : Bool)
    (path : List ℕ) (found : Found) (n n' : ℕ) (e : E)
    → Of (bytes_at path) (λ b. IsFoundInBytes b digest read found)
    → IsOpening found (opened_look path found) → n' ≡ n
    → IsFoundByLook reported (IsLookIn bytes_at digest read) path found n n' e e
found_opened reported bytes_at digest read path found n n' e right opening same = record {
  look = opened_look path found;
  at = refl;
  has = refl;
  is = record { right = right; opening = opening };
  failures = same;
  reports = refl;
}

-- what is found of one that can't be opened
pub found_unopened : {E : Type 0} (reported : Writer E) (bytes_at : List ℕ → Option (List ℕ)) (digest read : Bool)
    (path : List ℕ) (kind : ErrorKind) (did : Outcome) (exit : Exit) (n n' : ℕ) (e e' : E) → did.exit ≡ exit
    → IsUnopened path kind did ⊎ IsOutOfMemory did → n' ≡ failures_if false n → IsPrint reported did.faults e e'
    → IsFoundByLook reported (IsLookIn bytes_at digest read) path (Unopened exit) n n' e e'
found_unopened reported bytes_at digest read path kind did exit n n' e e' ends why failed prints = record {
  look = record { path = path; found = Unopened exit; is_opened = false; reported = did.faults };
  at = refl;
  has = refl;
  is = record { right = λ b is. tt; opening = (refl, (did, (ends, (refl, unopened path kind did why)))) };
  failures = failed;
  reports = prints;
}

-- what is found at a second look, after an opening that changed nothing
pub found_again : {E : Type 0} (reported : Writer E) (bytes_at there : List ℕ → Option (List ℕ)) (digest read : Bool)
    (path : List ℕ)
    (found : Found) (n n1 n2 : ℕ) (e e1 : E) → there ≡ bytes_at → n1 ≡ n → digest ≡ true
    → IsFoundByLook reported (IsLookIn there true read) path found n1 n2 e e1
    → IsFoundByLook reported (IsLookIn bytes_at digest read) path found n n2 e e1
found_again reported bytes_at there digest read path found n n1 n2 e e1 files counts asked is =
    rw (asked, ← files, ← counts) is

-- .. after a call that changed neither
pub found_after : {E : Type 0} (reported : Writer E) (bytes_at there : List ℕ → Option (List ℕ)) (digest read : Bool)
    (path : List ℕ) (found : Found) (n n1 n2 : ℕ) (e e1 : E) → there ≡ bytes_at → n1 ≡ n
    → IsFoundByLook reported (IsLookIn there digest read) path found n1 n2 e e1
    → IsFoundByLook reported (IsLookIn bytes_at digest read) path found n n2 e e1
found_after reported bytes_at there digest read path found n n1 n2 e e1 files counts is = rw (← files, ← counts) is

-- the chunks are read if the file's stamp has a length
pub chunks_read : (shows : Bool) (there : Option FileStamp) (read has_length : Bool) (stamp : FileStamp)
    → shows ≡ true → ((reported : FileStamp) → there ≡ Some reported → stamp ≡ reported)
    → has_length ≡ nat_lt 0 stamp.len → has_length ≡ read → AreChunksRead shows there read
chunks_read true there read has_length stamp shown same has is =
    λ s found. sym is ∙ has ∙ ap (λ (x : FileStamp). nat_lt 0 x.len) (same s found)
chunks_read false there read has_length stamp shown same has is = let bad : false ≡ true = shown in cc

-- .. and aren't if what they say isn't printed
pub chunks_unread : (shows : Bool) (there : Option FileStamp) → shows ≡ false → AreChunksRead shows there false
chunks_unread false there unshown = refl
chunks_unread true there unshown = let bad : true ≡ false = unshown in cc

-- they are read or not
pub some_read : (shows : Bool) (there : Option FileStamp) → (read : Bool) × AreChunksRead shows there read
some_read false there = (false, refl)
some_read true None = (false, λ s found. let bad : None ≡ Some s = found in cc)
some_read true (Some stamp) =
    (nat_lt 0 stamp.len, λ s found. ap (λ (x : FileStamp). nat_lt 0 x.len) (some_inj found))

-- what is found at a look is what was wanted
pub found_as_wanted : {E : Type 0} (reported : Writer E) (bytes_at : List ℕ → Option (List ℕ))
    (stamp_at : List ℕ → Option FileStamp) (wanted : Wanted) (read : Bool) (path : List ℕ) (found : Found)
    (n n' : ℕ) (e e' : E) → AreChunksRead (shows_contents wanted.style) (stamp_at path) read
    → IsFoundByLook reported (IsLookIn bytes_at wanted.digest read) path found n n' e e'
    → IsFoundByLook reported (IsLookAt (files_there bytes_at stamp_at) wanted) path found n n' e e'
found_as_wanted reported bytes_at stamp_at wanted read path found n n' e e' reads is = record {
  look = is.look;
  at = is.at;
  has = is.has;
  is = record {
    read = read;
    reads = subst (λ (p : List ℕ). AreChunksRead (shows_contents wanted.style) (stamp_at p) read) (sym is.at) reads;
    is = is.is;
  };
  failures = is.failures;
  reports = is.reports;
}

-- .. where nothing of a file is found that depends on whether its chunks are read
pub found_unread : {E : Type 0} (reported : Writer E) (bytes_at : List ℕ → Option (List ℕ))
    (stamp_at : List ℕ → Option FileStamp) (wanted : Wanted) (path : List ℕ) (before found : Found)
    (n n' : ℕ) (e e' : E) → before ≡ found
    → ((b : List ℕ) (read : Bool) → IsFoundInBytes b wanted.digest false found
    → IsFoundInBytes b wanted.digest read found)
    → IsFoundByLook reported (IsLookIn bytes_at wanted.digest false) path before n n' e e'
    → IsFoundByLook reported (IsLookAt (files_there bytes_at stamp_at) wanted) path found n n' e e'
found_unread reported bytes_at stamp_at wanted path before found n n' e e' same any is =
    let some = some_read (shows_contents wanted.style) (stamp_at is.look.path) in
    let has : is.look.found ≡ found = is.has ∙ same in
    record {
      look = is.look;
      at = is.at;
      has = has;
      is = record {
        read = some.0;
        reads = some.1;
        is = record {
          right = λ b there. subst (λ (f : Found). IsFoundInBytes b wanted.digest some.0 f) (sym has)
              (any b some.0 (subst (λ (f : Found). IsFoundInBytes b wanted.digest false f) has
              (is.is.right b there)));
          opening = is.is.opening;
        };
      };
      failures = is.failures;
      reports = is.reports;
    }

-- what is found at a third look, into the chunks of a file that has a report
module _ {E : Type 0} (reported : Writer E) (bytes_at there : List ℕ → Option (List ℕ))
    (stamp_at stamps : List ℕ → Option FileStamp) (wanted : Wanted) (path : List ℕ)
    (before found : Found) (r : Report) (d : Option (List ℕ)) (known : Option (List Said)) (n n1 n2 : ℕ) (e e1 e2 : E)
    (is : before ≡ Read r d known) (files : there ≡ bytes_at) (same_stamps : stamps ≡ stamp_at)
    (first : IsFoundByLook reported (IsLookIn bytes_at wanted.digest false) path before n n1 e e1) where
  is_read : first.look.found ≡ Read r d known
  is_read = first.has ∙ is

  was_opened : IsOpening (Read r d known) first.look
  was_opened = subst (λ (f : Found). IsOpening f first.look) is_read first.is.opening

  has_report : Of (there path) (λ b. HasReportAndDigest b wanted.digest r d)
  has_report b same =
      let there_is : bytes_at first.look.path ≡ Some b =
      ap bytes_at first.at ∙ ap (λ (f : List ℕ → Option (List ℕ)). f path) (sym files) ∙ same in
      (subst (IsFoundInBytes b wanted.digest false) is_read (first.is.right b there_is)).0

  same_count : n1 ≡ n
  same_count = first.failures ∙ ap (λ (opened : Bool). failures_if opened n) was_opened.0

  same_faults : e1 ≡ e
  same_faults = subst (λ (p : Print). IsPrint reported p e e1) was_opened.1 first.reports

  pub found_inside : (Of (there path) (λ b. HasReportAndDigest b wanted.digest r d)
      → IsFoundByLook reported (IsLookAt (files_there there stamps) wanted) path found n1 n2 e1 e2)
      → IsFoundByLook reported (IsLookAt (files_there bytes_at stamp_at) wanted) path found n n2 e e2
  found_inside next = rw (← files, ← same_stamps, ← same_count, ← same_faults) (next has_report)

-- one more print after these
prints_more : {S : Type 0} (w : Writer S) (ps : List Print) (p : Print) (a b c : S) → ArePrints w ps a b
    → IsPrint w p b c
    → ArePrints w (ps ++ p ∷ []) a c
prints_more {S} w [] p a b c same print =
    let P : S → Type 0 = λ s. IsPrint w p s c in
    (c, (subst P same print, refl))
prints_more w (q ∷ ps) p a b c chain print = (chain.0, (chain.1.0, prints_more w ps p chain.0 b c chain.1.1 print))

none_looked : {X : Type 0} (P : X → Type 0) → All P []
none_looked P k d h = absurd (omega arith)

one_looked : {X : Type 0} (P : X → Type 0) (x : X) → P x → All P (x ∷ [])
one_looked P x p = All-cons P x [] p (none_looked P)

module _ {W E : Type 0} (out : Writer W) (reported : Writer E) (there : FilesThere) (wanted : Wanted) where
  -- nothing was looked at yet
  pub none_shown : (n : ℕ) (o : W) (e : E) → IsShown out reported there [] wanted Done n n o o e e
  none_shown n o e = record {
    looks = [];
    at = refl;
    are = none_looked (IsLookAt there wanted);
    ends = refl;
    failures = refl;
    prints = refl;
    reports = refl;
  }

  module _ (paths : List (List ℕ)) (path : List ℕ) (found : Found) (exit : Exit) (n n1 n2 : ℕ) (o o1 o2 : W)
      (e e1 e2 : E)
      (before : IsShown out reported there paths wanted exit n n1 o o1 e e1)
      (now : IsFoundByLook reported (IsLookAt there wanted) path found n1 n2 e1 e2) where
    all_at : map (λ (l : Look). l.path) (before.looks ++ now.look ∷ []) ≡ paths ++ path ∷ []
    all_at = map-append (λ (l : Look). l.path) before.looks (now.look ∷ [])
        ∙ ap (λ (ps : List (List ℕ)). ps ++ now.look.path ∷ []) before.at
        ∙ ap (λ (p : List ℕ). paths ++ p ∷ []) now.at

    all_are : All (IsLookAt there wanted) (before.looks ++ now.look ∷ [])
    all_are = All-append (IsLookAt there wanted) before.looks (now.look ∷ []) before.are
        (one_looked (IsLookAt there wanted) now.look now.is)

    all_end : worse exit (exit_of_found found) ≡ worst (before.looks ++ now.look ∷ [])
    all_end = ap (λ (x : Exit). worse x (exit_of_found found)) before.ends
        ∙ ap (λ (f : Found). worse (worst before.looks) (exit_of_found f)) (sym now.has)
        ∙ sym (fold-append (λ (x : Exit) (l : Look). worse x (exit_of_found l.found)) Done before.looks (now.look ∷ []))

    all_fail : n2 ≡ failures_after_looks (before.looks ++ now.look ∷ []) n
    all_fail = now.failures ∙ ap (failures_if now.look.is_opened) before.failures
        ∙ sym (fold-append (λ (m : ℕ) (l : Look). failures_if l.is_opened m) n before.looks (now.look ∷ []))

    all_reported : ArePrints reported (map (λ (l : Look). l.reported) (before.looks ++ now.look ∷ [])) e e2
    all_reported =
        let P : List Print → Type 0 = λ ps. ArePrints reported ps e e2 in
        subst P (sym (map-append (λ (l : Look). l.reported) before.looks (now.look ∷ [])))
        (prints_more reported _ now.look.reported e e1 e2 before.reports now.reports)

    same_entry : entry_text wanted.style wanted.named path found ≡ look_entry wanted now.look
    same_entry = ap (λ (p : List ℕ). entry_text wanted.style wanted.named p found) (sym now.at)
        ∙ ap (entry_text wanted.style wanted.named now.look.path) (sym now.has)

    -- the entry was printed
    pub one_shown : IsPrint out (Whole (entry_text wanted.style wanted.named path found)) o1 o2
        → IsShown out reported there (paths ++ path ∷ []) wanted (worse exit (exit_of_found found)) n n2 o o2 e e2
    one_shown print =
        let whole : IsPrint out (Whole (look_entry wanted now.look)) o1 o2 =
        subst (λ (t : List ℕ). IsPrint out (Whole t) o1 o2) same_entry print in
        let P : List Print → Type 0 = λ ps. ArePrints out ps o o2 in
        record {
          looks = before.looks ++ now.look ∷ [];
          at = all_at;
          are = all_are;
          ends = all_end;
          failures = all_fail;
          prints = subst P (sym (map-append (λ (l : Look). Whole (look_entry wanted l)) before.looks (now.look ∷ [])))
              (prints_more out _ _ o o1 o2 before.prints whole);
          reports = all_reported;
        }

    -- it wasn't
    pub one_cut : (later all : List (List ℕ)) (fault : Fault) (part line : Print) (e3 : E)
        → (paths ++ path ∷ []) ++ later ≡ all → IsPrintOfText (entry_text wanted.style wanted.named path found)
        (Err fault) part
        → IsPrint out part o1 o2 → IsOf (as_line (input_fault_text fault)) line → IsPrint reported line e2 e3
        → IsStoppedEarly out reported there all wanted
        (worse (worse exit (exit_of_found found)) (exit_on fault)) n n2 o o2 e e3
    one_cut later all fault part line e3 at part_is print line_is print_line = record {
      looks = before.looks;
      last = now.look;
      later = later;
      at = ap (λ (ps : List (List ℕ)). ps ++ later) all_at ∙ at;
      are = all_are;
      fault = fault;
      ends = ap (λ (x : Exit). worse x (exit_on fault)) all_end;
      failures = all_fail;
      part = part;
      part_is = subst (λ (t : List ℕ). IsPrintOfText t (Err fault) part) same_entry part_is;
      prints = prints_more out _ part o o1 o2 before.prints print;
      line = line;
      line_is = line_is;
      reports = prints_more reported _ line e e2 e3 all_reported print_line;
    }

-- the same, by what the steps say: the entry of the next path was printed
pub next_shown : {W E : Type 0} (out : Writer W) (reported : Writer E) (bytes_at there : List ℕ → Option (List ℕ))
    (stamp_at stamps : List ℕ → Option FileStamp) (wanted : Wanted)
    (paths all : List (List ℕ)) (path at name : List ℕ) (found : Found) (exit ended next : Exit) (n n1 n2 : ℕ)
    (o o1 o2 : W)
    (e e1 e2 : E) (print : Print)
    → IsShown out reported (files_there bytes_at stamp_at) paths wanted exit n n1 o o1 e e1
    → IsFoundByLook reported (IsLookAt (files_there there stamps) wanted) at found n1 n2 e1 e2
    → there ≡ bytes_at → stamps ≡ stamp_at → at ≡ path → name ≡ path → paths ++ path ∷ [] ≡ all
    → ended ≡ exit_of_found found
    → next ≡ worse exit ended → IsPrintOfText (entry_text wanted.style wanted.named name found) (Ok tt) print
    → IsPrint out print o1 o2
    → IsShown out reported (files_there bytes_at stamp_at) all wanted next n n2 o o2 e e2
next_shown out reported bytes_at there stamp_at stamps wanted paths all path at name found exit ended next n n1 n2
    o o1 o2 e e1 e2 print before
    now same_files same_stamps same_path same_name paths_is ended_is next_is print_is printed =
    let here = rw (same_files, same_stamps, same_path) at now in
    let whole = rw (print_is, same_name) at printed in
    rw (next_is, ended_is, ← paths_is)
    (one_shown out reported (files_there bytes_at stamp_at) wanted paths path found exit n n1 n2 o o1 o2
    e e1 e2 before here whole)

-- .. or wasn't
pub next_cut : {W E : Type 0} (out : Writer W) (reported : Writer E) (bytes_at there : List ℕ → Option (List ℕ))
    (stamp_at stamps : List ℕ → Option FileStamp) (wanted : Wanted)
    (paths later all : List (List ℕ)) (path at name : List ℕ) (found : Found)
    (exit ended worst_yet given_up next : Exit)
    (n n1 n2 : ℕ) (o o1 o2 : W) (e e1 e2 e3 : E) (fault : Fault) (print line : Print)
    → IsShown out reported (files_there bytes_at stamp_at) paths wanted exit n n1 o o1 e e1
    → IsFoundByLook reported (IsLookAt (files_there there stamps) wanted) at found n1 n2 e1 e2
    → there ≡ bytes_at → stamps ≡ stamp_at → at ≡ path → name ≡ path → (paths ++ path ∷ []) ++ later ≡ all
    → ended ≡ exit_of_found found
    → worst_yet ≡ worse exit ended → given_up ≡ exit_on fault → next ≡ worse worst_yet given_up
    → IsPrintOfText (entry_text wanted.style wanted.named name found) (Err fault) print → IsPrint out print o1 o2
    → IsOf (as_line (input_fault_text fault)) line → IsPrint reported line e2 e3
    → IsStoppedEarly out reported (files_there bytes_at stamp_at) all wanted next n n2 o o2 e e3
next_cut out reported bytes_at there stamp_at stamps wanted paths later all path at name found exit ended worst_yet given_up
    next n n1 n2 o o1 o2
    e e1 e2 e3 fault print line before now same_files same_stamps same_path same_name all_is ended_is worst_is given_is next_is
    print_is
    printed line_is reported_line =
    let here = rw (same_files, same_stamps, same_path) at now in
    let part = subst (λ (m : List ℕ). IsPrintOfText (entry_text wanted.style wanted.named m found)
    (Err fault) print) same_name print_is in
    rw (next_is, worst_is, given_is, ended_is)
    (one_cut out reported (files_there bytes_at stamp_at) wanted paths path found exit n n1 n2 o o1 o2 e e1 e2 before here later all fault
    print line e3
    all_is part printed line_is reported_line)

-- the paths before one and this one
pub paths_to : (paths : List (String Global)) (i : ℕ) (x : String Global) → i < length paths → x ≡ get_or paths i x
    → map string_bytes (take i paths) ++ string_bytes x ∷ [] ≡ map string_bytes (take (i + 1) paths)
paths_to paths i x h is = sym (ap (map string_bytes)
    (take_more paths i x h ∙ ap (λ (y : String Global). take i paths ++ y ∷ []) (sym is))
    ∙ map-append string_bytes (take i paths) (x ∷ []))

-- and those after it
pub paths_after : (paths : List (String Global)) (i : ℕ) (x : String Global) → i < length paths → x ≡ get_or paths i x
    → (map string_bytes (take i paths) ++ string_bytes x ∷ []) ++ map string_bytes (drop (i + 1) paths)
    ≡ map string_bytes paths
paths_after paths i x h is = ap (λ (ps : List (List ℕ)). ps ++ map string_bytes (drop (i + 1) paths))
    (paths_to paths i x h is)
    ∙ sym (map-append string_bytes (take (i + 1) paths) (drop (i + 1) paths))
    ∙ ap (map string_bytes) (take-append-drop (i + 1) paths)
