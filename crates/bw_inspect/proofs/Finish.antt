-- The end of a walk.
use Rattle.std.proofs.Common.{◌≡◌, ℕ, ◌+◌, ◌-◌, ◌≤◌, false, List, [], Option, Some, None, refl, sym, ◌∙◌, ap, arith}
use Rattle.std.specs.Prelude.{codes, slice_range, option_map, is_none, unwrap_or, nat_le}
use Rattle.std.proofs.lemmas.Bool.{lt-leb}
use Rattle.bw_model.specs.Bytes.{first_that_holds, unless, u32_at}
use Rattle.bw_model.specs.Reading as reading
use Rattle.bw_model.specs.Report as report
use Rattle.bw_inspect.specs.Reports.{reserved_in}
use Rattle.bw_inspect.specs.Known.{Facts, facts_in, fmt_reported, samples_reported, bext_reported, cues_reported}

-- the `fmt ` chunk is there, and this is what it says
record FmtIs (b : List ℕ) (o : Option reading.Entry) (fmt : report.RawFmt) : Type 0 where
  there : is_none o ≡ false
  says : fmt ≡ report.raw_fmt (report.content_of b o)

fmt_is : (b : List ℕ) (o : Option reading.Entry) (fmt : report.RawFmt) → option_map (fmt_reported b) o ≡ Some fmt →
    FmtIs b o fmt
fmt_is b None fmt e = cc
fmt_is b (Some x) fmt e = record { there = refl; says = let s : fmt ≡ fmt_reported b x = cc in s }

-- the `data` chunk is there, and this is where
record DataIs (o : Option reading.Entry) (at size : ℕ) : Type 0 where
  there : is_none o ≡ false
  place : at ≡ unwrap_or (option_map (λ (e : reading.Entry). e.place + 8) o) 0
  bytes : size ≡ unwrap_or (option_map (λ (e : reading.Entry). e.size) o) 0

data_is : (o : Option reading.Entry) (at size : ℕ) → option_map samples_reported o ≡ Some (at, size) → DataIs o at size
data_is None at size e = cc
data_is (Some x) at size e =
    record {
      there = refl;
      place = ap (λ (o : Option (ℕ × ℕ)). (unwrap_or o (0, 0)).0) (sym e);
      bytes = ap (λ (o : Option (ℕ × ℕ)). (unwrap_or o (0, 0)).1) (sym e);
    }

-- what is reported of `bext`, of all that is kept of it
abbrev pub shown : (report.RawBext × List ℕ) × ℕ → report.RawBext × ℕ
shown x = (x.0.0, x.1)

-- its reserved bytes
abbrev pub kept : (report.RawBext × List ℕ) × ℕ → List ℕ
kept x = x.0.1

bext_is : (b : List ℕ) (o : Option reading.Entry) →
    option_map shown (option_map (bext_reported b) o)
    ≡ option_map (λ (e : reading.Entry). (report.raw_bext (report.content_of b o), e.size - 602)) o
bext_is b None = refl
bext_is b (Some x) = refl

reserved_is : (b : List ℕ) (o : Option reading.Entry) →
    option_map kept (option_map (bext_reported b) o)
    ≡ option_map (λ (e : reading.Entry). slice_range (report.content_of b (Some e)) 422 602) o
reserved_is b None = refl
reserved_is b (Some x) = refl

-- one map after another
pub maps : {X Y Z : Type 0} (f : Y → Z) (g : X → Y) (o : Option X) →
    option_map f (option_map g o) ≡ option_map (λ x. f (g x)) o
maps f g None = refl
maps f g (Some x) = refl

cues_is : (b : List ℕ) (o : Option reading.Entry) →
    unwrap_or (option_map (cues_reported b) o) []
    ≡ report.raw_cues (report.content_of b o) 4 (u32_at (report.content_of b o) 0)
cues_is b None = refl
cues_is b (Some x) = refl

-- what a finished walk says is the report
pub record Finished (b : List ℕ) (form : reading.Form) (seen : List reading.Entry) (r : report.Report) : Type 0 where
  pub reports : r ≡ report.report_of b form seen
  pub free : first_that_holds (reading.end_faults (reading.form_end form) seen) ≡ None

-- these are the reserved bytes
pub reserved_reported : (b : List ℕ) (seen : List reading.Entry) (k : Facts) → k ≡ facts_in b seen →
    option_map kept k.bext ≡ reserved_in b seen
reserved_reported b seen k e =
    ap (λ (z : Facts). option_map kept z.bext) e ∙ reserved_is b (reading.entry_of (codes "bext") seen)

pub finished : (b : List ℕ) (form : reading.Form) (seen : List reading.Entry) (k : Facts) (fmt : report.RawFmt)
    (at size : ℕ) (bext : Option (report.RawBext × ℕ)) (cues : List report.RawCue) (chunks : List reading.Entry) →
    bext ≡ option_map shown k.bext → chunks ≡ seen → k ≡ facts_in b seen → k.fmt ≡ Some fmt →
    k.samples ≡ Some (at, size) → cues ≡ unwrap_or k.cues [] →
    Finished b form seen (record {
      form = form.id;
      size = form.size;
      chunks = chunks;
      fmt = fmt;
      data_at = at;
      data_size = size;
      bext = bext;
      cues = cues;
    })
unfolding report.report_of
finished b form seen k fmt at size bext cues chunks x l e f d c =
    let fo = reading.entry_of (codes "fmt ") seen in
    let dt = reading.entry_of (codes "data") seen in
    let xo = reading.entry_of (codes "bext") seen in
    let qo = reading.entry_of (codes "cue ") seen in
    let fs = fmt_is b fo fmt (sym (ap (λ (z : Facts). z.fmt) e) ∙ f) in
    let ds = data_is dt at size (sym (ap (λ (z : Facts). z.samples) e) ∙ d) in
    let xs : bext ≡ option_map (λ (z : reading.Entry). (report.raw_bext (report.content_of b xo), z.size - 602)) xo =
    x ∙ (ap (λ (z : Facts). option_map shown z.bext) e ∙ bext_is b xo) in
    let qs : cues ≡ report.raw_cues (report.content_of b qo) 4 (u32_at (report.content_of b qo) 0) =
    c ∙ (ap (λ (z : Facts). unwrap_or z.cues []) e ∙ cues_is b qo) in
    let fe = fs.says in let de = ds.place in let df = ds.bytes in
    record {
      reports = cc;
      free = rw (fs.there, ds.there) refl;
    }

-- the end is reached
pub next_end : (b : List ℕ) (form : reading.Form) (seen : List reading.Entry) (p : ℕ) (o : Option reading.Fault) →
    p ≡ reading.next_place seen → reading.form_end form + 1 ≤ p + 8 →
    first_that_holds (reading.end_faults (reading.form_end form) seen) ≡ o → reading.next b form seen ≡ unless o None
unfolding reading.next
next_end b form seen p o e l f =
    let past : nat_le (p + 8) (reading.form_end form) ≡ false = lt-leb (p + 8) (reading.form_end form) (omega arith) in
    rw (← e, past, f) refl
