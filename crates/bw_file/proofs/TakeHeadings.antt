-- The heading of a take.
use Rattle.std.proofs.Common.{◌≡◌, ℕ, false, List, length, Some, sym, ◌∙◌, ap, subst}
use Rattle.bw_model.specs.Take.{Take, Parts, AreFields, parts}
use Rattle.bw_model.specs.File.{header, data_place}
use Rattle.bw_layout.specs.declared.heading.Heading.{Heading}
use Rattle.bw_layout.specs.Headings.{header_of, place_of}
use Rattle.bw_file.proofs.Judged.{IsOpen}

-- what it says is the take's
pub record IsHeading (t : Take) (limit : ℕ) (h : Heading) : Type 0 where
  pub format : t.format ≡ Some h.format
  pub fields : AreFields t.fields
  pub place : place_of h ≡ data_place (length t.history)
  pub header : (data_len cues : ℕ) → header_of h data_len cues ≡ header h.format t.fields t.history data_len cues limit

pub is_heading : (t : Take) (p : Parts) (h : Heading) (limit : ℕ) → parts t ≡ p → Some h.format ≡ p.format →
    h.bext.now ≡ p.fields → h.history.now ≡ p.history → h.limit ≡ limit → IsHeading t limit h
is_heading t p h limit same format fields history at_limit =
    let set = fields ∙ sym (ap (λ (q : Parts). q.fields) same) in
    let reported = history ∙ sym (ap (λ (q : Parts). q.history) same) in
    record {
      format = ap (λ (q : Parts). q.format) same ∙ sym format;
      fields = subst AreFields set h.widths;
      place = ap (λ (l : List ℕ). data_place (length l)) reported;
      header = λ data_len cues. rw (set, reported, at_limit);
    }

-- what a state and the heading that is made of it say of an open take
pub record IsStated (t : Take) (limit : ℕ) (h : Heading) (samples_len : ℕ) : Type 0 where
  pub heads : IsHeading t limit h
  pub is_open : t.closed ≡ false
  pub in_all : samples_len ≡ length t.samples

pub stated : (t : Take) (p : Parts) (h : Heading) (limit samples_len : ℕ) → parts t ≡ p → IsOpen p →
    Some h.format ≡ p.format → h.bext.now ≡ p.fields → h.history.now ≡ p.history → h.limit ≡ limit →
    samples_len ≡ p.samples_len → IsStated t limit h samples_len
stated t p h limit samples_len same opened format fields history at_limit len = record {
  heads = is_heading t p h limit same format fields history at_limit;
  is_open = ap (λ (q : Parts). q.closed) same ∙ opened.not_closed;
  in_all = len ∙ sym (ap (λ (q : Parts). q.samples_len) same);
}
