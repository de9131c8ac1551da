-- The two forms with a `ds64` chunk, and bytes under the id of either.
use Rattle.std.specs.Prelude.{◌≡◌, ℕ, List, ◌++◌, codes, drop}
use Rattle.bw_model.specs.Bytes.{zeros}
use Rattle.bw_inspect.specs.Readings.{HasReading}
use Rattle.bw_repair.specs.declared.conversions.form.WideForm.{WideForm}
use Rattle.bw_repair.specs.declared.conversions.form.WideForm.TheVariants.{Rf64, Bw64}

-- the bytes with which a form's files begin (EBU Tech 3306; ITU-R BS.2088)
abbrev pub id_of : WideForm → List ℕ
id_of Rf64 = codes "RF64"
id_of Bw64 = codes "BW64"

-- the other form
abbrev pub other_of : WideForm → WideForm
other_of Rf64 = Bw64
other_of Bw64 = Rf64

-- the bytes under a form's id: the first four are the id, all others stay
abbrev pub renamed : WideForm → List ℕ → List ℕ
renamed form b = id_of form ++ drop 4 b

-- the bytes without an id: the first four are zero, all others stay
abbrev pub unnamed : List ℕ → List ℕ
unnamed b = zeros 4 ++ drop 4 b

-- the bytes have a reading, and are of the other form
pub record IsConvertible (form : WideForm) (b : List ℕ) : Type 0 where
  pub reading_is : HasReading b
  pub named : reading_is.form.id ≡ id_of (other_of form)
