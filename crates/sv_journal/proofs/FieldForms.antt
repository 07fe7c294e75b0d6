-- Reading the fields of acts: parties and names.
use Rattle.std.proofs.Common.{ℕ, ◌-◌, ◌^◌, List, [], ◌∷◌, codes, refl, arith}
use Rattle.std.specs.Fmt.{decimal}
use Rattle.apl_arrays.specs.Name.{IsName}
use Rattle.text_reader.specs.Reading.{read_name}
use Rattle.text_reader.specs.NumberReading.{read_number}
use Rattle.text_reader.proofs.NameForms.{NoName, itself, reads_name}
use Rattle.text_reader.proofs.NumberForms.{InRange, NoDigit, reads_number}
use Rattle.text_reader.proofs.Readers.{SameFirst, IsReader, reformed, after_text}
use Rattle.sv_journal.specs.ActReading.{read_local, read_party}
use Rattle.sv_journal.specs.IsEntry.{IsPartyNumber}

-- what stands behind a field does not go on with a digit, nor as a name does
pub record Ends (behind : List ℕ) : Type 0 where
  pub digits : NoDigit behind
  pub names : NoName behind

-- parties and names behind a blank

abbrev pub party_text : ℕ → List ℕ
party_text party = 32 ∷ decimal party

abbrev pub local_text : List ℕ → List ℕ
local_text local = 32 ∷ local

in_range : (n : ℕ) → IsPartyNumber n → InRange 0 (2 ^ 32 - 1) n
in_range n h = record { least = omega arith; most = omega (arith, h) }

is_party : (n : ℕ) → InRange 0 (2 ^ 32 - 1) n → IsPartyNumber n
is_party n h = omega (arith, h.most)

-- a number of a range, which a predicate says too
as_party : IsReader decimal IsPartyNumber NoDigit SameFirst (read_number 0 (2 ^ 32 - 1))
as_party =
    reformed decimal decimal (InRange 0 (2 ^ 32 - 1)) IsPartyNumber NoDigit NoDigit SameFirst (read_number 0 (2 ^ 32 - 1)) in_range is_party (λ e h. refl) (λ behind h. h) (reads_number 0 (2 ^ 32 - 1) (omega arith) (omega arith))

pub reads_party : IsReader party_text IsPartyNumber NoDigit SameFirst read_party
unfolding read_party
reads_party = after_text (codes " ") decimal IsPartyNumber NoDigit SameFirst (read_number 0 (2 ^ 32 - 1)) 0 (omega arith) as_party

pub a_name : IsName (65 ∷ [])
a_name = refl

pub reads_local : IsReader local_text IsName NoName SameFirst read_local
unfolding read_local
reads_local = after_text (codes " ") itself IsName NoName SameFirst read_name (65 ∷ []) a_name reads_name
