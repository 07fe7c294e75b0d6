-- Calls on which nothing is reported, and what tests of numbers say.
use Rattle.std.proofs.Common.{◌≡◌, ◌<◌, ◌≤◌, ◌==◌, ◌||◌, ℕ, Bool, true, false, nat_lt, Option, Some, None, Ok, Err, is_some, length, refl, sym, ap, arith}
use Rattle.std.proofs.lemmas.Bool.Decides.{nat_tests}
use Rattle.apl_arrays.specs.declared.array.ShapeFault.{ShapeFault}
use Rattle.apl_arrays.specs.Array.{PlainArray, PlainItems, IsArray, numbers, chars, is_chars, item_count, numbers_in}
use Rattle.apl_arrays.specs.declared.report.Report.{Report}
use Rattle.apl_arrays.specs.declared.report.Report.TheVariants.{WsFull}
use Rattle.apl_items.specs.Answers.{Faults, answer_of, first_report, unless}
use Rattle.apl_items.specs.Extension.{place_in}

-- no kind of fault
pub record IsSound (faults : Faults) : Type 0 where
  pub rank : faults.bad_rank ≡ false
  pub long : faults.bad_length ≡ false
  pub domain : faults.bad_domain ≡ false
  pub index : faults.bad_index ≡ false
  pub size : faults.too_large ≡ false

sound_by : (rank long domain index size : Bool) → None ≡ first_report (record { bad_rank = rank; bad_length = long; bad_domain = domain; bad_index = index; too_large = size })
    → (rank ≡ false) × (long ≡ false) × (domain ≡ false) × (index ≡ false) × (size ≡ false)
sound_by true long domain index size e = absurd (cc)
sound_by false true domain index size e = absurd (cc)
sound_by false false true index size e = absurd (cc)
sound_by false false false true size e = absurd (cc)
sound_by false false false false true e = absurd (cc)
sound_by false false false false false e = (refl, refl, refl, refl, refl)

-- where nothing is reported nothing is wrong
pub nothing_is_wrong : (faults : Faults) → None ≡ first_report faults → IsSound faults
nothing_is_wrong faults none =
    let parts = sound_by faults.bad_rank faults.bad_length faults.bad_domain faults.bad_index faults.too_large none in record {
      rank = parts.0;
      long = parts.1;
      domain = parts.2;
      index = parts.3;
      size = parts.4;
    }

-- where nothing else is wrong the answer is WS FULL, if the result is too large
pub answer_too_large : (faults : Faults) (array : PlainArray) (large : Bool) → None ≡ first_report faults → large ≡ true → answer_of (record faults { too_large = large }) array ≡ Err WsFull
answer_too_large faults array large none e = let sound = nothing_is_wrong faults none in rw (sound.rank, sound.long, sound.domain, sound.index, e) refl

-- else the array
pub answer_fits : (faults : Faults) (array : PlainArray) (large : Bool) → None ≡ first_report faults → large ≡ false → answer_of (record faults { too_large = large }) array ≡ Ok array
answer_fits faults array large none e = let sound = nothing_is_wrong faults none in rw (sound.rank, sound.long, sound.domain, sound.index, e) refl

reported_by : (rank long domain index large : Bool) (report : Report)
    → Some report ≡ first_report (record { bad_rank = rank; bad_length = long; bad_domain = domain; bad_index = index; too_large = false })
    → first_report (record { bad_rank = rank; bad_length = long; bad_domain = domain; bad_index = index; too_large = large }) ≡ Some report
reported_by true long domain index large report e = sym e
reported_by false true domain index large report e = sym e
reported_by false false true index large report e = sym e
reported_by false false false true large report e = sym e
reported_by false false false false large report e = absurd (cc)

-- where something else is wrong its report goes before WS FULL
pub answer_reported : (rank long domain index large : Bool) (array : PlainArray) (report : Report)
    → Some report ≡ first_report (record { bad_rank = rank; bad_length = long; bad_domain = domain; bad_index = index; too_large = false })
    → answer_of (record { bad_rank = rank; bad_length = long; bad_domain = domain; bad_index = index; too_large = large }) array ≡ Err report
answer_reported rank long domain index large array report e = ap (λ (r : Option Report). unless r array) (reported_by rank long domain index large report e)

-- the first of two facts of which none holds
pub or_first : (x y : Bool) → (x || y) ≡ false → x ≡ false
or_first true y e = absurd (cc)
or_first false y e = refl

few_by : (items : PlainItems) (count : ℕ) → count ≡ item_count items → count ≤ 16384 → length (numbers_in items) ≤ 16384
few_by (numbers list) count e few = omega arith
few_by (chars list) count e few = omega arith

-- an array has few numbers
pub few_numbers : (a : PlainArray) → IsArray a → length (numbers_in a.items) ≤ 16384
few_numbers a array = few_by a.items _ array.whole array.fits.elements

no_more_by : (items : PlainItems) → length (numbers_in items) ≤ item_count items
no_more_by (numbers list) = omega arith
no_more_by (chars list) = omega arith

-- no more numbers than items
pub no_more_numbers : (a : PlainArray) → length (numbers_in a.items) ≤ item_count a.items
no_more_numbers a = no_more_by a.items

-- as many as items, where the kind is numbers
pub count_of_numbers : (items : PlainItems) → is_chars items ≡ false → item_count items ≡ length (numbers_in items)
count_of_numbers (numbers list) e = refl
count_of_numbers (chars list) e = absurd (cc)

-- no fault
pub none_from : (o : Option ShapeFault) → is_some o ≡ false → o ≡ None
none_from None e = refl
none_from (Some fault) e = absurd (cc)

-- numbers that are told the same are
pub same_number : (m n : ℕ) → (m == n) ≡ true → m ≡ n
same_number m n e = grind (arith, nat_tests)

pub not_over : (most n : ℕ) → nat_lt most n ≡ false → n ≤ most
not_over most n e = grind (arith, nat_tests)

-- no more axes than there may be
pub few_axes : (n : ℕ) → n ≤ 8 → nat_lt 8 n ≡ false
few_axes n h = grind (arith, nat_tests)

lone_by : (count place : ℕ) (b : Bool) → (count == 1) ≡ b → place < count → place_in count place ≡ place
lone_by count place true e below = let one = same_number count 1 e in rw e (omega arith)
lone_by count place false e below = rw e refl

-- a place below a count, where it would be 0 for a lone item
pub lone_place : (count place : ℕ) → place < count → place_in count place ≡ place
lone_place count place below = lone_by count place (count == 1) refl below
