-- Digits of numbers by bases: how many there are, and the reports on them.
use Rattle.std.proofs.Common.{◌≡◌, ℕ, ℤ, ◌*◌, ◌<◌, ◌≤◌, ◌++◌, ◌||◌, Bool, true, false, cond, List, length, is_some, nat_lt, Option, Some, None, refl, sym, ap, ◌∙◌, arith}
use Rattle.std.specs.List.{All}
use Rattle.std.proofs.lemmas.Bool.Decides.{nat_tests}
use Rattle.std.proofs.lemmas.List.Elements.{All-append}
use Rattle.apl_arrays.specs.declared.array.ShapeFault.{ShapeFault}
use Rattle.apl_arrays.specs.declared.report.Report.TheVariants.{Domain, WsFull}
use Rattle.apl_arrays.specs.Array.{numbers as numbers_of, PlainArray, PlainItems, FitsLimits, IsArray, element_count, is_chars, numbers_in}
use Rattle.apl_arrays.specs.Shape.{shape_fault}
use Rattle.apl_arrays.proofs.Shapes.{too_large_by_size, what_fits_has_no_fault}
use Rattle.apl_items.specs.Answers.{first_report, no_faults}
use Rattle.apl_items.specs.Places.{items_by, lacks_item}
use Rattle.apl_items.proofs.ShapeLemmas.{element_count-append}
use Rattle.apl_search.specs.Encode.{digit_for, digits_of, encode_faults, encode_shape, encode_misfit}
use Rattle.apl_search.proofs.Counts.{count_numbers}

-- ---- the limit

pub within_limit : (n : ℕ) → n ≤ 16384 → nat_lt 16384 n ≡ false
within_limit n h = grind (arith, nat_tests)

above_limit : (n : ℕ) → 16384 < n → nat_lt 16384 n ≡ true
above_limit n h = grind (arith, nat_tests)

is_within_limit : (n : ℕ) → nat_lt 16384 n ≡ false → n ≤ 16384
is_within_limit n e = grind (arith, nat_tests)

-- ---- flags

both_false : (b c : Bool) → (b || c) ≡ false → (b ≡ false) × (c ≡ false)
both_false true c e = absurd (cc)
both_false false c e = (refl, e)

pub no_misfit : (rank kind : Bool) → first_report (record no_faults { bad_rank = rank; bad_domain = kind }) ≡ None → (rank ≡ false) × (kind ≡ false)
no_misfit true kind e = absurd (cc)
no_misfit false true e = absurd (cc)
no_misfit false false e = (refl, refl)

-- the report on digits where nothing else is wrong
report_by : (rank kind lacks large : Bool) → rank ≡ false → kind ≡ false
    → first_report (record no_faults { bad_rank = rank; bad_domain = kind || lacks; too_large = large }) ≡ cond lacks (Some Domain) (cond large (Some WsFull) None)
report_by true kind lacks large r k = absurd (cc)
report_by false true lacks large r k = absurd (cc)
report_by false false true large r k = refl
report_by false false false true r k = refl
report_by false false false false r k = refl

pub no_report : (rank kind lacks large : Bool) → first_report (record no_faults { bad_rank = rank; bad_domain = kind || lacks; too_large = large }) ≡ None
    → (first_report (record no_faults { bad_rank = rank; bad_domain = kind }) ≡ None) × (lacks ≡ false) × (large ≡ false)
no_report true kind lacks large e = absurd (cc)
no_report false true lacks large e = absurd (cc)
no_report false false true large e = absurd (cc)
no_report false false false true e = absurd (cc)
no_report false false false false e = (refl, refl, refl)

-- ---- bases and numbers

-- bases and numbers of two arrays without a misfit
pub record IsSetOut (a b : PlainArray) (bases numbers : List ℤ) : Type 0 where
  pub fine : first_report (encode_misfit a b) ≡ None
  pub is_a : IsArray a
  pub is_b : IsArray b
  pub is_bases : bases ≡ numbers_in a.items
  pub is_numbers : numbers ≡ numbers_in b.items

-- from what a call has read of the two arrays
pub set_out : (a b : PlainArray) (of_a of_b : PlainItems) (bases numbers : List ℤ) → first_report (encode_misfit a b) ≡ None → IsArray a → IsArray b
    → bases ≡ numbers_in of_a → of_a ≡ a.items → numbers ≡ numbers_in of_b → of_b ≡ b.items → IsSetOut a b bases numbers
set_out a b of_a of_b bases numbers fine is_a is_b is_bases items_a is_numbers items_b = record {
  fine = fine;
  is_a = is_a;
  is_b = is_b;
  is_bases = is_bases ∙ ap numbers_in items_a;
  is_numbers = is_numbers ∙ ap numbers_in items_b;
}

pub count_of : (a b : PlainArray) (bases numbers : List ℤ) → IsSetOut a b bases numbers → element_count (encode_shape a b) ≡ length bases * length numbers
count_of a b bases numbers out =
    let flags = no_misfit _ (is_chars a.items || is_chars b.items) out.fine in
    let kinds = both_false (is_chars a.items) (is_chars b.items) flags.1 in
    let of_a : element_count a.shape ≡ length bases = out.is_a.whole ∙ sym (count_numbers a.items kinds.0) ∙ ap length (sym out.is_bases) in
    let of_b : element_count b.shape ≡ length numbers = out.is_b.whole ∙ sym (count_numbers b.items kinds.1) ∙ ap length (sym out.is_numbers) in
    element_count-append a.shape b.shape ∙ ap (λ (n : ℕ). n * element_count b.shape) of_a ∙ ap (λ (n : ℕ). length bases * n) of_b

-- a shape of small axes passes the limits by its count alone
pub large_by_count : (shape : List ℕ) → length shape ≤ 8 → All (λ axis. axis ≤ 16384) shape → is_some (shape_fault shape) ≡ nat_lt 16384 (element_count shape)
large_by_count shape rank axes = by_count (nat_lt 16384 (element_count shape)) refl
  where
    by_count : (b : Bool) → nat_lt 16384 (element_count shape) ≡ b → is_some (shape_fault shape) ≡ b
    by_count true e =
        let above : 16384 < element_count shape = grind (arith, nat_tests) in
        ap (λ (f : Option ShapeFault). is_some f) (too_large_by_size shape rank (λ (fits : FitsLimits shape). absurd (let few = fits.elements in omega arith)))
    by_count false e =
        let few : element_count shape ≤ 16384 = grind (arith, nat_tests) in
        ap (λ (f : Option ShapeFault). is_some f) (what_fits_has_no_fault shape (record { rank = rank; axes = axes; elements = few }))

pub is_large : (a b : PlainArray) (bases numbers : List ℤ) → IsSetOut a b bases numbers → is_some (shape_fault (encode_shape a b)) ≡ nat_lt 16384 (length bases * length numbers)
is_large a b bases numbers out =
    let flags = no_misfit _ (is_chars a.items || is_chars b.items) out.fine in
    let ranks = both_false (nat_lt 1 (length a.shape)) (nat_lt 8 (length (encode_shape a b))) flags.0 in
    let rank : length (encode_shape a b) ≤ 8 = not_above (length (encode_shape a b)) ranks.1 in
    large_by_count (encode_shape a b) rank (All-append (λ axis. axis ≤ 16384) a.shape b.shape out.is_a.fits.axes out.is_b.fits.axes)
    ∙ ap (λ (n : ℕ). nat_lt 16384 n) (count_of a b bases numbers out)
  where
    not_above : (n : ℕ) → nat_lt 8 n ≡ false → n ≤ 8
    not_above n e = grind (arith, nat_tests)

pub all_lacks : (a b : PlainArray) (bases numbers : List ℤ) → IsSetOut a b bases numbers
    → lacks_item (element_count (encode_shape a b)) (digit_for (numbers_in a.items) (numbers_in b.items)) ≡ lacks_item (length bases * length numbers) (digit_for bases numbers)
all_lacks a b bases numbers out =
    ap (λ (n : ℕ). lacks_item n (digit_for (numbers_in a.items) (numbers_in b.items))) (count_of a b bases numbers out)
    ∙ ap (λ (xs : List ℤ). lacks_item (length bases * length numbers) (digit_for xs (numbers_in b.items))) (sym out.is_bases)
    ∙ ap (λ (xs : List ℤ). lacks_item (length bases * length numbers) (digit_for bases xs)) (sym out.is_numbers)

-- the report on digits
pub report_is : (a b : PlainArray) (bases numbers : List ℤ) (lacks : Bool) → IsSetOut a b bases numbers → lacks ≡ lacks_item (length bases * length numbers) (digit_for bases numbers)
    → cond lacks (Some Domain) (cond (nat_lt 16384 (length bases * length numbers)) (Some WsFull) None) ≡ first_report (encode_faults a b)
report_is a b bases numbers lacks out is =
    let flags = no_misfit _ (is_chars a.items || is_chars b.items) out.fine in
    sym (report_by _ (is_chars a.items || is_chars b.items) _ _ flags.0 flags.1
    ∙ ap (λ (l : Bool). cond l (Some Domain) (cond (is_some (shape_fault (encode_shape a b))) (Some WsFull) None)) (all_lacks a b bases numbers out ∙ sym is)
    ∙ ap (λ (l : Bool). cond lacks (Some Domain) (cond l (Some WsFull) None)) (is_large a b bases numbers out))

pub domain_is : (a b : PlainArray) (bases numbers : List ℤ) (lacks : Bool) → IsSetOut a b bases numbers → lacks ≡ lacks_item (length bases * length numbers) (digit_for bases numbers)
    → lacks ≡ true → Some Domain ≡ first_report (encode_faults a b)
domain_is a b bases numbers lacks out is holds =
    ap (λ (l : Bool). cond l (Some Domain) (cond (nat_lt 16384 (length bases * length numbers)) (Some WsFull) None)) (sym holds) ∙ report_is a b bases numbers lacks out is

pub ws_full_is : (a b : PlainArray) (bases numbers : List ℤ) (lacks : Bool) → IsSetOut a b bases numbers → lacks ≡ lacks_item (length bases * length numbers) (digit_for bases numbers)
    → lacks ≡ false → 16384 < length bases * length numbers → Some WsFull ≡ first_report (encode_faults a b)
ws_full_is a b bases numbers lacks out is fails above =
    ap (λ (l : Bool). cond l (Some WsFull) None) (sym (above_limit (length bases * length numbers) above))
    ∙ ap (λ (l : Bool). cond l (Some Domain) (cond (nat_lt 16384 (length bases * length numbers)) (Some WsFull) None)) (sym fails) ∙ report_is a b bases numbers lacks out is

pub none_is : (a b : PlainArray) (bases numbers : List ℤ) (lacks : Bool) → IsSetOut a b bases numbers → lacks ≡ lacks_item (length bases * length numbers) (digit_for bases numbers)
    → lacks ≡ false → length bases * length numbers ≤ 16384 → None ≡ first_report (encode_faults a b)
none_is a b bases numbers lacks out is fails below =
    ap (λ (l : Bool). cond l (Some WsFull) None) (sym (within_limit (length bases * length numbers) below))
    ∙ ap (λ (l : Bool). cond l (Some Domain) (cond (nat_lt 16384 (length bases * length numbers)) (Some WsFull) None)) (sym fails) ∙ report_is a b bases numbers lacks out is

-- the digits that are made are those of the definition
pub digits_whole : (a b : PlainArray) (bases numbers : List ℤ) (shape : List ℕ) (digits : List ℤ) → IsSetOut a b bases numbers → shape ≡ encode_shape a b
    → digits ≡ items_by (length bases * length numbers) (digit_for bases numbers) → record { shape = shape; items = numbers_of digits } ≡ digits_of a b
digits_whole a b bases numbers shape digits out is_shape is =
    ap (λ (s : List ℕ). record { shape = s; items = numbers_of digits }) is_shape
    ∙ ap (λ (xs : List ℤ). record { shape = encode_shape a b; items = numbers_of xs })
    (is ∙ ap (λ (n : ℕ). items_by n (digit_for bases numbers)) (sym (count_of a b bases numbers out))
    ∙ ap (λ (xs : List ℤ). items_by (element_count (encode_shape a b)) (digit_for xs numbers)) out.is_bases
    ∙ ap (λ (xs : List ℤ). items_by (element_count (encode_shape a b)) (digit_for (numbers_in a.items) xs)) out.is_numbers)

-- bases and numbers without a report
pub fine_digits : (a b : PlainArray) (of_a of_b : PlainItems) (bases numbers : List ℤ) → first_report (encode_faults a b) ≡ None → IsArray a → IsArray b
    → bases ≡ numbers_in of_a → of_a ≡ a.items → numbers ≡ numbers_in of_b → of_b ≡ b.items
    → IsSetOut a b bases numbers × (lacks_item (length bases * length numbers) (digit_for bases numbers) ≡ false) × (length bases * length numbers ≤ 16384)
fine_digits a b of_a of_b bases numbers fine is_a is_b is_bases items_a is_numbers items_b =
    let parts = no_report _ (is_chars a.items || is_chars b.items) _ _ fine in
    let out = set_out a b of_a of_b bases numbers parts.0 is_a is_b is_bases items_a is_numbers items_b in
    (out, sym (all_lacks a b bases numbers out) ∙ parts.1, is_within_limit (length bases * length numbers) (sym (is_large a b bases numbers out) ∙ parts.2))

-- the shape that a call makes is that of the digits
pub joined_is : (a b : PlainArray) (seen shape front back : List ℕ) → seen ≡ shape → shape ≡ front ++ back → front ≡ a.shape → back ≡ b.shape → seen ≡ encode_shape a b
joined_is a b seen shape front back is_seen is_shape is_front is_back =
    is_seen ∙ is_shape ∙ ap (λ (xs : List ℕ). xs ++ back) is_front ∙ ap (λ (xs : List ℕ). a.shape ++ xs) is_back
