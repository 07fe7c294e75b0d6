-- Digits: which of them leave 64 bits, and that they are put in column by column.
use mir.Syntax.{w64, w128}
use Rattle.std.proofs.Common.{◌≡◌, ℕ, zero, suc, ℤ, pos, negsuc, ◌+◌, ◌*◌, ◌/◌, ◌%◌, ◌<◌, ◌≤◌, ◌^◌, ◌≤ℤ◌, ◌<ℤ◌, neg_ℤ, unsigned_abs, FitsSigned, to_z, of_z, Bool, true, false, cond, ◌&&◌, if◌then◌else◌, nat_lt, List, [], ◌∷◌, length, drop, set, get_or, slice_get, Option, Some, None, is_none, is_some, refl, sym, ap, subst, ◌∙◌, arith, get_or-set_other, get_or-set_same, drop-cons}
use Rattle.std.specs.Cmp.{both_ways}
use Rattle.std.specs.List.{list_any}
use Rattle.std.specs.Ordering.{int_eq}
use Rattle.std.proofs.Math.Nat.{div-le_self}
use Rattle.std.proofs.lemmas.Bool.Decides.{Decides-int_eq, nat_tests}
use Rattle.std.proofs.lemmas.Int.{ints}
use Rattle.std.proofs.lemmas.List.Folds.{Any-from_list_any, list_any_at}
use Rattle.std.proofs.lemmas.List.FromFn.{get_or-range_with_len, length-range_with_len}
use Rattle.std.proofs.lemmas.List.{get_or_default, drop_all}
use Rattle.std.proofs.lemmas.Option.{slice_get-get_or}
use Rattle.std.proofs.lemmas.Nat.{mul-add-lt, div-mul-add, mod-mul-add, div-add-mod', div_below, mod_below}
use Rattle.apl_items.specs.Places.{items_by, lacks_item, places}
use Rattle.apl_items.proofs.PlaceLemmas.{list_any-places, made}
use Rattle.apl_scalar.specs.Counting.{floor_by, floor_quotient, residue}
use Rattle.apl_scalar.specs.Reading.{AllFit}
use Rattle.apl_arrays.specs.Number.{fits}
use Rattle.apl_scalar.specs.Table.{item_where, least}
use Rattle.apl_scalar.proofs.Quotients.{residue_from_0, residue_below, residue_to_0, residue_above}
use Rattle.apl_search.specs.Encode.{AreBefore, AreFrom, digit_at, digit_for, rest_by, rest_by_all}

-- ---- magnitudes

-- the numbers of 64 bits, both ways
signed : (z : ℤ) → fits z ≡ true → FitsSigned w64 z
signed (pos n) e = record { sfits = grind (arith, nat_tests) }
signed (negsuc n) e = record { sfits = grind (arith, nat_tests) }

no_greater : (z : ℤ) → fits z ≡ true → unsigned_abs z ≤ 2 ^ 63
no_greater z small = let inside = signed z small in omega (arith, ints)

floor_by_no_greater : (b : ℤ) (d : ℕ) → unsigned_abs (floor_by b d) ≤ unsigned_abs b
floor_by_no_greater (pos n) d = div-le_self n d
floor_by_no_greater (negsuc n) d = let below = div-le_self n d in omega arith

abs_neg : (z : ℤ) → unsigned_abs (neg_ℤ z) ≡ unsigned_abs z
abs_neg z = omega (arith, ints)

quotient_no_greater : (a b : ℤ) → unsigned_abs (floor_quotient a b) ≤ unsigned_abs b
quotient_no_greater (pos a) b = floor_by_no_greater b a
quotient_no_greater (negsuc a) b = let bound = floor_by_no_greater (neg_ℤ b) (suc a) in let same = abs_neg b in omega arith

rest_no_greater : (base number : ℤ) → unsigned_abs (rest_by base number) ≤ unsigned_abs number
rest_no_greater base number = by_test (int_eq base (pos 0))
  where
    by_test : (b : Bool) → unsigned_abs (cond b (pos 0) (floor_quotient base number)) ≤ unsigned_abs number
    by_test true = omega (arith, ints)
    by_test false = quotient_no_greater base number

pub rests_no_greater : (bases : List ℤ) (number : ℤ) → unsigned_abs (rest_by_all bases number) ≤ unsigned_abs number
rests_no_greater [] number = omega arith
rests_no_greater (base ∷ bases) number =
    let here = rest_no_greater base (rest_by_all bases number) in
    let others = rests_no_greater bases number in
    omega arith

up_small : (r a : ℤ) → pos 0 ≤ℤ r → r <ℤ a → unsigned_abs a ≤ 2 ^ 63 → unsigned_abs r < 2 ^ 63
up_small r a low high bound = omega (arith, ints)

down_small : (r a : ℤ) → r ≤ℤ pos 0 → a <ℤ r → unsigned_abs a ≤ 2 ^ 63 → unsigned_abs r < 2 ^ 63
down_small r a high low bound = omega (arith, ints)

residue_small : (base number : ℤ) → unsigned_abs base ≤ 2 ^ 63 → unsigned_abs number < 2 ^ 63 → unsigned_abs (residue base number) < 2 ^ 63
residue_small (pos zero) number of_base of_number = of_number
residue_small (pos (suc d)) number of_base of_number =
    up_small (residue (pos (suc d)) number) (pos (suc d)) (residue_from_0 (pos (suc d)) number (omega (arith, ints))) (residue_below (pos (suc d)) number (omega (arith, ints))) of_base
residue_small (negsuc d) number of_base of_number =
    down_small (residue (negsuc d) number) (negsuc d) (residue_to_0 (negsuc d) number (omega (arith, ints))) (residue_above (negsuc d) number (omega (arith, ints))) of_base

pub fits_small : (z : ℤ) → unsigned_abs z < 2 ^ 63 → fits z ≡ true
fits_small (pos n) below = grind (arith, nat_tests)
fits_small (negsuc n) below = grind (arith, nat_tests)

-- a digit of a number that is not the least is in 64 bits
pub digit_fits : (bases : List ℤ) (number : ℤ) (at : ℕ) → unsigned_abs (get_or bases at (pos 0)) ≤ 2 ^ 63 → unsigned_abs number < 2 ^ 63 → fits (digit_at bases number at) ≡ true
digit_fits bases number at of_base of_number =
    let left = rests_no_greater (drop (at + 1) bases) number in
    fits_small (digit_at bases number at) (residue_small (get_or bases at (pos 0)) (rest_by_all (drop (at + 1) bases) number) of_base (omega arith))

least_or_small : (z : ℤ) → fits z ≡ true → int_eq z least ≡ false → unsigned_abs z < 2 ^ 63
least_or_small z small other =
    let apart : z ≡ least → ⊥ = λ (e : z ≡ least). let bad = (Decides-int_eq z least).1 e in absurd (cc) in
    let inside = signed z small in
    omega (arith, ints)

-- ---- places of digits

place_below : (rows columns at column : ℕ) → at < rows → column < columns → at * columns + column < rows * columns
place_below rows columns at column p q = omega (arith, mul-add-lt at columns column rows p q)

some_columns : (rows columns place : ℕ) → place < rows * columns → 0 < columns
some_columns rows zero place below = absurd (omega arith)
some_columns rows (suc columns) place below = omega arith

pub digit_of_place : (bases numbers : List ℤ) (at column : ℕ) → column < length numbers
    → digit_for bases numbers (at * length numbers + column) ≡ item_where true (digit_at bases (get_or numbers column (pos 0)) at)
digit_of_place bases numbers at column below =
    ap (λ (c : ℕ). item_where true (digit_at bases (get_or numbers c (pos 0)) ((at * length numbers + column) / length numbers))) (mod-mul-add at (length numbers) column below)
    ∙ ap (λ (row : ℕ). item_where true (digit_at bases (get_or numbers column (pos 0)) row)) (div-mul-add at (length numbers) column below)

-- ---- digits that leave 64 bits

-- what is lacking is lacking at a place
some_lacks : {T : Type 0} (count : ℕ) (rule : ℕ → Option T) → lacks_item count rule ≡ true → (place : ℕ) × (place < count) × (is_none (rule place) ≡ true)
some_lacks count rule e =
    let found = Any-from_list_any (λ (place : ℕ). is_none (rule place)) (places count) e in
    let len = length-range_with_len 0 count in
    let below : found.0 < count = let inside = found.2 in omega arith in
    let at : found.1 ≡ found.0 = sym found.3 ∙ get_or-range_with_len 0 count found.0 found.1 below ∙ (let same : 0 + found.0 ≡ found.0 = omega arith in same) in
    (found.1, (let same = at in omega arith), found.4)

pub none_lacks : {T : Type 0} (count : ℕ) (rule : ℕ → Option T) → ((place : ℕ) → place < count → is_none (rule place) ≡ false) → false ≡ lacks_item count rule
none_lacks count rule none = by_test (lacks_item count rule) refl
  where
    by_test : (b : Bool) → lacks_item count rule ≡ b → false ≡ b
    by_test true e = let found = some_lacks count rule e in absurd (let bad : true ≡ false = sym found.2 ∙ none found.0 found.1 in cc)
    by_test false e = refl

never_lacks : {T : Type 0} (count : ℕ) (rule : ℕ → Option T) → lacks_item count rule ≡ false → (place : ℕ) → place < count → is_none (rule place) ≡ false
never_lacks count rule none place below = by_test (is_none (rule place)) refl
  where
    by_test : (b : Bool) → is_none (rule place) ≡ b → is_none (rule place) ≡ false
    by_test true e = absurd (let bad : true ≡ false = sym (list_any-places (λ p. is_none (rule p)) count place below e) ∙ none in cc)
    by_test false e = e

kept : (z : ℤ) → fits z ≡ true → is_none (item_where true z) ≡ false
kept z e = ap (λ (b : Bool). is_none (if true && b then Some z else None)) e

-- a digit that leaves 64 bits is one of the least number
least_lacking : (bases numbers : List ℤ) → AllFit bases → AllFit numbers → (place : ℕ) → place < length bases * length numbers → is_none (digit_for bases numbers place) ≡ true
    → int_eq (get_or numbers (place % length numbers) (pos 0)) least ≡ true
least_lacking bases numbers of_bases of_numbers place below lacks = by_test (int_eq (get_or numbers (place % length numbers) (pos 0)) least) refl
  where
    by_test : (b : Bool) → int_eq (get_or numbers (place % length numbers) (pos 0)) least ≡ b → int_eq (get_or numbers (place % length numbers) (pos 0)) least ≡ true
    by_test true e = e
    by_test false e =
        let some = some_columns (length bases) (length numbers) place below in
        let column = mod_below place (length numbers) some in
        let row = div_below place (length numbers) (length bases) some below in
        let small = least_or_small (get_or numbers (place % length numbers) (pos 0)) (of_numbers (place % length numbers) (pos 0) column) e in
        let base = no_greater (get_or bases (place / length numbers) (pos 0)) (of_bases (place / length numbers) (pos 0) row) in
        let fine = digit_fits bases (get_or numbers (place % length numbers) (pos 0)) (place / length numbers) base small in
        absurd (let bad : true ≡ false = sym lacks ∙ kept (digit_at bases (get_or numbers (place % length numbers) (pos 0)) (place / length numbers)) fine in cc)

-- where the least number is there, a digit leaves 64 bits exactly where one of its own does
pub lacks_by_least : (bases numbers : List ℤ) → AllFit bases → AllFit numbers → list_any (λ y. int_eq y least) numbers ≡ true
    → lacks_item (length bases) (λ at. item_where true (digit_at bases least at)) ≡ lacks_item (length bases * length numbers) (digit_for bases numbers)
lacks_by_least bases numbers of_bases of_numbers has =
    both_ways (lacks_item (length bases) (λ at. item_where true (digit_at bases least at))) (lacks_item (length bases * length numbers) (digit_for bases numbers)) forth back
  where
    forth : lacks_item (length bases) (λ at. item_where true (digit_at bases least at)) ≡ true → lacks_item (length bases * length numbers) (digit_for bases numbers) ≡ true
    forth e =
        let row = some_lacks (length bases) (λ (at : ℕ). item_where true (digit_at bases least at)) e in
        let column = Any-from_list_any (λ (y : ℤ). int_eq y least) numbers has in
        let is : get_or numbers column.0 (pos 0) ≡ least = get_or_default numbers column.0 (pos 0) column.1 column.2 ∙ column.3 ∙ (Decides-int_eq column.1 least).0 column.4 in
        let here : is_none (digit_for bases numbers (row.0 * length numbers + column.0)) ≡ true =
        ap (λ (item : Option ℤ). is_none item) (digit_of_place bases numbers row.0 column.0 column.2) ∙ ap (λ (z : ℤ). is_none (item_where true (digit_at bases z row.0))) is ∙ row.2 in
        list_any-places (λ (p : ℕ). is_none (digit_for bases numbers p)) (length bases * length numbers) (row.0 * length numbers + column.0)
        (place_below (length bases) (length numbers) row.0 column.0 row.1 column.2) here

    back : lacks_item (length bases * length numbers) (digit_for bases numbers) ≡ true → lacks_item (length bases) (λ at. item_where true (digit_at bases least at)) ≡ true
    back e =
        let place = some_lacks (length bases * length numbers) (digit_for bases numbers) e in
        let is : get_or numbers (place.0 % length numbers) (pos 0) ≡ least =
        (Decides-int_eq (get_or numbers (place.0 % length numbers) (pos 0)) least).0 (least_lacking bases numbers of_bases of_numbers place.0 place.1 place.2) in
        let some = some_columns (length bases) (length numbers) place.0 place.1 in
        list_any-places (λ (at : ℕ). is_none (item_where true (digit_at bases least at))) (length bases) (place.0 / length numbers)
        (div_below place.0 (length numbers) (length bases) some place.1)
        (ap (λ (z : ℤ). is_none (item_where true (digit_at bases z (place.0 / length numbers)))) (sym is) ∙ place.2)

-- and where it is not there, none does
pub none_lacks_without_least : (bases numbers : List ℤ) → AllFit bases → AllFit numbers → list_any (λ y. int_eq y least) numbers ≡ false
    → false ≡ lacks_item (length bases * length numbers) (digit_for bases numbers)
none_lacks_without_least bases numbers of_bases of_numbers has =
    none_lacks (length bases * length numbers) (digit_for bases numbers) (λ place below. by_test place below (is_none (digit_for bases numbers place)) refl)
  where
    by_test : (place : ℕ) → place < length bases * length numbers → (b : Bool) → is_none (digit_for bases numbers place) ≡ b → is_none (digit_for bases numbers place) ≡ false
    by_test place below true e =
        let some = some_columns (length bases) (length numbers) place below in
        let found = list_any_at (λ (y : ℤ). int_eq y least) numbers (place % length numbers) (pos 0) (mod_below place (length numbers) some) (least_lacking bases numbers of_bases of_numbers place below e) in
        absurd (let bad : true ≡ false = sym found ∙ has in cc)
    by_test place below false e = e

-- ---- what is left, base by base

pub rest_more : (bases : List ℤ) (number : ℤ) (at : ℕ) → at < length bases
    → rest_by_all (drop at bases) number ≡ rest_by (get_or bases at (pos 0)) (rest_by_all (drop (at + 1) bases) number)
rest_more bases number at below =
    let next : suc at ≡ at + 1 = omega arith in
    ap (λ (xs : List ℤ). rest_by_all xs number) (drop-cons bases at (pos 0) below)
    ∙ ap (λ (k : ℕ). rest_by (get_or bases at (pos 0)) (rest_by_all (drop k bases) number)) next

pub rest_of_none : (bases : List ℤ) (number : ℤ) (low : ℕ) → length bases ≤ low → rest_by_all (drop low bases) number ≡ number
rest_of_none bases number low past = ap (λ (xs : List ℤ). rest_by_all xs number) (drop_all low bases past)

-- ---- digits put in column by column

places_apart : (columns at column row other : ℕ) → column < columns → other < columns → at * columns + column ≡ row * columns + other → (at ≡ row) × (column ≡ other)
places_apart columns at column row other p q e = (
  sym (div-mul-add at columns column p) ∙ ap (λ (n : ℕ). n / columns) e ∙ div-mul-add row columns other q,
  sym (mod-mul-add at columns column p) ∙ ap (λ (n : ℕ). n % columns) e ∙ mod-mul-add row columns other q,
)

pub before_kept : (bases numbers digits : List ℤ) (column at : ℕ) (value : ℤ) → column < length numbers → AreBefore bases numbers digits column
    → AreBefore bases numbers (set digits (at * length numbers + column) value) column
before_kept bases numbers digits column at value below before row other p q =
    let apart : (row * length numbers + other ≡ at * length numbers + column) → ⊥ =
    λ (e : row * length numbers + other ≡ at * length numbers + column). absurd (let parts = places_apart (length numbers) row other at column (omega arith) below e in let same = parts.1 in omega arith) in
    get_or-set_other digits (at * length numbers + column) (row * length numbers + other) value (pos 0) apart ∙ before row other p q

pub column_more : (bases numbers digits : List ℤ) (column at : ℕ) (value : ℤ) → column < length numbers → at < length bases → length digits ≡ length bases * length numbers
    → AreFrom bases numbers digits column (at + 1) → value ≡ digit_at bases (get_or numbers column (pos 0)) at → AreFrom bases numbers (set digits (at * length numbers + column) value) column at
column_more bases numbers digits column at value below inside len from is row low high = by_test (nat_lt at row) refl
  where
    within : at * length numbers + column < length digits
    within = let below = place_below (length bases) (length numbers) at column inside below in omega arith

    apart : at < row → row * length numbers + column ≡ at * length numbers + column → ⊥
    apart after e = absurd (let parts = places_apart (length numbers) row column at column below below e in let same = parts.0 in omega arith)

    by_test : (b : Bool) → nat_lt at row ≡ b → get_or (set digits (at * length numbers + column) value) (row * length numbers + column) (pos 0) ≡ digit_at bases (get_or numbers column (pos 0)) row
    by_test true e =
        let after : at < row = grind (arith, nat_tests) in
        get_or-set_other digits (at * length numbers + column) (row * length numbers + column) value (pos 0) (apart after) ∙ from row (omega arith) high
    by_test false e =
        let not_after : row ≤ at = grind (arith, nat_tests) in
        let same : at ≡ row = omega arith in
        subst (λ (k : ℕ). get_or (set digits (at * length numbers + column) value) (k * length numbers + column) (pos 0) ≡ digit_at bases (get_or numbers column (pos 0)) k) same
        (get_or-set_same digits (at * length numbers + column) value (pos 0) within ∙ is)

pub column_done : (bases numbers digits : List ℤ) (column : ℕ) → AreBefore bases numbers digits column → AreFrom bases numbers digits column 0 → AreBefore bases numbers digits (column + 1)
column_done bases numbers digits column before here row other p q = by_test (nat_lt other column) refl
  where
    by_test : (b : Bool) → nat_lt other column ≡ b → get_or digits (row * length numbers + other) (pos 0) ≡ digit_at bases (get_or numbers other (pos 0)) row
    by_test true e = let below : other < column = grind (arith, nat_tests) in before row other p below
    by_test false e =
        let not_below : column ≤ other = grind (arith, nat_tests) in
        let same : column ≡ other = omega arith in
        subst (λ (k : ℕ). get_or digits (row * length numbers + k) (pos 0) ≡ digit_at bases (get_or numbers k (pos 0)) row) same (here row (omega arith) p)

given : (z : ℤ) → is_none (item_where true z) ≡ false → Some z ≡ item_where true z
given z some = by_test (fits z) refl
  where
    by_test : (b : Bool) → fits z ≡ b → Some z ≡ item_where true z
    by_test true e = sym (ap (λ (b : Bool). if true && b then Some z else None) e)
    by_test false e = absurd (let bad : true ≡ false = sym (ap (λ (b : Bool). is_none (if true && b then Some z else None)) e) ∙ some in cc)

pub columns_made : (bases numbers digits : List ℤ) → length digits ≡ length bases * length numbers → lacks_item (length bases * length numbers) (digit_for bases numbers) ≡ false
    → AreBefore bases numbers digits (length numbers) → digits ≡ items_by (length bases * length numbers) (digit_for bases numbers)
columns_made bases numbers digits len all before = sym (made (length bases * length numbers) (digit_for bases numbers) digits (record { whole = len; each = each }))
  where
    each : (place : ℕ) → place < length bases * length numbers → slice_get digits place ≡ digit_for bases numbers place
    each place below =
        let some = some_columns (length bases) (length numbers) place below in
        let within : place < length digits = omega arith in
        slice_get-get_or digits place (pos 0) within
        ∙ ap (λ (z : ℤ). Some z) (ap (λ (p : ℕ). get_or digits p (pos 0)) (sym (div-add-mod' place (length numbers)))
        ∙ before (place / length numbers) (place % length numbers) (div_below place (length numbers) (length bases) some below) (mod_below place (length numbers) some))
        ∙ given (digit_at bases (get_or numbers (place % length numbers) (pos 0)) (place / length numbers)) (never_lacks (length bases * length numbers) (digit_for bases numbers) all place below)

-- each digit that is put in is in 64 bits
pub digit_here_fits : (bases numbers : List ℤ) (at column : ℕ) → at < length bases → column < length numbers → lacks_item (length bases * length numbers) (digit_for bases numbers) ≡ false
    → FitsSigned w64 (digit_at bases (get_or numbers column (pos 0)) at)
digit_here_fits bases numbers at column inside below all =
    by_test (digit_at bases (get_or numbers column (pos 0)) at)
    (sym (ap (λ (item : Option ℤ). is_none item) (digit_of_place bases numbers at column below))
    ∙ never_lacks (length bases * length numbers) (digit_for bases numbers) all (at * length numbers + column) (place_below (length bases) (length numbers) at column inside below))
    (fits (digit_at bases (get_or numbers column (pos 0)) at)) refl
  where
    by_test : (z : ℤ) → is_none (item_where true z) ≡ false → (b : Bool) → fits z ≡ b → FitsSigned w64 z
    by_test z some true e = signed z e
    by_test z some false e = absurd (let bad : true ≡ false = sym (ap (λ (b : Bool). is_none (if true && b then Some z else None)) e) ∙ some in cc)

-- ---- what a call reads

-- a residue by a base of 64 bits is no greater than the numbers of 64 bits
pub residue_bound : (base rest : ℤ) → unsigned_abs base ≤ 2 ^ 63 → unsigned_abs rest ≤ 2 ^ 63 → unsigned_abs (residue base rest) ≤ 2 ^ 63
residue_bound (pos zero) rest of_base of_rest = of_rest
residue_bound (pos (suc d)) rest of_base of_rest =
    let below = up_small (residue (pos (suc d)) rest) (pos (suc d)) (residue_from_0 (pos (suc d)) rest (omega (arith, ints))) (residue_below (pos (suc d)) rest (omega (arith, ints))) of_base in
    omega arith
residue_bound (negsuc d) rest of_base of_rest =
    let below = down_small (residue (negsuc d) rest) (negsuc d) (residue_to_0 (negsuc d) rest (omega (arith, ints))) (residue_above (negsuc d) rest (omega (arith, ints))) of_base in
    omega arith

-- the digit at a base, from what the bases after it leave
pub digit_read : (bases : List ℤ) (number : ℤ) (at done : ℕ) (digit b r base rest : ℤ) → at + 1 + done ≡ length bases → digit ≡ residue b r → b ≡ base → r ≡ rest → base ≡ get_or bases at (pos 0)
    → ((low : ℕ) → low + done ≡ length bases → rest ≡ rest_by_all (drop low bases) number) → digit ≡ digit_at bases number at
digit_read bases number at done digit b r base rest whole is is_b is_r is_base value =
    is ∙ ap (λ (z : ℤ). residue z r) (is_b ∙ is_base) ∙ ap (λ (z : ℤ). residue (get_or bases at (pos 0)) z) (is_r ∙ value (at + 1) whole)

-- and what the base leaves
pub left_read : (bases : List ℤ) (number : ℤ) (at done : ℕ) (left b r base rest : ℤ) → at + 1 + done ≡ length bases → left ≡ rest_by b r → b ≡ base → r ≡ rest → base ≡ get_or bases at (pos 0)
    → ((low : ℕ) → low + done ≡ length bases → rest ≡ rest_by_all (drop low bases) number) → left ≡ rest_by_all (drop at bases) number
left_read bases number at done left b r base rest whole is is_b is_r is_base value =
    is ∙ ap (λ (z : ℤ). rest_by z r) (is_b ∙ is_base) ∙ ap (λ (z : ℤ). rest_by (get_or bases at (pos 0)) z) (is_r ∙ value (at + 1) whole)
    ∙ sym (rest_more bases number at (omega arith))

-- a test that fails from a place on, and at the place before it
pub one_more_fails : (passes : ℕ → Bool) (count at done : ℕ) → at + 1 + done ≡ count → ((k : ℕ) → count ≤ k + done → k < count → passes k ≡ false) → passes at ≡ false
    → (k : ℕ) → count ≤ k + (done + 1) → k < count → passes k ≡ false
one_more_fails passes count at done whole so_far here k low below = by_test (nat_lt at k) refl
  where
    by_test : (b : Bool) → nat_lt at k ≡ b → passes k ≡ false
    by_test true e = let after : at < k = grind (arith, nat_tests) in so_far k (omega arith) below
    by_test false e =
        let not_after : k ≤ at = grind (arith, nat_tests) in
        let same : at ≡ k = omega arith in
        subst (λ (n : ℕ). passes n ≡ false) same here

-- a number of a little over 64 bits, kept in 128
pub wide : (z : ℤ) → unsigned_abs z ≤ 2 ^ 63 → to_z w128 (of_z w128 z) ≡ z
wide z bound = omega (arith, ints)

pub none_of : (item : Option ℤ) → is_some item ≡ false → is_none item ≡ true
none_of (Some z) e = absurd (cc)
none_of None e = refl

pub some_of : (item : Option ℤ) → is_some item ≡ true → is_none item ≡ false
some_of (Some z) e = refl
some_of None e = absurd (cc)
