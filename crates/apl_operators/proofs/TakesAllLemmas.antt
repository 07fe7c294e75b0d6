-- Functions that have a value of 64 bits at all items.
use Rattle.std.proofs.Common.{◌≡◌, ◌+◌, ◌/◌, ◌%◌, ◌*◌, ◌<◌, ◌≤◌, ◌≤ℤ◌, ◌<ℤ◌, ◌==◌, ◌⊎◌, inl, inr, ℕ, zero, suc, ℤ, pos, negsuc, Bool, true, false, not, List, length, get_or, Option, Some, None, is_none, refl, ap, ◌∙◌, arith}
use Rattle.std.specs.Prelude.{int_le, int_lt, slice_index, slice_index_or}
use Rattle.std.specs.Int.{int_max, int_min}
use Rattle.std.specs.Ordering.{int_eq}
use Rattle.std.proofs.lemmas.Bool.{cases_lt, false≢true}
use Rattle.std.proofs.lemmas.Bool.Decides.{nat_tests}
use Rattle.std.proofs.lemmas.Int.{ints}
use Rattle.std.proofs.lemmas.List.{get_or_past}
use Rattle.std.proofs.lemmas.List.Elements.{All-get_or}
use Rattle.apl_arrays.specs.declared.items.Item.{Item}
use Rattle.apl_verbs.specs.declared.verb.Dyad.{Dyad}
use Rattle.apl_verbs.specs.declared.verb.Dyad.TheVariants.{Maximum, Minimum, Residue, Less, NotGreater, Equal, NotLess, Greater, NotEqual}
use Rattle.apl_arrays.specs.Array.{PlainItems, item_count, numbers, numbers_in, chars}
use Rattle.apl_items.specs.Extension.{item_at, place_in}
use Rattle.apl_scalar.specs.Counting.{residue}
use Rattle.apl_scalar.specs.Reading.{AllFit}
use Rattle.apl_arrays.specs.Number.{fits}
use Rattle.apl_scalar.specs.Table.{dyadic_item, item_of_chars, item_where, pair_item, row_of_dyad, takes_chars, truth}
use Rattle.apl_scalar.proofs.Quotients.{residue_above, residue_below, residue_from_0, residue_to_0}
use Rattle.operator_rules.specs.Inner.{inner_at, pair_at}
use Rattle.operator_rules.specs.Outer.{outer_at}
use Rattle.operator_rules.specs.Reduction.{item_in, joined, reduction, reduction_of}
use Rattle.apl_operators.specs.Rows.{TakesAll, is_number_of_64_bits, refuses_none, takes_all}
use Rattle.apl_operators.proofs.FrontLemmas.{Fits, greater_fits, lesser_fits, where_fits}

-- ---- two numbers

small_where : (value : ℤ) → Fits value → is_number_of_64_bits (item_where true value) ≡ true
small_where value e = ap is_number_of_64_bits (where_fits value e) ∙ e

truth_fits : (t : Bool) → Fits (truth t)
truth_fits true = refl
truth_fits false = refl

-- a number from 0 up to a divisor, or from a divisor up to 0
from_0_fits : (d : ℕ) (r : ℤ) → Fits (pos d) → pos 0 ≤ℤ r → r <ℤ pos d → Fits r
from_0_fits d (pos n) small low high = let below : n < d = omega (arith, ints) in grind (arith, nat_tests)
from_0_fits d (negsuc n) small low high = absurd (omega (arith, ints))

to_0_fits : (d : ℕ) (r : ℤ) → Fits (negsuc d) → r ≤ℤ pos 0 → negsuc d <ℤ r → Fits r
to_0_fits d (pos zero) small high low = refl
to_0_fits d (pos (suc n)) small high low = absurd (omega (arith, ints))
to_0_fits d (negsuc n) small high low = let below : n < d = omega (arith, ints) in grind (arith, nat_tests)

residue_fits : (a b : ℤ) → Fits a → Fits b → Fits (residue a b)
residue_fits (pos zero) b p q = q
residue_fits (pos (suc d)) b p q =
    from_0_fits (suc d) (residue (pos (suc d)) b) p (residue_from_0 (pos (suc d)) b (omega (arith, ints))) (residue_below (pos (suc d)) b (omega (arith, ints)))
residue_fits (negsuc d) b p q = to_0_fits d (residue (negsuc d) b) p (residue_to_0 (negsuc d) b (omega (arith, ints))) (residue_above (negsuc d) b (omega (arith, ints)))

numbers_small : (f : Dyad) (a b : ℤ) → refuses_none f ≡ true → Fits a → Fits b → is_number_of_64_bits (dyadic_item f a b) ≡ true
numbers_small Maximum a b e p q = small_where (int_max a b) (greater_fits a b p q)
numbers_small Minimum a b e p q = small_where (int_min a b) (lesser_fits a b p q)
numbers_small Residue a b e p q = small_where (residue a b) (residue_fits a b p q)
numbers_small Less a b e p q = small_where (truth (int_lt a b)) (truth_fits (int_lt a b))
numbers_small NotGreater a b e p q = small_where (truth (int_le a b)) (truth_fits (int_le a b))
numbers_small Equal a b e p q = small_where (truth (int_eq a b)) (truth_fits (int_eq a b))
numbers_small NotLess a b e p q = small_where (truth (int_le b a)) (truth_fits (int_le b a))
numbers_small Greater a b e p q = small_where (truth (int_lt b a)) (truth_fits (int_lt b a))
numbers_small NotEqual a b e p q = small_where (truth (not (int_eq a b))) (truth_fits (not (int_eq a b)))
numbers_small _ a b e p q = absurd (false≢true e)

chars_small : (f : Dyad) (alike : Bool) → takes_chars f ≡ true → is_number_of_64_bits (item_of_chars f alike) ≡ true
chars_small Equal true e = refl
chars_small Equal false e = refl
chars_small NotEqual true e = refl
chars_small NotEqual false e = refl
chars_small _ alike e = absurd (false≢true e)

-- ---- all items

fits_at : (list : List ℤ) (place : ℕ) → AllFit list → Fits (get_or list place (pos 0))
fits_at list place all = by_cases (cases_lt place (length list))
  where
    by_cases : (place < length list) ⊎ (length list ≤ place) → Fits (get_or list place (pos 0))
    by_cases (inl inside) = All-get_or (λ number. fits number ≡ true) list place (pos 0) inside all
    by_cases (inr past) = ap fits (get_or_past list place (pos 0) past)

pub taken : (f : Dyad) (a b : PlainItems) → AllFit (numbers_in a) → AllFit (numbers_in b) → takes_all f a b ≡ true → TakesAll f a b
taken f (numbers xs) (numbers ys) p q e = λ x y. numbers_small f (slice_index_or xs x (pos 0)) (slice_index_or ys y (pos 0)) e (fits_at xs x p) (fits_at ys y q)
taken f (numbers xs) (chars ys) p q e = λ x y. chars_small f false e
taken f (chars xs) (numbers ys) p q e = λ x y. chars_small f false e
taken f (chars xs) (chars ys) p q e = λ x y. chars_small f (slice_index xs x == slice_index ys y) e

-- what is small is there
small_is_there : (item : Option ℤ) → is_number_of_64_bits item ≡ true → is_none item ≡ false
small_is_there None e = absurd (false≢true e)
small_is_there (Some n) e = refl

-- none is lacking among all pairs
pub all_there : (f : Dyad) (a b : PlainItems) (place : ℕ) → TakesAll f a b → is_none (outer_at f a b place) ≡ false
all_there f a b place all = small_is_there (outer_at f a b place) (all (place / item_count b) (place % item_count b))

-- ---- all products

item_extends : (items : PlainItems) (place : ℕ) → item_at items place ≡ item_in items (place_in (item_count items) place)
item_extends (numbers list) place = refl
item_extends (chars list) place = refl

joined_small : (f : Dyad) (a b : Option ℤ) → refuses_none f ≡ true → is_number_of_64_bits a ≡ true → is_number_of_64_bits b ≡ true → is_number_of_64_bits (joined (dyadic_item f) a b) ≡ true
joined_small f None b e p q = absurd (false≢true p)
joined_small f (Some a) None e p q = absurd (false≢true q)
joined_small f (Some a) (Some b) e p q = numbers_small f a b e p q

reduction_small : (f : Dyad) (item : ℕ → Option ℤ) → refuses_none f ≡ true → ((k : ℕ) → is_number_of_64_bits (item k) ≡ true) → (from more : ℕ) → is_number_of_64_bits (reduction (dyadic_item f) item from more) ≡ true
reduction_small f item e each from zero = each from
reduction_small f item e each from (suc more) = joined_small f (item from) (reduction (dyadic_item f) item (from + 1) more) e (each from) (reduction_small f item e each (from + 1) more)

some_small : (f : Dyad) (item : ℕ → Option ℤ) (count : ℕ) → 0 < count → refuses_none f ≡ true → ((k : ℕ) → is_number_of_64_bits (item k) ≡ true) → is_number_of_64_bits (reduction_of (dyadic_item f) (row_of_dyad f).identity item count) ≡ true
some_small f item zero some e each = absurd (omega arith)
some_small f item (suc more) some e each = reduction_small f item e each 0 more

-- none is lacking among the products of rows and columns that have items
pub products_there : (f g : Dyad) (a b : PlainItems) (count columns place : ℕ) → 0 < count → refuses_none f ≡ true → TakesAll g a b → is_none (inner_at f g a b count columns place) ≡ false
products_there f g a b count columns place some e all =
    small_is_there (inner_at f g a b count columns place)
    (some_small f (pair_at g a b count columns place) count some e
    (λ along.
    let x : ℕ = place / columns * count + along in
    let y : ℕ = along * columns + place % columns in
    ap (λ (i : Item). is_number_of_64_bits (pair_item g i (item_at b y))) (item_extends a x) ∙ ap (λ (i : Item). is_number_of_64_bits (pair_item g (item_in a (place_in (item_count a) x)) i)) (item_extends b y)
    ∙ all (place_in (item_count a) x) (place_in (item_count b) y)))
