-- The digits of a number by positive bases have it as their value.
use Rattle.std.proofs.Common.{◌≡◌, ℕ, zero, suc, ℤ, pos, ◌+◌, ◌*◌, ◌/◌, ◌<◌, ◌≤◌, ◌^◌, ◌+ℤ◌, ◌*ℤ◌, Bool, true, false, cond, not, ◌&&◌, ◌==◌, if◌then◌else◌, unwrap_or, List, [], ◌∷◌, map, length, drop, get_or, slice_get, Option, Some, None, is_some, is_none, Ok, refl, sym, ap, subst, ◌∙◌, arith}
use Rattle.std.specs.List.{All}
use Rattle.std.specs.Ordering.{int_eq}
use Rattle.std.proofs.Math.Nat.{mul_assoc}
use Rattle.std.proofs.lemmas.Bool.Decides.{Decides-int_eq, nat_tests}
use Rattle.std.proofs.lemmas.Int.{ints}
use Rattle.std.proofs.lemmas.List.{length-map, get_or-map, drop_all}
use Rattle.std.proofs.lemmas.List.Elements.{All-tail}
use Rattle.std.proofs.lemmas.List.FromFn.{get_or-map-range_with_len, length-map-range_with_len}
use Rattle.std.proofs.lemmas.Nat.{div_below}
use Rattle.std.proofs.lemmas.Option.{slice_get-get_or}
use Rattle.apl_arrays.specs.Array.{PlainArray, numbers, element_count, scalar}
use Rattle.apl_arrays.specs.Shape.{shape_fault}
use Rattle.apl_items.specs.Answers.{answer_of, no_faults}
use Rattle.apl_items.specs.Extension.{number_at}
use Rattle.apl_items.specs.Places.{IsByPlace, places}
use Rattle.apl_items.proofs.PlaceLemmas.{made, nothing_lacks}
use Rattle.apl_items.proofs.ShapeLemmas.{element_count-cons}
use Rattle.apl_scalar.specs.Counting.{floor_quotient, residue}
use Rattle.apl_arrays.specs.Number.{fits, product}
use Rattle.apl_scalar.specs.Table.{item_where}
use Rattle.apl_scalar.proofs.Quotients.{residue_is_left}
use Rattle.apl_search.specs.Decode.{decode_of, taken_on, value_after}
use Rattle.apl_search.specs.Encode.{digit_at, digit_for, encode_of, rest_by, rest_by_all}
use Rattle.apl_search.specs.RoundTrip.{AreBases, GivesBack, vector_of_bases}
use Rattle.apl_search.proofs.DigitLemmas.{digit_fits, digit_of_place, fits_small, rest_more, rests_no_greater}
use Rattle.apl_search.proofs.EncodeLemmas.{large_by_count, within_limit}

-- ---- what is left of a number below the product

rest_by_pos : (base number : ℕ) → 0 < base → rest_by (pos base) (pos number) ≡ pos (number / base)
rest_by_pos base number some = by_test (int_eq (pos base) (pos 0)) refl
  where
    by_test : (b : Bool) → int_eq (pos base) (pos 0) ≡ b → rest_by (pos base) (pos number) ≡ pos (number / base)
    by_test true e = absurd (let none = (Decides-int_eq (pos base) (pos 0)).0 e in omega (arith, ints))
    by_test false e = ap (λ (b : Bool). cond b (pos 0) (pos (number / base))) e

-- what bases leave of a number is below what the number is below, by their product
left_below : (bases : List ℕ) (number bound : ℕ) → All (λ base. (0 < base) × (base < 2 ^ 63)) bases → number < bound * product bases
    → (left : ℕ) × (rest_by_all (map pos bases) (pos number) ≡ pos left) × (left < bound)
left_below [] number bound all below = (number, refl, omega arith)
left_below (base ∷ bases) number bound all below =
    let whole : bound * product (base ∷ bases) ≡ bound * base * product bases = ap (λ (n : ℕ). bound * n) (element_count-cons base bases) ∙ sym (mul_assoc bound base (product bases)) in
    let rest = left_below bases number (bound * base) (All-tail (λ b. (0 < b) × (b < 2 ^ 63)) base bases all) (omega arith) in
    let some = (all 0 base (omega arith)).0 in
    (rest.0 / base, ap (λ (z : ℤ). rest_by (pos base) z) rest.1 ∙ rest_by_pos base rest.0 some, div_below rest.0 base bound some rest.2)

nothing_left : (bases : List ℕ) (number : ℕ) → All (λ base. (0 < base) × (base < 2 ^ 63)) bases → number < product bases → rest_by_all (map pos bases) (pos number) ≡ pos 0
nothing_left bases number all below =
    let left = left_below bases number 1 all (omega arith) in
    let none : left.0 ≡ 0 = (let small = left.2 in omega arith) in
    left.1 ∙ ap pos none

-- ---- the value of digits

number_at_place : (list : List ℤ) (place : ℕ) → place < length list → number_at list place ≡ get_or list place (pos 0)
number_at_place list place below = by_test (length list == 1) refl
  where
    by_test : (b : Bool) → (length list == 1) ≡ b → get_or list (cond (length list == 1) 0 place) (pos 0) ≡ get_or list place (pos 0)
    by_test true e =
        let lone : length list ≡ 1 = grind (arith, nat_tests) in
        let first : place ≡ 0 = omega arith in
        ap (λ (b : Bool). get_or list (cond b 0 place) (pos 0)) e ∙ ap (λ (p : ℕ). get_or list p (pos 0)) (sym first)
    by_test false e = ap (λ (b : Bool). get_or list (cond b 0 place) (pos 0)) e

-- what a base leaves, times the base, and the digit
together : (base : ℕ) (rest : ℤ) → 0 < base → rest_by (pos base) rest *ℤ pos base +ℤ residue (pos base) rest ≡ rest
together base rest some = ap (λ (z : ℤ). z *ℤ pos base +ℤ residue (pos base) rest) (by_test (int_eq (pos base) (pos 0)) refl) ∙ whole
  where
    by_test : (b : Bool) → int_eq (pos base) (pos 0) ≡ b → rest_by (pos base) rest ≡ floor_quotient (pos base) rest
    by_test true e = absurd (let none = (Decides-int_eq (pos base) (pos 0)).0 e in omega (arith, ints))
    by_test false e = ap (λ (b : Bool). cond b (pos 0) (floor_quotient (pos base) rest)) e

    whole : floor_quotient (pos base) rest *ℤ pos base +ℤ residue (pos base) rest ≡ rest
    whole = let all = residue_is_left (pos base) rest in omega (arith, ints)

put_together : (base rest : ℤ) (positive : ℕ) → base ≡ pos positive → 0 < positive → rest_by base rest *ℤ base +ℤ residue base rest ≡ rest
put_together base rest positive is some = subst (λ (z : ℤ). rest_by z rest *ℤ z +ℤ residue z rest ≡ rest) (sym is) (together positive rest some)

is_kept : (z : ℤ) → fits z ≡ true → item_where true z ≡ Some z
is_kept z e = ap (λ (b : Bool). if true && b then Some z else None) e

-- digits, one for each base
abbrev Digits : List ℕ → ℕ → List ℤ → Type 0
Digits bases number digits = (at : ℕ) → at < length bases → get_or digits at (pos 0) ≡ digit_at (map pos bases) (pos number) at

-- the value of the first digits is what the other bases leave
value_is : (bases : List ℕ) (number : ℕ) (digits : List ℤ) → AreBases bases → number < product bases → number < 2 ^ 63 → length digits ≡ length bases → Digits bases number digits
    → (done : ℕ) → done ≤ length bases → value_after (map pos bases) digits done ≡ Some (rest_by_all (drop done (map pos bases)) (pos number))
value_is bases number digits are below small len each zero le = ap (λ (z : ℤ). Some z) (sym (nothing_left bases number are.each below))
value_is bases number digits are below small len each (suc done) le =
    let list = map pos bases in
    let count : length (map pos bases) ≡ length bases = length-map bases pos in
    let inside : done < length bases = omega arith in
    let within : done < length (map pos bases) = omega arith in
    let next : done + 1 ≡ suc done = omega arith in
    let base = get_or (map pos bases) done (pos 0) in
    let rest = rest_by_all (drop (done + 1) (map pos bases)) (pos number) in
    let is : get_or (map pos bases) done (pos 0) ≡ pos (get_or bases done 0) = get_or-map pos bases done 0 (pos 0) inside in
    let bound = rests_no_greater (drop (done + 1) (map pos bases)) (pos number) in
    let fine : fits rest ≡ true = fits_small rest (omega (arith, ints)) in
    ap (λ (v : Option ℤ). taken_on (number_at (map pos bases) done) (number_at digits done) v) (value_is bases number digits are below small len each done (omega arith))
    ∙ ap (λ (b : ℤ). taken_on b (number_at digits done) (Some (rest_by_all (drop done (map pos bases)) (pos number)))) (number_at_place (map pos bases) done within)
    ∙ ap (λ (d : ℤ). taken_on (get_or (map pos bases) done (pos 0)) d (Some (rest_by_all (drop done (map pos bases)) (pos number))))
    (number_at_place digits done (omega arith) ∙ each done inside)
    ∙ ap (λ (z : ℤ). item_where true z)
    (ap (λ (v : ℤ). v *ℤ get_or (map pos bases) done (pos 0) +ℤ digit_at (map pos bases) (pos number) done) (rest_more (map pos bases) (pos number) done within)
    ∙ put_together base rest (get_or bases done 0) is (are.each done 0 inside).0)
    ∙ is_kept rest fine ∙ ap (λ (k : ℕ). Some (rest_by_all (drop k (map pos bases)) (pos number))) next

-- ---- the answers

encoded : (lacks large : Bool) (array : PlainArray) → lacks ≡ false → large ≡ false → answer_of (record no_faults { bad_domain = lacks; too_large = large }) array ≡ Ok array
encoded true large array p q = absurd (cc)
encoded false true array p q = absurd (cc)
encoded false false array p q = refl

decoded : (differ : Bool) (value : Option ℤ) (number : ℤ) → differ ≡ false → value ≡ Some number
    → answer_of (record no_faults { bad_length = differ; bad_domain = is_none value }) (scalar (unwrap_or value (pos 0))) ≡ Ok (scalar number)
decoded differ value number same is =
    ap (λ (d : Bool). answer_of (record no_faults { bad_length = d; bad_domain = is_none value }) (scalar (unwrap_or value (pos 0)))) same
    ∙ ap (λ (v : Option ℤ). answer_of (record no_faults { bad_domain = is_none v }) (scalar (unwrap_or v (pos 0)))) is

same_counts : (whole : Bool) (a b : ℕ) → a ≡ b → (whole && not (a == b)) ≡ false
same_counts false a b e = refl
same_counts true a b e = let same : (a == b) ≡ true = grind (arith, nat_tests) in ap not same

small_axis : (axis : ℕ) → axis ≤ 16384 → All (λ n. n ≤ 16384) (axis ∷ [])
small_axis axis few zero d below = few
small_axis axis few (suc place) d below = absurd (omega arith)

one_axis : (axis : ℕ) → element_count (axis ∷ []) ≡ axis
one_axis axis = let all = element_count-cons axis [] in omega arith

not_large : (axis : ℕ) → axis ≤ 16384 → is_some (shape_fault (axis ∷ [])) ≡ false
not_large axis few =
    let few_elements : element_count (axis ∷ []) ≤ 16384 = let all = one_axis axis in omega arith in
    large_by_count (axis ∷ []) (omega arith) (small_axis axis few) ∙ within_limit (element_count (axis ∷ [])) few_elements

-- the digits of a number, as a list
abbrev digit_list : List ℕ → ℕ → List ℤ
digit_list bases number = map (λ at. digit_at (map pos bases) (pos number) at) (places (length bases))

length-digit_list : (bases : List ℕ) (number : ℕ) → length (digit_list bases number) ≡ length bases
length-digit_list bases number = length-map-range_with_len (λ (at : ℕ). digit_at (map pos bases) (pos number) at) 0 (length bases)

digits_there : (bases : List ℕ) (number : ℕ) → Digits bases number (digit_list bases number)
digits_there bases number at below =
    get_or-map-range_with_len (λ (k : ℕ). digit_at (map pos bases) (pos number) k) 0 (length bases) at at (pos 0) below (omega arith)

digits_by_place : (bases : List ℕ) (number : ℕ) → AreBases bases → number < 2 ^ 63
    → IsByPlace (element_count (length bases ∷ [])) (digit_for (map pos bases) (pos number ∷ [])) (digit_list bases number)
digits_by_place bases number are small = record { whole = length-digit_list bases number ∙ sym (one_axis (length bases)); each = each }
  where
    each : (place : ℕ) → place < element_count (length bases ∷ []) → slice_get (digit_list bases number) place ≡ digit_for (map pos bases) (pos number ∷ []) place
    each place below =
        let count = one_axis (length bases) in
        let len = length-digit_list bases number in
        let inside : place < length bases = omega arith in
        let is : get_or (map pos bases) place (pos 0) ≡ pos (get_or bases place 0) = get_or-map pos bases place 0 (pos 0) inside in
        let base = (are.each place 0 inside).1 in
        let fine = digit_fits (map pos bases) (pos number) place (omega (arith, ints)) (omega (arith, ints)) in
        let same : place * 1 + 0 ≡ place = omega arith in
        slice_get-get_or (digit_list bases number) place (pos 0) (omega arith)
        ∙ ap (λ (z : ℤ). Some z) (digits_there bases number place inside)
        ∙ sym (is_kept (digit_at (map pos bases) (pos number) place) fine)
        ∙ sym (digit_of_place (map pos bases) (pos number ∷ []) place 0 (omega arith))
        ∙ ap (λ (p : ℕ). digit_for (map pos bases) (pos number ∷ []) p) same

encodes : (bases : List ℕ) (number : ℕ) → AreBases bases → number < 2 ^ 63
    → encode_of (vector_of_bases bases) (scalar (pos number)) ≡ Ok (record { shape = length bases ∷ []; items = numbers (digit_list bases number) })
encodes bases number are small =
    let by_place = digits_by_place bases number are small in
    encoded _ _ _ (nothing_lacks (element_count (length bases ∷ [])) (digit_for (map pos bases) (pos number ∷ [])) (digit_list bases number) by_place) (not_large (length bases) are.few)
    ∙ ap (λ (xs : List ℤ). Ok (record { shape = length bases ∷ []; items = numbers xs })) (made (element_count (length bases ∷ [])) (digit_for (map pos bases) (pos number ∷ [])) (digit_list bases number) by_place)

decodes : (bases : List ℕ) (number : ℕ) → AreBases bases → number < product bases → number < 2 ^ 63
    → decode_of (vector_of_bases bases) (record { shape = length bases ∷ []; items = numbers (digit_list bases number) }) ≡ Ok (scalar (pos number))
decodes bases number are below small =
    let count = length-map bases pos in
    let len = length-digit_list bases number in
    let all : length (map pos bases) ≤ length bases = omega arith in
    decoded _ _ (pos number) (same_counts _ (length (map pos bases)) (length (digit_list bases number)) (omega arith))
    (ap (λ (n : ℕ). value_after (map pos bases) (digit_list bases number) n) (shared (length (map pos bases) == 1))
    ∙ value_is bases number (digit_list bases number) are below small len (digits_there bases number) (length bases) (omega arith)
    ∙ ap (λ (xs : List ℤ). Some (rest_by_all xs (pos number))) (drop_all (length bases) (map pos bases) all))
  where
    shared : (b : Bool) → cond b (length (digit_list bases number)) (length (map pos bases)) ≡ length bases
    shared true = length-digit_list bases number
    shared false = length-map bases pos

-- the value of the digits of a number is the number
pub gives_back : (bases : List ℕ) (number : ℕ) → AreBases bases → number < product bases → number < 2 ^ 63 → GivesBack (vector_of_bases bases) (scalar (pos number))
gives_back bases number are below small =
    (record { shape = length bases ∷ []; items = numbers (digit_list bases number) }, encodes bases number are small, decodes bases number are below small)
