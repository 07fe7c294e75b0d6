-- The first places of items tell which of them there are.
use Rattle.std.proofs.Common.{◌≡◌, ℕ, ℤ, ◌+◌, ◌<◌, ◌==◌, Bool, true, false, List, [], ◌∷◌, ◌++◌, ◌≤◌, drop, length, map, nat_lt, take, get_or, pos, refl, sym, ap, ◌∙◌, arith}
use Rattle.std.specs.Prelude.{int_le}
use Rattle.std.specs.Cmp.{both_ways}
use Rattle.std.specs.List.{list_any, position_or_len}
use Rattle.std.specs.Ordering.{int_eq}
use Rattle.std.proofs.lemmas.Bool.Decides.{nat_tests}
use Rattle.std.proofs.lemmas.Int.{ints}
use Rattle.std.proofs.lemmas.List.{append-nil, drop_all, length-map, take_all}
use Rattle.std.proofs.lemmas.List.Folds.{Any-from_list_any, list_any_at}
use Rattle.std.proofs.lemmas.List.Sums.{fails_before_first, passes_at_first}
use Rattle.apl_arrays.specs.Array.{PlainItems, numbers, chars, item_count}
use Rattle.apl_scalar.specs.Table.{truth}
use Rattle.apl_search.specs.Lookup.{first_places, has_char, has_number, memberships, place_of_char, place_of_number}

pub place_tells : {T : Type 0} (passes : T → Bool) (list : List T) → nat_lt (position_or_len passes list) (length list) ≡ list_any passes list
place_tells {T} passes list = both_ways _ (list_any passes list) found inside
  where
    at_first : (xs : List T) (place : ℕ) → place < length xs → ((d : T) → passes (get_or xs place d) ≡ true) → list_any passes xs ≡ true
    at_first [] place below here = absurd (omega arith)
    at_first (x ∷ xs) place below here = list_any_at passes (x ∷ xs) place x below (here x)

    found : nat_lt (position_or_len passes list) (length list) ≡ true → list_any passes list ≡ true
    found e =
        let below : position_or_len passes list < length list = grind (arith, nat_tests) in
        at_first list (position_or_len passes list) below (λ (d : T). passes_at_first passes list d below)

    inside : list_any passes list ≡ true → nat_lt (position_or_len passes list) (length list) ≡ true
    inside e =
        let at = Any-from_list_any passes list e in
        let before : at.0 < position_or_len passes list → ⊥ =
        λ (below : at.0 < position_or_len passes list). absurd (let bad : true ≡ false = sym (ap passes at.3 ∙ at.4) ∙ fails_before_first passes list at.0 at.1 below in cc) in
        let below : position_or_len passes list < length list = (let here = at.2 in omega arith) in
        grind (arith, nat_tests)

-- a place is one of so many
is_one_of : (place count : ℕ) → int_le (pos (place + 1)) (pos count) ≡ nat_lt place count
is_one_of place count = grind (arith, ints, nat_tests)

none_past : (count : ℕ) → nat_lt count count ≡ false
none_past count = grind (arith, nat_tests)

number_told : (b : PlainItems) (n : ℤ) → truth (int_le (pos (place_of_number b n + 1)) (pos (item_count b))) ≡ truth (has_number b n)
number_told (numbers list) n = ap truth (is_one_of (position_or_len (int_eq n) list) (length list) ∙ place_tells (int_eq n) list)
number_told (chars list) n = ap truth (is_one_of (length list) (length list) ∙ none_past (length list))

char_told : (b : PlainItems) (c : ℕ) → truth (int_le (pos (place_of_char b c + 1)) (pos (item_count b))) ≡ truth (has_char b c)
char_told (numbers list) c = ap truth (is_one_of (length list) (length list) ∙ none_past (length list))
char_told (chars list) c = ap truth (is_one_of (position_or_len (λ other. c == other) list) (length list) ∙ place_tells (λ other. c == other) list)

both_maps : {T : Type 0} (place : T → ℤ) (flag : ℤ → ℤ) (told : T → ℤ) → ((x : T) → flag (place x) ≡ told x) → (list : List T) → map flag (map place list) ≡ map told list
both_maps place flag told same [] = refl
both_maps place flag told same (x ∷ xs) = ap (λ (y : ℤ). y ∷ map flag (map place xs)) (same x) ∙ ap (λ (ys : List ℤ). told x ∷ ys) (both_maps place flag told same xs)

-- the items whose first place is one of so many are there
pub places_tell : (a b : PlainItems) → map (λ place. truth (int_le place (pos (item_count b)))) (first_places b a) ≡ memberships a b
places_tell (numbers list) b =
    both_maps (λ n. pos (place_of_number b n + 1)) (λ place. truth (int_le place (pos (item_count b)))) (λ n. truth (has_number b n)) (number_told b) list
places_tell (chars list) b =
    both_maps (λ c. pos (place_of_char b c + 1)) (λ place. truth (int_le place (pos (item_count b)))) (λ c. truth (has_char b c)) (char_told b) list

-- ---- places that were turned into flags, one after another

pub all_flagged : (flag : ℤ → ℤ) (places vec now items : List ℤ) (len at : ℕ) → vec ≡ places → now ≡ vec → len ≡ length vec → items ≡ map flag (take at now) ++ drop at now → length now ≤ at
    → take len (items ++ drop (length items) vec) ≡ map flag places
all_flagged flag places vec now items len at v n l e past =
    let is : items ≡ map flag now =
    e ∙ ap (λ (xs : List ℤ). map flag xs ++ drop at now) (take_all at now past) ∙ ap (λ (ys : List ℤ). map flag now ++ ys) (drop_all at now past) ∙ append-nil (map flag now) in
    let wide : length items ≡ length now = ap (λ (xs : List ℤ). length xs) is ∙ length-map now flag in
    let same = ap (λ (xs : List ℤ). length xs) n in
    ap (λ (ys : List ℤ). take len (items ++ ys)) (drop_all (length items) vec (omega arith)) ∙ ap (take len) (append-nil items) ∙ take_all len items (omega arith)
    ∙ is ∙ ap (map flag) (n ∙ v)
