-- Which items of V come over which of A.
use Rattle.std.proofs.Common.{◌≡◌, ◌≢◌, ℕ, ℤ, zero, suc, ◌+◌, ◌-◌, ◌*◌, ◌<◌, ◌≤◌, ◌==◌, Bool, true, false, cond, nat_lt, List, [], ◌∷◌, ◌++◌, Option, Some, None, option_map, length, map, take, drop, set, get_or, unsigned_abs, refl, sym, ap, subst, ◌∙◌, arith}
use Rattle.std.specs.Int.{is_negative}
use Rattle.std.specs.List.{flat_map, list_any, range_with_len, zip}
use Rattle.std.specs.Option.{option_or}
use Rattle.std.proofs.lemmas.Bool.Decides.{nat_tests}
use Rattle.std.proofs.lemmas.List.{drop_all, drop_more, ext_get_or, get_or-set_other, get_or-set_same, length-map, length-set, length-take, map-append, take_more}
use Rattle.std.proofs.lemmas.List.FromFn.{get_or-map-range_with_len, length-map-range_with_len, length-range_with_len, map-range_with_len_more}
use Rattle.std.proofs.Math.Nat.{le-mul_of_pos_right, mul_comm}
use Rattle.apl_arrays.specs.Array.{element_count}
use Rattle.apl_items.specs.Axes.{added, offset_at}
use Rattle.apl_items.specs.Places.{places}
use Rattle.apl_items.specs.Shapes.{AreWithin, coordinates_of}
use Rattle.apl_items.proofs.ShapeLemmas.{coordinates_are_within, coordinates_of_row, element_count-cons}
use Rattle.apl_items.proofs.PlaceLemmas.{places_more}
use Rattle.apl_selection.specs.Assignment.{last_place, put_over}
use Rattle.apl_selection.specs.Naming.{PlacesAreSmall, AreSmallTogether, scaled_place}
use Rattle.apl_selection.specs.Subscripts.{is_outside, named_by}
use Rattle.apl_selection.proofs.IndexLemmas.{none_first, number_inside}
use Rattle.apl_selection.proofs.FaultLemmas.{same_number}
use Rattle.apl_selection.proofs.PickLemmas.{some_same}

-- ---- lists by place

map_range-append : {T : Type 0} (f : ℕ → T) (first m n : ℕ) → map f (range_with_len first (m + n)) ≡ map f (range_with_len first m) ++ map f (range_with_len (first + m) n)
map_range-append f first zero n =
    let e : zero + n ≡ n = omega arith in let s : first + zero ≡ first = omega arith in rw (e, s) refl
map_range-append {T} f first (suc m) n =
    let e : suc m + n ≡ suc (m + n) = omega arith in let s : first + suc m ≡ (first + 1) + m = omega arith in
    rw (e, s) (ap (λ (xs : List T). f first ∷ xs) (map_range-append f (first + 1) m n))

map_range-same : {T : Type 0} (f g : ℕ → T) (first start n : ℕ) → ((k : ℕ) → k < n → f (first + k) ≡ g (start + k)) → map f (range_with_len first n) ≡ map g (range_with_len start n)
map_range-same f g first start zero same = refl
map_range-same {T} f g first start (suc n) same =
    let here : f first ≡ g start = ap f (let e : first ≡ first + 0 = omega arith in e) ∙ same 0 (omega arith) ∙ ap g (let e : start + 0 ≡ start = omega arith in e) in
    let rest = map_range-same f g (first + 1) (start + 1) n (λ k h.
    ap f (let e : (first + 1) + k ≡ first + suc k = omega arith in e) ∙ same (suc k) (omega arith) ∙ ap g (let e : start + suc k ≡ (start + 1) + k = omega arith in e)) in
    ap (λ (x : T). x ∷ map f (range_with_len (first + 1) n)) here ∙ ap (λ (xs : List T). g start ∷ xs) rest

-- ---- the last place of a number in a list

-- in a list with one number more
pub last_of_more : (number : ℕ) (xs : List ℕ) (x : ℕ) → last_place number (xs ++ x ∷ []) ≡ cond (x == number) (Some (length xs)) (last_place number xs)
last_of_more number [] x = refl
last_of_more number (y ∷ ys) x =
    ap (λ (o : Option ℕ). option_or (option_map (λ place. place + 1) o) (cond (y == number) (Some 0) None)) (last_of_more number ys x) ∙ by_test (x == number)
  where
    by_test : (b : Bool) → option_or (option_map (λ place. place + 1) (cond b (Some (length ys)) (last_place number ys))) (cond (y == number) (Some 0) None)
        ≡ cond b (Some (length (y ∷ ys))) (last_place number (y ∷ ys))
    by_test true = let same : length ys + 1 ≡ length (y ∷ ys) = omega arith in ap (λ (n : ℕ). Some n) same
    by_test false = refl

pub last_below : (number : ℕ) (xs : List ℕ) (at : ℕ) → last_place number xs ≡ Some at → at < length xs
last_below number [] at e = absurd (cc)
last_below number (y ∷ ys) at e = by_rest (last_place number ys) (y == number) (last_below number ys) e
  where
    by_rest : (rest : Option ℕ) (here : Bool) → ((later : ℕ) → rest ≡ Some later → later < length ys)
        → option_or (option_map (λ place. place + 1) rest) (cond here (Some 0) None) ≡ Some at → at < length (y ∷ ys)
    by_rest None true below e = let is = some_same 0 at e in omega arith
    by_rest None false below e = absurd (cc)
    by_rest (Some later) here below e = let is = some_same (later + 1) at e in let low = below later refl in omega arith

unlike : (m n : ℕ) → m ≢ n → (m == n) ≡ false
unlike m n h = grind (arith, nat_tests)

pub alike : (m n : ℕ) → m ≡ n → (m == n) ≡ true
alike m n h = grind (arith, nat_tests)

other_number : (m n : ℕ) → (m == n) ≡ false → m ≢ n
other_number m n e = grind (arith, nat_tests)

not_in_range : (count first number : ℕ) → number < first → last_place number (range_with_len first count) ≡ None
not_in_range zero first number below = refl
not_in_range (suc count) first number below =
    rw (not_in_range count (first + 1) number (omega arith), unlike first number (omega arith)) refl

in_range : (count first number along : ℕ) → first + along ≡ number → along < count → last_place number (range_with_len first count) ≡ Some along
in_range zero first number along e inside = absurd (omega arith)
in_range (suc count) first number zero e inside =
    rw (not_in_range count (first + 1) number (omega arith), alike first number (omega arith)) refl
in_range (suc count) first number (suc along) e inside =
    let same : along + 1 ≡ suc along = omega arith in
    rw (in_range count (first + 1) number along (omega arith) (omega arith)) (ap (λ (n : ℕ). Some n) same)

-- an omitted subscript names each place of its axis once
pub all_by_stride : (axis stride : ℕ) → map (λ along. Some (along * stride)) (places axis) ≡ map (λ along. scaled_place stride (last_place along (named_by axis None))) (places axis)
all_by_stride axis stride =
    map_range-same (λ along. Some (along * stride)) (λ along. scaled_place stride (last_place along (places axis))) 0 0 axis
    (λ k h. let same : 0 + k ≡ k = omega arith in
    ap (λ (n : ℕ). Some (n * stride)) same ∙ ap (scaled_place stride) (sym (in_range axis 0 (0 + k) k refl h)))

-- the last places so far, and one number more
pub table_more : (axis stride place at : ℕ) (named : List ℕ) (table : List (Option ℕ)) → table ≡ map (λ along. scaled_place stride (last_place along named)) (places axis)
    → at < axis → place ≡ length named → set table at (Some (place * stride)) ≡ map (λ along. scaled_place stride (last_place along (named ++ at ∷ []))) (places axis)
table_more axis stride place at named table e inside count =
    let before : ℕ → Option ℕ = λ along. scaled_place stride (last_place along named) in
    let after : ℕ → Option ℕ = λ along. scaled_place stride (last_place along (named ++ at ∷ [])) in
    let long : length table ≡ axis = ap (λ (xs : List (Option ℕ)). length xs) e ∙ length-map-range_with_len before 0 axis in
    ext_get_or None (set table at (Some (place * stride))) (map after (places axis))
    (length-set table at (Some (place * stride)) ∙ long ∙ sym (length-map-range_with_len after 0 axis))
    (λ k h. let low : k < axis = omega (arith, length-set table at (Some (place * stride))) in
    by_test k (k == at) refl low
    ∙ sym (get_or-map-range_with_len after 0 axis k k None low (omega arith)))
  where
    by_test : (k : ℕ) (b : Bool) → (k == at) ≡ b → k < axis → get_or (set table at (Some (place * stride))) k None ≡ scaled_place stride (last_place k (named ++ at ∷ []))
    by_test k true t low =
        let is = same_number k at t in
        let long : at < length table = omega (arith, ap (λ (xs : List (Option ℕ)). length xs) e, length-map-range_with_len (λ along. scaled_place stride (last_place along named)) 0 axis) in
        ap (λ (n : ℕ). get_or (set table at (Some (place * stride))) n None) is ∙ get_or-set_same table at (Some (place * stride)) None long
        ∙ ap (λ (n : ℕ). Some (n * stride)) count
        ∙ sym (ap (λ (n : ℕ). scaled_place stride (last_place n (named ++ at ∷ []))) is
        ∙ ap (scaled_place stride) (last_of_more at named at ∙ ap (λ (b : Bool). cond b (Some (length named)) (last_place at named)) (alike at at refl)))
    by_test k false t low =
        let differs = other_number k at t in
        get_or-set_other table at k (Some (place * stride)) None differs ∙ ap (λ (xs : List (Option ℕ)). get_or xs k None) e
        ∙ get_or-map-range_with_len (λ along. scaled_place stride (last_place along named)) 0 axis k k None low (omega arith)
        ∙ sym (ap (scaled_place stride) (last_of_more k named at ∙ ap (λ (b : Bool). cond b (Some (length named)) (last_place k named)) (unlike at k (λ (same : at ≡ k). differs (sym same)))))

-- the first places so far, and one more
pub all_more : (stride along value : ℕ) (before : List (Option ℕ)) → before ≡ map (λ along. Some (along * stride)) (places along) → value ≡ along * stride
    → before ++ Some value ∷ [] ≡ map (λ along. Some (along * stride)) (places (along + 1))
all_more stride along value before e is =
    ap (λ (xs : List (Option ℕ)). xs ++ Some value ∷ []) e ∙ ap (λ (n : ℕ). map (λ along. Some (along * stride)) (places along) ++ Some n ∷ []) is
    ∙ sym (map-range_with_len_more (λ along. Some (along * stride)) 0 along along (omega arith))

pub named_on_axis : (axis : ℕ) (numbers : List ℤ) (place : ℕ) (other : ℤ) → list_any (is_outside axis) numbers ≡ false → place < length numbers
    → unsigned_abs (get_or numbers place other) - 1 < axis
named_on_axis axis [] place other none below = absurd (omega arith)
named_on_axis axis (x ∷ xs) zero other none below =
    number_inside (is_negative x) (unsigned_abs x == 0) (nat_lt axis (unsigned_abs x)) (unsigned_abs x) axis (unsigned_abs x - 1) (none_first (is_outside axis x) (list_any (is_outside axis) xs) none).0 refl refl refl
named_on_axis axis (x ∷ xs) (suc place) other none below = named_on_axis axis xs place other (none_first (is_outside axis x) (list_any (is_outside axis) xs) none).1 (omega arith)

pub table_long : (axis : ℕ) (told : ℕ → Option ℕ) (table : List (Option ℕ)) → table ≡ map told (places axis) → length table ≡ axis
table_long axis told table e = ap (λ (xs : List (Option ℕ)). length xs) e ∙ length-map-range_with_len told 0 axis

-- the numbers so far, and one more
pub table_step : (axis stride place at value : ℕ) (numbers : List ℤ) (other : ℤ) (table : List (Option ℕ))
    → table ≡ map (λ along. scaled_place stride (last_place along (map (λ number. unsigned_abs number - 1) (take place numbers)))) (places axis) → place < length numbers
    → at ≡ unsigned_abs (get_or numbers place other) - 1 → at < axis → value ≡ place * stride
    → set table at (Some value) ≡ map (λ along. scaled_place stride (last_place along (map (λ number. unsigned_abs number - 1) (take (place + 1) numbers)))) (places axis)
table_step axis stride place at value numbers other table e below is inside v =
    let named : ℤ → ℕ = λ number. unsigned_abs number - 1 in
    let before : List ℕ = map named (take place numbers) in
    let many : place ≡ length before = omega (arith, length-map (take place numbers) named, length-take {A = ℤ} place numbers) in
    let more : before ++ at ∷ [] ≡ map named (take (place + 1) numbers)
    = ap (λ (n : ℕ). before ++ n ∷ []) is ∙ sym (ap (map named) (take_more numbers place other below) ∙ map-append named (take place numbers) (get_or numbers place other ∷ [])) in
    ap (λ (n : ℕ). set table at (Some n)) v ∙ table_more axis stride place at before table e inside many
    ∙ ap (λ (xs : List ℕ). map (λ along. scaled_place stride (last_place along xs)) (places axis)) more

-- ---- items so far, and one more

zip_more : {A B : Type 0} (xs : List A) (ys : List B) (x : A) (y : B) → length xs ≡ length ys → zip (xs ++ x ∷ []) (ys ++ y ∷ []) ≡ zip xs ys ++ (x, y) ∷ []
zip_more [] [] x y many = refl
zip_more [] (b ∷ ys) x y many = absurd (omega arith)
zip_more (a ∷ xs) [] x y many = absurd (omega arith)
zip_more {A} {B} (a ∷ xs) (b ∷ ys) x y many = ap (λ (pairs : List (A × B)). (a, b) ∷ pairs) (zip_more xs ys x y (omega arith))

pub overlaid_more : {T : Type 0} (old new : List T) (source : ℕ → Option ℕ) (place : ℕ) (x value : T) (before : List T)
    → before ≡ map (λ (pair : T × ℕ). put_over pair.0 new (source pair.1)) (zip (take place old) (places place)) → place < length old → x ≡ get_or old place x
    → value ≡ put_over x new (source place)
    → before ++ value ∷ [] ≡ map (λ (pair : T × ℕ). put_over pair.0 new (source pair.1)) (zip (take (place + 1) old) (places (place + 1)))
overlaid_more {T} old new source place x value before e below is v =
    let h : T × ℕ → T = λ pair. put_over pair.0 new (source pair.1) in
    let many : length (take place old) ≡ length (places place) = omega (arith, length-take {A = T} place old, length-range_with_len 0 place) in
    let at : 0 + place ≡ place = omega arith in
    let pairs : zip (take (place + 1) old) (places (place + 1)) ≡ zip (take place old) (places place) ++ (x, place) ∷ []
    = ap (λ (xs : List T). zip xs (places (place + 1))) (take_more old place x below ∙ ap (λ (y : T). take place old ++ y ∷ []) (sym is))
    ∙ ap (λ (ys : List ℕ). zip (take place old ++ x ∷ []) ys) (places_more 0 place ∙ ap (λ (n : ℕ). places place ++ n ∷ []) at)
    ∙ zip_more (take place old) (places place) x place many in
    ap (λ (xs : List T). xs ++ value ∷ []) e ∙ ap (λ (y : T). map h (zip (take place old) (places place)) ++ y ∷ []) v
    ∙ sym (ap (map h) pairs ∙ map-append h (zip (take place old) (places place)) ((x, place) ∷ []))

-- ---- places of some axes together with those of the axes after them

map_map : (f : Option ℕ → Option ℕ) (g : ℕ → Option ℕ) (xs : List ℕ) → map f (map g xs) ≡ map (λ x. f (g x)) xs
map_map f g [] = refl
map_map f g (x ∷ xs) = ap (λ (rest : List (Option ℕ)). f (g x) ∷ rest) (map_map f g xs)

crossed_from : (f g h : ℕ → Option ℕ) (count rows first : ℕ) → ((row place : ℕ) → row < rows → place < count → h ((first + row) * count + place) ≡ added (f (first + row)) (g place))
    → flat_map (λ here. map (added here) (map g (places count))) (map f (range_with_len first rows)) ≡ map h (range_with_len (first * count) (rows * count))
crossed_from f g h count zero first same = let none : zero * count ≡ 0 = omega arith in rw none refl
crossed_from f g h count (suc rows) first same =
    let more : suc rows * count ≡ count + rows * count = omega arith in
    let next : first * count + count ≡ (first + 1) * count = omega arith in
    let rest = crossed_from f g h count rows (first + 1)
    (λ row place r p. let at : (first + 1) + row ≡ first + suc row = omega arith in
    subst (λ (n : ℕ). h (n * count + place) ≡ added (f n) (g place)) (sym at) (same (suc row) place (omega arith) p)) in
    let here : map (added (f first)) (map g (places count)) ≡ map h (range_with_len (first * count) count)
    = map_map (added (f first)) g (places count)
    ∙ map_range-same (λ place. added (f first) (g place)) h 0 (first * count) count
    (λ k low. let at : first + 0 ≡ first = omega arith in let zero_k : 0 + k ≡ k = omega arith in
    ap (λ (n : ℕ). added (f first) (g n)) zero_k ∙ sym (subst (λ (n : ℕ). h (n * count + k) ≡ added (f n) (g k)) at (same 0 k (omega arith) low))) in
    ap (λ (xs : List (Option ℕ)). xs ++ flat_map (λ here. map (added here) (map g (places count))) (map f (range_with_len (first + 1) rows))) here
    ∙ ap (λ (xs : List (Option ℕ)). map h (range_with_len (first * count) count) ++ xs) (rest ∙ ap (λ (n : ℕ). map h (range_with_len n (rows * count))) (sym next))
    ∙ sym (map_range-append h (first * count) count (rows * count)) ∙ ap (λ (n : ℕ). map h (range_with_len (first * count) n)) (sym more)

-- one axis more
pub naming_more : (shape : List ℕ) (offset : ℕ → ℕ → Option ℕ) (axis : ℕ) (here after made : List (Option ℕ)) → axis < length shape → here ≡ map (offset axis) (places (get_or shape axis 0))
    → after ≡ map (λ place. offset_at offset (axis + 1) (coordinates_of (drop (axis + 1) shape) place)) (places (element_count (drop (axis + 1) shape)))
    → made ≡ flat_map (λ first. map (added first) after) here
    → made ≡ map (λ place. offset_at offset axis (coordinates_of (drop axis shape) place)) (places (element_count (drop axis shape)))
naming_more shape offset axis here after made inside h a m =
    let rest = drop (axis + 1) shape in
    let long = get_or shape axis 0 in
    let later : ℕ → Option ℕ = λ place. offset_at offset (axis + 1) (coordinates_of rest place) in
    let all : ℕ → Option ℕ = λ place. offset_at offset axis (coordinates_of (long ∷ rest) place) in
    let none : 0 * element_count rest ≡ 0 = omega arith in
    m ∙ ap (λ (xs : List (Option ℕ)). flat_map (λ first. map (added first) xs) here) a
    ∙ ap (λ (xs : List (Option ℕ)). flat_map (λ first. map (added first) (map later (places (element_count rest)))) xs) h
    ∙ crossed_from (offset axis) later all (element_count rest) long 0
    (λ row place r p. let at : 0 + row ≡ row = omega arith in
    subst (λ (n : ℕ). all (n * element_count rest + place) ≡ added (offset axis n) (later place)) (sym at) (ap (offset_at offset axis) (coordinates_of_row long rest row place p)))
    ∙ ap (λ (n : ℕ). map all (range_with_len n (long * element_count rest))) none
    ∙ ap (λ (n : ℕ). map all (places n)) (sym (element_count-cons long rest))
    ∙ ap (λ (xs : List ℕ). map (λ place. offset_at offset axis (coordinates_of xs place)) (places (element_count xs))) (sym (drop_more shape axis 0 inside))

-- the axes from one on have no more elements than all
pub no_more_from : (shape : List ℕ) (axis : ℕ) → 0 < element_count shape → element_count (drop axis shape) ≤ element_count shape
no_more_from [] axis some = let none : element_count (drop axis []) ≡ element_count [] = ap element_count (drop_all axis [] (omega arith)) in omega arith
no_more_from (x ∷ xs) zero some = omega arith
no_more_from (x ∷ xs) (suc axis) some = by_first x (element_count xs) (element_count (x ∷ xs)) (element_count-cons x xs) some (no_more_from xs axis)
  where
    by_first : (first rest total : ℕ) → total ≡ first * rest → 0 < total → (0 < rest → element_count (drop axis xs) ≤ rest) → element_count (drop axis xs) ≤ total
    by_first zero rest total e some low = absurd (let none : zero * rest ≡ 0 = omega arith in omega arith)
    by_first (suc first) zero total e some low = absurd (let none : suc first * zero ≡ 0 = omega arith in omega arith)
    by_first (suc first) (suc rest) total e some low =
        let turned = mul_comm (suc first) (suc rest) in
        let other = le-mul_of_pos_right {m = suc first} (suc rest) (omega arith) in
        omega (arith, low (omega arith))

-- what is told of one axis and of the axes after it is small together
pub small_together : (shape : List ℕ) (offset : ℕ → ℕ → Option ℕ) (axis : ℕ) (here after : List (Option ℕ)) → axis < length shape → PlacesAreSmall shape offset
    → here ≡ map (offset axis) (places (get_or shape axis 0))
    → after ≡ map (λ place. offset_at offset (axis + 1) (coordinates_of (drop (axis + 1) shape) place)) (places (element_count (drop (axis + 1) shape)))
    → AreSmallTogether here after
small_together shape offset axis here after inside small h e = λ k below j a b low first next.
    let rest = drop (axis + 1) shape in
    let long = get_or shape axis 0 in
    let later : ℕ → Option ℕ = λ place. offset_at offset (axis + 1) (coordinates_of rest place) in
    let k_low : k < long = omega (arith, ap (λ (xs : List (Option ℕ)). length xs) h, length-map-range_with_len (offset axis) 0 long) in
    let j_low : j < element_count rest = omega (arith, ap (λ (xs : List (Option ℕ)). length xs) e, length-map-range_with_len later 0 (element_count rest)) in
    let here_k : offset axis k ≡ Some a = sym (get_or-map-range_with_len (offset axis) 0 long k k None k_low (omega arith)) ∙ sym (ap (λ (xs : List (Option ℕ)). get_or xs k None) h) ∙ first in
    let later_j : later j ≡ Some b
    = sym (get_or-map-range_with_len later 0 (element_count rest) j j None j_low (omega arith)) ∙ sym (ap (λ (xs : List (Option ℕ)). get_or xs j None) e) ∙ next in
    let within : AreWithin (drop axis shape) (k ∷ coordinates_of rest j)
    = subst (λ (xs : List ℕ). AreWithin xs (k ∷ coordinates_of rest j)) (sym (drop_more shape axis 0 inside)) (k_low, coordinates_are_within rest j j_low) in
    small axis (k ∷ coordinates_of rest j) (a + b) (omega arith) within (ap (λ (o : Option ℕ). added o (later j)) here_k ∙ ap (added (Some a)) later_j)

-- and few
pub few_together : (shape : List ℕ) (offset : ℕ → ℕ → Option ℕ) (axis : ℕ) (here after : List (Option ℕ)) → axis < length shape → element_count shape ≤ 16384 → 0 < element_count shape
    → here ≡ map (offset axis) (places (get_or shape axis 0))
    → after ≡ map (λ place. offset_at offset (axis + 1) (coordinates_of (drop (axis + 1) shape) place)) (places (element_count (drop (axis + 1) shape)))
    → length here * length after ≤ 16384
few_together shape offset axis here after inside fits some h e =
    let rest = drop (axis + 1) shape in
    let many : length here ≡ get_or shape axis 0 = ap (λ (xs : List (Option ℕ)). length xs) h ∙ length-map-range_with_len (offset axis) 0 (get_or shape axis 0) in
    let others : length after ≡ element_count rest
    = ap (λ (xs : List (Option ℕ)). length xs) e ∙ length-map-range_with_len (λ place. offset_at offset (axis + 1) (coordinates_of rest place)) 0 (element_count rest) in
    let count : get_or shape axis 0 * element_count rest ≡ element_count (drop axis shape)
    = sym (element_count-cons (get_or shape axis 0) rest) ∙ ap element_count (sym (drop_more shape axis 0 inside)) in
    let low = no_more_from shape axis some in
    rw (many, others) (omega arith)
