-- Each item of a scan is a reduction of the first items of its line.
use Rattle.std.proofs.Common.{◌≡◌, ◌||◌, ℕ, ℤ, zero, suc, pos, negsuc, map, if◌then◌else◌, Err, ◌+◌, ◌-◌, ◌*◌, ◌/◌, ◌%◌, ◌<◌, ◌≤◌, Bool, true, false, List, [], ◌∷◌, Option, Some, None, Ok, is_none, length, take, get_or, slice_get, get_or-take, refl, sym, ap, ◌∙◌, arith}
use Rattle.std.specs.Prelude.{slice_index_or}
use Rattle.std.specs.List.{filter_map, list_any, range_with_len}
use Rattle.std.proofs.lemmas.Bool.{false≢true}
use Rattle.std.proofs.lemmas.Bool.Decides.{nat_tests}
use Rattle.apl_arrays.specs.declared.array.ShapeFault.{ShapeFault}
use Rattle.apl_arrays.specs.declared.array.ShapeFault.TheVariants as fault
use Rattle.apl_verbs.specs.declared.verb.Dyad.{Dyad}
use Rattle.apl_arrays.specs.declared.report.Report.TheVariants.{Index}
use Rattle.apl_arrays.specs.declared.way.Way.{Way}
use Rattle.apl_arrays.specs.declared.way.Way.TheVariants.{First, Last}
use Rattle.apl_arrays.specs.Array.{PlainArray, element_count, number_array, numbers, numbers_in, scalar}
use Rattle.apl_arrays.specs.Shape.{shape_fault}
use Rattle.apl_items.specs.Answers.{ArrayResult, answer_of, faults_of_fault}
use Rattle.apl_items.specs.Axis.{axis_of, lacks_axis}
use Rattle.apl_items.specs.declared.shapes.Split.{Split}
use Rattle.apl_items.specs.Places.{items_by, lacks_item, numbers_by}
use Rattle.apl_items.specs.Shapes.{place_along, split_at, split_count}
use Rattle.apl_items.proofs.ShapeLemmas.{element_count-cons, place_along_below, split_count_lem}
use Rattle.apl_scalar.specs.Table.{dyadic_item}
use Rattle.operator_rules.specs.Gathering.{gathered, numbers_answer}
use Rattle.apl_operators.specs.Lines.{front_numbers}
use Rattle.operator_rules.specs.Reduce.{reduce_of, reduced_line}
use Rattle.operator_rules.specs.Reduction.{front_of_line, number_on}
use Rattle.apl_operators.specs.Running.{front_at}
use Rattle.operator_rules.specs.Scan.{scan_of, scanned_at}
use Rattle.apl_operators.proofs.LineLemmas.{not_zero, number_line_is}
use Rattle.apl_operators.proofs.NumberLemmas.{gathered_as_numbers, numbers_made}
use Rattle.apl_operators.proofs.RunLemmas.{front_on, lone, reduction_alike}
use Rattle.apl_operators.proofs.ScanLemmas.{scan_of_numbers}

-- ---- what a rule gives at each place

neither : (a b : Bool) → (a || b) ≡ false → (a ≡ false) × (b ≡ false)
neither true b e = absurd (false≢true (sym e))
neither false b e = (refl, e)

each_from : {T : Type 0} (rule : ℕ → Option T) (first n k : ℕ) (d : T) → list_any (λ place. is_none (rule place)) (range_with_len first n) ≡ false → k < n
    → rule (first + k) ≡ Some (get_or (filter_map rule (range_with_len first n)) k d)
each_from rule first zero k d e below = absurd (omega arith)
each_from {T} rule first (suc n) k d e below = by_item (rule first) refl (λ j h. each_from rule (first + 1) n j d parts.1 h) k below
  where
    parts : (is_none (rule first) ≡ false) × (list_any (λ place. is_none (rule place)) (range_with_len (first + 1) n) ≡ false)
    parts = neither (is_none (rule first)) (list_any (λ place. is_none (rule place)) (range_with_len (first + 1) n)) e

    by_item : (o : Option T) → rule first ≡ o → ((j : ℕ) → j < n → rule ((first + 1) + j) ≡ Some (get_or (filter_map rule (range_with_len (first + 1) n)) j d)) → (j : ℕ) → j < suc n
        → rule (first + j) ≡ Some (get_or (filter_map rule (first ∷ range_with_len (first + 1) n)) j d)
    by_item None is later j h = absurd (false≢true (sym parts.0 ∙ ap is_none is))
    by_item (Some x) is later zero h = rw is (ap rule (let here : first + zero ≡ first = omega arith in here) ∙ is)
    by_item (Some x) is later (suc j) h = rw is (ap rule (let next : first + suc j ≡ (first + 1) + j = omega arith in next) ∙ later j (omega arith))

-- where none is lacking each item is the one that the rule gives
each_given : {T : Type 0} (n : ℕ) (rule : ℕ → Option T) (k : ℕ) (d : T) → lacks_item n rule ≡ false → k < n → rule k ≡ Some (get_or (items_by n rule) k d)
each_given n rule k d e below = ap rule (let here : k ≡ 0 + k = omega arith in here) ∙ each_from rule 0 n k d e below

by_parts : (why : Option ShapeFault) (lacks : Bool) (array r : PlainArray) → answer_of (record (faults_of_fault why) { bad_domain = lacks }) array ≡ Ok r → (lacks ≡ false) × (array ≡ r)
by_parts None false array r e = (refl, cc)
by_parts None true array r e = absurd (cc)
by_parts (Some fault.Rank) lacks array r e = absurd (cc)
by_parts (Some fault.Size) true array r e = absurd (cc)
by_parts (Some fault.Size) false array r e = absurd (cc)

-- where the answer is an array none is lacking, and it has the numbers
given_numbers : (shape : List ℕ) (rule : ℕ → Option ℤ) (r : PlainArray) → numbers_answer shape rule ≡ Ok r → (lacks_item (element_count shape) rule ≡ false) × (numbers_by shape rule ≡ r)
given_numbers shape rule r e = by_parts (shape_fault shape) (lacks_item (element_count shape) rule) (numbers_by shape rule) r e

-- ---- a vector along its only axis

-- the numbers of the first places are those of the whole vector
first_alike : (f : Dyad) (list : List ℤ) (n k : ℕ) → front_of_line (dyadic_item f) (take (k + 1) list) (lone (k + 1)) 0 0 k ≡ front_of_line (dyadic_item f) list (lone n) 0 0 k
first_alike f list n k = reduction_alike (dyadic_item f) (number_on (take (k + 1) list) (lone (k + 1)) 0 0) (number_on list (lone n) 0 0) 0 k same
  where
    same : (j : ℕ) → j ≤ 0 + k → number_on (take (k + 1) list) (lone (k + 1)) 0 0 j ≡ number_on list (lone n) 0 0 j
    same j h =
        let one : (0 * (k + 1) + j) * 1 + 0 ≡ j = omega arith in
        let other : (0 * n + j) * 1 + 0 ≡ j = omega arith in
        let inside : j < k + 1 = omega arith in
        ap (λ (p : ℕ). Some (slice_index_or (take (k + 1) list) p (pos 0))) one
        ∙ (let kept : Some (get_or (take (k + 1) list) j (pos 0)) ≡ Some (get_or list j (pos 0)) = rw get_or-take refl in kept)
        ∙ sym (ap (λ (p : ℕ). Some (slice_index_or list p (pos 0))) other)

-- a scan of a vector that has items
vector_scan : (f : Dyad) (list : List ℤ) → 0 < length list
    → scan_of f (number_array (length list ∷ []) list) Last None ≡ numbers_answer (length list ∷ []) (front_at (dyadic_item f) list (lone (length list)))
vector_scan f list some =
    let count = element_count-cons (length list) [] in
    let one : length list * 1 ≡ length list = omega arith in
    rw (not_zero (element_count (length list ∷ [])) (omega (arith, count, one))) (scan_of_numbers f list (lone (length list)) (length list ∷ []))

-- the reduction of a vector that has items
vector_reduction : (f : Dyad) (list : List ℤ) (k : ℕ) (v : ℤ) → front_of_line (dyadic_item f) list (lone (k + 1)) 0 0 k ≡ Some v → reduce_of f (number_array ((k + 1) ∷ []) list) Last None ≡ Ok (scalar v)
vector_reduction f list k v is =
    let rule : ℕ → Option ℤ = λ line. front_of_line (dyadic_item f) list (lone (k + 1)) (line / 1) (line % 1) (k + 1 - 1) in
    gathered_as_numbers [] (reduced_line f (numbers list) (lone (k + 1))) rule (λ line. number_line_is f list (lone (k + 1)) line (omega arith))
    ∙ numbers_made [] 1 rule (v ∷ []) refl refl (record { whole = refl; each = each })
  where
    each : (place : ℕ) → place < 1 → slice_get (v ∷ []) place ≡ front_of_line (dyadic_item f) list (lone (k + 1)) (place / 1) (place % 1) (k + 1 - 1)
    each zero h = sym (ap (λ (n : ℕ). front_of_line (dyadic_item f) list (lone (k + 1)) 0 0 n) (let same : k + 1 - 1 ≡ k = omega arith in same) ∙ is)
    each (suc place) h = absurd (omega arith)

pub scan_item : (f : Dyad) (list : List ℤ) (k : ℕ) (r : PlainArray) → k < length list → scan_of f (number_array (length list ∷ []) list) Last None ≡ Ok r
    → reduce_of f (number_array ((k + 1) ∷ []) (take (k + 1) list)) Last None ≡ Ok (scalar (slice_index_or (numbers_in r.items) k (pos 0)))
scan_item f list k r below e =
    let n = length list in
    let rule : ℕ → Option ℤ = front_at (dyadic_item f) list (lone n) in
    let count = element_count-cons n [] in
    let one : n * 1 ≡ n = omega arith in
    let given = given_numbers (n ∷ []) rule r (sym (vector_scan f list (omega arith)) ∙ e) in
    let item = each_given (element_count (n ∷ [])) rule k (pos 0) given.0 (omega (arith, count, one)) in
    let value : get_or (items_by (element_count (n ∷ [])) rule) k (pos 0) ≡ slice_index_or (numbers_in r.items) k (pos 0) = ap (λ (a : PlainArray). get_or (numbers_in a.items) k (pos 0)) given.1 in
    let place : k ≡ (0 * n + k) * 1 + 0 = omega arith in
    vector_reduction f (take (k + 1) list) k (slice_index_or (numbers_in r.items) k (pos 0))
    (first_alike f list n k ∙ sym (front_on (dyadic_item f) list (lone n) k 0 k 0 place below (omega arith)) ∙ item ∙ ap (λ (z : ℤ). Some z) value)

-- ---- a line along any axis

axis_below : (rank : ℕ) (way : Way) (axis : Option ℤ) → lacks_axis rank axis ≡ false → 0 < rank → axis_of rank way axis < rank
axis_below rank Last None named some = omega arith
axis_below rank First None named some = some
axis_below rank way (Some (pos zero)) named some = absurd (cc)
axis_below rank way (Some (pos (suc n))) named some = grind (arith, nat_tests)
axis_below rank way (Some (negsuc n)) named some = absurd (cc)

named_axis : (t : Bool) (other : ArrayResult) (r : PlainArray) → (if t then Err Index else other) ≡ Ok r → t ≡ false
named_axis true other r e = absurd (cc)
named_axis false other r e = refl

mapped_at : (g : ℕ → ℤ) (first n j : ℕ) (d : ℤ) → j < n → get_or (map g (range_with_len first n)) j d ≡ g (first + j)
mapped_at g first zero j d h = absurd (omega arith)
mapped_at g first (suc n) zero d h = ap g (let same : first ≡ first + zero = omega arith in same)
mapped_at g first (suc n) (suc j) d h = mapped_at g (first + 1) n j d (omega arith) ∙ ap g (let same : (first + 1) + j ≡ first + suc j = omega arith in same)

-- the first numbers of a line, as a vector of their own
line_alike : (f : Dyad) (list : List ℤ) (split : Split) (outer inner along : ℕ)
    → front_of_line (dyadic_item f) (front_numbers list split outer inner along) (lone (along + 1)) 0 0 along ≡ front_of_line (dyadic_item f) list split outer inner along
line_alike f list split outer inner along =
    reduction_alike (dyadic_item f) (number_on (front_numbers list split outer inner along) (lone (along + 1)) 0 0) (number_on list split outer inner) 0 along same
  where
    number : ℕ → ℤ
    number k = slice_index_or list (place_along split outer k inner) (pos 0)

    same : (j : ℕ) → j ≤ 0 + along → number_on (front_numbers list split outer inner along) (lone (along + 1)) 0 0 j ≡ number_on list split outer inner j
    same j h =
        let one : (0 * (along + 1) + j) * 1 + 0 ≡ j = omega arith in
        let inside : j < along + 1 = omega arith in
        let start : 0 + j ≡ j = omega arith in
        ap (λ (p : ℕ). Some (slice_index_or (front_numbers list split outer inner along) p (pos 0))) one
        ∙ ap (λ (z : ℤ). Some z) (mapped_at number 0 (along + 1) j (pos 0) inside) ∙ ap (λ (n : ℕ). Some (number n)) start

pub scan_item_on_line : (f : Dyad) (shape : List ℕ) (list : List ℤ) (way : Way) (axis : Option ℤ) (split : Split) (outer along inner : ℕ) (r : PlainArray) → 0 < length shape
    → split ≡ split_at shape (axis_of (length shape) way axis) → outer < split.outer → along < split.along → inner < split.inner → scan_of f (number_array shape list) way axis ≡ Ok r
    → reduce_of f (number_array ((along + 1) ∷ []) (front_numbers list split outer inner along)) Last None ≡ Ok (scalar (slice_index_or (numbers_in r.items) (place_along split outer along inner) (pos 0)))
scan_item_on_line f shape list way axis split outer along inner r some is_split p q s e =
    let rule : ℕ → Option ℤ = front_at (dyadic_item f) list split in
    let place : ℕ = place_along split outer along inner in
    let used : ℕ = axis_of (length shape) way axis in
    let named = named_axis (lacks_axis (length shape) axis) _ r e in
    let count : split_count split ≡ element_count shape = ap split_count is_split ∙ split_count_lem shape used (axis_below (length shape) way axis named some) in
    let low = place_along_below split outer along inner p q s in
    let below : place < element_count shape = omega (arith, low, count) in
    let scan_is : scan_of f (number_array shape list) way axis ≡ numbers_answer shape rule =
    rw (named, not_zero (length shape) some, not_zero (element_count shape) (omega (arith, below)))
    (ap (λ (t : Split). gathered shape (scanned_at f (numbers list) t)) (sym is_split) ∙ scan_of_numbers f list split shape) in
    let given = given_numbers shape rule r (sym scan_is ∙ e) in
    let item = each_given (element_count shape) rule place (pos 0) given.0 below in
    let value : get_or (items_by (element_count shape) rule) place (pos 0) ≡ slice_index_or (numbers_in r.items) place (pos 0) = ap (λ (a : PlainArray). get_or (numbers_in a.items) place (pos 0)) given.1 in
    vector_reduction f (front_numbers list split outer inner along) along (slice_index_or (numbers_in r.items) place (pos 0))
    (line_alike f list split outer inner along ∙ sym (front_on (dyadic_item f) list split place outer along inner refl q s) ∙ item ∙ ap (λ (z : ℤ). Some z) value)
