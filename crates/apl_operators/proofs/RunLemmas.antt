-- Fronts of lines, one after another.
use Rattle.std.proofs.Common.{◌≡◌, ℕ, ℤ, zero, suc, ◌+◌, ◌-◌, ◌*◌, ◌/◌, ◌%◌, ◌<◌, ◌≤◌, min, ◌⊎◌, inl, inr, ◌++◌, Bool, true, false, List, [], ◌∷◌, Option, Some, pos, get_or, if◌then◌else◌, refl, sym, ap, subst, ◌∙◌, add-one, arith}
use Rattle.std.specs.Prelude.{length, nat_lt, slice_get, slice_index_or}
use Rattle.std.proofs.lemmas.Option.{slice_get-get_or, slice_get_read}
use Rattle.std.proofs.Math.Nat.{mul_assoc, mul_comm, le-mul_of_pos_right}
use Rattle.std.proofs.lemmas.Bool.{cases_lt}
use Rattle.std.proofs.lemmas.Bool.Decides.{nat_tests}
use Rattle.std.proofs.lemmas.List.Elements.{All-get_or}
use Rattle.std.proofs.lemmas.Nat.{div-add-mod', div_below, mod_below}
use Rattle.apl_items.specs.declared.shapes.Split.{Split}
use Rattle.apl_items.specs.Places.{IsByPlace}
use Rattle.apl_items.specs.Shapes.{along_of, inner_of, place_along, split_count}
use Rattle.apl_items.proofs.AlongLemmas.{positive, regrouped}
use Rattle.apl_items.proofs.RowLemmas.{each_more, place_below}
use Rattle.apl_items.proofs.ShapeLemmas.{along_of_place, inner_of_place, outer_of_place, place_along_below}
use Rattle.operator_rules.specs.Reduction.{Joins, front_of_line, joined, number_on, reduction}
use Rattle.apl_scalar.specs.Reading.{AllFit}
use Rattle.apl_arrays.specs.Number.{fits}
use Rattle.apl_operators.specs.Running.{Runs, RunsTo, front_at, row_length}
use Rattle.apl_operators.proofs.FrontLemmas.{Fits, Groups, one_more}

-- a vector, seen along its only axis
abbrev pub lone : ℕ → Split
lone n = record { outer = 1; along = n; inner = 1 }

-- a front follows from the one before it on each line
pub record StepsOn (by : ℤ → ℤ → Option ℤ) (list : List ℤ) (split : Split) : Type 0 where
  pub step : (outer inner along : ℕ) → outer < split.outer → inner < split.inner → along + 1 < split.along
      → front_of_line by list split outer inner (along + 1) ≡ joined by (front_of_line by list split outer inner along) (number_on list split outer inner (along + 1))

-- a front, by the parts of its place
pub front_on : (by : ℤ → ℤ → Option ℤ) (list : List ℤ) (split : Split) (place outer along inner : ℕ) → place ≡ place_along split outer along inner → along < split.along → inner < split.inner
    → front_at by list split place ≡ front_of_line by list split outer inner along
front_on by list split place outer along inner is q r =
    ap (front_at by list split) is
    ∙ ap (λ (o : ℕ). front_of_line by list split o (inner_of split (place_along split outer along inner)) (along_of split (place_along split outer along inner))) (outer_of_place split outer along inner q r)
    ∙ ap (λ (i : ℕ). front_of_line by list split outer i (along_of split (place_along split outer along inner))) (inner_of_place split outer along inner r)
    ∙ ap (λ (a : ℕ). front_of_line by list split outer inner a) (along_of_place split outer along inner q r)

pub one_before : (o a i q r : ℕ) → (o * a + (q + 1)) * i + r - i ≡ (o * a + q) * i + r
one_before o a i q r = let more : (o * a + (q + 1)) * i ≡ (o * a + q) * i + i = omega arith in omega (arith, more)

some_rows : (i q r at : ℕ) → q * i + r ≡ at → r < i → i ≤ at → 1 ≤ q
some_rows i zero r at e below past = absurd (omega arith)
some_rows i (suc q) r at e below past = omega arith

pub runs_by_steps : (by : ℤ → ℤ → Option ℤ) (list : List ℤ) (split : Split) → split_count split ≡ length list → 0 < split.along → StepsOn by list split → Runs by list split (front_at by list split)
runs_by_steps by list split whole some steps = record {
  first = λ outer at p below.
      let zero_rows : 0 * split.inner + at ≡ at = omega arith in
      let is : outer * row_length split + at ≡ place_along split outer 0 at = regrouped outer split.along split.inner 0 at at zero_rows in
      front_on by list split (outer * row_length split + at) outer 0 at is some below ∙ read (outer * row_length split + at) outer 0 at p is some below;
  next = λ outer at p past below.
      let inner_some : 0 < split.inner = positive split.along split.inner at below in
      let parts : at / split.inner * split.inner + at % split.inner ≡ at = div-add-mod' at split.inner in
      let inside : at % split.inner < split.inner = mod_below at split.inner inner_some in
      let rows : at / split.inner < split.along = div_below at split.inner split.along inner_some below in
      let one : 1 ≤ at / split.inner = some_rows split.inner (at / split.inner) (at % split.inner) at parts inside past in
      after outer (at / split.inner - 1) (at / split.inner) (at % split.inner) at p (omega arith) rows inside parts;
}
  where
    read : (place outer along inner : ℕ) → outer < split.outer → place ≡ place_along split outer along inner → along < split.along → inner < split.inner
        → number_on list split outer inner along ≡ slice_get list place
    read place outer along inner p is q r =
        let below = place_along_below split outer along inner p q r in
        sym (ap (slice_get list) is ∙ slice_get-get_or list (place_along split outer along inner) (pos 0) (omega (arith, below, whole)))

    after : (outer before along inner at : ℕ) → outer < split.outer → before + 1 ≡ along → along < split.along → inner < split.inner → along * split.inner + inner ≡ at
        → front_at by list split (outer * row_length split + at)
        ≡ joined by (front_at by list split (outer * row_length split + at - split.inner)) (slice_get list (outer * row_length split + at))
    after outer before along inner at p next rows inside parts =
        let is : outer * row_length split + at ≡ place_along split outer along inner = regrouped outer split.along split.inner along inner at parts in
        let is_next : outer * row_length split + at ≡ place_along split outer (before + 1) inner = is ∙ ap (λ (k : ℕ). place_along split outer k inner) (sym next) in
        let was : outer * row_length split + at - split.inner ≡ place_along split outer before inner = ap (λ (k : ℕ). k - split.inner) is_next ∙ one_before outer split.along split.inner before inner in
        let before_inside : before < split.along = omega arith in
        let next_inside : before + 1 < split.along = omega arith in
        front_on by list split (outer * row_length split + at) outer (before + 1) inner is_next next_inside inside
        ∙ steps.step outer inner before p inside next_inside
        ∙ ap (λ (o : Option ℤ). joined by o (number_on list split outer inner (before + 1))) (sym (front_on by list split (outer * row_length split + at - split.inner) outer before inner was before_inside inside))
        ∙ ap (λ (o : Option ℤ). joined by (front_at by list split (outer * row_length split + at - split.inner)) o) (read (outer * row_length split + at) outer (before + 1) inner p is_next next_inside inside)

-- a reduction looks at the items from its first to its last
pub reduction_alike : (by : ℤ → ℤ → Option ℤ) (one other : ℕ → Option ℤ) (from more : ℕ) → ((k : ℕ) → k ≤ from + more → one k ≡ other k) → reduction by one from more ≡ reduction by other from more
reduction_alike by one other from zero same = same from (omega arith)
reduction_alike by one other from (suc more) same =
    ap (λ (o : Option ℤ). joined by o (reduction by one (from + 1) more)) (same from (omega arith))
    ∙ ap (λ (o : Option ℤ). joined by (other from) o) (reduction_alike by one other (from + 1) more (λ k h. same k (omega arith)))

-- functions that may be grouped step so
pub steps_by_groups : (by : ℤ → ℤ → Option ℤ) (list : List ℤ) (split : Split) → split_count split ≡ length list → AllFit list → Groups Fits by → StepsOn by list split
steps_by_groups by list split count fit groups = record {
  step = λ outer inner along p q r.
      let number : ℕ → ℤ = λ k. slice_index_or list (place_along split outer (min k (along + 1)) inner) (pos 0) in
      let capped : ℕ → Option ℤ = λ k. Some (number k) in
      let same : (k : ℕ) → k ≤ along + 1 → number_on list split outer inner k ≡ capped k =
      λ k h. let least : k ≡ min k (along + 1) = omega arith in ap (λ (n : ℕ). number_on list split outer inner n) least in
      let whole = reduction_alike by (number_on list split outer inner) capped 0 (along + 1) (λ k h. same k (omega arith)) in
      let before = reduction_alike by (number_on list split outer inner) capped 0 along (λ k h. same k (omega arith)) in
      let next : 0 + suc along ≡ along + 1 = omega arith in
      whole ∙ ap (λ (n : ℕ). reduction by capped 0 n) (add-one along)
      ∙ one_more Fits by groups capped
      (λ k z e. let is : number k ≡ z = cc in
      let low = place_along_below split outer (min k (along + 1)) inner p (omega arith) q in
      subst Fits is (All-get_or (λ number. fits number ≡ true) list (place_along split outer (min k (along + 1)) inner) (pos 0) (omega (arith, low, count)) fit)) 0 along
      ∙ ap (λ (o : Option ℤ). joined by o (capped (0 + suc along))) (sym before)
      ∙ ap (λ (o : Option ℤ). joined by (front_of_line by list split outer inner along) o) (ap capped next ∙ sym (same (along + 1) (omega arith)));
}

-- ---- for the loop

pub first_is : {T : Type 0} (item : ℕ → Option T) (place : ℕ) (x : T) (first : Bool) (other : Option T) → first ≡ true → item place ≡ (if first then Some x else other) → Some x ≡ item place
first_is item place x first other is here = sym (here ∙ ap (λ (t : Bool). if t then Some x else other) is)

pub next_is : {T : Type 0} (joins : T → T → Option T → Type 0) (by : T → T → Option T) (item : ℕ → Option T) (made : List T) (place before : ℕ) (a b : T) (value : Option T) (first : Bool)
    → Joins joins by → ((k : ℕ) → k < place → slice_get made k ≡ item k) → first ≡ false → length made ≡ place → before < place → a ≡ get_or made before a → joins a b value
    → item place ≡ (if first then Some b else joined by (item before) (Some b)) → value ≡ item place
next_is {T} joins by item made place before a b value first joining so_far is whole earlier read_a told here =
    let at_a : slice_get made before ≡ Some a = slice_get_read made (length made) before a refl (omega arith) read_a in
    joining a b value told
    ∙ ap (λ (o : Option T). joined by o (Some b)) (sym at_a ∙ so_far before earlier)
    ∙ sym (here ∙ ap (λ (t : Bool). if t then Some b else joined by (item before) (Some b)) is)

-- the item at a place of a row, as a definition that runs on has it, where the list has this item there
pub run_item : {T : Type 0} (by : T → T → Option T) (list : List T) (split : Split) (item : ℕ → Option T) (outer at : ℕ) (x : T) → Runs by list split item
    → outer < split.outer → at < row_length split → slice_get list (outer * row_length split + at) ≡ Some x
    → item (outer * row_length split + at) ≡ (if nat_lt at split.inner then Some x else joined by (item (outer * row_length split + at - split.inner)) (Some x))
run_item {T} by list split item outer at x runs p q is = by_test (cases_lt at split.inner)
  where
    by_test : (at < split.inner) ⊎ (split.inner ≤ at) → item (outer * row_length split + at)
        ≡ (if nat_lt at split.inner then Some x else joined by (item (outer * row_length split + at - split.inner)) (Some x))
    by_test (inl h) = let e : nat_lt at split.inner ≡ true = grind (arith, nat_tests) in rw e (runs.first outer at p h ∙ is)
    by_test (inr h) =
        let e : nat_lt at split.inner ≡ false = grind (arith, nat_tests) in
        rw e (runs.next outer at p h q ∙ ap (λ (o : Option T). joined by (item (outer * row_length split + at - split.inner)) o) is)

-- the item that was read from the list
pub read_item : {T : Type 0} (list : List T) (place : ℕ) (x : T) → place < length list → x ≡ get_or list place x → slice_get list place ≡ Some x
read_item list place x below read = slice_get_read list (length list) place x refl below read

-- one item more
pub runs_more : {T : Type 0} (joins : T → T → Option T → Type 0) (list : List T) (split : Split) (count next : ℕ) (made more : List T) (item : T)
    → RunsTo joins list split count made → length made ≡ count → next ≡ count + 1 → more ≡ made ++ item ∷ []
    → ((by : T → T → Option T) (given : ℕ → Option T) → Joins joins by → Runs by list split given → Some item ≡ given count)
    → RunsTo joins list split next more
runs_more {T} joins list split count next made more item so_far long is_next is now by given joining runs =
    each_more (λ k o. o ≡ given k) count next made more item long is_next is (so_far by given joining runs) (now by given joining runs)

-- all items, or none at a place
pub runs_to_all : {T : Type 0} (joins : T → T → Option T → Type 0) (list : List T) (split : Split) (count : ℕ) (made : List T) → RunsTo joins list split count made
    → length made ≡ count → count ≡ length list
    → (by : T → T → Option T) (item : ℕ → Option T) → Joins joins by → Runs by list split item → IsByPlace (length list) item made
runs_to_all joins list split count made so_far long all by item joining runs = record {
  whole = long ∙ all;
  each = λ place below. so_far by item joining runs place (omega (arith, all));
}

pub runs_to_as : {T : Type 0} (joins : T → T → Option T → Type 0) (list : List T) (split : Split) (from to : ℕ) (made : List T) → from ≡ to → RunsTo joins list split from made → RunsTo joins list split to made
runs_to_as joins list split from to made same so_far = subst (λ (n : ℕ). RunsTo joins list split n made) same so_far

pub nothing_runs : {T : Type 0} (joins : T → T → Option T → Type 0) (list : List T) (split : Split) (count : ℕ) (made : List T) → count ≡ 0 → RunsTo joins list split count made
nothing_runs joins list split count made none by item joining runs k below = absurd (omega arith)

-- ---- a row that is one line

-- the item after one that was kept
pub line_next : {T : Type 0} (joins : T → T → Option T → Type 0) (by : T → T → Option T) (list : List T) (split : Split) (item : ℕ → Option T) (outer at count : ℕ) (made : List T) (last number : T) (value : Option T)
    → split.inner ≡ 1 → outer < split.outer → 1 ≤ at → at < row_length split → count ≡ outer * row_length split + at → Joins joins by → Runs by list split item
    → ((k : ℕ) → k < count → slice_get made k ≡ item k) → slice_get made (count - 1) ≡ Some last → slice_get list count ≡ Some number → joins last number value → value ≡ item count
line_next {T} joins by list split item outer at count made last number value lone p past below is joining runs so_far kept read told =
    let before : outer * row_length split + at - split.inner ≡ count - 1 = omega arith in
    let was : item (count - 1) ≡ Some last = sym (so_far (count - 1) (omega arith)) ∙ kept in
    joining last number value told
    ∙ sym
    (ap item is ∙ runs.next outer at p (omega arith) below ∙ ap (λ (n : ℕ). joined by (item n) (slice_get list (outer * row_length split + at))) before
    ∙ ap (λ (o : Option T). joined by o (slice_get list (outer * row_length split + at))) was ∙ ap (λ (n : ℕ). joined by (Some last) (slice_get list n)) (sym is) ∙ ap (λ (o : Option T). joined by (Some last) o) read)

-- the first of a line
pub line_first : {T : Type 0} (by : T → T → Option T) (list : List T) (split : Split) (item : ℕ → Option T) (outer count : ℕ) (number : T)
    → split.inner ≡ 1 → outer < split.outer → count ≡ outer * row_length split → Runs by list split item → slice_get list count ≡ Some number → Some number ≡ item count
line_first by list split item outer count number lone p is runs read =
    let start : count ≡ outer * row_length split + 0 = omega arith in
    sym (ap item start ∙ runs.first outer 0 p (omega arith) ∙ ap (slice_get list) (sym start) ∙ read)

-- the last of the items that were made
pub kept_last : {T : Type 0} (made more : List T) (item : T) (count next : ℕ) → length made ≡ count → next ≡ count + 1 → more ≡ made ++ item ∷ [] → slice_get more (next - 1) ≡ Some item
kept_last {T} made more item count next long is_next is =
    let at : next - 1 ≡ length made = omega arith in
    ap (slice_get more) at ∙ ap (λ (xs : List T). slice_get xs (length made)) is ∙ pushed made
  where
    pushed : (front : List T) → slice_get (front ++ item ∷ []) (length front) ≡ Some item
    pushed [] = refl
    pushed (x ∷ front) = pushed front

-- the places of all rows
pub row_place : (split : Split) (size outer at : ℕ) → split_count split ≡ size → outer < split.outer → at < row_length split → outer * row_length split + at < size
row_place split size outer at whole p q =
    let same : split.outer * (split.along * split.inner) ≡ split_count split = sym (mul_assoc split.outer split.along split.inner) in
    omega (arith, place_below split.outer (row_length split) outer at p q, same, whole)

pub row_fits : (split : Split) (size : ℕ) → split_count split ≡ size → 0 < split_count split → row_length split ≤ size
row_fits split size whole some = least split.outer (row_length split) size (sym (mul_assoc split.outer split.along split.inner) ∙ whole) (omega (arith, some, whole))
  where
    least : (o r n : ℕ) → o * r ≡ n → 0 < n → r ≤ n
    least zero r n e h = absurd (let none : zero * r ≡ 0 = omega arith in omega (arith, none, e))
    least (suc o) r n e h = let turned = mul_comm r (suc o) in omega (arith, le-mul_of_pos_right {m = suc o} r (omega arith), turned, e)

pub line_place : (split : Split) (size outer at : ℕ) → split_count split ≡ size → split.inner ≡ 1 → outer < split.outer → at < split.along → outer * split.along + at < size
line_place split size outer at whole lone p q =
    let one : split.along * split.inner ≡ split.along = ap (λ (n : ℕ). split.along * n) lone ∙ (let once : split.along * 1 ≡ split.along = omega arith in once) in
    let start : outer * row_length split ≡ outer * split.along = ap (λ (n : ℕ). outer * n) one in
    omega (arith, row_place split size outer at whole p (omega (arith, one, q)), start)

-- a row that is one line begins where its places do
pub line_start : (split : Split) (outer : ℕ) → split.inner ≡ 1 → (outer * row_length split ≡ outer * split.along) × (row_length split ≡ split.along)
line_start split outer lone =
    let one : split.along * split.inner ≡ split.along = ap (λ (n : ℕ). split.along * n) lone ∙ (let once : split.along * 1 ≡ split.along = omega arith in once) in
    (ap (λ (n : ℕ). outer * n) one, one)
