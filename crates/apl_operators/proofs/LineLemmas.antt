-- Reductions of lines.
use Rattle.std.proofs.Common.{◌≡◌, ℕ, ℤ, zero, suc, ◌+◌, ◌-◌, ◌*◌, ◌/◌, ◌%◌, ◌<◌, ◌≤◌, ◌==◌, ◌++◌, All, false, take, drop, get_or, length-append, List, [], Option, Some, None, Result, Ok, IsOk, length, option_map, refl, sym, ap, subst, ◌∙◌, arith}
use Rattle.std.proofs.Math.Nat.{mul_assoc, mul_comm, le-mul_of_pos_right}
use Rattle.std.proofs.lemmas.Bool.Decides.{nat_tests}
use Rattle.std.proofs.lemmas.List.{length-take, length-drop, take_all}
use Rattle.std.proofs.lemmas.List.Elements.{All-append, All-take, All-drop}
use Rattle.std.proofs.lemmas.Nat.{div-add-mod'}
use Rattle.apl_arrays.specs.declared.items.Item.{Item}
use Rattle.apl_arrays.specs.declared.items.Item.TheVariants.{Number, Char}
use Rattle.apl_arrays.specs.declared.report.Fail.{Fail}
use Rattle.apl_verbs.specs.declared.verb.Dyad.{Dyad}
use Rattle.apl_arrays.specs.declared.way.Way.{Way}
use Rattle.apl_arrays.specs.Array.{FitsLimits, PlainArray, PlainItems, chars, element_count, item_count, numbers}
use Rattle.apl_arrays.proofs.Shapes.{what_fits_has_no_fault}
use Rattle.apl_items.specs.Answers.{ArrayResult, AnswersFirst}
use Rattle.apl_items.specs.declared.shapes.Split.{Split}
use Rattle.apl_items.specs.Shapes.{place_along, split_at, split_count}
use Rattle.apl_items.proofs.ShapeLemmas.{element_count-append, split_count_lem}
use Rattle.apl_scalar.specs.Table.{dyadic_item, pair_item, row_of_dyad}
use Rattle.apl_items.specs.Axis.{axis_of, lacks_axis, without}
use Rattle.operator_rules.specs.Gathering.{gathered, number_in, numbers_answer}
use Rattle.operator_rules.specs.Reduce.{item_on_line, reduce_of, reduced, reduced_line}
use Rattle.operator_rules.specs.Reduction.{front_of_line, identity_item, joined, joined_by, number_on, reduction, reduction_of}
use Rattle.apl_operators.proofs.GatherLemmas.{gathered_chars, gathered_none}
use Rattle.apl_operators.proofs.NumberLemmas.{gathered_as_numbers}

pub not_zero : (n : ℕ) → 0 < n → (n == 0) ≡ false
not_zero n h = grind (arith, nat_tests)

-- along an axis that is there
pub along_an_axis : (f : Dyad) (b : PlainArray) (way : Way) (axis : Option ℤ) (used : ℕ) (result : Result PlainArray Fail) → lacks_axis (length b.shape) axis ≡ false
    → 0 < length b.shape → used ≡ axis_of (length b.shape) way axis → AnswersFirst result (reduced f b used) → AnswersFirst result (reduce_of f b way axis)
along_an_axis f b way axis used result named some is_used answers =
    rw (named, not_zero (length b.shape) some) (subst (λ (u : ℕ). AnswersFirst result (reduced f b u)) is_used answers)

-- ---- a line that has items

-- it is the reduction of its first and so many more
pub line_of_items : (f : Dyad) (items : PlainItems) (split : Split) (line more : ℕ) → split.along ≡ suc more
    → reduced_line f items split line ≡ reduction (joined_by f) (item_on_line items split line) 0 more
line_of_items f items split line more e = ap (λ (n : ℕ). reduction_of (joined_by f) (identity_item f) (item_on_line items split line) n) e

-- numbers are joined as items as they are joined as numbers
joined_numbers : (f : Dyad) (x y : Option ℤ) → joined (joined_by f) (option_map Number x) (option_map Number y) ≡ option_map Number (joined (dyadic_item f) x y)
joined_numbers f None y = refl
joined_numbers f (Some a) None = refl
joined_numbers f (Some a) (Some b) = refl

pub reduced_numbers : (f : Dyad) (given : ℕ → Option ℤ) (from more : ℕ)
    → reduction (joined_by f) (λ along. option_map Number (given along)) from more ≡ option_map Number (reduction (dyadic_item f) given from more)
reduced_numbers f given from zero = refl
reduced_numbers f given from (suc more) =
    ap (λ (rest : Option Item). joined (joined_by f) (option_map Number (given from)) rest) (reduced_numbers f given (from + 1) more)
    ∙ joined_numbers f (given from) (reduction (dyadic_item f) given (from + 1) more)

-- the reduction of a line of numbers is a number
pub number_line_is : (f : Dyad) (list : List ℤ) (split : Split) (line : ℕ) → 0 < split.along
    → reduced_line f (numbers list) split line ≡ option_map Number (front_of_line (dyadic_item f) list split (line / split.inner) (line % split.inner) (split.along - 1))
number_line_is f list split line some =
    line_of_items f (numbers list) split line (split.along - 1) (omega arith)
    ∙ reduced_numbers f (number_on list split (line / split.inner) (line % split.inner)) 0 (split.along - 1)

pub number_lines_answer : (f : Dyad) (list : List ℤ) (split : Split) (shape : List ℕ) (result : Result PlainArray Fail) → 0 < split.along
    → AnswersFirst result (numbers_answer shape (λ line. front_of_line (dyadic_item f) list split (line / split.inner) (line % split.inner) (split.along - 1)))
    → AnswersFirst result (gathered shape (reduced_line f (numbers list) split))
number_lines_answer f list split shape result some answers =
    subst (AnswersFirst result) (sym (gathered_as_numbers shape (reduced_line f (numbers list) split) _ (λ line. number_line_is f list split line some))) answers

-- what a dyadic function gives is a number
mapped_back : (o : Option ℤ) → option_map Number o ≡ option_map Number (number_in (option_map Number o))
mapped_back None = refl
mapped_back (Some n) = refl

joined_is_number : (f : Dyad) (x y : Option Item) → joined (joined_by f) x y ≡ option_map Number (number_in (joined (joined_by f) x y))
joined_is_number f None y = refl
joined_is_number f (Some a) None = refl
joined_is_number f (Some a) (Some b) = mapped_back (pair_item f a b)

-- a reduction of two items or more is a number
long_lines_are_numbers : (f : Dyad) (items : PlainItems) (split : Split) (line more : ℕ) → split.along ≡ suc (suc more)
    → reduced_line f items split line ≡ option_map Number (number_in (reduced_line f items split line))
long_lines_are_numbers f items split line more e =
    let is = line_of_items f items split line (suc more) e in
    let item = item_on_line items split line in
    is ∙ joined_is_number f (item 0) (reduction (joined_by f) item (0 + 1) more) ∙ ap (λ (o : Option Item). option_map Number (number_in o)) (sym is)

-- the number that a line of two characters or more gives
pub char_line_is : (f : Dyad) (list : List ℕ) (split : Split) (line : ℕ) → 1 < split.along
    → number_in (reduction (joined_by f) (item_on_line (chars list) split line) 0 (split.along - 1)) ≡ number_in (reduced_line f (chars list) split line)
char_line_is f list split line some = ap number_in (sym (line_of_items f (chars list) split line (split.along - 1) (omega arith)))

pub long_lines_answer : (f : Dyad) (list : List ℕ) (split : Split) (shape : List ℕ) (result : Result PlainArray Fail) → 1 < split.along
    → AnswersFirst result (numbers_answer shape (λ line. number_in (reduced_line f (chars list) split line)))
    → AnswersFirst result (gathered shape (reduced_line f (chars list) split))
long_lines_answer f list split shape result some answers =
    subst (AnswersFirst result) (sym (gathered_as_numbers shape (reduced_line f (chars list) split) _ (λ line. long_lines_are_numbers f (chars list) split line (split.along - 2) (omega arith)))) answers

-- ---- lines of one character

lone_place : (split : Split) (line : ℕ) → split.along ≡ 1 → place_along split (line / split.inner) 0 (line % split.inner) ≡ line
lone_place split line e =
    let rows : line / split.inner * split.along + 0 ≡ line / split.inner = ap (λ (n : ℕ). line / split.inner * n + 0) e ∙ (let one : line / split.inner * 1 + 0 ≡ line / split.inner = omega arith in one) in
    ap (λ (n : ℕ). n * split.inner + line % split.inner) rows ∙ div-add-mod' line split.inner

-- a line of one character is that character
one_char : (f : Dyad) (list : List ℕ) (split : Split) (line : ℕ) → split.along ≡ 1 → reduced_line f (chars list) split line ≡ Some (Char (get_or list line 0))
one_char f list split line e =
    line_of_items f (chars list) split line zero (let one : split.along ≡ suc zero = omega arith in one)
    ∙ ap (λ (place : ℕ). Some (Char (get_or list place 0))) (lone_place split line e)

lines_of_one : (outer along inner : ℕ) → along ≡ 1 → outer * along * inner ≡ outer * inner
lines_of_one outer along inner e = ap (λ (n : ℕ). outer * n * inner) e ∙ (let one : outer * 1 * inner ≡ outer * inner = ap (λ (n : ℕ). n * inner) (let same : outer * 1 ≡ outer = omega arith in same) in one)

pub lone_chars : (f : Dyad) (items : PlainItems) (list copied : List ℕ) (split : Split) (shape : List ℕ) (made : PlainArray) → items ≡ chars list → copied ≡ list → split.along ≡ 1
    → FitsLimits shape → split_count split ≡ item_count items → split.outer * split.inner ≡ element_count shape → 0 < split_count split
    → made ≡ record { shape = shape; items = chars copied } → gathered shape (reduced_line f items split) ≡ Ok made
lone_chars f items list copied split shape made is same e fits whole lines some is_made =
    let given : PlainArray → ArrayResult = λ array. Ok array in
    let array : List ℕ → PlainArray = λ xs. record { shape = shape; items = chars xs } in
    let count : split_count split ≡ length list = whole ∙ ap item_count is in
    let all : split_count split ≡ split.outer * split.inner = lines_of_one split.outer split.along split.inner e in
    ap (λ (i : PlainItems). gathered shape (reduced_line f i split)) is
    ∙ gathered_chars shape (length list) (reduced_line f (chars list) split) list (what_fits_has_no_fault shape fits) (sym count ∙ all ∙ lines) (omega (arith, some, count)) refl
    (λ line below. one_char f list split line e)
    ∙ ap given (ap array (sym same) ∙ sym is_made)

-- where they cannot be copied for want of memory there is no report
pub lone_chars_there : (f : Dyad) (items : PlainItems) (list : List ℕ) (split : Split) (shape : List ℕ) → items ≡ chars list → split.along ≡ 1
    → FitsLimits shape → split_count split ≡ item_count items → split.outer * split.inner ≡ element_count shape → 0 < split_count split
    → IsOk (gathered shape (reduced_line f items split))
lone_chars_there f items list split shape is e fits whole lines some =
    rw (lone_chars f items list list split shape (record { shape = shape; items = chars list }) is refl e fits whole lines some refl) refl

-- ---- shapes without an axis

pub shape_without : (axis : ℕ) (shape made : List ℕ) → made ≡ take axis shape ++ take (length shape - (axis + 1)) (drop (axis + 1) shape) → made ≡ without axis shape
shape_without axis shape made e =
    e ∙ ap (λ (rest : List ℕ). take axis shape ++ rest) (take_all (length shape - (axis + 1)) (drop (axis + 1) shape) (omega (arith, length-drop (axis + 1) shape)))

pub axes_without : (axis : ℕ) (shape : List ℕ) → All (λ n. n ≤ 16384) shape → All (λ n. n ≤ 16384) (without axis shape)
axes_without axis shape all =
    All-append (λ n. n ≤ 16384) (take axis shape) (drop (axis + 1) shape) (All-take (λ n. n ≤ 16384) axis shape all) (All-drop (λ n. n ≤ 16384) (axis + 1) shape all)

without_along : (outer along inner : ℕ) → 0 < along → outer * inner ≤ outer * along * inner
without_along outer along inner some =
    let more = le-mul_of_pos_right {m = along} (outer * inner) some in
    let same : outer * inner * along ≡ outer * along * inner = mul_assoc outer inner along ∙ ap (λ (n : ℕ). outer * n) (mul_comm inner along) ∙ sym (mul_assoc outer along inner) in
    omega (arith, more, same)

pub rank_without : (axis : ℕ) (shape : List ℕ) → axis < length shape → length (without axis shape) + 1 ≡ length shape
rank_without axis shape inside = omega (arith, length-append (take axis shape) (drop (axis + 1) shape), length-take axis shape, length-drop (axis + 1) shape)

-- as many elements as lines
pub lines_without : (axis : ℕ) (shape : List ℕ) → (split_at shape axis).outer * (split_at shape axis).inner ≡ element_count (without axis shape)
lines_without axis shape = sym (element_count-append (take axis shape) (drop (axis + 1) shape))

-- a shape without an axis that has places is within the limits
pub without_fits : (axis : ℕ) (shape : List ℕ) → FitsLimits shape → axis < length shape → 0 < get_or shape axis 0 → FitsLimits (without axis shape)
without_fits axis shape fits inside some =
    let less = without_along (element_count (take axis shape)) (get_or shape axis 0) (element_count (drop (axis + 1) shape)) some in
    record {
      rank = omega (arith, fits.rank, rank_without axis shape inside);
      axes = axes_without axis shape fits.axes;
      elements = omega (arith, fits.elements, less, split_count_lem shape axis inside, element_count-append (take axis shape) (drop (axis + 1) shape));
    }

-- where an array has no items, and the axis has places, there are no lines
pub no_lines : (axis : ℕ) (shape : List ℕ) → axis < length shape → 0 < get_or shape axis 0 → element_count shape ≡ 0 → element_count (without axis shape) ≡ 0
no_lines axis shape inside some none =
    let less = without_along (element_count (take axis shape)) (get_or shape axis 0) (element_count (drop (axis + 1) shape)) some in
    omega (arith, less, none, split_count_lem shape axis inside, element_count-append (take axis shape) (drop (axis + 1) shape))

pub no_lines_made : (f : Dyad) (b made : PlainArray) (axis : ℕ) (shape : List ℕ) → shape ≡ without axis b.shape → FitsLimits shape → element_count shape ≡ 0
    → made ≡ record { shape = shape; items = numbers [] } → reduced f b axis ≡ Ok made
no_lines_made f b made axis shape is fits none is_made =
    let given : PlainArray → ArrayResult = λ array. Ok array in
    ap (λ (s : List ℕ). gathered s (reduced_line f b.items (split_at b.shape axis))) (sym is)
    ∙ gathered_none shape (reduced_line f b.items (split_at b.shape axis)) (what_fits_has_no_fault shape fits) none ∙ ap given (sym is_made)

-- where there are no lines there is no report
pub no_lines_there : (f : Dyad) (b : PlainArray) (axis : ℕ) (shape : List ℕ) → shape ≡ without axis b.shape → FitsLimits shape → element_count shape ≡ 0 → IsOk (reduced f b axis)
no_lines_there f b axis shape is fits none = rw (no_lines_made f b (record { shape = shape; items = numbers [] }) axis shape is fits none refl) refl

pub lines_made : (f : Dyad) (b : PlainArray) (axis : ℕ) (shape : List ℕ) (items : PlainItems) (split : Split) (result : Result PlainArray Fail) → shape ≡ without axis b.shape
    → items ≡ b.items → split ≡ split_at b.shape axis → AnswersFirst result (gathered shape (reduced_line f items split)) → AnswersFirst result (reduced f b axis)
lines_made f b axis shape items split result is is_items is_split answers =
    subst (λ (s : List ℕ). AnswersFirst result (gathered s (reduced_line f b.items (split_at b.shape axis)))) is
    (subst (λ (i : PlainItems). AnswersFirst result (gathered shape (reduced_line f i (split_at b.shape axis)))) is_items
    (subst (λ (s : Split). AnswersFirst result (gathered shape (reduced_line f items s))) is_split answers))

-- lines without items give the identity
pub without_items : (f : Dyad) (b : PlainArray) (axis : ℕ) (shape : List ℕ) (result : Result PlainArray Fail) → get_or b.shape axis 0 ≡ 0 → shape ≡ without axis b.shape
    → AnswersFirst result (numbers_answer shape (λ line. (row_of_dyad f).identity)) → AnswersFirst result (reduced f b axis)
without_items f b axis shape result none is answers =
    let by_count = ap (λ (n : ℕ). gathered (without axis b.shape) (λ line. reduction_of (joined_by f) (identity_item f) (item_on_line b.items (split_at b.shape axis) line) n)) none in
    let as_numbers = gathered_as_numbers (without axis b.shape) (λ line. identity_item f) (λ line. (row_of_dyad f).identity) (λ line. refl) in
    subst (AnswersFirst result) (ap (λ (s : List ℕ). numbers_answer s (λ line. (row_of_dyad f).identity)) is ∙ sym as_numbers ∙ sym by_count) answers
