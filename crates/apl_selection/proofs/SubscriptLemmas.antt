-- Subscripts, and what they select.
use Rattle.std.proofs.Common.{◌≡◌, ℕ, ◌+◌, ◌-◌, ◌*◌, ◌<◌, ◌||◌, Bool, true, false, List, [], ◌∷◌, ◌++◌, Option, Some, None, length, map, slice_index, get_or, take, unsigned_abs, refl, sym, ap, ◌∙◌, append-nil, arith, Bor}
use Rattle.std.specs.Prelude.{IfSome, option_copied}
use Rattle.std.specs.List.{flat_map, list_any}
use Rattle.std.proofs.lemmas.Grind.{flat_map-append}
use Rattle.std.proofs.lemmas.List.{get_or-map, length-map, take_more}
use Rattle.std.proofs.lemmas.List.Folds.{list_any-append, list_any_at}
use Rattle.std.proofs.lemmas.List.FromFn.{length-range_with_len, map-range_with_len_more}
use Rattle.apl_arrays.specs.Array.{PlainArray, PlainItems, IsArray, numbers, chars, element_count, is_chars, item_count, numbers_in}
use Rattle.apl_items.specs.Places.{places}
use Rattle.apl_items.proofs.PlaceLemmas.{list_any-places, list_any-places_more, places_more}
use Rattle.apl_items.proofs.ShapeLemmas.{element_count-append, element_count-cons}
use Rattle.apl_selection.specs.Subscripts.{axes_by, is_of_chars, named_by, named_on, point_outside, points_outside, sub_on}

-- ---- a subscript that was read

pub sub_read : (subs : List (Option (Bor PlainArray))) (axis : ℕ) (sub : Option (Bor PlainArray)) → axis < length subs → sub ≡ get_or subs axis sub → option_copied sub ≡ sub_on (map option_copied subs) axis
sub_read subs axis sub inside is = ap option_copied is ∙ sym (get_or-map option_copied subs axis sub None inside)

-- as many as are lent
pub as_many_lent : (subs : List (Option (Bor PlainArray))) → length (map option_copied subs) ≡ length subs
as_many_lent subs = length-map subs option_copied

-- a lone subscript, where it is not omitted
pub lone_lent : (subs : List (Option (Bor PlainArray))) (sub : Option (Bor PlainArray)) → length subs ≡ 1 → sub ≡ get_or subs 0 sub → IfSome sub (λ array. map option_copied subs ≡ Some array.now ∷ [])
lone_lent [] sub one is = absurd (omega (arith, one))
lone_lent (first ∷ []) None one is = tt
lone_lent (first ∷ []) (Some array) one is = ap (λ (o : Option (Bor PlainArray)). option_copied o ∷ []) (sym is)
lone_lent (first ∷ second ∷ rest) sub one is = absurd (omega (arith, one))

-- of numbers so far, and one more
pub numbers_more : (subs : List (Option PlainArray)) (axis : ℕ) (sub : Option PlainArray) (here : Bool) → axis < length subs → list_any is_of_chars (take axis subs) ≡ false → sub ≡ sub_on subs axis → here ≡ is_of_chars sub → here ≡ false
    → list_any is_of_chars (take (axis + 1) subs) ≡ false
numbers_more subs axis sub here lt before same is not_here =
    ap (list_any is_of_chars) (take_more subs axis None lt)
    ∙ list_any-append is_of_chars (take axis subs) (sub_on subs axis ∷ [])
    ∙ ap (λ (b : Bool). b || (is_of_chars (sub_on subs axis) || false)) before
    ∙ ap (λ (b : Bool). b || false) (ap is_of_chars (sym same) ∙ sym is ∙ not_here)

pub all_named : (axis : ℕ) → length (named_by axis None) ≡ axis
all_named axis = length-range_with_len 0 axis

pub numbers_named : (axis : ℕ) (sub : PlainArray) (items : PlainItems) (count : ℕ) → items ≡ sub.items → count ≡ length (numbers_in items) → count ≡ length (named_by axis (Some sub))
numbers_named axis sub items count i is =
    is ∙ ap (λ (xs : PlainItems). length (numbers_in xs)) i ∙ sym (length-map (numbers_in sub.items) (λ number. unsigned_abs number - 1))

-- a subscript of numbers names as many places as it has elements
all_are_numbers : (items : PlainItems) → is_chars items ≡ false → length (numbers_in items) ≡ item_count items
all_are_numbers (numbers list) e = refl
all_are_numbers (chars list) e = absurd (cc)

pub whole_axis : (axis : ℕ) → axis ≡ element_count (axis ∷ [])
whole_axis axis = omega (arith, element_count-cons axis [])

pub as_many_numbers : (sub : PlainArray) (items : PlainItems) (count : ℕ) → IsArray sub → items ≡ sub.items → count ≡ length (numbers_in items) → is_chars sub.items ≡ false
    → count ≡ element_count sub.shape
as_many_numbers sub items count array i is kind = is ∙ ap (λ (xs : PlainItems). length (numbers_in xs)) i ∙ all_are_numbers sub.items kind ∙ sym array.whole

pub is_number : (subs : List (Option PlainArray)) (axis : ℕ) → axis < length subs → list_any is_of_chars subs ≡ false → is_of_chars (sub_on subs axis) ≡ false
is_number subs axis inside none = by_test (is_of_chars (sub_on subs axis)) refl
  where
    by_test : (b : Bool) → is_of_chars (sub_on subs axis) ≡ b → b ≡ false
    by_test false e = refl
    by_test true e = absurd (let found = list_any_at is_of_chars subs axis None inside e in cc)

-- ---- one axis more

pub one_outside : (shape : List ℕ) (subs : List (Option PlainArray)) (axis long : ℕ) (sub : Option PlainArray) (here : Bool) → axis < length shape
    → long ≡ slice_index shape axis → sub ≡ sub_on subs axis → here ≡ points_outside long sub → here ≡ true → true ≡ point_outside shape subs
one_outside shape subs axis long sub here inside l s is e =
    sym (list_any-places (λ axis. points_outside (slice_index shape axis) (sub_on subs axis)) (length shape) axis inside
    (ap (λ (n : ℕ). points_outside n (sub_on subs axis)) (sym l) ∙ ap (points_outside long) (sym s) ∙ sym is ∙ e))

pub none_outside : (shape : List ℕ) (subs : List (Option PlainArray)) (axis long : ℕ) (sub : Option PlainArray) (here : Bool)
    → list_any (λ axis. points_outside (slice_index shape axis) (sub_on subs axis)) (places axis) ≡ false
    → long ≡ slice_index shape axis → sub ≡ sub_on subs axis → here ≡ points_outside long sub → here ≡ false
    → list_any (λ axis. points_outside (slice_index shape axis) (sub_on subs axis)) (places (axis + 1)) ≡ false
none_outside shape subs axis long sub here so_far l s is e =
    list_any-places_more (λ axis. points_outside (slice_index shape axis) (sub_on subs axis)) axis false
    (ap (λ (n : ℕ). points_outside n (sub_on subs axis)) (sym l) ∙ ap (points_outside long) (sym s) ∙ sym is ∙ e)
    ∙ ap (λ (b : Bool). b || false) so_far

flat_map-more : (f : ℕ → List ℕ) (count : ℕ) → flat_map f (places (count + 1)) ≡ flat_map f (places count) ++ f count
flat_map-more f count =
    let at : 0 + count ≡ count = omega arith in
    ap (flat_map f) (places_more 0 count) ∙ flat_map-append f (places count) ((0 + count) ∷ []) ∙ ap (λ (xs : List ℕ). flat_map f (places count) ++ xs) (append-nil (f (0 + count)))
    ∙ ap (λ (n : ℕ). flat_map f (places count) ++ f n) at

pub axes_more : (shape : List ℕ) (subs : List (Option PlainArray)) (axis long : ℕ) (sub : Option PlainArray) (before here after : List ℕ)
    → before ≡ flat_map (λ axis. axes_by (slice_index shape axis) (sub_on subs axis)) (places axis)
    → long ≡ slice_index shape axis → sub ≡ sub_on subs axis → here ≡ axes_by long sub → after ≡ before ++ here
    → after ≡ flat_map (λ axis. axes_by (slice_index shape axis) (sub_on subs axis)) (places (axis + 1))
axes_more shape subs axis long sub before here after so_far l s is e =
    let f : ℕ → List ℕ = λ axis. axes_by (slice_index shape axis) (sub_on subs axis) in
    e ∙ ap (λ (xs : List ℕ). xs ++ here) so_far
    ∙ ap (λ (xs : List ℕ). flat_map f (places axis) ++ xs) (is ∙ ap (λ (n : ℕ). axes_by n sub) l ∙ ap (axes_by (slice_index shape axis)) s)
    ∙ sym (flat_map-more f axis)

pub count_more : (shape : List ℕ) (subs : List (Option PlainArray)) (axis long here : ℕ) (sub : Option PlainArray) (before after : List ℕ)
    → before ≡ map (λ axis. length (named_on shape subs axis)) (places axis)
    → long ≡ slice_index shape axis → sub ≡ sub_on subs axis → here ≡ length (named_by long sub) → after ≡ before ++ here ∷ []
    → after ≡ map (λ axis. length (named_on shape subs axis)) (places (axis + 1))
count_more shape subs axis long here sub before after so_far l s is e =
    let f : ℕ → ℕ = λ axis. length (named_on shape subs axis) in
    e ∙ ap (λ (xs : List ℕ). xs ++ here ∷ []) so_far
    ∙ ap (λ (n : ℕ). map f (places axis) ++ n ∷ []) (is ∙ ap (λ (n : ℕ). length (named_by n sub)) l ∙ ap (λ (o : Option PlainArray). length (named_by (slice_index shape axis) o)) s)
    ∙ sym (map-range_with_len_more f 0 axis axis (omega arith))

-- as many elements of the selection so far as the counts so far make
pub whole_more : (shape : List ℕ) (subs : List (Option PlainArray)) (axis long here : ℕ) (sub : Option PlainArray) (before after : List ℕ)
    → element_count before ≡ element_count (flat_map (λ axis. axes_by (slice_index shape axis) (sub_on subs axis)) (places axis))
    → long ≡ slice_index shape axis → sub ≡ sub_on subs axis → here ≡ element_count (axes_by long sub) → after ≡ before ++ here ∷ []
    → element_count after ≡ element_count (flat_map (λ axis. axes_by (slice_index shape axis) (sub_on subs axis)) (places (axis + 1)))
whole_more shape subs axis long here sub before after so_far l s is e =
    let f : ℕ → List ℕ = λ axis. axes_by (slice_index shape axis) (sub_on subs axis) in
    ap element_count e ∙ element_count-append before (here ∷ [])
    ∙ ap (λ (n : ℕ). n * element_count (here ∷ [])) so_far
    ∙ ap (λ (n : ℕ). element_count (flat_map f (places axis)) * n)
    (sym (whole_axis here) ∙ is ∙ ap (λ (n : ℕ). element_count (axes_by n sub)) l ∙ ap (λ (o : Option PlainArray). element_count (axes_by (slice_index shape axis) o)) s)
    ∙ sym (element_count-append (flat_map f (places axis)) (f axis))
    ∙ sym (ap element_count (flat_map-more f axis))
