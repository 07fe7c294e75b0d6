-- Strides of a selection, and the items that are put over others by them.
use Rattle.std.proofs.Common.{◌≡◌, ℕ, zero, suc, ◌+◌, ◌*◌, ◌<◌, ◌≤◌, ◌==◌, ◌&&◌, ◌||◌, Bool, not, true, false, List, [], ◌∷◌, Option, Some, None, is_some, length, map, drop, replicate, slice_index_or, get_or, refl, sym, ap, subst, ◌∙◌, arith}
use Rattle.std.specs.Bool.{beq}
use Rattle.std.specs.Cmp.Lexicographic.{pointwise, same_text}
use Rattle.std.specs.List.{flat_map, list_any, range_with_len, zip}
use Rattle.std.proofs.lemmas.Bool.Decides.{nat_tests}
use Rattle.std.proofs.lemmas.List.{append-nil, drop_all, length-drop}
use Rattle.std.proofs.lemmas.List.FromFn.{get_or-map-range_with_len}
use Rattle.std.proofs.lemmas.List.FromFn.{get_or-map-range_with_len}
use Rattle.apl_arrays.specs.Array.{PlainArray, PlainItems, IsArray, numbers, chars, element_count, is_chars, item_count}
use Rattle.apl_items.specs.Axes.{added, offset_at, source_by_axes}
use Rattle.apl_items.specs.Answers.{first_report, no_faults}
use Rattle.apl_items.specs.Extension.{is_single}
use Rattle.apl_items.specs.Places.{places}
use Rattle.apl_items.specs.Shapes.{coordinates_of, stride_of}
use Rattle.apl_items.proofs.ShapeLemmas.{coordinates_are_within}
use Rattle.apl_selection.specs.Assignment.{assign_faults, has_other_rank, has_other_shape, last_place, place_naming, overlaid, overlaid_array, overlaid_list, put_over}
use Rattle.apl_selection.specs.Naming.{PlacesAreSmall, AreStridesFor, naming_by, scaled_place}
use Rattle.apl_selection.specs.Picks.{strided}
use Rattle.apl_selection.specs.Subscripts.{is_miscounted, is_of_chars, named_by, named_counts, named_on, point_outside, selection_shape, sub_on}
use Rattle.apl_selection.proofs.AssignLemmas.{last_below, naming_more, no_more_from}
use Rattle.apl_selection.proofs.PickLemmas.{as_many_within, same_offsets, some_same, strided_within}
use Rattle.apl_selection.proofs.IndexLemmas.{counts_at, counts_length}
use Rattle.apl_selection.proofs.MoveLemmas.{array_of}
use Rattle.apl_selection.proofs.FaultLemmas.{same_number}

-- ---- by zeros, where V has one element

zero_at : (count k : ℕ) (zeros : List ℕ) → zeros ≡ replicate count 0 → get_or zeros k 0 ≡ 0
zero_at zero k zeros e = ap (λ (xs : List ℕ). get_or xs k 0) e
zero_at (suc count) zero zeros e = ap (λ (xs : List ℕ). get_or xs 0 0) e
zero_at (suc count) (suc k) zeros e = ap (λ (xs : List ℕ). get_or xs (suc k) 0) e ∙ zero_at count k (replicate count 0) refl

scaled_zero : (place : Option ℕ) (stride from : ℕ) → stride ≡ 0 → scaled_place stride place ≡ Some from → from ≡ 0
scaled_zero None stride from none e = absurd (cc)
scaled_zero (Some place) stride from none e =
    let is = some_same (place * stride) from e in let zero_times : place * stride ≡ 0 = rw none (omega arith) in omega arith

zeros_added : (here after : Option ℕ) (from : ℕ) → ((v : ℕ) → here ≡ Some v → v ≡ 0) → ((v : ℕ) → after ≡ Some v → v ≡ 0) → added here after ≡ Some from → from ≡ 0
zeros_added None after from p q e = absurd (cc)
zeros_added (Some a) None from p q e = absurd (cc)
zeros_added (Some a) (Some b) from p q e = let is = some_same (a + b) from e in let x = p a refl in let y = q b refl in omega arith

zero_offsets : (offset : ℕ → ℕ → Option ℕ) → ((axis along v : ℕ) → offset axis along ≡ Some v → v ≡ 0) → (axis : ℕ) (coordinates : List ℕ) (from : ℕ)
    → offset_at offset axis coordinates ≡ Some from → from ≡ 0
zero_offsets offset zeros axis [] from e = sym (some_same 0 from e)
zero_offsets offset zeros axis (first ∷ rest) from e =
    zeros_added (offset axis first) (offset_at offset (axis + 1) rest) from (zeros axis first) (zero_offsets offset zeros (axis + 1) rest) e

pub small_by_zeros : (shape strides : List ℕ) (subs : List (Option PlainArray)) → strides ≡ replicate (length shape) 0 → PlacesAreSmall shape (naming_by shape subs strides)
small_by_zeros shape strides subs e = λ axis coordinates from inside within is.
    let none = zero_offsets (naming_by shape subs strides)
    (λ axis along v at. scaled_zero (last_place along (named_on shape subs axis)) (get_or strides axis 0) v
    (zero_at (length shape) axis strides e) at) axis coordinates from is in
    omega arith

some_of_both : (a b c d : Option ℕ) → is_some a ≡ is_some c → is_some b ≡ is_some d → is_some (added a b) ≡ is_some (added c d)
some_of_both None b None d p q = refl
some_of_both None b (Some c) d p q = absurd (cc)
some_of_both (Some a) b None d p q = absurd (cc)
some_of_both (Some a) None (Some c) None p q = refl
some_of_both (Some a) None (Some c) (Some d) p q = absurd (cc)
some_of_both (Some a) (Some b) (Some c) None p q = absurd (cc)
some_of_both (Some a) (Some b) (Some c) (Some d) p q = refl

some_alike : (f g : ℕ → ℕ → Option ℕ) → ((axis along : ℕ) → is_some (f axis along) ≡ is_some (g axis along)) → (axis : ℕ) (coordinates : List ℕ)
    → is_some (offset_at f axis coordinates) ≡ is_some (offset_at g axis coordinates)
some_alike f g same axis [] = refl
some_alike f g same axis (first ∷ rest) =
    some_of_both (f axis first) (offset_at f (axis + 1) rest) (g axis first) (offset_at g (axis + 1) rest) (same axis first) (some_alike f g same (axis + 1) rest)

scaled_alike : (place : Option ℕ) (m n : ℕ) → is_some (scaled_place m place) ≡ is_some (scaled_place n place)
scaled_alike None m n = refl
scaled_alike (Some place) m n = refl

-- the same places are named, whatever the strides
pub named_alike : (shape strides : List ℕ) (subs : List (Option PlainArray)) (place : ℕ) → is_some (source_by_axes shape (naming_by shape subs strides) place) ≡ is_some (place_naming shape subs place)
named_alike shape strides subs place =
    some_alike (naming_by shape subs strides) (strided (named_counts shape subs) (λ axis along. last_place along (named_on shape subs axis)))
    (λ axis along. scaled_alike (last_place along (named_on shape subs axis)) (get_or strides axis 0) (stride_of (named_counts shape subs) axis)) 0 (coordinates_of shape place)

-- ---- by the strides of the selection

naming_at : (shape strides : List ℕ) (subs : List (Option PlainArray)) → ((axis : ℕ) → axis < length shape → get_or strides axis 0 ≡ stride_of (named_counts shape subs) axis)
    → (axis : ℕ) (coordinates : List ℕ) → length coordinates + axis ≡ length shape
    → offset_at (naming_by shape subs strides) axis coordinates ≡ offset_at (strided (named_counts shape subs) (λ axis along. last_place along (named_on shape subs axis))) axis coordinates
naming_at shape strides subs each axis coordinates many =
    same_offsets (naming_by shape subs strides) (strided (named_counts shape subs) (λ axis along. last_place along (named_on shape subs axis))) axis coordinates
    (λ k h. ap (λ (stride : ℕ). scaled_place stride (last_place (get_or coordinates k 0) (named_on shape subs (axis + k)))) (each (axis + k) (omega arith)))

pub small_by_strides : (shape strides : List ℕ) (subs : List (Option PlainArray)) → element_count (named_counts shape subs) ≤ 16384 → 0 < element_count (named_counts shape subs)
    → ((axis : ℕ) → axis < length shape → get_or strides axis 0 ≡ stride_of (named_counts shape subs) axis) → PlacesAreSmall shape (naming_by shape subs strides)
small_by_strides shape strides subs few some each = λ axis coordinates from inside within is.
    let counts = named_counts shape subs in
    let rank = counts_length shape subs counts refl in
    let many : length coordinates + axis ≡ length shape = omega (arith, as_many_within (drop axis shape) coordinates within, length-drop {A = ℕ} axis shape) in
    let low = strided_within counts (λ axis along. last_place along (named_on shape subs axis)) axis coordinates from (omega arith)
    (λ k place h e. let at = counts_at shape subs counts (axis + k) refl (omega arith) in
    subst (λ (n : ℕ). place < n) (sym at) (last_below (get_or coordinates k 0) (named_on shape subs (axis + k)) place e))
    (sym (naming_at shape strides subs each axis coordinates many) ∙ is) in
    omega (arith, no_more_from counts axis some)

pub naming_same : (shape strides : List ℕ) (subs : List (Option PlainArray)) → ((axis : ℕ) → axis < length shape → get_or strides axis 0 ≡ stride_of (named_counts shape subs) axis)
    → (place : ℕ) → place < element_count shape → source_by_axes shape (naming_by shape subs strides) place ≡ place_naming shape subs place
naming_same shape strides subs each place below =
    naming_at shape strides subs each 0 (coordinates_of shape place) (omega (arith, as_many_within shape (coordinates_of shape place) (coordinates_are_within shape place below)))

-- ---- axis by axis

-- the table of an axis
pub table_is : (shape strides : List ℕ) (subs : List (Option PlainArray)) (axis long stride : ℕ) (sub : Option PlainArray) (table : List (Option ℕ)) → long ≡ get_or shape axis 0 → sub ≡ sub_on subs axis
    → stride ≡ get_or strides axis 0 → table ≡ map (λ along. scaled_place stride (last_place along (named_by long sub))) (places long)
    → table ≡ map (naming_by shape subs strides axis) (places (get_or shape axis 0))
table_is shape strides subs axis long stride sub table l s t is =
    is ∙ ap (λ (n : ℕ). map (λ along. scaled_place n (last_place along (named_by long sub))) (places long)) t
    ∙ ap (λ (o : Option PlainArray). map (λ along. scaled_place (get_or strides axis 0) (last_place along (named_by long o))) (places long)) s
    ∙ ap (λ (n : ℕ). map (λ along. scaled_place (get_or strides axis 0) (last_place along (named_by n (sub_on subs axis)))) (places n)) l

-- the places that are told from the axes from one on
abbrev pub told_from : List ℕ → (ℕ → ℕ → Option ℕ) → ℕ → List (Option ℕ)
told_from shape offset axis = map (λ place. offset_at offset axis (coordinates_of (drop axis shape) place)) (places (element_count (drop axis shape)))

pub told_next : (shape : List ℕ) (offset : ℕ → ℕ → Option ℕ) (before axis : ℕ) (after : List (Option ℕ)) → axis + 1 ≡ before → after ≡ told_from shape offset before → after ≡ told_from shape offset (axis + 1)
told_next shape offset before axis after e is = is ∙ ap (told_from shape offset) (sym e)

told_none : (shape : List ℕ) (offset : ℕ → ℕ → Option ℕ) (axis : ℕ) (after : List (Option ℕ)) → axis ≡ length shape → after ≡ Some 0 ∷ [] → after ≡ told_from shape offset axis
told_none shape offset axis after e is =
    is ∙ sym (ap (λ (xs : List ℕ). map (λ place. offset_at offset axis (coordinates_of xs place)) (places (element_count xs))) (drop_all axis shape (omega arith)))

pub told_all : (shape : List ℕ) (offset : ℕ → ℕ → Option ℕ) (axis : ℕ) (after : List (Option ℕ)) → axis ≡ 0 → after ≡ told_from shape offset axis
    → after ≡ map (source_by_axes shape offset) (places (element_count shape))
told_all shape offset axis after e is = is ∙ ap (told_from shape offset) e

-- ---- places together with the first place alone

pub alone_after : (here : List (Option ℕ)) → flat_map (λ first. map (added first) (Some 0 ∷ [])) here ≡ here
alone_after [] = refl
alone_after (None ∷ here) = ap (λ (xs : List (Option ℕ)). None ∷ xs) (alone_after here)
alone_after (Some place ∷ here) =
    let same : place + 0 ≡ place = omega arith in
    ap (λ (n : ℕ). Some n ∷ flat_map (λ first. map (added first) (Some 0 ∷ [])) here) same ∙ ap (λ (xs : List (Option ℕ)). Some place ∷ xs) (alone_after here)

pub alone_before : (after : List (Option ℕ)) → flat_map (λ first. map (added first) after) (Some 0 ∷ []) ≡ after
alone_before after = append-nil (map (added (Some 0)) after) ∙ all_beyond after
  where
    beyond : (place : Option ℕ) → added (Some 0) place ≡ place
    beyond None = refl
    beyond (Some place) = let same : 0 + place ≡ place = omega arith in ap (λ (n : ℕ). Some n) same

    all_beyond : (xs : List (Option ℕ)) → map (added (Some 0)) xs ≡ xs
    all_beyond [] = refl
    all_beyond (place ∷ xs) = ap (λ (p : Option ℕ). p ∷ map (added (Some 0)) xs) (beyond place) ∙ ap (λ (rest : List (Option ℕ)). place ∷ rest) (all_beyond xs)

-- what is told of the last axis
pub told_last : (shape : List ℕ) (offset : ℕ → ℕ → Option ℕ) (axis : ℕ) (here : List (Option ℕ)) → axis + 1 ≡ length shape → here ≡ map (offset axis) (places (get_or shape axis 0))
    → here ≡ told_from shape offset axis
told_last shape offset axis here e is =
    naming_more shape offset axis here (Some 0 ∷ []) here (omega arith) is (told_none shape offset (axis + 1) (Some 0 ∷ []) e refl) (sym (alone_after here))

-- ---- items put over others

lone_put : {T : Type 0} (old : T) (items : List T) (here there : Option ℕ) → length items ≡ 1 → is_some here ≡ is_some there → put_over old items here ≡ put_over old items there
lone_put old items None None one e = refl
lone_put old items None (Some q) one e = absurd (cc)
lone_put old items (Some p) None one e = absurd (cc)
lone_put old items (Some p) (Some q) one e = rw one refl

overlaid_from : {T : Type 0} (new : List T) (f g : ℕ → Option ℕ) (old : List T) (first : ℕ)
    → ((k : ℕ) (x : T) → k < length old → put_over x new (f (first + k)) ≡ put_over x new (g (first + k)))
    → map (λ (pair : T × ℕ). put_over pair.0 new (f pair.1)) (zip old (range_with_len first (length old))) ≡ map (λ (pair : T × ℕ). put_over pair.0 new (g pair.1)) (zip old (range_with_len first (length old)))
overlaid_from new f g [] first same = refl
overlaid_from {T} new f g (x ∷ xs) first same =
    let at : first + 0 ≡ first = omega arith in
    let here = subst (λ (n : ℕ). put_over x new (f n) ≡ put_over x new (g n)) at (same 0 x (omega arith)) in
    let rest = overlaid_from new f g xs (first + 1)
    (λ k y h. let next : first + suc k ≡ (first + 1) + k = omega arith in subst (λ (n : ℕ). put_over y new (f n) ≡ put_over y new (g n)) next (same (suc k) y (omega arith))) in
    ap (λ (y : T). y ∷ map (λ (pair : T × ℕ). put_over pair.0 new (f pair.1)) (zip xs (range_with_len (first + 1) (length xs)))) here
    ∙ ap (λ (ys : List T). put_over x new (g first) ∷ ys) rest

same_list : {T : Type 0} (old new : List T) (f g : ℕ → Option ℕ) → ((place : ℕ) (x : T) → place < length old → put_over x new (f place) ≡ put_over x new (g place))
    → overlaid_list old new f ≡ overlaid_list old new g
same_list {T} old new f g same =
    overlaid_from new f g old 0 (λ k x h. let at : k ≡ 0 + k = omega arith in subst (λ (n : ℕ). put_over x new (f n) ≡ put_over x new (g n)) at (same k x h))

pub overlaid_same : (old new : PlainItems) (f g : ℕ → Option ℕ) → ((place : ℕ) → place < item_count old → f place ≡ g place) → overlaid old new f ≡ overlaid old new g
overlaid_same (numbers old) (numbers new) f g same = ap numbers (same_list old new f g (λ place x h. ap (put_over x new) (same place h)))
overlaid_same (chars old) (chars new) f g same = ap chars (same_list old new f g (λ place x h. ap (put_over x new) (same place h)))
overlaid_same (numbers old) (chars new) f g same = refl
overlaid_same (chars old) (numbers new) f g same = refl

pub overlaid_alike : (old new : PlainItems) (f g : ℕ → Option ℕ) → item_count new ≡ 1 → ((place : ℕ) → place < item_count old → is_some (f place) ≡ is_some (g place))
    → overlaid old new f ≡ overlaid old new g
overlaid_alike (numbers old) (numbers new) f g one same = ap numbers (same_list old new f g (λ place x h. lone_put x new (f place) (g place) one (same place h)))
overlaid_alike (chars old) (chars new) f g one same = ap chars (same_list old new f g (λ place x h. lone_put x new (f place) (g place) one (same place h)))
overlaid_alike (numbers old) (chars new) f g one same = refl
overlaid_alike (chars old) (numbers new) f g one same = refl

none_put : {T : Type 0} (old : T) (items : List T) (place : Option ℕ) → length items ≡ 0 → put_over old items place ≡ old
none_put old items None none = refl
none_put old [] (Some place) none = refl
none_put old (x ∷ xs) (Some place) none = absurd (omega arith)

firsts_of : {T : Type 0} (new : List T) (f : ℕ → Option ℕ) (old : List T) (first : ℕ) → length new ≡ 0
    → map (λ (pair : T × ℕ). put_over pair.0 new (f pair.1)) (zip old (range_with_len first (length old))) ≡ old
firsts_of new f [] first none = refl
firsts_of {T} new f (x ∷ xs) first none =
    ap (λ (y : T). y ∷ map (λ (pair : T × ℕ). put_over pair.0 new (f pair.1)) (zip xs (range_with_len (first + 1) (length xs)))) (none_put x new (f first) none)
    ∙ ap (λ (ys : List T). x ∷ ys) (firsts_of new f xs (first + 1) none)

-- nothing is put over, since there is nothing
pub nothing_put : (old new : PlainItems) (f : ℕ → Option ℕ) → item_count new ≡ 0 → overlaid old new f ≡ old
nothing_put (numbers old) (numbers new) f none = ap numbers (firsts_of new f old 0 none)
nothing_put (chars old) (chars new) f none = ap chars (firsts_of new f old 0 none)
nothing_put (numbers old) (chars new) f none = refl
nothing_put (chars old) (numbers new) f none = refl

-- nor over nothing
pub put_on_nothing : (old new : PlainItems) (f : ℕ → Option ℕ) → item_count old ≡ 0 → overlaid old new f ≡ old
put_on_nothing (numbers []) (numbers new) f none = refl
put_on_nothing (numbers (x ∷ xs)) (numbers new) f none = absurd (omega arith)
put_on_nothing (chars []) (chars new) f none = refl
put_on_nothing (chars (x ∷ xs)) (chars new) f none = absurd (omega arith)
put_on_nothing (numbers old) (chars new) f none = refl
put_on_nothing (chars old) (numbers new) f none = refl

-- ---- an assignment of which nothing is reported

pub record IsAssigned (a : PlainArray) (subs : List (Option PlainArray)) (v : PlainArray) : Type 0 where
  pub counted : is_miscounted a.shape subs ≡ false
  pub shape : has_other_shape (selection_shape a.shape subs) v ≡ false
  pub numeric : list_any is_of_chars subs ≡ false
  pub kinds : beq (is_chars a.items) (is_chars v.items) ≡ true
  pub inside : point_outside a.shape subs ≡ false

pub assign_is_right : (a v : PlainArray) (subs : List (Option PlainArray)) → None ≡ first_report (assign_faults a subs v) → IsAssigned a subs v
assign_is_right a v subs none =
    let selection = selection_shape a.shape subs in
    let tests = by_tests (is_miscounted a.shape subs) (has_other_rank selection v) (has_other_shape selection v) (list_any is_of_chars subs) (beq (is_chars a.items) (is_chars v.items)) (point_outside a.shape subs) none in
    record { counted = tests.0; shape = tests.1; numeric = tests.2; kinds = tests.3; inside = tests.4 }
  where
    by_tests : (rank other long kind alike outside : Bool)
        → None ≡ first_report (record no_faults { bad_rank = rank || other; bad_length = long; bad_domain = kind || not alike; bad_index = outside })
        → (rank ≡ false) × (long ≡ false) × (kind ≡ false) × (alike ≡ true) × (outside ≡ false)
    by_tests true other long kind alike outside e = absurd (cc)
    by_tests false true long kind alike outside e = absurd (cc)
    by_tests false false true kind alike outside e = absurd (cc)
    by_tests false false false true alike outside e = absurd (cc)
    by_tests false false false false false outside e = absurd (cc)
    by_tests false false false false true true e = absurd (cc)
    by_tests false false false false true false e = (refl, refl, refl, refl, refl)

shape_is_selection : (selection : List ℕ) (v : PlainArray) → is_single v ≡ false → has_other_shape selection v ≡ false → v.shape ≡ selection
shape_is_selection selection v whole e = same_text v.shape selection (sym (by_tests (is_single v) (pointwise ◌==◌ v.shape selection) whole e))
  where
    by_tests : (single same : Bool) → single ≡ false → (not single && not same) ≡ false → same ≡ true
    by_tests true same w e = absurd (cc)
    by_tests false true w e = refl
    by_tests false false w e = absurd (cc)

as_many_subs : (long many : ℕ) → (long == 0 || not (many == long)) ≡ false → many ≡ long
as_many_subs long many e = by_tests (long == 0) (many == long) refl e
  where
    by_tests : (none alike : Bool) → (many == long) ≡ alike → (none || not alike) ≡ false → many ≡ long
    by_tests true alike t e = absurd (cc)
    by_tests false true t e = same_number many long t
    by_tests false false t e = absurd (cc)

pub counted : (shape same : List ℕ) (subs : List (Option PlainArray)) → same ≡ shape → is_miscounted shape subs ≡ false → length subs ≡ length same
counted shape same subs s e = as_many_subs (length shape) (length subs) e ∙ sym (ap (λ (xs : List ℕ). length xs) s)

pub selected_count : (a v : PlainArray) (subs : List (Option PlainArray)) (shape counts : List ℕ) → None ≡ first_report (assign_faults a subs v) → is_single v ≡ false → IsArray v
    → shape ≡ a.shape → (list_any is_of_chars subs ≡ false → element_count counts ≡ element_count (selection_shape shape subs)) → element_count counts ≡ item_count v.items
selected_count a v subs shape counts none whole v_array s count =
    let right = assign_is_right a v subs none in
    count right.numeric ∙ ap (λ (xs : List ℕ). element_count (selection_shape xs subs)) s
    ∙ ap element_count (sym (shape_is_selection (selection_shape a.shape subs) v whole right.shape)) ∙ v_array.whole

pub are_strides : (a v : PlainArray) (subs : List (Option PlainArray)) (counts strides : List ℕ) → is_single v ≡ false → counts ≡ named_counts a.shape subs → element_count counts ≡ item_count v.items
    → ((axis : ℕ) → axis < length counts → get_or strides axis 0 ≡ stride_of counts axis) → AreStridesFor a subs v strides
are_strides a v subs counts strides whole c count each = record {
  lone = λ single. absurd (cc);
  count = λ _. ap element_count (sym c) ∙ count;
  each = λ _ axis inside. each axis (let rank = counts_length a.shape subs counts c in omega arith) ∙ ap (λ (xs : List ℕ). stride_of xs axis) c;
}

pub small_for : (a v : PlainArray) (subs : List (Option PlainArray)) (shape strides : List ℕ) → AreStridesFor a subs v strides → IsArray v → 0 < item_count v.items → shape ≡ a.shape
    → PlacesAreSmall shape (naming_by shape subs strides)
small_for a v subs shape strides are v_array some s =
    subst (λ (xs : List ℕ). PlacesAreSmall xs (naming_by xs subs strides)) (sym s) (by_test (is_single v) refl)
  where
    by_test : (b : Bool) → is_single v ≡ b → PlacesAreSmall a.shape (naming_by a.shape subs strides)
    by_test true e = small_by_zeros a.shape strides subs (are.lone e)
    by_test false e =
        small_by_strides a.shape strides subs (let count = are.count e in omega (arith, v_array.fits.elements, v_array.whole)) (let count = are.count e in omega arith) (are.each e)

pub assigned_is : (a v : PlainArray) (subs : List (Option PlainArray)) (shape last strides : List ℕ) (sources : List (Option ℕ)) (old new made : PlainItems) → IsArray a → AreStridesFor a subs v strides
    → shape ≡ a.shape → last ≡ a.shape → old ≡ a.items → new ≡ v.items
    → sources ≡ map (source_by_axes shape (naming_by shape subs strides)) (places (element_count shape)) → made ≡ overlaid old new (λ place. slice_index_or sources place None)
    → array_of last made ≡ overlaid_array a subs v
assigned_is a v subs shape last strides sources old new made array are s l o n told is =
    let listed : ℕ → Option ℕ = λ place. slice_index_or sources place None in
    ap (λ (xs : List ℕ). array_of xs made) l
    ∙ ap (array_of a.shape)
    (is ∙ ap (λ (items : PlainItems). overlaid items new listed) o ∙ ap (λ (items : PlainItems). overlaid a.items items listed) n ∙ by_test (is_single v) refl)
  where
    at_place : (place : ℕ) → place < item_count a.items → slice_index_or sources place None ≡ source_by_axes a.shape (naming_by a.shape subs strides) place
    at_place place below =
        ap (λ (xs : List (Option ℕ)). get_or xs place None) (told ∙ ap (λ (xs : List ℕ). map (source_by_axes xs (naming_by xs subs strides)) (places (element_count xs))) s)
        ∙ get_or-map-range_with_len (source_by_axes a.shape (naming_by a.shape subs strides)) 0 (element_count a.shape) place place None (let whole = array.whole in omega arith) (omega arith)

    by_test : (b : Bool) → is_single v ≡ b → overlaid a.items v.items (λ place. slice_index_or sources place None) ≡ overlaid a.items v.items (place_naming a.shape subs)
    by_test true e =
        overlaid_alike a.items v.items (λ place. slice_index_or sources place None) (place_naming a.shape subs) (same_number (item_count v.items) 1 e)
        (λ place below. ap is_some (at_place place below) ∙ named_alike a.shape strides subs place)
    by_test false e =
        overlaid_same a.items v.items (λ place. slice_index_or sources place None) (place_naming a.shape subs)
        (λ place below. at_place place below ∙ naming_same a.shape strides subs (are.each e) place (let whole = array.whole in omega arith))

-- ---- where there is nothing to do

pub idle_is : (a v array : PlainArray) (subs : List (Option PlainArray)) (old new : PlainItems) (idle : Bool) → old ≡ a.items → new ≡ v.items → idle ≡ (item_count old == 0 || item_count new == 0)
    → idle ≡ true → array ≡ a → array ≡ overlaid_array a subs v
idle_is a v array subs old new idle o n is e same =
    same ∙ ap (array_of a.shape) (sym (by_tests (item_count old == 0) (item_count new == 0) refl refl (sym is ∙ e)))
  where
    by_tests : (none_old none_new : Bool) → (item_count old == 0) ≡ none_old → (item_count new == 0) ≡ none_new → (none_old || none_new) ≡ true → overlaid a.items v.items (place_naming a.shape subs) ≡ a.items
    by_tests true none_new p q e = put_on_nothing a.items v.items (place_naming a.shape subs) (ap item_count (sym o) ∙ same_number (item_count old) 0 p)
    by_tests false true p q e = nothing_put a.items v.items (place_naming a.shape subs) (ap item_count (sym n) ∙ same_number (item_count new) 0 q)
    by_tests false false p q e = absurd (cc)

some_items : (n : ℕ) → (n == 0) ≡ false → 0 < n
some_items n e = grind (arith, nat_tests)

pub busy : (old new : ℕ) (idle : Bool) → idle ≡ (old == 0 || new == 0) → idle ≡ false → (0 < old) × (0 < new)
busy old new idle is e = by_tests (old == 0) (new == 0) refl refl (sym is ∙ e)
  where
    by_tests : (none_old none_new : Bool) → (old == 0) ≡ none_old → (new == 0) ≡ none_new → (none_old || none_new) ≡ false → (0 < old) × (0 < new)
    by_tests true none_new p q e = absurd (cc)
    by_tests false true p q e = absurd (cc)
    by_tests false false p q e = (some_items old p, some_items new q)

length_over : {T : Type 0} (new : List T) (f : ℕ → Option ℕ) (old : List T) (first : ℕ)
    → length (map (λ (pair : T × ℕ). put_over pair.0 new (f pair.1)) (zip old (range_with_len first (length old)))) ≡ length old
length_over new f [] first = refl
length_over new f (x ∷ xs) first = let rest = length_over new f xs (first + 1) in omega arith

pub overlaid_count : (old new made : PlainItems) (f : ℕ → Option ℕ) → made ≡ overlaid old new f → item_count made ≡ item_count old
overlaid_count (numbers old) (numbers new) made f e = ap item_count e ∙ length_over new f old 0
overlaid_count (chars old) (chars new) made f e = ap item_count e ∙ length_over new f old 0
overlaid_count (numbers old) (chars new) made f e = ap item_count e
overlaid_count (chars old) (numbers new) made f e = ap item_count e
