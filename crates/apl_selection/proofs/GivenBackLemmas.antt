-- What was put over the items that subscripts select is what they select afterwards.
use Rattle.std.proofs.Common.{◌≡◌, ℕ, zero, suc, ◌+◌, ◌*◌, ◌<◌, ◌||◌, Bool, true, false, nat_lt, pos, List, [], ◌∷◌, Option, Some, None, Ok, is_some, length, map, drop, slice_get, get_or, refl, sym, ap, subst, ◌∙◌, arith}
use Rattle.std.specs.Bool.{beq}
use Rattle.std.specs.List.{flat_map, list_any, range_with_len, zip}
use Rattle.std.proofs.lemmas.List.{drop_more, get_or-map, get_or_default}
use Rattle.std.proofs.lemmas.List.FromFn.{fill_by_all, get_or-range_with_len, length-range_with_len}
use Rattle.std.proofs.lemmas.Slice.Zip.{get_or-zip, length-zip}
use Rattle.apl_arrays.specs.declared.report.Report.{Report}
use Rattle.apl_arrays.specs.Array.{PlainArray, PlainItems, IsArray, numbers, chars, element_count, is_chars, item_count, numbers_in}
use Rattle.apl_arrays.specs.Glyph.{blank}
use Rattle.apl_arrays.specs.Shape.{shape_fault}
use Rattle.apl_arrays.proofs.Shapes.{what_fits_has_no_fault}
use Rattle.apl_items.specs.Answers.{first_report, no_faults, unless}
use Rattle.apl_items.specs.Moves.{item_or, moved_items, moved_list}
use Rattle.apl_items.specs.Places.{places}
use Rattle.apl_items.specs.Shapes.{AreWithin, coordinates_of, place_of}
use Rattle.apl_items.proofs.ShapeLemmas.{coordinates_are_within, element_count-append, element_count-cons, place_of_below}
use Rattle.apl_selection.specs.Assignment.{assign_faults, assign_of, place_naming, overlaid, overlaid_array, overlaid_list, put_over}
use Rattle.apl_selection.specs.Indexing.{selection_of, indexed, named_place}
use Rattle.apl_selection.specs.Subscripts.{axes_by, is_miscounted, is_of_chars, named_by, named_counts, named_on, point_outside, selection_shape, sub_on}
use Rattle.apl_selection.specs.SelectionLaws.{AreArrays, NamesOnce}
use Rattle.apl_selection.proofs.PickLemmas.{as_many_within}
use Rattle.apl_selection.proofs.IndexLemmas.{counts_at, counts_length, inside_each, named_inside}
use Rattle.apl_selection.proofs.FaultLemmas.{few_axes, lone_place}
use Rattle.apl_selection.proofs.MoveLemmas.{array_of}
use Rattle.apl_selection.proofs.NamingLemmas.{assign_is_right, counted}
use Rattle.apl_selection.proofs.OrderLemmas.{Leads, led_by, led_within, naming_below, naming_names, named_is_taken}
use Rattle.apl_selection.proofs.SubscriptLemmas.{all_named, as_many_numbers, is_number, numbers_named, whole_axis}

-- ---- one list

over_at : {T : Type 0} (fill : T) (old new : List T) (source : ℕ → Option ℕ) (place : ℕ) → place < length old
    → get_or (overlaid_list old new source) place fill ≡ put_over (get_or old place fill) new (source place)
over_at {T} fill old new source place below =
    let pairs : List (T × ℕ) = zip old (places (length old)) in
    let many = length-range_with_len 0 (length old) in
    let whole = length-zip old (places (length old)) in
    let inside : place < length pairs = omega arith in
    let at_place : get_or (places (length old)) place 0 ≡ place = get_or-range_with_len 0 (length old) place 0 below ∙ (let zero_more : 0 + place ≡ place = omega arith in zero_more) in
    get_or-map (λ (pair : T × ℕ). put_over pair.0 new (source pair.1)) pairs place (fill, 0) fill inside
    ∙ ap (λ (pair : T × ℕ). put_over pair.0 new (source pair.1)) (get_or-zip old (places (length old)) place (fill, 0) below (let low : place < length (places (length old)) = omega arith in low))
    ∙ ap (λ (n : ℕ). put_over (get_or old place fill) new (source n)) at_place

-- each place of the selection names a place, and is the one that is taken for it
pub record IsTaken (shape : List ℕ) (subs : List (Option PlainArray)) (at : ℕ) : Type 0 where
  pub place : ℕ
  pub below : place < element_count shape
  pub named : named_place shape subs at ≡ Some place
  pub taken : place_naming shape subs place ≡ Some at

given_at : {T : Type 0} (fill : T) (old new : List T) (shape : List ℕ) (subs : List (Option PlainArray)) (at : ℕ) → at < length new → element_count shape ≡ length old → IsTaken shape subs at
    → get_or new at fill ≡ item_or fill (overlaid_list old new (place_naming shape subs)) (named_place shape subs at)
given_at fill old new shape subs at below whole taken =
    sym (ap (item_or fill (overlaid_list old new (place_naming shape subs))) taken.named
    ∙ over_at fill old new (place_naming shape subs) taken.place (let low = taken.below in omega arith)
    ∙ ap (put_over (get_or old taken.place fill) new) taken.taken
    ∙ ap (λ (n : ℕ). get_or new n (get_or old taken.place fill)) (lone_place (length new) at below)
    ∙ get_or_default new at (get_or old taken.place fill) fill below)

given_list : {T : Type 0} (fill : T) (old new : List T) (shape : List ℕ) (subs : List (Option PlainArray)) → element_count shape ≡ length old
    → ((at : ℕ) → at < length new → IsTaken shape subs at) → moved_list fill (overlaid_list old new (place_naming shape subs)) (length new) (named_place shape subs) ≡ new
given_list fill old new shape subs whole taken =
    sym (fill_by_all (λ at. item_or fill (overlaid_list old new (place_naming shape subs)) (named_place shape subs at)) new (length new) fill refl
    (λ at below. given_at fill old new shape subs at below whole (taken at below)))

given_items : (old new : PlainItems) (shape : List ℕ) (subs : List (Option PlainArray)) → beq (is_chars old) (is_chars new) ≡ true → element_count shape ≡ item_count old
    → ((at : ℕ) → at < item_count new → IsTaken shape subs at) → moved_items (overlaid old new (place_naming shape subs)) (item_count new) (named_place shape subs) ≡ new
given_items (numbers old) (numbers new) shape subs kind whole taken = ap numbers (given_list (pos 0) old new shape subs whole taken)
given_items (chars old) (chars new) shape subs kind whole taken = ap chars (given_list blank old new shape subs whole taken)
given_items (numbers old) (chars new) shape subs kind whole taken = absurd (cc)
given_items (chars old) (numbers new) shape subs kind whole taken = absurd (cc)

-- ---- each place of the selection names one

a_number : (xs : List ℕ) (k : ℕ) → k < length xs → (c : ℕ) × (slice_get xs k ≡ Some c)
a_number [] k below = absurd (omega arith)
a_number (x ∷ xs) zero below = (x, refl)
a_number (x ∷ xs) (suc k) below = a_number xs k (omega arith)

all_lead : (shape : List ℕ) (subs : List (Option PlainArray)) (axis : ℕ) (ks : List ℕ) → length ks + axis ≡ length shape → AreWithin (drop axis (named_counts shape subs)) ks
    → (cs : List ℕ) × Leads (λ axis along. slice_get (named_on shape subs axis) along) axis ks cs
all_lead shape subs axis [] many within = ([], tt)
all_lead shape subs axis (k ∷ ks) many within =
    let counts = named_counts shape subs in
    let on : axis < length shape = omega arith in
    let rank = counts_length shape subs counts refl in
    let parts = subst (λ (xs : List ℕ). AreWithin xs (k ∷ ks)) (drop_more counts axis 0 (omega arith)) within in
    let first = a_number (named_on shape subs axis) k (omega (arith, parts.0, counts_at shape subs counts axis refl on)) in
    let rest = all_lead shape subs (axis + 1) ks (omega arith) parts.1 in
    let c : ℕ = first.0 in
    let cs : List ℕ = rest.0 in
    (c ∷ cs, (first.1, rest.1))

is_taken : (shape : List ℕ) (subs : List (Option PlainArray)) (at : ℕ) → at < element_count (named_counts shape subs) → point_outside shape subs ≡ false → NamesOnce shape subs → IsTaken shape subs at
is_taken shape subs at below none once =
    let counts = named_counts shape subs in
    let get : ℕ → ℕ → Option ℕ = λ axis along. slice_get (named_on shape subs axis) along in
    let ks : List ℕ = coordinates_of counts at in
    let within = coordinates_are_within counts at below in
    let many = as_many_within counts ks within in
    let rank = counts_length shape subs counts refl in
    let way = all_lead shape subs 0 ks (omega arith) within in
    let cs : List ℕ = way.0 in
    let inside : AreWithin shape cs = led_within shape get 0 ks cs (omega arith)
    (λ axis k c on is. named_inside (get_or shape axis 0) (sub_on subs axis) k c (inside_each shape subs axis none on) is) way.1 in
    let place : ℕ = place_of shape cs in
    let low : place < element_count shape = place_of_below shape cs inside in
    let named : named_place shape subs at ≡ Some place = led_by shape get 0 ks cs (omega arith) way.1 in
    let later = named_is_taken shape subs place at below none named in
    let other : ℕ = later.0 in
    let same : at ≡ other
    = once at other place below (naming_below shape subs place other low later.1) named (naming_names shape subs place other low later.1) in
    record { place = place; below = low; named = named; taken = later.1 ∙ ap (λ (n : ℕ). Some n) (sym same) }

-- as many places as the selection has elements
whole_from : (f : ℕ → ℕ) (g : ℕ → List ℕ) (count first : ℕ) → ((k : ℕ) → k < count → f (first + k) ≡ element_count (g (first + k)))
    → element_count (map f (range_with_len first count)) ≡ element_count (flat_map g (range_with_len first count))
whole_from f g zero first each = refl
whole_from f g (suc count) first each =
    let at : first + 0 ≡ first = omega arith in
    let here : f first ≡ element_count (g first) = subst (λ (n : ℕ). f n ≡ element_count (g n)) at (each 0 (omega arith)) in
    let rest = whole_from f g count (first + 1)
    (λ k h. let next : first + suc k ≡ (first + 1) + k = omega arith in subst (λ (n : ℕ). f n ≡ element_count (g n)) next (each (suc k) (omega arith))) in
    element_count-cons (f first) (map f (range_with_len (first + 1) count)) ∙ ap (λ (n : ℕ). n * element_count (map f (range_with_len (first + 1) count))) here
    ∙ ap (λ (n : ℕ). element_count (g first) * n) rest ∙ sym (element_count-append (g first) (flat_map g (range_with_len (first + 1) count)))

whole_sub : (long : ℕ) (sub : Option PlainArray) → ((array : PlainArray) → sub ≡ Some array → IsArray array) → is_of_chars sub ≡ false → length (named_by long sub) ≡ element_count (axes_by long sub)
whole_sub long None arrays kind = all_named long ∙ whole_axis long
whole_sub long (Some sub) arrays kind =
    sym (numbers_named long sub sub.items (length (numbers_in sub.items)) refl refl) ∙ as_many_numbers sub sub.items (length (numbers_in sub.items)) (arrays sub refl) refl refl kind

whole_selection : (shape : List ℕ) (subs : List (Option PlainArray)) → AreArrays subs → length subs ≡ length shape → list_any is_of_chars subs ≡ false
    → element_count (named_counts shape subs) ≡ element_count (selection_shape shape subs)
whole_selection shape subs arrays many kind =
    whole_from (λ axis. length (named_on shape subs axis)) (λ axis. axes_by (get_or shape axis 0) (sub_on subs axis)) (length shape) 0
    (λ k h. whole_sub (get_or shape (0 + k) 0) (sub_on subs (0 + k)) (arrays (0 + k)) (is_number subs (0 + k) (omega arith) kind))

-- ---- reports

pub no_report : (report : Option Report) (array after : PlainArray) → unless report array ≡ Ok after → (report ≡ None) × (array ≡ after)
no_report None array after e = (refl, cc)
no_report (Some report) array after e = absurd (cc)

pub fine : (rank over kind outside large : Bool) → rank ≡ false → over ≡ false → kind ≡ false → outside ≡ false → large ≡ false
    → first_report (record no_faults { bad_rank = rank || over; bad_domain = kind; bad_index = outside; too_large = large }) ≡ None
fine rank over kind outside large p q r s t = rw (p, q, r, s, t) refl

-- after A[I;J]←V, where V has the selection's shape and no place is named twice, A[I;J] is V
pub given_back : (a v after : PlainArray) (subs : List (Option PlainArray)) → IsArray a → IsArray v → AreArrays subs → v.shape ≡ selection_shape a.shape subs
    → NamesOnce a.shape subs → assign_of a subs v ≡ Ok after → selection_of after subs ≡ Ok v
given_back a v after subs array v_array arrays shape once e =
    let selection = selection_shape a.shape subs in
    let done = no_report (first_report (assign_faults a subs v)) (overlaid_array a subs v) after e in
    let right = assign_is_right a v subs (sym done.0) in
    let is_fine = fine (is_miscounted a.shape subs) (nat_lt 8 (length selection)) (list_any is_of_chars subs) (point_outside a.shape subs) (is_some (shape_fault selection)) right.counted
    (few_axes (length selection) (let few = v_array.fits.rank in let same = ap (λ (xs : List ℕ). length xs) shape in omega arith)) right.numeric right.inside
    (ap (λ (xs : List ℕ). is_some (shape_fault xs)) (sym shape) ∙ ap is_some (what_fits_has_no_fault v.shape v_array.fits)) in
    let count : element_count selection ≡ item_count v.items = ap element_count (sym shape) ∙ v_array.whole in
    let whole = whole_selection a.shape subs arrays (counted a.shape a.shape subs refl right.counted) right.numeric in
    let items = given_items a.items v.items a.shape subs right.kinds array.whole (λ at below. is_taken a.shape subs at (omega arith) right.inside once) in
    ap (λ (x : PlainArray). selection_of x subs) (sym done.1)
    ∙ ap (λ (report : Option Report). unless report (indexed (overlaid_array a subs v) subs)) is_fine
    ∙ ap (λ (x : PlainArray). Ok x)
    (ap (λ (n : ℕ). array_of selection (moved_items (overlaid a.items v.items (place_naming a.shape subs)) n (named_place a.shape subs))) count
    ∙ ap (array_of selection) items ∙ ap (λ (xs : List ℕ). array_of xs v.items) (sym shape))
